use Rattle.placement.proofs.LeftOver.{is_asked}
use Rattle.placement.proofs.placer.next_of_into.Goals as goal

pub returns : goal.returns
returns g c =
    let answer = c.next_into.ensures.puts.0 in
    let answered = c.next_into.ensures.puts.2 in
    let asked = is_asked g.R.TextSource.can_fail c.args.intake.now c.args.core answer c.next_into.new.self c.requires.core answered.gives answered.ended answered.stays in
    record {
      puts = (answer, c.next_into.ensures.puts.1, asked.gives);
      honest = asked.honest;
      others = asked.others;
      count = c.next_into.ensures.count;
    }

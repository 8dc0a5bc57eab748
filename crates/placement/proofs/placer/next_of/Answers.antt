use Rattle.placement.proofs.LeftOver.{is_asked}
use Rattle.placement.proofs.placer.next_of.Goals as goal

pub returns : goal.returns
returns g c =
    let asked = is_asked g.R.TextSource.can_fail c.args.intake.now c.args.core c.next_of.result c.next_of.new.self c.requires c.next_of.ensures.gives c.next_of.ensures.ended c.next_of.ensures.stays in
    record {
      gives = asked.gives;
      honest = asked.honest;
      others = asked.others;
      count = c.next_of.ensures.count;
    }

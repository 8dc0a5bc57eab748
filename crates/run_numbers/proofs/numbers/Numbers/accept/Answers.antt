-- What the record gives before it and after it is taken.
use Rattle.std.proofs.Common.{◌∙◌, ◌+◌, subst, sym}
use Rattle.run_numbers.specs.Run.{placed_after}
use Rattle.run_numbers.specs.Tallies.{AreOf}
use Rattle.run_numbers.proofs.Tallying.{capped_is}
use Rattle.run_numbers.proofs.numbers.Numbers.accept.Goals as goal

pub returns : goal.returns
returns c = record {
  records = c.saturating_add-self.ensures ∙ sym (capped_is (c.args.self.now.records + 1));
  names = c.in_ok-note_name.ensures;
  tallies = λ run are.
      subst (λ list. AreOf (placed_after c.args.ordered.now.pos list run) c.take_all.new.tallies) (c.deref.ensures.value ∙ c.in_ok-observe_left.ensures) (c.in_ok-take_all.ensures run are);
}

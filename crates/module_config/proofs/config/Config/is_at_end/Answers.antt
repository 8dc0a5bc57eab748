use Rattle.std.proofs.Common.{◌≡◌, ◌∙◌}
use Rattle.apex_machine.specs.Channels.{samples}
use Rattle.module_config.specs.Laid.{laid_out}
use Rattle.module_config.proofs.Joined.{at_one_of_two, at_sampling}
use Rattle.module_config.proofs.config.Config.is_at_end.Goals as goal

pub returns-then-has_end : goal.returns-then-has_end
returns-then-has_end c =
    let at = at_one_of_two (laid_out c.self.inside.layout) c.args.chan c.args.part c.has_end.result (rw c.deref.ensures.value at c.has_end.ensures) in
    rw (← c.self.view_is, c.if-has_end.true) (rw c.if-has_end.true at at)

pub returns-else-has_end : goal.returns-else-has_end
returns-else-has_end c =
    let layout = laid_out c.self.inside.layout in
    let at = at_one_of_two layout c.args.chan c.args.part c.has_end.result (rw c.deref.ensures.value at c.has_end.ensures) in
    let sampled : c.has_end-else-has_end.result ≡ samples layout c.args.chan c.args.part = (rw c.deref-else-has_end.ensures.value at c.has_end-else-has_end.ensures) ∙ at_sampling layout c.args.chan c.args.part in
    rw (← c.self.view_is, sampled) (rw c.if-has_end.false at at)

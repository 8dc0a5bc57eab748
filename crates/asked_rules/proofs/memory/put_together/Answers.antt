use Rattle.std.proofs.Common.{refl, rules}
use Rattle.user_rules.specs.declared.memory.Counted.{Counted}
use Rattle.asked_rules.proofs.memory.put_together.Goals as goal

pub returns : goal.returns
returns c =
    let counted : Counted = record { relation = c.in_ok-relation.relation; back = c.in_ok-back.back; reset = c.in_ok-reset.reset } in
    (counted, refl, search rules, search rules, search rules)

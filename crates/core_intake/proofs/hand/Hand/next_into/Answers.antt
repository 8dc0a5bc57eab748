use Rattle.std.proofs.Common.{refl, rules, Ok, Err, None}
use Rattle.core_intake.proofs.hand.Hand.next_into.Goals as goal

pub returns-in_err-take_end : goal.returns-in_err-take_end
returns-in_err-take_end c = record { puts = (Err c.in_err-take_end.field-0.0, search rules, (search rules, refl)) }

pub returns : goal.returns
returns c = record { puts = (Ok None, search rules, (refl, refl)) }

-- The outcomes of calls, by the tests of the code.
use Rattle.std.proofs.Common.{◌≡◌, Bool, true, false, not, refl}
use Rattle.apex_types.specs.contracts.record.OutPartialEq.TheImpl as outs
use Rattle.apex_types.specs.declared.record.Out.{Out}
use Rattle.apex_types.specs.declared.record.Out.TheVariants as out
use Rattle.apex_machine.specs.Waiting.{is_waiting}

pub waits : (given : Out) → outs.eq-value.it given out.Waits ≡ is_waiting given
waits out.Waits = refl
waits out.Never = refl
waits (out.Answer code) = refl

-- a test by its negation
pub holds_by_not : (test other : Bool) → other ≡ not test → other ≡ false → test ≡ true
holds_by_not true other is fails = refl
holds_by_not false other is fails = absurd (cc)

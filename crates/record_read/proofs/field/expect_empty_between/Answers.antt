use Rattle.std.proofs.Common.{◌∙◌, refl}
use Rattle.record_read.proofs.field.expect_empty_between.Goals as goal

pub returns-clause-value : goal.returns-clause-value
returns-clause-value c = c.expect_all_empty.ensures.value ∙ rw (c.place.ensures, c.place-2.ensures) refl

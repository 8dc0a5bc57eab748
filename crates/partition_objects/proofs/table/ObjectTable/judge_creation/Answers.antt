-- The value that a creation gives is a new number.
use Rattle.std.proofs.Common.{sym, ◌∙◌}
use Rattle.apex_machine.specs.Answer.{NewNumber}
use Rattle.apex_machine.specs.State.{is_free}
use Rattle.partition_objects.proofs.table.ObjectTable.judge_creation.Goals as goal

pub returns-in-Ok-clause-ok : goal.returns-in-Ok-clause-ok
returns-in-Ok-clause-ok g c =
    let is = c.is_new_number.ensures in
    (rw c.in-Ok.is at c.judge_value.ensures) (NewNumber (is_free c.args.self.now)) (λ passes. sym is ∙ passes, λ new. is ∙ new)

pub returns-in-Err-clause-refused : goal.returns-in-Err-clause-refused
returns-in-Err-clause-refused g c =
    let is = c.is_new_number.ensures in
    (rw c.in-Err.is at c.judge_value.ensures) (NewNumber (is_free c.args.self.now)) (λ passes. sym is ∙ passes, λ new. is ∙ new)

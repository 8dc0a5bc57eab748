use Rattle.std.proofs.Common.{◌≡◌, inr}
use Rattle.answer_words.proofs.InTurn.{of_error}
use Rattle.answer_words.specs.declared.opening.OpenFault.TheVariants.{Unopened}
use Rattle.answer_words.specs.Folders.{RefusesOne}
use Rattle.apexcheck.proofs.files.Opened+Observed+Watched+F.open.Goals as goal

pub returns-in_err-cores-clause-refused : goal.returns-in_err-cores-clause-refused
returns-in_err-cores-clause-refused g c =
    let refuses : c.in_err-cores.field-0.0 ≡ Unopened → RefusesOne (g.D.Folder.facts c.args.folder.now) c.args.asked.now.names =
    λ unopened. inr (inr (inr (rw c.deref-5.ensures.value at (c.in_err-cores.ensures.refused unopened)))) in
    of_error _ _ (λ fault same. rw same refuses) c.from_residual-in_err-cores.result c.from_residual-in_err-cores.ensures.1

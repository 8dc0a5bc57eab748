-- Each recording is the file of the next name.
use Rattle.std.proofs.Common.{◌≡◌, ◌≢◌, string_bytes, subst, sym}
use Rattle.std.specs.IoError.{error_kind}
use Rattle.std.specs.Prelude.{Any}
use Rattle.std.specs.declared.io.ErrorKind.TheVariants.{OutOfMemory}
use Rattle.std.proofs.lemmas.Result.{IfOk-at_ok}
use Rattle.answer_words.proofs.InTurn.{next_name, of_error, of_kind}
use Rattle.answer_words.specs.declared.opening.OpenFault.TheVariants.{Unopened}
use Rattle.shown_run.proofs.files.open_cores.Goals as goal

pub returns-in_err-reported-clause-refused : goal.returns-in_err-reported-clause-refused
returns-in_err-reported-clause-refused g c =
    let facts = g.D.Folder.facts c.args.folder.now in
    let refuses : c.in_err-reported.field-0.0 ≡ Unopened → Any (λ name. facts.refuses (string_bytes name)) c.args.names.now =
    λ unopened.
    let refused = of_kind (λ e. error_kind e ≢ OutOfMemory) c.open.result (c.in_err-reported.ensures.refused unopened) c.open.ensures.refused in
    (c.loop-name.name-index, c.name-item.result, c.loop-name-test.true, sym c.name-item.is, subst facts.refuses c.deref-in-loop-name.ensures refused) in
    of_error _ _ (λ fault same. rw same refuses) c.from_residual.result c.from_residual.ensures.1

pub loop-name-preserved : goal.loop-name-preserved
loop-name-preserved g c =
    let facts = g.D.Folder.facts c.args.folder.now in
    let opened = IfOk-at_ok (facts.is_file c.deref-in-loop-name.result.now) c.in_ok-reported.ensures.given c.open.ensures.file in
    let reads : facts.is_file (string_bytes c.name-item.result) c.new.result.inner =
    rw c.new.ensures.inner (subst (λ name. facts.is_file name c.in_ok-reported.field-0) c.deref-in-loop-name.ensures opened) in
    rw c.in_ok-push.ensures.items
    (next_name (λ name source. facts.is_file name source.inner) string_bytes c.args.names.now c.loop-name.cores.items c.loop-name.name-index c.name-item.result c.new.result
    c.loop-name-test.true c.name-item.is c.loop-name.invariant reads)

-- The folder has received the recordings before one, and then that one.
use Rattle.std.proofs.Common.{◌∙◌, ◌++◌, Some, ap, arith, codes, decimal, rules, sym}
use Rattle.std.proofs.lemmas.Option.{slice_get-get_or}
use Rattle.apexmake.specs.Received.{with_file}
use Rattle.apexmake.proofs.Put.{recording_put}
use Rattle.apexmake.proofs.making.put_recordings.Goals as goal

pub loop-core-preserved : goal.loop-core-preserved
loop-core-preserved g c =
    let recordings = c.args.recordings.now in
    let core = c.loop-core.core in
    let one = c.index-recordings-core.result in
    recording_put (λ recording. recording.items) (g.D.Folder.files c.args.folder.now) (g.D.Folder.files c.loop-core.folder) (g.D.Folder.files c.put_recording.new.folder) recordings core one
    (slice_get-get_or recordings core one (omega arith) ∙ ap Some (sym c.index-recordings-core.is)) c.loop-core.invariant
    (c.in_ok-put_recording.ensures ∙ ap (λ text. with_file (g.D.Folder.files c.loop-core.folder) (codes "core" ++ decimal c.loop-core.core ++ codes ".csv") text) c.deref.ensures.value)

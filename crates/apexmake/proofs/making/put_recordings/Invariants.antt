use Rattle.std.proofs.Common.{◌≡◌, map, take}
use Rattle.apexmake.specs.Received.{recordings_from, with_files}
use Rattle.apexmake.proofs.making.put_recordings.Given as goal

abbrev pub invariant-loop-core : goal.invariant-loop-core
invariant-loop-core g l =
    g.D.Folder.files l.folder ≡ with_files (g.D.Folder.files l.fn.folder) (recordings_from 0 (map (λ recording. recording.items) (take l.core l.recordings)))

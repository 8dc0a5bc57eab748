-- A source reads each file so far.
use Rattle.std.proofs.Common.{map, string_bytes, take}
use Rattle.answer_words.specs.Folders.{ReadFiles}
use Rattle.shown_run.specs.Files.{file_of}
use Rattle.shown_run.proofs.files.open_cores.Given as goal

abbrev pub invariant-loop-name : goal.invariant-loop-name
invariant-loop-name g l = ReadFiles (g.D.Folder.facts l.folder) file_of (map string_bytes (take l.name-index l.names)) l.cores.items

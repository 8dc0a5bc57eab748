-- The folder has received the configuration, the recordings, the certificate and the line.
use Rattle.std.proofs.Common.{◌∙◌, ap, codes, map, rules}
use Rattle.std.proofs.lemmas.Result.{on_ok_weaker}
use Rattle.apexmake.specs.Received.{recordings_from, with_file, with_files}
use Rattle.apexmake.proofs.Put.{all_put}
use Rattle.apexmake.proofs.making.put_files.Goals as goal

pub returns : goal.returns
returns g c =
    on_ok_weaker c.put-3.result
    (λ put. all_put (g.D.Folder.files c.args.folder.now) (g.D.Folder.files c.put.new.self) (g.D.Folder.files c.put_recordings.new.folder) (g.D.Folder.files c.put-2.new.self)
    (g.D.Folder.files c.put-3.new.self) c.args.config.now c.args.made.now
    c.in_ok-put.ensures
    (c.in_ok-put_recordings.ensures ∙ ap (λ recordings. with_files (g.D.Folder.files c.put.new.self) (recordings_from 0 (map (λ recording. recording.items) recordings))) c.deref.ensures.value)
    (c.in_ok-put-2.ensures ∙ ap (λ text. with_file (g.D.Folder.files c.put_recordings.new.folder) (codes "order.csv") text) c.deref-2.ensures.value)
    (put ∙ ap (λ text. with_file (g.D.Folder.files c.put-2.new.self) (codes "expected.txt") text) c.deref-3.ensures.value))
    c.put-3.ensures

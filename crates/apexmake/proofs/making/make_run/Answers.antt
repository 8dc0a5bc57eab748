-- A run that was made over the configuration that was read, and is written to a folder that was found free.
use Rattle.std.proofs.Common.{subst}
use Rattle.recording_maker.specs.Made.{IsMade}
use Rattle.apexmake.specs.Endings.{HasWritten, received}
use Rattle.apexmake.proofs.Ended.{run_written}
use Rattle.apexmake.proofs.making.make_run.Goals as goal

pub returns-in-Ok-make : goal.returns-in-Ok-make
returns-in-Ok-make g c =
    let after = received (g.D.Folder.files c.write_run.new.folder) (g.W.Sink.bytes c.write_run.new.output) in
    run_written c.args.asked.now.plan c.in-Ok.config.items c.in-Ok-make.made (g.D.Folder.files c.args.folder.now) (g.D.Folder.files c.write_run.new.folder)
    (g.W.Sink.bytes c.args.output.now) (g.W.Sink.bytes c.write_run.new.output) c.write_run.result
    (subst (λ text. IsMade text c.args.asked.now.plan c.in-Ok-make.made) c.deref-2.ensures.value c.in-Ok-make.ensures.made)
    (subst (λ text. HasWritten text c.in-Ok-make.made (received (g.D.Folder.files c.args.folder.now) (g.W.Sink.bytes c.args.output.now)) after c.write_run.result) c.deref-in-Ok-make.ensures.value
    (subst (λ known. HasWritten c.deref-in-Ok-make.result.now c.in-Ok-make.made (received known (g.W.Sink.bytes c.args.output.now)) after c.write_run.result) c.is_free.ensures c.write_run.ensures))

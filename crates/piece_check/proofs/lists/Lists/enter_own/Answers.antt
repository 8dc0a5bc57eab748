-- The module, then the partition.
use Rattle.std.proofs.lemmas.Result.{on_ok_weaker}
use Rattle.apex_machine.specs.Pieces.{Module, OfPartition}
use Rattle.piece_check.specs.Touching.{list_of, is_same_piece}
use Rattle.piece_check.proofs.Slots.{put_both}
use Rattle.piece_check.proofs.lists.Lists.enter_own.Goals as goal

pub returns : goal.returns
returns c =
    let old = list_of c.args.self.now in
    let first = list_of c.put.new.self in
    let new = list_of c.put-2.new.self in
    on_ok_weaker c.put-2.result (put_both c.args.index (is_same_piece Module) (is_same_piece (OfPartition c.args.part)) old first new c.in_ok-put.ensures) c.put-2.ensures

-- The module, the partitions that the record names, and its channel, one after another.
use Rattle.std.proofs.Common.{◌||◌}
use Rattle.std.proofs.lemmas.Result.{on_ok_weaker}
use Rattle.apex_machine.specs.Pieces.{Module, OfChannel}
use Rattle.piece_check.specs.Touching.{list_of, is_home_of, is_same_piece}
use Rattle.piece_check.proofs.Slots.{put_both}
use Rattle.piece_check.proofs.lists.Lists.enter_crossing.Goals as goal

pub returns : goal.returns
returns c =
    let index = c.args.index in
    let crossing = c.args.crossing.now in
    let old = list_of c.args.self.now in
    let first = list_of c.put.new.self in
    let second = list_of c.enter_homes.new.self in
    let new = list_of c.put-2.new.self in
    let module_and_named = put_both index (is_same_piece Module) (is_home_of crossing.woken) old first second c.in_ok-put.ensures (rw c.as_slice.ensures.list at c.in_ok-enter_homes.ensures) in
    on_ok_weaker c.put-2.result
    (put_both index (λ piece. is_same_piece Module piece || is_home_of crossing.woken piece) (is_same_piece (OfChannel crossing.chan)) old second new module_and_named)
    c.put-2.ensures

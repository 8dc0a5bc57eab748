-- One piece more was looked at each time.
use Rattle.std.proofs.Common.{arith}
use Rattle.std.specs.Option.{option_copied}
use Rattle.run_view.specs.Seen.{seen_of}
use Rattle.run_view.proofs.AddsExactly.{get_at}
use Rattle.run_view.proofs.Looks.{all_found, all_seen, none_looked_at, one_more_looked_at}
use Rattle.run_view.proofs.TrueNow.{adds_so, true_of_found}
use Rattle.run_view.proofs.last_seen.LastSeen.look.Goals as goal

pub loop-number-init : goal.loop-number-init
loop-number-init c = record {
  room = c.in_ok-make_room.ensures.room;
  looked =
      none_looked_at c.args.config.now c.args.pieces.now (option_copied c.args.ordered) (seen_of c.args.self.now) (seen_of c.make_room.new.self) c.args.changes.now.items c.in_ok-make_room.ensures.seen;
}

pub loop-number-preserved : goal.loop-number-preserved
loop-number-preserved c =
    let holding = c.index-pieces-number.result in
    let is = get_at c.args.pieces.now c.loop-number.number holding c.loop-number-test.true c.index-pieces-number.is in
    record {
      room = omega (arith, c.loop-number.invariant.room, c.look_if_touched.ensures.room);
      looked = one_more_looked_at c.args.config.now c.args.pieces.now (option_copied c.args.ordered) (seen_of c.args.self.now) (seen_of c.loop-number.self) (seen_of c.look_if_touched.new.self)
          c.loop-number.number holding _ _ _ is c.loop-number.invariant.looked c.in_ok-look_if_touched.ensures.seen c.in_ok-look_if_touched.ensures.changes
          c.in_ok-look_if_touched.ensures.others;
    }

pub returns : goal.returns
returns c =
    let config = c.args.config.now in
    let pieces = c.args.pieces.now in
    let ordered = option_copied c.args.ordered in
    let seen = all_seen config pieces ordered c.args.self.now c.loop-number.self c.loop-number.number _ _ (omega arith) c.loop-number.invariant.looked in
    let found = all_found config pieces ordered c.args.self.now c.loop-number.self c.loop-number.number _ _ (omega arith) c.loop-number.invariant.looked in
    record {
      seen = seen;
      changes = found;
      so = adds_so (λ change is. true_of_found config pieces ordered c.args.self.now c.loop-number.self change seen is) found;
    }

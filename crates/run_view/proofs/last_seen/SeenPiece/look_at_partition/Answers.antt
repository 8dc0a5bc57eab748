-- What is seen and found of a partition, one thing after another.
use Rattle.std.proofs.lemmas.Result.{on_ok_weaker}
use Rattle.run_view.specs.Plain.{plain_objects}
use Rattle.run_view.specs.Seen.{PieceSeen, option_plain, piece_seen}
use Rattle.run_view.proofs.AddsExactly.{adds_then}
use Rattle.run_view.proofs.FoundInPart.{adds_of_partition, each_kind}
use Rattle.run_view.proofs.last_seen.SeenPiece.look_at_partition.Goals as goal

pub returns : goal.returns
returns c =
    let before = piece_seen c.args.self.now in
    let after : PieceSeen = record {
      cores = before.cores;
      mode = c.look_at_mode.new.seen;
      processes = c.look_at_processes.new.seen.items;
      lock = option_plain c.look_at_lock.new.seen;
      buffers = plain_objects c.look_at_kind.new.seen.items;
      blackboards = plain_objects c.look_at_kind-2.new.seen.items;
      semaphores = plain_objects c.look_at_kind-3.new.seen.items;
      events = plain_objects c.look_at_kind-4.new.seen.items;
      mutexes = plain_objects c.look_at_kind-5.new.seen.items;
      channel = before.channel;
    } in
    record {
      seen = on_ok_weaker c.look_at_kind-5.result
          (λ mutexes. record {
            mode = c.in_ok-look_at_mode.ensures.seen;
            processes = c.in_ok-look_at_processes.ensures.seen;
            lock = c.in_ok-look_at_lock.ensures.seen;
            objects = each_kind c.args.state.now after c.in_ok-look_at_kind.ensures.seen c.in_ok-look_at_kind-2.ensures.seen c.in_ok-look_at_kind-3.ensures.seen
                c.in_ok-look_at_kind-4.ensures.seen
                mutexes;
          }) c.look_at_kind-5.ensures.seen;
      changes = on_ok_weaker c.look_at_kind-5.result
          (λ mutexes. adds_of_partition c.args.part before after
          (adds_then
          (adds_then
          (adds_then
          (adds_then
          (adds_then (adds_then (adds_then c.in_ok-look_at_mode.ensures.changes c.in_ok-look_at_processes.ensures.changes) c.in_ok-look_at_lock.ensures.changes)
          c.in_ok-look_at_kind.ensures.changes)
          c.in_ok-look_at_kind-2.ensures.changes)
          c.in_ok-look_at_kind-3.ensures.changes)
          c.in_ok-look_at_kind-4.ensures.changes)
          mutexes)) c.look_at_kind-5.ensures.changes;
    }

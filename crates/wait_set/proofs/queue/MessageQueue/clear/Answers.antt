use Rattle.std.proofs.Common.{sym, ◌∙◌, true≢false}
use Rattle.wait_set.proofs.Clearing.{ends_empty, ends_full, moves_on}
use Rattle.wait_set.proofs.queue.MessageQueue.clear.Goals as goal

pub senders-preserved : goal.senders-preserved
senders-preserved c =
    moves_on c.args.claim.now.woken c.args.self.now c.senders.self c.move_up.new.self c.senders.invariant (c.has_room.ensures.0 c.senders-test.true)
    c.move_up.ensures.moved (sym c.move_up.ensures.waited ∙ c.if-move_up.true)

pub returns-else-move_up : goal.returns-else-move_up
returns-else-move_up c = record {
  after = ends_empty c.args.claim.now c.args.self.now c.senders.self c.move_up.new.self c.senders.invariant c.move_up.ensures.moved
      (sym c.move_up.ensures.waited ∙ c.if-move_up.false);
}

pub returns-after-senders : goal.returns-after-senders
returns-after-senders c = record {
  after = ends_full c.args.claim.now c.args.self.now c.senders.self c.senders.invariant
      (λ less. true≢false (sym (c.has_room.ensures.1 less) ∙ c.senders-test.false));
}

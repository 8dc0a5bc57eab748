-- One more copy.
use Rattle.std.proofs.Common.{◌∙◌, arith}
use Rattle.scheduling.proofs.HandedOver.{AreCopies-push}
use Rattle.scheduling.proofs.message.messages_for.Goals as goal

pub loop-copied-preserved : goal.loop-copied-preserved
loop-copied-preserved c = record {
  length = omega (arith, c.in_ok-push.ensures.len, c.loop-copied.invariant.length);
  alike = rw c.in_ok-push.ensures.items
      (AreCopies-push c.args.message.now c.loop-copied.messages.items _ c.loop-copied.invariant.alike (c.new.ensures ∙ c.in_ok-bytes.ensures.items));
}

use Rattle.std.proofs.Common.{◌≡◌, vec_len}
use Rattle.scheduling.specs.HandedOver.{AreCopies}
use Rattle.scheduling.proofs.message.messages_for.Given as goal

abbrev pub invariant-loop-copied : goal.invariant-loop-copied
invariant-loop-copied l = record { length : vec_len l.messages ≡ l.copied; alike : AreCopies l.message l.messages.items }

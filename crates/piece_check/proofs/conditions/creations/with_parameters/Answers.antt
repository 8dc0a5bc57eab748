-- The conditions one after another.
use Rattle.std.proofs.Common.{append_assoc, rules}
use Rattle.piece_check.proofs.conditions.creations.with_parameters.Goals as goal

pub returns-in-Buffer : goal.returns-in-Buffer
returns-in-Buffer c = rw (c.in-Buffer.is, c.with-in-Buffer-2.ensures.value, c.with-in-Buffer.ensures.value, c.with.ensures.value) (simp append_assoc (search rules))

pub returns-in-Semaphore : goal.returns-in-Semaphore
returns-in-Semaphore c =
    rw (c.in-Semaphore.is, c.with-in-Semaphore-3.ensures.value, c.with-in-Semaphore-2.ensures.value, c.with-in-Semaphore.ensures.value)
    (simp append_assoc (search rules))

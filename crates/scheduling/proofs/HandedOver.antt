-- Copies of one message, and who gets them.
use Rattle.std.proofs.Common.{◌≡◌, ℕ, ◌+◌, ◌<◌, ◌≤◌, Bool, true, false, ◌&&◌, nat_eq, List, [], ◌∷◌, ◌++◌, length, take, get_or, ◌∙◌, arith}
use Rattle.apex_types.specs.declared.record.Who.{Who}
use Rattle.apex_types.specs.Rising.{IsRising}
use Rattle.apex_machine.specs.Processes.{woken_by}
use Rattle.scheduling.specs.Changes.{only, with_each}
use Rattle.scheduling.specs.HandedOver.{AreCopies}
use Rattle.scheduling.specs.Processes.{Processes}
use Rattle.scheduling.proofs.Ticks.{each_let, let-more, let-same}

-- one more copy
pub AreCopies-push : (message : List ℕ) (copies : List (List ℕ)) (one : List ℕ) → AreCopies message copies → one ≡ message → AreCopies message (copies ++ one ∷ [])
AreCopies-push message [] one are is = (is, tt)
AreCopies-push message (copy ∷ copies) one are is = (are.0, AreCopies-push message copies one are.1 is)

-- the last of the copies, and the others
pub AreCopies-last : (message : List ℕ) (copies : List (List ℕ)) (one : List ℕ) → AreCopies message (copies ++ one ∷ []) → one ≡ message
AreCopies-last message [] one are = are.0
AreCopies-last message (copy ∷ copies) one are = AreCopies-last message copies one are.1

pub AreCopies-rest : (message : List ℕ) (copies : List (List ℕ)) (one : List ℕ) → AreCopies message (copies ++ one ∷ []) → AreCopies message copies
AreCopies-rest message [] one are = tt
AreCopies-rest message (copy ∷ copies) one are = (are.0, AreCopies-rest message copies one are.1)

-- messages are handed out one after another: the processes that the head of a list names and a test accepts have theirs, and there are
-- enough for the rest
pub record IsHandingOut (part : ℕ) (lets : ℕ → Bool) (woken : List Who) (at : ℕ) (place : ℕ) (message : List ℕ) (messages : List (List ℕ)) (count : ℕ) (old new : Processes) : Type 0 where
  pub named : new ≡ with_each (each_let part lets (take at woken) (woken_by place message)) old
  pub alike : AreCopies message messages
  pub enough : length woken ≤ count + at

-- the next who is let through gets the last of them
pub handed-more : (part : ℕ) (lets : ℕ → Bool) (woken : List Who) (at place : ℕ) (message one : List ℕ) (messages rest : List (List ℕ)) (count left : ℕ) (who : Who) (old before new : Processes)
    → IsHandingOut part lets woken at place message messages count old before → IsRising woken → at < length woken → who ≡ get_or woken at who
    → lets who.proc && nat_eq who.part part ≡ true → messages ≡ rest ++ one ∷ [] → count ≡ left + 1 → new ≡ with_each (only who.proc (woken_by place one)) before
    → IsHandingOut part lets woken (at + 1) place message rest left old new
handed-more part lets woken at place message one messages rest count left who old before new walk rises within is let_through last fewer changed =
    let copies = rw last at walk.alike in
    record {
      named = changed ∙ (rw (AreCopies-last message rest one copies, walk.named) (let-more part lets woken at who (woken_by place message) old rises within is let_through));
      alike = AreCopies-rest message rest one copies;
      enough = omega (arith, walk.enough, fewer);
    }

-- another gets none
pub handed-same : (part : ℕ) (lets : ℕ → Bool) (woken : List Who) (at place : ℕ) (message : List ℕ) (messages : List (List ℕ)) (count : ℕ) (who : Who) (old new : Processes)
    → IsHandingOut part lets woken at place message messages count old new → at < length woken → who ≡ get_or woken at who
    → lets who.proc && nat_eq who.part part ≡ false → IsHandingOut part lets woken (at + 1) place message messages count old new
handed-same part lets woken at place message messages count who old new walk within is kept = record {
  named = walk.named ∙ let-same part lets woken at who (woken_by place message) old within is kept;
  alike = walk.alike;
  enough = omega (arith, walk.enough);
}

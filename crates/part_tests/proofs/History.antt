-- The history of the toy: what is decided comes first.
use Rattle.std.proofs.Common.{◌≡◌, ◌≤◌, ◌+◌, ◌++◌, ◌∷◌, [], ℕ, List, drop, length, sym, ap, arith}
use Rattle.std.proofs.lemmas.List.{drop-append-le, drop-drop, length-drop}

-- what is taken comes last
pub taken_last : (decided core : ℕ) (history : List ℕ) → decided ≤ length history → drop decided (history ++ core ∷ []) ≡ drop decided history ++ core ∷ []
taken_last decided core history within = drop-append-le decided history (core ∷ []) within

-- what is decided is the first of what was left
pub decided_first : (decided : ℕ) (history : List ℕ) → drop (decided + 1) history ≡ drop 1 (drop decided history)
decided_first decided history = sym (drop-drop 1 decided history)

-- where something is left, not all is decided
pub one_left : (decided core : ℕ) (history : List ℕ) → drop decided history ≡ core ∷ drop 1 (drop decided history) → decided + 1 ≤ length history
one_left decided core history first = omega (arith, length-drop decided history, ap length first)

-- The times of the cores, as the definitions walk them and as the code reads and writes them.
use Rattle.std.proofs.Common.{◌≡◌, ℕ, zero, suc, ◌+◌, ◌<◌, ◌≤◌, List, [], ◌∷◌, length, get_or, set, take, refl, ap, arith}
use Rattle.apex_machine.specs.Pieces.{one_more, time_at}
use Rattle.scheduling.proofs.Reading.{read_past, read_there}

-- a core that is there has its time
pub time_at_there : (times : List ℕ) (core time : ℕ) → core < length times → time ≡ get_or times core time → time_at times core ≡ time
time_at_there = read_there time_at (λ _ _ _. refl) (λ time. time) (λ _ _. refl)

-- a core that is not there has none
pub time_at_past : (times : List ℕ) (core : ℕ) → length times ≤ core → time_at times core ≡ 0
time_at_past = read_past time_at (λ _ _ _. refl) 0 (λ _. refl)

-- a core among the first n has its time
pub time_at_first : (n core : ℕ) (times : List ℕ) (default : ℕ) → core < length (take n times) → time_at (take n times) core ≡ get_or times core default
time_at_first zero core times default below = absurd (omega arith)
time_at_first (suc n) core [] default below = absurd (omega arith)
time_at_first (suc n) zero (time ∷ times) default below = refl
time_at_first (suc n) (suc core) (time ∷ times) default below = time_at_first n core times default (omega arith)

-- one more tick of a core among the first n is written at its place
pub one_more_first : (n core : ℕ) (times : List ℕ) (default : ℕ) → core < length (take n times)
    → take n (set times core (get_or times core default + 1)) ≡ one_more core (take n times)
one_more_first zero core times default below = absurd (omega arith)
one_more_first (suc n) core [] default below = absurd (omega arith)
one_more_first (suc n) zero (time ∷ times) default below = refl
one_more_first (suc n) (suc core) (time ∷ times) default below = ap (λ (rest : List ℕ). time ∷ rest) (one_more_first n core times default (omega arith))

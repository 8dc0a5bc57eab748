-- Sums of the counts of all cores.
use Rattle.std.proofs.Common.{◌≡◌, ◌<◌, ◌≤◌, ◌+◌, ◌*◌, ℕ, zero, suc, List, [], ◌∷◌, length, get_or, set, sum, refl, arith}
use Rattle.std.proofs.lemmas.List.Sums.{sum_by-cons}

sum_cons : (x : ℕ) (xs : List ℕ) → sum (x ∷ xs) ≡ x + sum xs
sum_cons x xs = sum_by-cons (λ y. y) x xs

-- numbers of at most max sum up to at most this many times max
pub sum_bound : (max : ℕ) (xs : List ℕ) → ((k : ℕ) → get_or xs k 0 ≤ max) → sum xs ≤ length xs * max
sum_bound max [] h = omega arith
sum_bound max (x ∷ xs) h = omega (arith, sum_cons x xs, sum_bound max xs (λ k. h (suc k)), h 0)

-- and to less, if one of them is less
pub sum_below : (max : ℕ) (xs : List ℕ) (i : ℕ) → ((k : ℕ) → get_or xs k 0 ≤ max) → i < length xs → get_or xs i 0 < max → sum xs < length xs * max
sum_below max [] i h within less = absurd (omega arith)
sum_below max (x ∷ xs) zero h within less = omega (arith, sum_cons x xs, sum_bound max xs (λ k. h (suc k)))
sum_below max (x ∷ xs) (suc i) h within less = omega (arith, sum_cons x xs, sum_below max xs i (λ k. h (suc k)) (omega arith) less, h 0)

-- a sum whose terms are all zero
pub sum_zero : (xs : List ℕ) → ((k : ℕ) → get_or xs k 0 ≡ 0) → sum xs ≡ 0
sum_zero [] h = refl
sum_zero (x ∷ xs) h = omega (arith, sum_cons x xs, sum_zero xs (λ k. h (suc k)), h 0)

-- one term lowered by one
pub sum_lowered : (xs : List ℕ) (i n : ℕ) → i < length xs → get_or xs i 0 ≡ suc n → sum xs ≡ suc (sum (set xs i n))
sum_lowered [] i n within e = absurd (omega arith)
sum_lowered (x ∷ xs) zero n within e = omega (arith, sum_cons x xs, sum_cons n xs, e)
sum_lowered (x ∷ xs) (suc i) n within e = omega (arith, sum_cons x xs, sum_cons x (set xs i n), sum_lowered xs i n (omega arith) e)

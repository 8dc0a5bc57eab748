-- Plain facts about tests.
use Rattle.std.proofs.Common.{◌≡◌, Bool, true, false, ◌||◌, if◌then◌else◌, refl, true≢false}

-- if neither test holds, the first does not
pub neither_first : (one other : Bool) → (one || other) ≡ false → one ≡ false
neither_first true other neither = neither
neither_first false other neither = refl

-- if neither test holds, the second does not
pub neither_later : (one other : Bool) → (one || other) ≡ false → other ≡ false
neither_later true other neither = absurd (true≢false neither)
neither_later false other neither = neither

-- of three tests the first two change places
pub either_swap : (one other rest : Bool) → (one || (other || rest)) ≡ (other || (one || rest))
either_swap true true rest = refl
either_swap true false rest = refl
either_swap false true rest = refl
either_swap false false rest = refl

-- if neither of two tests holds, none does
pub neither : (one other : Bool) → one ≡ false → other ≡ false → (one || other) ≡ false
neither one other first second = rw first second

-- one of two tests, by the first
pub by_first : (one other : Bool) → (if one then true else other) ≡ (one || other)
by_first true other = refl
by_first false other = refl

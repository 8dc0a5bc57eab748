-- What callers see of a keeper.
use Rattle.std.specs.Prelude.{◌≡◌, ◌≤◌, ℕ, List, length, nat_eq, if◌then◌else◌, get_or, sum}
use Rattle.apex_types.specs.declared.record.Pair.{Pair}
use Rattle.apex_types.specs.declared.limits.TheConstants.{MOST_RECORDS}
use Rattle.order_cert.specs.Order.{IsPrefixOfLawful, numbers_of}

-- the number of cores, and how many numbers of each core were taken
pub record Kept : Type 0 where
  pub cores : ℕ
  pub counts : List ℕ

-- how many numbers of a core were taken
abbrev pub taken_of : Kept → ℕ → ℕ
taken_of kept core = get_or kept.counts core 0

-- the place of the next pair: how many numbers were taken in all
abbrev pub place_of : Kept → ℕ
place_of kept = sum kept.counts

-- no core has more numbers than a recording can have
abbrev pub AreCounts : List ℕ → Type 0
AreCounts counts = (core : ℕ) → get_or counts core 0 ≤ MOST_RECORDS

-- no number of any core was taken
abbrev pub none_taken : ℕ → ℕ
none_taken core = 0

-- the function that gives x at this core, and what f gives elsewhere
abbrev pub put : {A : Type 0} → (ℕ → A) → ℕ → A → ℕ → A
put f core x other = if nat_eq other core then x else f other

-- the counts are those of these pairs, which begin a lawful order
pub record Follows (kept : Kept) (pairs : List Pair) : Type 0 where
  pub lawful : IsPrefixOfLawful kept.cores pairs
  pub counts : (core : ℕ) → taken_of kept core ≡ length (numbers_of core pairs)

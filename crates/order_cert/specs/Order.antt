-- Lawful orders of the records of all cores.
use Rattle.std.specs.Prelude.{◌≡◌, ◌<◌, ◌≤◌, ℕ, zero, suc, List, [], ◌∷◌, ◌++◌, Option, Some, None, nat_eq, nat_lt, nat_le, ◌||◌, if◌then◌else◌}
use Rattle.apex_types.specs.declared.limits.TheConstants.{MOST_RECORDS}
use Rattle.apex_types.specs.declared.record.Pair.{Pair}
use Rattle.order_cert.specs.declared.fault.OrderFault.{OrderFault}
use Rattle.order_cert.specs.declared.fault.OrderFault.TheVariants.{NoSuchCore, Skipped, Repeated}

-- the pair of a core and a number
abbrev pub pair_of : ℕ → ℕ → Pair
pair_of core seq = record { core = core; seq = seq }

-- the numbers that pairs give for one core, in their order
abbrev pub numbers_of : ℕ → List Pair → List ℕ
numbers_of core [] = []
numbers_of core (p ∷ ps) = if nat_eq p.core core then p.seq ∷ numbers_of core ps else numbers_of core ps

-- this many successive numbers, from this one on
abbrev pub following : ℕ → ℕ → List ℕ
following first zero = []
following first (suc n) = first ∷ following (suc first) n

-- each pair is of one of the cores
abbrev pub AllKnown : ℕ → List Pair → Type 0
AllKnown cores [] = Unit {0}
AllKnown cores (p ∷ ps) = (p.core < cores) × AllKnown cores ps

-- a lawful order of recordings of these lengths: the numbers of each core are 0, 1, .. below its length in that order, and no pair is of
-- another core
pub record IsLawfulOrder (cores : ℕ) (lens : ℕ → ℕ) (pairs : List Pair) : Type 0 where
  pub numbers : (core : ℕ) → core < cores → numbers_of core pairs ≡ following 0 (lens core)
  pub known : AllKnown cores pairs

-- for some lengths that recordings can have, and with some further pairs, the whole is a lawful order
pub record IsPrefixOfLawful (cores : ℕ) (pairs : List Pair) : Type 0 where
  pub lens : ℕ → ℕ
  pub more : List Pair
  pub bound : (core : ℕ) → core < cores → lens core ≤ MOST_RECORDS
  pub lawful : IsLawfulOrder cores lens (pairs ++ more)

-- why a pair may not come after those that took this many numbers of each core
abbrev pub misplaced : ℕ → (ℕ → ℕ) → Pair → Option OrderFault
misplaced cores taken p =
    if nat_lt p.core cores
    then (if nat_lt p.seq (taken p.core) then Some Repeated
    else (if nat_lt (taken p.core) p.seq || nat_le MOST_RECORDS p.seq then Some Skipped else None))
    else Some NoSuchCore

-- A partition that is found, and a window that holds a time.
use Rattle.std.proofs.Common.{◌≡◌, ◌<◌, ℕ, List, [], ◌∷◌, get_or, Option, Some, None, Bool, true, false, nat_eq, eqb-true, refl, sym, arith}
use Rattle.std.specs.List.{list_any}
use Rattle.std.specs.Prelude.{is_some, IfSome, All, if◌then◌else◌}
use Rattle.std.proofs.lemmas.List.Elements.{All-head}
use Rattle.std.proofs.lemmas.Bool.{and_parts}
use Rattle.std.proofs.lemmas.List.Folds.{Any-from_list_any}
use Rattle.apex_machine.specs.Configuration.{Configuration, PartitionLimits, Window, first_of, has_core, limits_of, has_partition, numbered, window_among, is_within}
use Rattle.module_config.specs.Ends.{has_number}
use Rattle.module_config.specs.Limits.{AreCoresOf, CoresAreOfModule, IsWithinLimits}
use Rattle.module_config.specs.Whole.{is_of_partition, are_of_partitions}
use Rattle.module_config.proofs.Shown.{found-holds}

-- what holds of each item holds of one that is found by its number
pub numbered-holds : {A : Type 0} (P : A → Type 0) (number_of : A → ℕ) (number : ℕ) (all : List A) (found : A) → All P all → numbered number_of number all ≡ Some found → P found
numbered-holds P number_of number all found each is = found-holds P (λ item. nat_eq (number_of item) number) all found each is

-- a core of a list is below what each of them is below
any-below : (count core : ℕ) (cores : List ℕ) → All (λ one. one < count) cores → list_any (nat_eq core) cores ≡ true → core < count
any-below count core cores below is =
    let (index, one, within, at, same) = Any-from_list_any (nat_eq core) cores is in
    let under : get_or cores index one < count = below index one within in
    let e : core ≡ one = eqb-true core one same in
    omega (arith, under, at, e)

-- each core of a partition is one of the module's
pub cores_are_of_module : (configuration : Configuration) → IsWithinLimits configuration → CoresAreOfModule configuration
cores_are_of_module configuration limits number core has = by (limits_of configuration number) refl has
  where
    by : (found : Option PartitionLimits) → limits_of configuration number ≡ found → has_core core found ≡ true → core < configuration.cores
    by None is none = cc
    by (Some own) is one_of =
        any-below configuration.cores core own.cores
        (numbered-holds (AreCoresOf configuration.cores) (λ limits. limits.number) number configuration.partitions own limits.own_cores is) one_of

-- if each core is below a number above 0, so is the first
pub first_of-below : (count : ℕ) (cores : List ℕ) → 0 < count → All (λ core. core < count) cores → first_of cores < count
first_of-below count [] some below = some
first_of-below count (core ∷ cores) some below = All-head (λ one. one < count) core cores below

-- a partition that has a core is there
pub has_core-found : (core : ℕ) (found : Option PartitionLimits) → has_core core found ≡ true → is_some found ≡ true
has_core-found core None has = has
has_core-found core (Some limits) has = refl

-- the partition of a window that holds a time is there
pub window_among-found : (partitions : List PartitionLimits) (core offset : ℕ) (windows : List Window) (part : ℕ)
    → are_of_partitions partitions windows ≡ true → window_among core offset windows ≡ Some part → has_number part partitions ≡ true
window_among-found partitions core offset [] part each is = cc
window_among-found partitions core offset (window ∷ windows) part each is =
    let (here, later) = and_parts (is_of_partition partitions window) (are_of_partitions partitions windows) each in
    by (is_within core offset window) here (window_among-found partitions core offset windows part later) is
  where
    by : (b : Bool) → is_of_partition partitions window ≡ true
        → (window_among core offset windows ≡ Some part → has_number part partitions ≡ true)
        → (if b then Some window.partition else window_among core offset windows) ≡ Some part → has_number part partitions ≡ true
    by true here later same = let e : window.partition ≡ part = cc in rw (← e) (has_core-found window.core (numbered (λ limits. limits.number) window.partition partitions) here)
    by false here later more = later more

-- the partition that a window gives is configured
pub window_at-configured : (configuration : Configuration) (core offset : ℕ) (windows : List Window) (result : Option ℕ)
    → are_of_partitions configuration.partitions configuration.windows ≡ true → windows ≡ configuration.windows → result ≡ window_among core offset windows
    → IfSome result (λ part. has_partition configuration part ≡ true)
window_at-configured configuration core offset windows None each same is = tt
window_at-configured configuration core offset windows (Some part) each same is =
    window_among-found configuration.partitions core offset configuration.windows part each (let found = sym is in rw same at found)

-- The owners of mutexes, by a search.
use Rattle.std.proofs.Common.{◌≡◌, ℕ, ℤ, pos, negsuc, List, Bool, true, false, [], ◌∷◌, Option, Some, None, ◌||◌, ◌&&◌, not, cond, refl, ap, ◌∙◌}
use Rattle.std.specs.List.{find, list_any}
use Rattle.std.specs.Option.{option_map}
use Rattle.apex_machine.specs.Arguments.{is_number}
use Rattle.apex_machine.specs.Conditions.{owns_mutex}
use Rattle.apex_machine.specs.ObjectConditions.{owns_another}
use Rattle.apex_machine.specs.Objects.{is_owner}
use Rattle.apex_machine.specs.State.{Mutex}
use Rattle.apex_machine.specs.Statuses.{mutex_owned}

-- a mutex of a table is the process's
abbrev pub is_owned : ℕ → ℕ × Mutex → Bool
is_owned process entry = is_owner entry.1.owner process

-- and it is another than the one of this number
abbrev pub is_other : ℤ → ℕ → ℕ × Mutex → Bool
is_other mutex process entry = is_owner entry.1.owner process && not (is_number mutex entry.0)

-- a search over the owners
pub owns_mutex-any : (process : ℕ) (entries : List (ℕ × Mutex)) → owns_mutex entries process ≡ list_any (is_owned process) entries
owns_mutex-any process [] = refl
owns_mutex-any process (entry ∷ entries) = ap (λ rest. is_owner entry.1.owner process || rest) (owns_mutex-any process entries)

pub owns_another-any : (mutex : ℤ) (process : ℕ) (entries : List (ℕ × Mutex))
    → owns_another entries mutex process ≡ list_any (is_other mutex process) entries
owns_another-any mutex process [] = refl
owns_another-any mutex process (entry ∷ entries) =
    ap (λ rest. (is_owner entry.1.owner process && not (is_number mutex entry.0)) || rest) (owns_another-any mutex process entries)

-- the number of a mutex that was found, or -2 if none was
abbrev pub number_reported : Option (ℕ × Mutex) → ℤ
number_reported None = negsuc 1
number_reported (Some entry) = pos entry.0

-- a search for the mutex that a process owns
mutex_owned-find : (process : ℕ) (entries : List (ℕ × Mutex)) → number_reported (find (is_owned process) entries) ≡ mutex_owned entries process
mutex_owned-find process [] = refl
mutex_owned-find process (entry ∷ entries) = by (is_owned process entry) (mutex_owned-find process entries)
  where
    by : (b : Bool) → number_reported (find (is_owned process) entries) ≡ mutex_owned entries process
        → number_reported (cond b (Some entry) (find (is_owned process) entries)) ≡ cond b (pos entry.0) (mutex_owned entries process)
    by true rest = refl
    by false rest = rest

-- so the number of what it finds is reported
pub found-owned : {Found : Type 0} (process : ℕ) (entries : List (ℕ × Mutex)) (see : Found → ℕ × Mutex) (found : Option Found)
    → option_map see found ≡ find (is_owned process) entries → number_reported (option_map see found) ≡ mutex_owned entries process
found-owned process entries see found is = ap number_reported is ∙ mutex_owned-find process entries

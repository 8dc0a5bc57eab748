-- What is taken, one observation after another.
use Rattle.std.proofs.Common.{◌≡◌, ◌<◌, ◌≤◌, ◌+◌, ◌∙◌, ℕ, List, [], ◌∷◌, ◌++◌, length, get_or, take, refl, sym, ap, subst}
use Rattle.std.proofs.lemmas.List.{take_all, take_more}
use Rattle.run_numbers.specs.declared.observation.Observation.{Observation}
use Rattle.run_numbers.specs.declared.tallies.Tallies.{Tallies}
use Rattle.run_numbers.specs.Run.{placed_after}
use Rattle.run_numbers.specs.Tallies.{AreOf, Placed}

placed_last : (place : ℕ) (observed : List Observation) (observation : Observation) (run : List Placed)
    → placed_after place (observed ++ observation ∷ []) run ≡ (let one : Placed = record { place = place; observation = observation } in one) ∷ placed_after place observed run
placed_last place [] observation run = refl
placed_last place (first ∷ others) observation run = placed_last place others observation (record { place = place; observation = first } ∷ run)

-- these tallies are those of a run and of what a record at a place gives after it
abbrev pub AreAfter : ℕ → List Observation → Tallies → Tallies → Type 0
AreAfter place observed old new = (run : List Placed) → AreOf run old → AreOf (placed_after place observed run) new

-- one observation more is taken
pub one_more_taken : (place : ℕ) (observed : List Observation) (index : ℕ) (observation : Observation) (old now new : Tallies) → index < length observed
    → observation ≡ get_or observed index observation → AreAfter place (take index observed) old now
    → ((run : List Placed) → AreOf run now → AreOf (record { place = place; observation = observation } ∷ run) new) → AreAfter place (take (index + 1) observed) old new
one_more_taken place observed index observation old now new less is so more = λ run are.
    let items : take (index + 1) observed ≡ take index observed ++ observation ∷ [] =
    take_more observed index observation less ∙ ap (λ one. take index observed ++ one ∷ []) (sym is) in
    subst (λ list. AreOf list new) (sym (ap (λ list. placed_after place list run) items ∙ placed_last place (take index observed) observation run))
    (more (placed_after place (take index observed) run) (so run are))

-- all are taken
pub all_taken : (place : ℕ) (observed : List Observation) (index : ℕ) (old new : Tallies) → length observed ≤ index → AreAfter place (take index observed) old new
    → AreAfter place observed old new
all_taken place observed index old new all so = λ run are. subst (λ list. AreOf (placed_after place list run) new) (take_all index observed all) (so run are)

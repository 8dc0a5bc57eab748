-- The cores of a clock, as the definitions walk them and as the code reads and writes them.
use Rattle.std.proofs.Common.{◌≡◌, ℕ, zero, suc, ◌-◌, ◌<◌, ◌≤◌, List, [], ◌∷◌, None, nat_le, length, get_or, set, take, refl, ap, arith, IsTrue, ◌↔◌}
use Rattle.std.specs.List.{list_all}
use Rattle.apex_machine.specs.declared.state.CoreState.{CoreState}
use Rattle.apex_machine.specs.State.{time_of, occupant_of, at_core}
use Rattle.apex_machine.specs.Step.{KeepsSkew}
use Rattle.scheduling.proofs.Reading.{read_past, read_there}

-- a core that is there has the time and the occupant of its state
pub time_of_there : (states : List CoreState) (core : ℕ) (state : CoreState) → core < length states → state ≡ get_or states core state → time_of states core ≡ state.time
time_of_there = read_there time_of (λ _ _ _. refl) (λ (state : CoreState). state.time) (λ _ _. refl)

pub occupant_of_there : (states : List CoreState) (core : ℕ) (state : CoreState) → core < length states → state ≡ get_or states core state → occupant_of states core ≡ state.occupant
occupant_of_there = read_there occupant_of (λ _ _ _. refl) (λ (state : CoreState). state.occupant) (λ _ _. refl)

-- a core that is not there has none
pub time_of_past : (states : List CoreState) (core : ℕ) → length states ≤ core → time_of states core ≡ 0
time_of_past = read_past time_of (λ _ _ _. refl) 0 (λ _. refl)

pub occupant_of_past : (states : List CoreState) (core : ℕ) → length states ≤ core → occupant_of states core ≡ None
occupant_of_past = read_past occupant_of (λ _ _ _. refl) None (λ _. refl)

-- a core among the first n has the time of its state
pub time_of_first : (n core : ℕ) (states : List CoreState) (default : CoreState) → core < length (take n states)
    → time_of (take n states) core ≡ (get_or states core default).time
time_of_first zero core states default below = absurd (omega arith)
time_of_first (suc n) core [] default below = absurd (omega arith)
time_of_first (suc n) zero (state ∷ states) default below = refl
time_of_first (suc n) (suc core) (state ∷ states) default below = time_of_first n core states default (omega arith)

-- to change a core among the first n is to write its state
pub at_core_first : (change : CoreState → CoreState) (n core : ℕ) (states : List CoreState) (default : CoreState) → core < length (take n states)
    → take n (set states core (change (get_or states core default))) ≡ at_core change core (take n states)
at_core_first change zero core states default below = absurd (omega arith)
at_core_first change (suc n) core [] default below = absurd (omega arith)
at_core_first change (suc n) zero (state ∷ states) default below = refl
at_core_first change (suc n) (suc core) (state ∷ states) default below =
    ap (λ (rest : List CoreState). state ∷ rest) (at_core_first change n core states default (omega arith))

-- every core is within the skew exactly if the test passes at each
pub KeepsSkew_all : (time skew : ℕ) (states : List CoreState)
    → IsTrue (list_all (λ state. nat_le (time - state.time) skew) states) ↔ KeepsSkew time skew states
KeepsSkew_all time skew [] = (λ _. tt, λ _. refl)
KeepsSkew_all time skew (state ∷ states) =
    let rest : IsTrue (list_all (λ other. nat_le (time - other.time) skew) states) ↔ KeepsSkew time skew states = KeepsSkew_all time skew states in
    grind (arith, rest)

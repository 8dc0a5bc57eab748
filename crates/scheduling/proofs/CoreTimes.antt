-- The times and the occupants of the cores, as the definitions walk them and as the code reads them.
use Rattle.std.proofs.Common.{◌≡◌, ℕ, zero, suc, ◌<◌, ◌≤◌, List, [], ◌∷◌, None, length, get_or, refl, arith}
use Rattle.apex_types.specs.declared.limits.TheConstants.{PLACE_COUNT}
use Rattle.apex_machine.specs.declared.state.CoreState.{CoreState}
use Rattle.apex_machine.specs.State.{occupant_of, time_of}
use Rattle.scheduling.specs.Timely.{TimesFit}
use Rattle.scheduling.proofs.Reading.{read_past, read_there}

-- a core that is there has the time of its state
pub time_of_there : (states : List CoreState) (core : ℕ) (state : CoreState) → core < length states → state ≡ get_or states core state → time_of states core ≡ state.time
time_of_there = read_there time_of (λ _ _ _. refl) (λ (state : CoreState). state.time) (λ _ _. refl)

-- a core that is not there has none
pub time_of_past : (states : List CoreState) (core : ℕ) → length states ≤ core → time_of states core ≡ 0
time_of_past = read_past time_of (λ _ _ _. refl) 0 (λ _. refl)

-- a core that is there has the occupant of its state
pub occupant_of_there : (states : List CoreState) (core : ℕ) (state : CoreState) → core < length states → state ≡ get_or states core state → occupant_of states core ≡ state.occupant
occupant_of_there = read_there occupant_of (λ _ _ _. refl) (λ (state : CoreState). state.occupant) (λ _ _. refl)

-- a core that is not there has none
pub occupant_of_past : (states : List CoreState) (core : ℕ) → length states ≤ core → occupant_of states core ≡ None
occupant_of_past = read_past occupant_of (λ _ _ _. refl) None (λ _. refl)

-- the time of each core fits
pub time_fits : (states : List CoreState) (core : ℕ) → TimesFit states → time_of states core < PLACE_COUNT
time_fits [] core fit = omega arith
time_fits (state ∷ states) zero fit = fit.0
time_fits (state ∷ states) (suc core) fit = time_fits states core fit.1

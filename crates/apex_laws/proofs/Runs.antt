-- Steps and runs of the machine, and local steps and runs of its pieces.
use Rattle.std.proofs.Common.{◌≡◌, suc, List, [], ◌∷◌, Bool, true, false, IsTrue, IsFalse, refl, sym, ap, subst, ◌∙◌}
use Rattle.apex_laws.proofs.Common.{ArePlaced, AtMostOneNextState, Configuration, Goes, LocalStep, OneRun, Ordered, Part, Piece, PieceRun, PiecesCompose, PiecesFollow, RunOfEach, State, after, is_configured, part, touches}
use Rattle.apex_laws.proofs.Booleans.{either_way}
use Rattle.apex_laws.proofs.Demanded.{demanded, lawful}
use Rattle.apex_laws.proofs.Stays.{step_tied}
use Rattle.apex_laws.proofs.Tables.{part_of_after}
use Rattle.apex_laws.proofs.Untouched.{untouched_part}

-- steps

-- the next state is the one that the claims give
pub at_most_one : AtMostOneNextState
at_most_one configuration state ordered one other step also = step.1 ∙ sym also.1

-- local steps of the touched pieces are a step of the machine
pub pieces_compose : PiecesCompose
pieces_compose configuration state ordered reached windows tied placed steps =
    let law = lawful configuration state ordered windows placed (λ piece is touched. (steps piece is touched).0) in (
      after configuration state ordered,
      (law, refl),
      λ piece is touched. part_of_after configuration state ordered piece ∙ sym (steps piece is touched).1,
      λ piece is off. untouched_part configuration state ordered tied law piece off,
    )

-- a step of the machine is a local step of each touched piece
pub pieces_follow : PiecesFollow
pieces_follow configuration state ordered next ends tied step piece is touched =
    (demanded configuration state ordered ends tied step.0 piece is touched, ap (part piece) step.1 ∙ part_of_after configuration state ordered piece)

-- a record in the run of a piece, by whether it touches the piece

-- a record that touches the piece is its step
pub goes_by_step : (touched : Bool) (configuration : Configuration) (old : Part) (ordered : Ordered) (new : Part)
    → IsTrue touched → Goes touched configuration old ordered new → LocalStep configuration old ordered new
goes_by_step true configuration old ordered new is goes = goes
goes_by_step false configuration old ordered new is goes = cc

-- another leaves its part
pub goes_nowhere : (touched : Bool) (configuration : Configuration) (old : Part) (ordered : Ordered) (new : Part)
    → IsFalse touched → Goes touched configuration old ordered new → new ≡ old
goes_nowhere true configuration old ordered new off goes = cc
goes_nowhere false configuration old ordered new off goes = goes

-- the two cases joined
goes_from : (touched : Bool) (configuration : Configuration) (old : Part) (ordered : Ordered) (new : Part)
    → (IsTrue touched → LocalStep configuration old ordered new) → (IsFalse touched → new ≡ old) → Goes touched configuration old ordered new
goes_from true configuration old ordered new step stays = step refl
goes_from false configuration old ordered new step stays = stays refl

-- runs

-- one part for every piece, with a fact about it if the piece is configured
part_or_spare : (configured : Bool) (Fact : Part → Type 0) (spare : Part)
    → (IsTrue configured → (next : Part) × Fact next) → (next : Part) × (IsTrue configured → Fact next)
part_or_spare true Fact spare found = let one = found refl in (one.0, λ is. one.1)
part_or_spare false Fact spare found = (spare, λ is. cc)

-- what a piece does at a record, and from there on
abbrev GoesOn : Configuration → State → Ordered → List Ordered → (Piece → Part) → Piece → Part → Type 0
GoesOn configuration state ordered others reached piece next =
    Goes (touches configuration piece ordered) configuration (part piece state) ordered next × PieceRun configuration piece next others (reached piece)

-- runs of all pieces are a run of the machine, record by record
pub one_run : OneRun
one_run configuration state [] reached windows tied placed runs = (state, refl, λ piece is. sym (runs piece is))
one_run configuration state (ordered ∷ others) reached windows tied placed runs =
    let nexts : (piece : Piece) → (next : Part) × (IsTrue (is_configured configuration piece) → GoesOn configuration state ordered others reached piece next) =
    λ piece. part_or_spare (is_configured configuration piece) (GoesOn configuration state ordered others reached piece) (part piece state)
    (λ is. let run = runs piece is in (run.0, (run.1, run.2))) in
    let step = pieces_compose configuration state ordered (λ piece. (nexts piece).0) windows tied placed.0
    (λ piece is touched. goes_by_step (touches configuration piece ordered) configuration (part piece state) ordered (nexts piece).0 touched ((nexts piece).1 is).0) in
    let arrives : (piece : Piece) → IsTrue (is_configured configuration piece) → part piece step.0 ≡ (nexts piece).0 =
    λ piece is. either_way (touches configuration piece ordered) (λ touched. step.2 piece is touched)
    (λ off. step.3 piece is off ∙ sym (goes_nowhere (touches configuration piece ordered) configuration (part piece state) ordered (nexts piece).0 off ((nexts piece).1 is).0)) in
    let count : suc state.count ≡ step.0.count = sym (ap (λ one. one.count) step.1.1) in
    let rest = one_run configuration step.0 others reached windows (step_tied configuration state ordered step.0 tied step.1) (subst (λ place. ArePlaced place others) count placed.1)
    (λ piece is. subst (λ old. PieceRun configuration piece old others (reached piece)) (sym (arrives piece is)) ((nexts piece).1 is).1) in
    (rest.0, (step.0, step.1, rest.1), rest.2)

-- a run of the machine is a run of each piece, record by record
pub run_of_each : RunOfEach
run_of_each configuration state [] final ends tied run piece is = ap (part piece) run
run_of_each configuration state (ordered ∷ others) final ends tied run piece is =
    let next = run.0 in
    let step = run.1 in (
      part piece next,
      goes_from (touches configuration piece ordered) configuration (part piece state) ordered (part piece next)
          (λ touched. pieces_follow configuration state ordered next ends tied step piece is touched)
          (λ off. ap (part piece) step.1 ∙ untouched_part configuration state ordered tied step.0 piece off),
      run_of_each configuration next others final ends (step_tied configuration state ordered next tied step) run.2 piece is,
    )

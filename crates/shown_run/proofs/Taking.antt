-- Pieces that take a record in the order of their numbers.
use Rattle.std.proofs.Common.{below_more, ◌≡◌, ◌≢◌, ◌<◌, ◌≤◌, ◌+◌, ◌∙◌, ℕ, zero, suc, List, [], ◌∷◌, ◌++◌, Option, Some, None, true, false, length, length-append, get_or, set, refl, sym, ap, subst, inl, inr, arith}
use Rattle.std.proofs.lemmas.Bool.{cases_eq}
use Rattle.std.proofs.lemmas.List.{length-set}
use Rattle.apex_types.specs.declared.cause.Cause.{Cause}
use Rattle.apex_types.specs.declared.record.Ordered.{Ordered}
use Rattle.apex_machine.specs.Configuration.{Configuration}
use Rattle.apex_machine.specs.Demands.{FirstFails, LocalStep, demands}
use Rattle.apex_machine.specs.Pieces.{Piece, pieces, touches}
use Rattle.apex_machine.specs.Runs.{Goes, PieceRun}
use Rattle.piece_check.proofs.Parting.{HoldsBefore_later}
use Rattle.piece_check.specs.Parts.{Holding, HoldsBefore, IsOf, holder, piece_at}
use Rattle.verdict_merge.proofs.Holdings.{holding_at-get}
use Rattle.verdict_merge.specs.Rounds.{AllRun, AreGoing, IsGoing, Rejects, holding_at, parts_in}
use Rattle.verdict_merge.proofs.Verdicts.{runs_no_longer}
use Rattle.shown_run.specs.declared.walk.Refusal.{Refusal}
use Rattle.shown_run.specs.Walks.{EachRuns, HasTaken, Takes}

-- a piece by its number, once one of them is another

set_here : (holdings : List Holding) (number : ℕ) (new : Holding) → number < length holdings → holding_at (set holdings number new) number ≡ new
set_here [] number new within = absurd (omega (arith, within))
set_here (holding ∷ others) zero new within = refl
set_here (holding ∷ others) (suc number) new within = set_here others number new (omega (arith, within))

set_elsewhere : (holdings : List Holding) (number other : ℕ) (new : Holding) → other ≢ number → holding_at (set holdings number new) other ≡ holding_at holdings other
set_elsewhere [] number other new apart = refl
set_elsewhere (holding ∷ others) zero zero new apart = absurd (apart refl)
set_elsewhere (holding ∷ others) zero (suc other) new apart = refl
set_elsewhere (holding ∷ others) (suc number) zero new apart = refl
set_elsewhere (holding ∷ others) (suc number) (suc other) new apart = set_elsewhere others number other new (λ same. apart (ap suc same))

-- the piece with a number
pub at_number : (holdings : List Holding) (number : ℕ) (holding : Holding) → number < length holdings → holding ≡ get_or holdings number holding → holding_at holdings number ≡ holding
at_number holdings number holding within is = holding_at-get holdings number holding within ∙ sym is

-- it may judge records from a place on, as all do
pub going_at : (configuration : Configuration) (place : ℕ) (holdings : List Holding) (number : ℕ) (piece : Holding) → AreGoing configuration place holdings → number < length holdings
    → piece ≡ get_or holdings number piece → IsGoing configuration number place piece
going_at configuration place holdings number piece going within is =
    let there : number < length (pieces configuration) = omega (arith, within, going.whole) in
    subst (λ (holding : Holding). IsGoing configuration number place holding) (at_number holdings number piece within is) (going.each number there)

-- one piece

-- a piece that a record does not touch may take the next one
pub passed : (configuration : Configuration) (ordered : Ordered) (holding : Holding) → touches configuration (holder holding.part) ordered ≡ false → IsOf configuration holding
    → HoldsBefore ordered.pos holding.part → HasTaken configuration ordered holding None holding
passed configuration ordered holding untouched of before = (
  subst (λ touched. Goes touched configuration holding.part ordered holding.part) (sym untouched) refl,
  refl,
  of,
  HoldsBefore_later ordered.pos (ordered.pos + 1) holding.part (omega arith) before,
)

-- a piece makes its step
pub stepped : (configuration : Configuration) (ordered : Ordered) (old new : Holding) → touches configuration (holder old.part) ordered ≡ true
    → LocalStep configuration old.part ordered new.part → holder new.part ≡ holder old.part → IsOf configuration new → HoldsBefore (ordered.pos + 1) new.part
    → HasTaken configuration ordered old None new
stepped configuration ordered old new touched step whose of before =
    (subst (λ one. Goes one configuration old.part ordered new.part) (sym touched) step, whose, of, before)

-- a piece rejects it
pub rejected : (configuration : Configuration) (ordered : Ordered) (cause : Cause) (old new : Holding) → touches configuration (holder old.part) ordered ≡ true
    → FirstFails (demands configuration old.part ordered) cause → new.part ≡ old.part → HasTaken configuration ordered old (Some cause) new
rejected configuration ordered cause old new touched fails same = ((touched, fails), same)

-- all pieces, one after another

-- this many pieces have taken a record, and the others are as they were
pub record HaveTaken (configuration : Configuration) (ordered : Ordered) (count : ℕ) (old new : List Holding) : Type 0 where
  pub whole : length new ≡ length old
  pub taken : (number : ℕ) → number < count → HasTaken configuration ordered (holding_at old number) None (holding_at new number)
  pub left : (number : ℕ) → count ≤ number → holding_at new number ≡ holding_at old number

pub none_taken : (configuration : Configuration) (ordered : Ordered) (old : List Holding) → HaveTaken configuration ordered 0 old old
none_taken configuration ordered old = record { whole = refl; taken = λ number none. absurd (omega (arith, none)); left = λ number any. refl }

-- the next piece is as it was
pub as_it_was : (configuration : Configuration) (ordered : Ordered) (count : ℕ) (old now : List Holding) (piece : Holding) → HaveTaken configuration ordered count old now
    → count < length now → piece ≡ get_or now count piece → holding_at old count ≡ piece
as_it_was configuration ordered count old now piece have within is =
    let same : count ≤ count = omega arith in
    sym (have.left count same) ∙ at_number now count piece within is

-- the next piece may take it
pub may_take : (configuration : Configuration) (ordered : Ordered) (count : ℕ) (old now : List Holding) (piece : Holding) → AreGoing configuration ordered.pos old
    → HaveTaken configuration ordered count old now → count < length now → piece ≡ get_or now count piece → IsGoing configuration count ordered.pos piece
may_take configuration ordered count old now piece going have within is =
    let there : count < length (pieces configuration) = omega (arith, within, have.whole, going.whole) in
    subst (λ (holding : Holding). IsGoing configuration count ordered.pos holding) (as_it_was configuration ordered count old now piece have within is) (going.each count there)

-- one more piece has taken it
pub one_taken : (configuration : Configuration) (ordered : Ordered) (count : ℕ) (old now new : List Holding) (piece : Holding) → HaveTaken configuration ordered count old now
    → count < length now → new ≡ set now count piece → HasTaken configuration ordered (holding_at old count) None piece
    → HaveTaken configuration ordered (count + 1) old new
one_taken configuration ordered count old now new piece have within is has = record {
  whole = ap length is ∙ length-set now count piece ∙ have.whole;
  taken = below_more (λ number. HasTaken configuration ordered (holding_at old number) None (holding_at new number)) count
      (λ number less. subst (HasTaken configuration ordered (holding_at old number) None) (sym (stays number (omega (arith, less)))) (have.taken number less))
      (subst (HasTaken configuration ordered (holding_at old count) None) (sym (ap (λ all. holding_at all count) is ∙ set_here now count piece within)) has);
  left = λ number above. stays number (omega (arith, above)) ∙ have.left number (omega (arith, above));
}
  where
    stays : (number : ℕ) → number ≢ count → holding_at new number ≡ holding_at now number
    stays number apart = ap (λ all. holding_at all number) is ∙ set_elsewhere now count number piece apart

-- the run of a piece over a record that it has taken
runs : (configuration : Configuration) (ordered : Ordered) (piece : Piece) (old new : Holding) → holder old.part ≡ piece → HasTaken configuration ordered old None new
    → PieceRun configuration piece old.part (ordered ∷ []) new.part
runs configuration ordered piece old new of has = (
  new.part,
  subst (λ one. Goes (touches configuration one ordered) configuration old.part ordered new.part) of has.0,
  refl,
)

-- all pieces have taken it
pub all_run : (configuration : Configuration) (ordered : Ordered) (old new : List Holding) → AreGoing configuration ordered.pos old
    → HaveTaken configuration ordered (length old) old new → AllRun configuration (parts_in old) (ordered ∷ []) (parts_in new)
all_run configuration ordered old new going have = λ number within.
    runs configuration ordered (piece_at configuration number) (holding_at old number) (holding_at new number) (going.each number within).whose
    (have.taken number (omega (arith, within, going.whole)))

pub all_going : (configuration : Configuration) (ordered : Ordered) (old new : List Holding) → AreGoing configuration ordered.pos old
    → HaveTaken configuration ordered (length old) old new → AreGoing configuration (ordered.pos + 1) new
all_going configuration ordered old new going have = record {
  whole = have.whole ∙ going.whole;
  each = λ number within.
      let has = have.taken number (omega (arith, within, going.whole)) in
      record { of_module = has.2; whose = has.1 ∙ (going.each number within).whose; holds_before = has.3 };
}

-- a piece rejects it
pub one_rejects : (configuration : Configuration) (ordered : Ordered) (number : ℕ) (cause : Cause) (old now new : List Holding) (piece : Holding) → AreGoing configuration ordered.pos old
    → HaveTaken configuration ordered number old now → number < length now → new ≡ set now number piece
    → HasTaken configuration ordered (holding_at old number) (Some cause) piece
    → Takes configuration ordered old (Some (record { piece = number; cause = cause })) new
one_rejects configuration ordered number cause old now new piece going have within is has = (
  record {
    before = [];
    ordered = ordered;
    after = [];
    split = refl;
    place = refl;
    piece = there;
    refused = ((holding_at old number).part, refl, rejects.0, rejects.1);
    smaller = λ other less. ((holding_at now other).part, runs configuration ordered (piece_at configuration other) (holding_at old other) (holding_at now other) (going.each other (omega (arith, less, there))).whose (have.taken other less));
    larger = λ other more other_within. ((holding_at old other).part, refl);
  },
  subst (λ part. Rejects configuration (piece_at configuration number) part ordered cause) (sym (stays number (let e : number ≤ number = omega arith in e))) rejects,
  stays,
)
  where
    there : number < length (pieces configuration)
    there = omega (arith, within, have.whole, going.whole)

    rejects : Rejects configuration (piece_at configuration number) (holding_at old number).part ordered cause
    rejects = subst (λ one. Rejects configuration one (holding_at old number).part ordered cause) (going.each number there).whose has.0

    stays : (other : ℕ) → number ≤ other → (holding_at new other).part ≡ (holding_at old other).part
    stays other above =
        elim (cases_eq other number) [
          | inl same ↦
              subst (λ one. (holding_at new one).part ≡ (holding_at old one).part) (sym same)
              (ap (λ all. (holding_at all number).part) is ∙ ap (λ holding. holding.part) (set_here now number piece within) ∙ has.1)
          | inr apart ↦ ap (λ all. (holding_at all other).part) is ∙ ap (λ holding. holding.part) (set_elsewhere now number other piece apart ∙ have.left other above)
        ]

-- a record over which each piece has a run is rejected by none
pub none_rejects : (configuration : Configuration) (ordered : Ordered) (old new : List Holding) (refusal : Option Refusal) → EachRuns configuration (parts_in old) (ordered ∷ [])
    → Takes configuration ordered old refusal new → refusal ≡ None
none_rejects configuration ordered old new None may takes = refl
none_rejects configuration ordered old new (Some refusal) may takes =
    let no = takes.0 in
    absurd (runs_no_longer configuration (parts_in old) (ordered ∷ []) (record { pos = ordered.pos; piece = refusal.piece; cause = refusal.cause }) no (ordered ∷ []) [] refl
    (omega (arith, ap (λ (list : List Ordered). length list) no.split, length-append no.before (no.ordered ∷ no.after))) (may refusal.piece no.piece))

-- so each piece takes it
pub taken_again : (configuration : Configuration) (ordered : Ordered) (old new : List Holding) (refusal : Option Refusal) → EachRuns configuration (parts_in old) (ordered ∷ [])
    → Takes configuration ordered old refusal new → AllRun configuration (parts_in old) (ordered ∷ []) (parts_in new)
taken_again configuration ordered old new refusal may takes =
    subst (λ (one : Option Refusal). Takes configuration ordered old one new) (none_rejects configuration ordered old new refusal may takes) takes

-- The first refusal of a piece: there is at most one, and without one the piece has a run.
use Rattle.std.proofs.Common.{◌≡◌, List, [], ◌∷◌, Bool, true, false, Option, Some, None, refl, sym, ap, subst, ◌∙◌, inl, inr}
use Rattle.apex_types.specs.declared.cause.Cause.{Cause}
use Rattle.apex_laws.proofs.Common.{AllHold, Configuration, Demand, Finds, FindsNext, FirstFails, Goes, OneFirstRefusal, Ordered, Part, Piece, PieceRun, Refusal, demands, touches}

-- without a refusal

-- a piece that refuses nothing goes over the next record, and refuses nothing after it
silent_next : (touched : Bool) (configuration : Configuration) (old : Part) (ordered : Ordered) (More : Part → Type 0)
    → FindsNext touched configuration old ordered More None → (next : Part) × Goes touched configuration old ordered next × More next
silent_next false configuration old ordered More found = (old, refl, found)
silent_next true configuration old ordered More (inl found) = found
silent_next true configuration old ordered More (inr found) =
    let some : ◌≡◌ {A = Option Refusal} None (Some (record { pos = ordered.pos; cause = found.0 })) = found.2 in cc

-- so it has a run
pub silent_piece_runs : (configuration : Configuration) (piece : Piece) (old : Part) (records : List Ordered)
    → Finds configuration piece old records None → (final : Part) × PieceRun configuration piece old records final
silent_piece_runs configuration piece old [] finds = (old, refl)
silent_piece_runs configuration piece old (ordered ∷ others) finds =
    let next = silent_next (touches configuration piece ordered) configuration old ordered (λ next. Finds configuration piece next others None) finds in
    let rest = silent_piece_runs configuration piece next.0 others next.2 in
    (rest.0, (next.0, next.1, rest.1))

-- at most one

-- demands that all hold have no first one that fails
pub none_fails : (asked : List {1} Demand) (cause : Cause) → AllHold asked → FirstFails asked cause → ⊥
none_fails [] cause hold fails = fails
none_fails (demand ∷ asked) cause hold (inl fails) = fails.0 hold.0
none_fails (demand ∷ asked) cause hold (inr fails) = none_fails asked cause hold.1 fails.1

-- the first demand that fails has one cause
pub one_cause : (asked : List {1} Demand) (one other : Cause) → FirstFails asked one → FirstFails asked other → one ≡ other
one_cause [] one other first second = absurd first
one_cause (demand ∷ asked) one other (inl first) (inl second) = first.1 ∙ sym second.1
one_cause (demand ∷ asked) one other (inl first) (inr second) = absurd (first.0 second.0)
one_cause (demand ∷ asked) one other (inr first) (inl second) = absurd (second.0 first.0)
one_cause (demand ∷ asked) one other (inr first) (inr second) = one_cause asked one other first.1 second.1

-- at one record there is one refusal, or one part from which to go on
one_next : (touched : Bool) (configuration : Configuration) (piece : Piece) (old : Part) (ordered : Ordered) (others : List Ordered) (one other : Option Refusal)
    → ((next : Part) → Finds configuration piece next others one → Finds configuration piece next others other → one ≡ other)
    → FindsNext touched configuration old ordered (λ next. Finds configuration piece next others one) one
    → FindsNext touched configuration old ordered (λ next. Finds configuration piece next others other) other → one ≡ other
one_next false configuration piece old ordered others one other later first second = later old first second
one_next true configuration piece old ordered others one other later (inl first) (inl second) =
    later first.0 first.2 (subst (λ next. Finds configuration piece next others other) (second.1.1 ∙ sym first.1.1) second.2)
one_next true configuration piece old ordered others one other later (inl first) (inr second) =
    absurd (none_fails (demands configuration old ordered) second.0 first.1.0 second.1)
one_next true configuration piece old ordered others one other later (inr first) (inl second) =
    absurd (none_fails (demands configuration old ordered) first.0 second.1.0 first.1)
one_next true configuration piece old ordered others one other later (inr first) (inr second) =
    first.2
    ∙ ap (λ cause. Some (record { pos = ordered.pos; cause = cause })) (one_cause (demands configuration old ordered) first.0 second.0 first.1 second.1)
    ∙ sym second.2

-- so there is one first refusal over all records
pub one_first_refusal : OneFirstRefusal
one_first_refusal configuration piece old [] one other first second = first ∙ sym second
one_first_refusal configuration piece old (ordered ∷ others) one other first second =
    one_next (touches configuration piece ordered) configuration piece old ordered others one other
    (λ next before after. one_first_refusal configuration piece next others one other before after) first second

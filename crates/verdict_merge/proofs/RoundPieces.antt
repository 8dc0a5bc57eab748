-- The pieces of a round, and what became of them.
use Rattle.std.proofs.Common.{◌≡◌, ◌<◌, ◌+◌, ◌∙◌, ℕ, zero, suc, List, [], ◌∷◌, ◌++◌, Option, Some, length, get_or, refl, ap, sym, subst, arith, append_assoc, below_more, Bool}
use Rattle.std.proofs.lemmas.List.{get_or_append_left, length-append, length-map}
use Rattle.std.proofs.Math.Seq.{get_or-append_seam}
use Rattle.apex_types.specs.declared.record.Ordered.{Ordered}
use Rattle.apex_machine.specs.Configuration.{Configuration}
use Rattle.apex_machine.specs.Pieces.{Part, pieces}
use Rattle.piece_check.specs.Parts.{Holding, piece_at}
use Rattle.user_rules.specs.declared.relation.Relation.{Relation}
use Rattle.verdict_merge.specs.declared.outcome.Lent.{Lent}
use Rattle.verdict_merge.specs.Rounds.{AreJudgedOver, AreGoing, HasRunOver, IsGoing, IsPieceJudged, holding_at}
use Rattle.verdict_merge.specs.Views.{AreSeen, up_to as up_to_refusal}
use Rattle.verdict_merge.specs.declared.judged.Judged.{Judged}
use Rattle.verdict_merge.specs.declared.log.Event.{Event}
use Rattle.verdict_merge.specs.Boards.{IsBoard, IsPlaced}
use Rattle.verdict_merge.specs.Contents.{AreGoingFrom, AreJudged, Content, IsJudged, content_of, holding_of, part_at, parts_held}

-- the part of a piece by its number
pub part_held : (holdings : List Holding) (number : ℕ) → part_at (parts_held holdings) number ≡ (holding_at holdings number).part
part_held [] number = refl
part_held (holding ∷ others) zero = refl
part_held (holding ∷ others) (suc number) = part_held others number

-- the pieces from a number on may go over the records, one after another
going_from : (configuration : Configuration) (place number : ℕ) (holdings : List Holding)
    → ((one : ℕ) → one < length holdings → IsGoing configuration (number + one) place (holding_at holdings one)) → AreGoingFrom configuration place number holdings
going_from configuration place number [] each = tt
going_from configuration place number (holding ∷ others) each =
    let here : number + 0 ≡ number = omega arith in (
      subst (λ n. IsGoing configuration n place holding) here (each 0 (omega arith)),
      going_from configuration place (suc number) others
          (λ one within.
          let next : number + suc one ≡ suc number + one = omega arith in
          subst (λ n. IsGoing configuration n place (holding_at others one)) next (each (suc one) (omega (arith, within)))),
    )

pub all_going : (configuration : Configuration) (place : ℕ) (holdings : List Holding) → AreGoing configuration place holdings → AreGoingFrom configuration place 0 holdings
all_going configuration place holdings going =
    going_from configuration place 0 holdings
    (λ one within.
    let same : one ≡ 0 + one = omega arith in
    subst (λ n. IsGoing configuration n place (holding_at holdings one)) same (going.each one (omega (arith, within, going.whole))))

-- what a piece makes of the records rests on its part alone
pub judged_by_part : (configuration : Configuration) (number first : ℕ) (records : List Ordered) (relations : List Relation) (keeps : Bool) (old other : Holding) (judged : Judged) → old.part ≡ other.part
    → IsPieceJudged configuration number first records relations keeps old judged → IsPieceJudged configuration number first records relations keeps other judged
judged_by_part configuration number first records relations keeps old other judged same is = record {
  over = record {
    found = subst (λ part. HasRunOver configuration number part records judged.outcome.found judged.piece.part) same is.over.found;
    seen = is.over.seen;
    are = subst (λ part. AreSeen configuration (piece_at configuration number) part 0 (up_to_refusal judged.outcome.found records) is.over.seen) same is.over.are;
    breach = is.over.breach;
    going = is.over.going;
  };
  kept = is.kept;
}

-- what a piece of a round makes of what is lent to it, under rules that mean what those of the round do, is what it makes of the round
pub judged_in_round : (round : Content) (lent : Lent) (relations : List Relation) (number : ℕ) (piece : Holding) (judged : Judged) → content_of lent round.relations round.parts ≡ round
    → relations ≡ round.relations → piece.part ≡ part_at round.parts number
    → IsPieceJudged lent.config.now number lent.first lent.records.now relations lent.keeps piece judged → IsJudged round number judged
judged_in_round round lent relations number piece judged same means held is =
    let meant = subst (λ meaning. IsPieceJudged lent.config.now number lent.first lent.records.now meaning lent.keeps piece judged) means is in
    let of_part = judged_by_part lent.config.now number lent.first lent.records.now round.relations lent.keeps piece (holding_of (part_at round.parts number)) judged held meant in
    subst (λ content. IsJudged content number judged) same of_part

-- what became of the pieces of a round is what became of these
pub all_judged_over : (lent : Lent) (relations : List Relation) (holdings : List Holding) (judged : List Judged) → AreJudged (content_of lent relations (parts_held holdings)) judged
    → AreJudgedOver lent.config.now lent.first lent.records.now relations lent.keeps holdings judged
all_judged_over lent relations holdings judged all =
    let same : length (parts_held holdings) ≡ length holdings = length-map holdings (λ piece. piece.part) in
    record {
      whole = all.whole ∙ same;
      each = λ number within one is.
          judged_by_part lent.config.now number lent.first lent.records.now relations lent.keeps _ (holding_at holdings number) one (part_held holdings number)
          (all.each number (omega (arith, within, same)) one is);
    }

-- as many pieces of the same parts hold the same
pub same_parts : (one other : List Holding) → length one ≡ length other → ((number : ℕ) → number < length one → (holding_at one number).part ≡ (holding_at other number).part)
    → parts_held one ≡ parts_held other
same_parts [] [] whole same = refl
same_parts [] (first ∷ others) whole same = absurd (omega (arith, whole))
same_parts (first ∷ others) [] whole same = absurd (omega (arith, whole))
same_parts (first ∷ others) (piece ∷ pieces) whole same =
    let head : first.part ≡ piece.part = same 0 (omega arith) in
    let tail = same_parts others pieces (omega (arith, whole)) (λ number within. same (suc number) (omega (arith, within))) in
    cc (head, tail)

-- the piece of this number, if it is among those that have judged the records, has done so
abbrev pub HasJudgedOver : Content → List Judged → ℕ → Type 0
HasJudgedOver content judged number = (one : Judged) → one ≡ get_or judged number one → IsJudged content number one

-- one piece more
pub judged_more : (content : Content) (judged : List Judged) (new : Judged) (count : ℕ) → length judged ≡ count
    → ((number : ℕ) → number < count → HasJudgedOver content judged number) → IsJudged content count new
    → (number : ℕ) → number < count + 1 → HasJudgedOver content (judged ++ new ∷ []) number
judged_more content judged new count counted each last =
    below_more (HasJudgedOver content (judged ++ new ∷ [])) count
    (λ number less one is. each number less one (is ∙ get_or_append_left judged (new ∷ []) one number (omega (arith, less, counted))))
    (λ one is. subst (IsJudged content count) (sym (is ∙ ap (λ n. get_or (judged ++ new ∷ []) n one) (sym counted) ∙ get_or-append_seam judged new [] one)) last)

-- the next place holds what became of the next piece
pub next_judged : (round : Content) (left : List Part) (claimed : ℕ) (log : List Event) (places before after : List (Option Judged)) (judged : Judged)
    → (before ++ Some judged ∷ []) ++ after ≡ places → IsBoard round left claimed log places → IsJudged round (length before) judged
next_judged round left claimed log places before after judged is board =
    let split : before ++ Some judged ∷ after ≡ places = sym (append_assoc before (Some judged ∷ []) after) ∙ is in
    let within : length before < length round.parts = omega (arith, board.place, ap length split, length-append before (Some judged ∷ after)) in
    let here : get_or places (length before) (Some judged) ≡ Some judged =
    ap (λ list. get_or list (length before) (Some judged)) (sym split) ∙ get_or-append_seam before (Some judged) after (Some judged) in
    (subst (IsPlaced round log (length before)) here (board.placed (length before) (Some judged) within)).1

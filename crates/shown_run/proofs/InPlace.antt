-- The pieces take one record where they are.
use Rattle.std.proofs.Common.{◌≡◌, ◌<◌, ◌≤◌, ◌∙◌, ℕ, List, [], ◌∷◌, Option, Some, None, length, get_or, refl, sym, ap, subst, arith}
use Rattle.std.specs.Prelude.{IfSome, slice_get, slice_index_or}
use Rattle.apex_types.specs.declared.record.Ordered.{Ordered}
use Rattle.apex_types.specs.declared.view.View.{View}
use Rattle.apex_machine.specs.Configuration.{Configuration}
use Rattle.apex_machine.specs.Pieces.{Part, pieces}
use Rattle.apex_machine.specs.Views.{view_in}
use Rattle.piece_check.specs.Parts.{Holding, HoldsBefore}
use Rattle.user_rules.specs.declared.memory.Cell.{Cell}
use Rattle.user_rules.specs.FirstBroken.{IsFirstBroken}
use Rattle.user_rules.specs.Passed.{passed}
use Rattle.user_rules.specs.Remembered.{Requirements, kept_after}
use Rattle.verdict_merge.proofs.Giving.{gives, judged_by}
use Rattle.verdict_merge.proofs.Holdings.{holding_at-get}
use Rattle.verdict_merge.proofs.Viewing.{not_before}
use Rattle.verdict_merge.specs.declared.breach.Breach.{Breach}
use Rattle.verdict_merge.specs.declared.finding.Refused.{Refused}
use Rattle.verdict_merge.specs.Rounds.{AllRun, AreGoing, HaveRunOver, IsTested, parts_in}
use Rattle.verdict_merge.specs.Views.{AreViews, IsViewOf, broken_of, up_to}
use Rattle.shown_run.specs.declared.walk.Refusal.{Refusal}
use Rattle.shown_run.specs.Walks.{Takes}

-- a single record is the whole of its round
pub single : (records : List Ordered) (ordered : Ordered) → length records ≡ 1 → ordered ≡ get_or records 0 ordered → records ≡ ordered ∷ []
single [] ordered one is = absurd (omega (arith, one))
single (first ∷ []) ordered one is = ap (λ (here : Ordered). here ∷ []) (sym is)
single (first ∷ (second ∷ others)) ordered one is = absurd (omega (arith, one))

-- a refusal

-- the first piece that rejects the record is as it was before it
pub refused_run : (configuration : Configuration) (ordered : Ordered) (old new : List Holding) (refusal : Refusal) → Takes configuration ordered old (Some refusal) new
    → HaveRunOver configuration old (ordered ∷ []) (Some (record { pos = ordered.pos; piece = refusal.piece; cause = refusal.cause })) new
refused_run configuration ordered old new refusal takes =
    let same : refusal.piece ≤ refusal.piece = omega arith in
    (takes.0, ([], ordered, [], refl, refl, takes.2 refusal.piece same, takes.1))

-- the view of a rejected record is not tested, and the memories do not keep it
pub refused_tested : (configuration : Configuration) (requirements : Requirements) (parts : ℕ → Part) (ordered : Ordered) (found : Refused) → found.pos ≡ ordered.pos
    → IsTested configuration requirements parts (ordered ∷ []) (Some found) None requirements.kept
refused_tested configuration requirements parts ordered found place =
    let none : up_to (Some found) (ordered ∷ []) ≡ [] = rw (not_before found.pos ordered.pos (sym place)) refl in
    record {
      views = [];
      viewed = subst (λ (list : List Ordered). AreViews configuration parts list []) (sym none) refl;
      first = λ index one within. absurd (omega (arith, within));
      reported = tt;
      remembered = refl;
    }

-- the view of an accepted record

-- a piece that gives a view of it judges it
pub own_view : (configuration : Configuration) (ordered : Ordered) (old : List Holding) (number : ℕ) (view : View) → AreGoing configuration ordered.pos old → number < length old
    → view_in (parts_in old number) ordered ≡ Some view → IsViewOf configuration (parts_in old) [] ordered view
own_view configuration ordered old number view going inside seen =
    let within : number < length (pieces configuration) = omega (arith, inside, going.whole) in
    record {
      number = number;
      within = within;
      judges = (gives configuration (parts_in old) number (going.each number within).whose).only [] ordered (parts_in old number) view refl seen;
      reached = parts_in old number;
      run = refl;
      seen = seen;
    }

-- some piece gives it
next_view : (configuration : Configuration) (ordered : Ordered) (old : List Holding) (final : ℕ → Part) → AreGoing configuration ordered.pos old
    → AllRun configuration (parts_in old) (ordered ∷ []) final → (number : ℕ) × (number < length old) × (view : View) × (view_in (parts_in old number) ordered ≡ Some view)
next_view configuration ordered old final going run =
    let some : 0 < length (pieces configuration) = omega arith in
    let judge = judged_by configuration (parts_in old) [] ordered (going.each 0 some).whose (final 0, run 0 some) in
    let view = (gives configuration (parts_in old) judge.0 (going.each judge.0 judge.1).whose).always [] ordered (parts_in old judge.0) refl judge.2 in
    (judge.0, omega (arith, judge.1, going.whole), view.0, view.1)

one_view : (configuration : Configuration) (parts : ℕ → Part) (ordered : Ordered) (view : View) → IsViewOf configuration parts [] ordered view
    → AreViews configuration parts (ordered ∷ []) (view ∷ [])
one_view configuration parts ordered view is = (view, [], refl, is, refl)

viewed_next : (configuration : Configuration) (requirements : Requirements) (ordered : Ordered) (old : List Holding) (number : ℕ) (view : View) (breach : Option Breach) (kept : List (List Cell))
    → AreGoing configuration ordered.pos old → number < length old → view_in (parts_in old number) ordered ≡ Some view → IsFirstBroken requirements (view ∷ []) (broken_of breach)
    → IfSome breach (λ one. slice_get (view ∷ []) one.seen.index ≡ Some one.seen.view) → kept ≡ kept_after requirements.memories requirements.kept (passed (broken_of breach) (view ∷ []))
    → IsTested configuration requirements (parts_in old) (ordered ∷ []) None breach kept
viewed_next configuration requirements ordered old number view breach kept going inside seen first reported remembered = record {
  views = view ∷ [];
  viewed = one_view configuration (parts_in old) ordered view (own_view configuration ordered old number view going inside seen);
  first = first;
  reported = reported;
  remembered = remembered;
}

-- a record of which no piece gives a view is not accepted
unviewed_next : (configuration : Configuration) (requirements : Requirements) (ordered : Ordered) (old : List Holding) (final : ℕ → Part) (breach : Option Breach) (kept : List (List Cell))
    → AreGoing configuration ordered.pos old → ((number : ℕ) → number < length old → view_in (parts_in old number) ordered ≡ None) → AllRun configuration (parts_in old) (ordered ∷ []) final
    → IsTested configuration requirements (parts_in old) (ordered ∷ []) None breach kept
unviewed_next configuration requirements ordered old final breach kept going none run =
    let next = next_view configuration ordered old final going run in
    let no : ◌≡◌ {A = Option View} (Some next.2) None = sym next.3 ∙ none next.0 next.1 in
    absurd cc

-- its view is tested, if it has one
pub tested_next : (configuration : Configuration) (requirements : Requirements) (ordered : Ordered) (old : List Holding) (final : ℕ → Part) (view : Option View) (breach : Option Breach) (kept : List (List Cell))
    → AreGoing configuration ordered.pos old → AllRun configuration (parts_in old) (ordered ∷ []) final
    → IfSome view (λ one. (number : ℕ) × (number < length old) × (view_in (parts_in old number) ordered ≡ Some one))
    → (view ≡ None → (number : ℕ) → number < length old → view_in (parts_in old number) ordered ≡ None)
    → IfSome view (λ one. IsFirstBroken requirements (one ∷ []) (broken_of breach))
    → IfSome view (λ one. IfSome breach (λ found. slice_get (one ∷ []) found.seen.index ≡ Some found.seen.view))
    → IfSome view (λ one. kept ≡ kept_after requirements.memories requirements.kept (passed (broken_of breach) (one ∷ [])))
    → IsTested configuration requirements (parts_in old) (ordered ∷ []) None breach kept
tested_next configuration requirements ordered old final (Some view) breach kept going run given none first reported remembered =
    viewed_next configuration requirements ordered old given.0 view breach kept going given.1 given.2 first reported remembered
tested_next configuration requirements ordered old final None breach kept going run given none first reported remembered =
    unviewed_next configuration requirements ordered old final breach kept going (none refl) run

-- each piece holds before the next record
pub holds_each : (configuration : Configuration) (place : ℕ) (old : List Holding) → AreGoing configuration place old
    → (number : ℕ) (default : Holding) → number < length old → HoldsBefore place (slice_index_or old number default).part
holds_each configuration place old going number default inside =
    let within : number < length (pieces configuration) = omega (arith, inside, going.whole) in
    subst (λ (holding : Holding). HoldsBefore place holding.part) (holding_at-get old number default inside) (going.each number within).holds_before

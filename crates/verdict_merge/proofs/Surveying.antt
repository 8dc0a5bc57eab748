-- The outcome of a round under memories and rules.
use Rattle.std.proofs.Common.{◌≡◌, ◌<◌, ◌≤◌, ◌+◌, ◌-◌, ◌∙◌, ℕ, suc, List, [], ◌∷◌, Option, Some, None, true, false, not, length, nat_eq, take, ap, refl, subst, arith}
use Rattle.std.specs.Prelude.{IfSome, slice_get}
use Rattle.std.proofs.lemmas.Bool.Decides.{nat_tests}
use Rattle.std.proofs.lemmas.List.{length-append, length-take}
use Rattle.apex_types.specs.declared.record.Ordered.{Ordered}
use Rattle.apex_types.specs.declared.view.View.{View}
use Rattle.apex_machine.specs.Configuration.{Configuration}
use Rattle.apex_machine.specs.Runs.{ArePlaced}
use Rattle.piece_check.specs.Parts.{Holding}
use Rattle.user_rules.proofs.FirstBroken.{valued_length}
use Rattle.user_rules.specs.declared.broken.Broken.{Broken}
use Rattle.user_rules.specs.declared.memory.Cell.{Cell}
use Rattle.user_rules.specs.declared.memory.RuleMemory.{RuleMemory}
use Rattle.user_rules.specs.declared.relation.Relation.{Relation}
use Rattle.user_rules.specs.FirstBroken.{IsFirstBroken}
use Rattle.user_rules.specs.Passed.{passed}
use Rattle.user_rules.specs.Remembered.{Requirements, kept_after}
use Rattle.verdict_merge.specs.declared.breach.Breach.{Breach}
use Rattle.verdict_merge.specs.declared.finding.Refused.{Refused}
use Rattle.verdict_merge.specs.declared.survey.Survey.{Survey}
use Rattle.verdict_merge.specs.Memories.{IsSurveyedUnder, has_any, tested_at_once}
use Rattle.verdict_merge.specs.Rounds.{HaveRunOver, IsSurveyed, parts_in}
use Rattle.verdict_merge.specs.Views.{AreViews, broken_of, count_before, up_to}
use Rattle.verdict_merge.proofs.Ruled.{length_viewed, tested_alone}
use Rattle.verdict_merge.proofs.Splits.{place_after}
use Rattle.verdict_merge.proofs.Watching.{counted_are, have_run_over}

-- whether there is a memory, by their number
pub any_there : (memories : List RuleMemory) → not (nat_eq (length memories) 0) ≡ has_any memories
any_there [] = refl
any_there (memory ∷ memories) = let some : nat_eq (length (memory ∷ memories)) 0 ≡ false = grind (arith, nat_tests) in ap not some

-- with memories no relation is tested at once, and without memories each is
pub none_at_once : (memories : List RuleMemory) (relations : List Relation) → has_any memories ≡ true → [] ≡ tested_at_once memories relations
none_at_once [] relations some = let none : false ≡ true = some in cc
none_at_once (memory ∷ memories) relations some = refl

pub all_at_once : (memories : List RuleMemory) (relations : List Relation) → has_any memories ≡ false → relations ≡ tested_at_once memories relations
all_at_once [] relations none = refl
all_at_once (memory ∷ memories) relations none = let some : true ≡ false = none in cc

-- without memories, the pieces have tested their views by all rules
pub surveyed_alone : (configuration : Configuration) (first : ℕ) (records : List Ordered) (memories : List RuleMemory) (kept : List (List Cell)) (relations : List Relation) (old : List Holding) (survey : Survey)
    → has_any memories ≡ false → IsSurveyed configuration first records (tested_at_once memories relations) old survey
    → IsSurveyedUnder configuration first records (record { memories = memories; kept = kept; relations = relations }) old survey kept
surveyed_alone configuration first records [] kept relations old survey none is = record {
  outcome = is.outcome;
  tested = tested_alone configuration relations kept (parts_in old) records survey.found survey.breach is.tested;
  going = is.going;
}
surveyed_alone configuration first records (memory ∷ memories) kept relations old survey none is = let some : true ≡ false = none in cc

-- the place of a refusal is one of the records'
pub refused_inside : (configuration : Configuration) (old new : List Holding) (records : List Ordered) (first : ℕ) (found : Option Refused) → ArePlaced first records
    → HaveRunOver configuration old records found new → IfSome found (λ refused. (first ≤ refused.pos) × (refused.pos - first ≤ length records))
refused_inside configuration old new records first None placed outcome = tt
refused_inside configuration old new records first (Some refused) placed (is_shown, left) =
    let at = place_after first is_shown.before is_shown.ordered is_shown.after (subst (ArePlaced first) is_shown.split placed) in
    let whole : length records ≡ length is_shown.before + suc (length is_shown.after) = ap length is_shown.split ∙ length-append is_shown.before (is_shown.ordered ∷ is_shown.after) in
    (omega (arith, is_shown.place, at), omega (arith, is_shown.place, at, whole))

-- so no more records come before it than there are
pub before_within : (first : ℕ) (records : List Ordered) (found : Option Refused) → IfSome found (λ refused. (first ≤ refused.pos) × (refused.pos - first ≤ length records))
    → count_before first records found ≤ length records
before_within first records None inside = omega arith
before_within first records (Some refused) inside = inside.1

-- the view that breaks a rule is one of the list
pub broken_inside : (requirements : Requirements) (views : List View) (broken : Broken) → IsFirstBroken requirements views (Some broken) → broken.view < length views
broken_inside requirements views broken first =
    omega (arith, valued_length requirements.memories requirements.kept views, ap length first.split, length-append first.before (first.view ∷ first.after), first.counted)

-- a list whose first views are those of the records before the rejected one has as many
pub views_there : (configuration : Configuration) (old new : List Holding) (first : ℕ) (records : List Ordered) (found : Option Refused) (views : List View) → ArePlaced first records
    → HaveRunOver configuration old records found new → AreViews configuration (parts_in old) (up_to found records) (take (count_before first records found) views)
    → count_before first records found ≤ length views
views_there configuration old new first records found views placed outcome viewed =
    let count = count_before first records found in
    let ran = have_run_over configuration old new records found outcome in
    omega (arith, length_viewed configuration (parts_in old) [] (up_to found records) (take count views) viewed, counted_are configuration (parts_in old) first records found placed ran, length-take count views)

-- with memories, the views of the records before the rejected one are tested in their order
pub surveyed_in_order : (configuration : Configuration) (first : ℕ) (records : List Ordered) (requirements : Requirements) (relations : List Relation) (old : List Holding) (gathered : Survey) (breach : Option Breach) (views : List View) (kept : List (List Cell))
    → IsSurveyed configuration first records relations old gathered → AreViews configuration (parts_in old) (up_to gathered.found records) views
    → IsFirstBroken requirements views (broken_of breach) → IfSome breach (λ one. slice_get views one.seen.index ≡ Some one.seen.view)
    → kept ≡ kept_after requirements.memories requirements.kept (passed (broken_of breach) views)
    → IsSurveyedUnder configuration first records requirements old (record { found = gathered.found; breach = breach; pieces = gathered.pieces }) kept
surveyed_in_order configuration first records requirements relations old gathered breach views kept is viewed broken reported remembered = record {
  outcome = is.outcome;
  tested = record {
    views = views;
    viewed = viewed;
    first = broken;
    reported = reported;
    remembered = remembered;
  };
  going = is.going;
}

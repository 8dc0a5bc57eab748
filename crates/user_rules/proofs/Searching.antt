-- A search for a broken view, with the values of memories, view by view.
use Rattle.std.proofs.Common.{◌≡◌, ◌<◌, ◌+◌, ◌∙◌, ℕ, ℤ, suc, List, [], ◌∷◌, ◌++◌, length, map, take, drop, get_or, arith, ap, refl, subst, sym}
use Rattle.std.proofs.Math.Seq.{split_at}
use Rattle.std.proofs.lemmas.List.{length-take-le, take_more}
use Rattle.std.proofs.lemmas.List.Elements.{All-append, All-cons, All-nil}
use Rattle.std.specs.List.{All}
use Rattle.apex_types.specs.declared.view.View.{View}
use Rattle.user_rules.specs.declared.memory.Cell.{Cell}
use Rattle.user_rules.specs.declared.memory.RuleMemory.{RuleMemory}
use Rattle.user_rules.specs.declared.relation.Relation.{Relation}
use Rattle.user_rules.specs.FirstBroken.{IsFirstRuleBroken, IsFirstViewBroken, MeetsAll}
use Rattle.user_rules.specs.Meets.{alone, with_values}
use Rattle.user_rules.specs.Memories.{kept_after_view, values_at}
use Rattle.user_rules.specs.Remembered.{kept_after, valued_after, valued_at}
use Rattle.user_rules.proofs.FirstBroken.{valued_append, valued_length}

pub kept_append : (memories : List RuleMemory) (kept : List (List Cell)) (front back : List View)
    → kept_after memories kept (front ++ back) ≡ kept_after memories (kept_after memories kept front) back
kept_append memories kept [] back = refl
kept_append memories kept (view ∷ front) back = kept_append memories (kept_after_view memories kept (valued_at memories kept view)) front back

-- where there are no memories

pub valued_alone : (kept : List (List Cell)) (views : List View) → valued_after [] kept views ≡ map alone views
valued_alone kept [] = refl
valued_alone kept (view ∷ views) = ap (λ list. alone view ∷ list) (valued_alone kept views)

pub kept_alone : (kept : List (List Cell)) (views : List View) → kept_after [] kept views ≡ kept
kept_alone kept [] = refl
kept_alone kept (view ∷ views) = kept_alone kept views

module _ (memories : List RuleMemory) (kept : List (List Cell)) (relations : List Relation) (views : List View) (place : ℕ) (default : View)
    (now : List (List Cell)) (values : List ℤ) (within : place < length views) (met : All (MeetsAll relations) (valued_after memories kept (take place views)))
    (reached : now ≡ kept_after memories kept (take place views)) (read : values ≡ values_at memories now (get_or views place default)) where
  abbrev here : View
  here = get_or views place default

  -- the values that were read are those at the view
  is_here : with_values here values ≡ valued_at memories (kept_after memories kept (take place views)) here
  is_here = ap (with_values here) (read ∙ ap (λ keeps. values_at memories keeps here) reached)

  -- the view breaks a rule
  pub broken_here : (rule : ℕ) → IsFirstRuleBroken relations (with_values here values) rule
      → IsFirstViewBroken relations (valued_after memories kept views) (record { view = place; rule = rule })
  broken_here rule first =
      let front = take place views in
      let reached_there = kept_after memories kept front in
      let one = valued_at memories reached_there here in
      record {
        before = valued_after memories kept front;
        view = one;
        after = valued_after memories (kept_after_view memories reached_there one) (drop (suc place) views);
        split = ap (valued_after memories kept) (split_at views place default within) ∙ valued_append memories kept front (here ∷ drop (suc place) views);
        counted = valued_length memories kept front ∙ length-take-le place views (omega (arith, within));
        met = met;
        first = subst (λ valued. IsFirstRuleBroken relations valued rule) is_here first;
      }

  -- the view meets every rule
  pub met_here : MeetsAll relations (with_values here values) → All (MeetsAll relations) (valued_after memories kept (take (place + 1) views))
  met_here all =
      let front = take place views in
      subst (All (MeetsAll relations)) (sym (ap (valued_after memories kept) (take_more views place default within) ∙ valued_append memories kept front (here ∷ [])))
      (All-append (MeetsAll relations) (valued_after memories kept front) (valued_at memories (kept_after memories kept front) here ∷ []) met
      (All-cons (MeetsAll relations) _ [] (subst (MeetsAll relations) is_here all) (All-nil (MeetsAll relations))))

  -- and is kept
  pub kept_here : (next : List (List Cell)) → next ≡ kept_after_view memories now (with_values here values) → next ≡ kept_after memories kept (take (place + 1) views)
  kept_here next is =
      let front = take place views in
      is ∙ ap (λ keeps. kept_after_view memories keeps (with_values here values)) reached
      ∙ ap (kept_after_view memories (kept_after memories kept front)) is_here
      ∙ sym (ap (kept_after memories kept) (take_more views place default within) ∙ kept_append memories kept front (here ∷ []))

-- The first broken view: how it is found, that it is one, and what views after others leave of it.
use Rattle.std.proofs.Common.{cond, nat_lt, ⊎_elim, ◌≡◌, ◌<◌, ◌≤◌, ◌+◌, ◌∙◌, ℕ, suc, Bool, true, false, not, List, [], ◌∷◌, ◌++◌, Option, Some, None, length, take, drop, get_or, is_some, map, arith, ap, refl, subst, sym, append_assoc, true≢false}
use Rattle.std.proofs.Math.ListN.{get_or-map}
use Rattle.std.proofs.Math.Seq.{split_at}
use Rattle.std.proofs.lemmas.Bool.{cases_lt, lt-ltb}
use Rattle.std.proofs.lemmas.List.{get_or-map as mapped, get_or-take, length-append, length-map, length-take-le, take-map, take_all}
use Rattle.std.proofs.lemmas.List.Elements.{All-append, All-map}
use Rattle.std.proofs.lemmas.List.Quantifiers.{position-Some}
use Rattle.std.proofs.lemmas.List.Sums.{AllPass-from_list_all, fails_before_first, list_all-from_AllPass}
use Rattle.std.specs.List.{All, list_all, position, position_or_len}
use Rattle.apex_types.specs.declared.view.View.{View}
use Rattle.user_rules.specs.declared.memory.Cell.{Cell}
use Rattle.user_rules.specs.declared.memory.RuleMemory.{RuleMemory}
use Rattle.user_rules.specs.declared.broken.Broken.{Broken}
use Rattle.user_rules.specs.declared.relation.Relation.{Relation}
use Rattle.user_rules.specs.FirstBroken.{AllMeet, IsFirstAmong, IsFirstBroken, IsFirstRuleBroken, IsFirstViewBroken, MeetsAll, moved_by}
use Rattle.user_rules.specs.Meets.{Valued, alone, meets}
use Rattle.user_rules.specs.Memories.{kept_after_view}
use Rattle.user_rules.specs.Remembered.{Requirements, after, kept_after, valued, valued_after, valued_at}
use Rattle.user_rules.specs.Search.{IsFirstRule, IsFirstView, breaks_one}
use Rattle.user_rules.proofs.Firsts.{all_more, none_lacks, one_split}

-- it is one

lacks : (value : Bool) → value ≡ false → ¬ (value ≡ true)
lacks value is_false is_true = true≢false (sym is_true ∙ is_false)

-- a view that breaks a rule does not meet them all
pub meets_not_all : (relations : List Relation) (view : Valued) (rule : ℕ) → IsFirstRuleBroken relations view rule → ¬ MeetsAll relations view
meets_not_all relations view rule first all =
    lacks _ first.unmet (none_lacks (λ relation. meets relation view ≡ true) first.earlier first.relation first.later relations first.split all)

-- a view breaks one rule first
one_first_rule : (relations : List Relation) (view : Valued) (one other : ℕ) → IsFirstRuleBroken relations view one → IsFirstRuleBroken relations view other → one ≡ other
one_first_rule relations view one other first second =
    let same = one_split (λ relation. meets relation view ≡ true) first.earlier first.relation first.later second.earlier second.relation second.later
    (sym first.split ∙ second.split) first.met (lacks _ first.unmet) second.met (lacks _ second.unmet) in
    sym first.counted ∙ same.0 ∙ second.counted

one_view_broken : (relations : List Relation) (views : List Valued) (one other : Broken) → IsFirstViewBroken relations views one → IsFirstViewBroken relations views other
    → one ≡ other
one_view_broken relations views one other first second =
    let same = one_split (MeetsAll relations) first.before first.view first.after second.before second.view second.after
    (sym first.split ∙ second.split) first.met (meets_not_all relations first.view one.rule first.first)
    second.met (meets_not_all relations second.view other.rule second.first) in
    let view : one.view ≡ other.view = sym first.counted ∙ same.0 ∙ second.counted in
    let rule : one.rule ≡ other.rule = one_first_rule relations second.view one.rule other.rule
    (subst (λ view. IsFirstRuleBroken relations view one.rule) same.1 first.first) second.first in
    λ i. record { view = view i; rule = rule i }

none_and_some : (relations : List Relation) (views : List Valued) (broken : Broken) → All (MeetsAll relations) views → ¬ IsFirstViewBroken relations views broken
none_and_some relations views broken all first =
    meets_not_all relations first.view broken.rule first.first
    (none_lacks (MeetsAll relations) first.before first.view first.after views first.split all)

-- views with the values at them, one list after another

pub valued_length : (memories : List RuleMemory) (kept : List (List Cell)) (views : List View) → length (valued_after memories kept views) ≡ length views
valued_length memories kept [] = refl
valued_length memories kept (view ∷ views) = ap suc (valued_length memories (kept_after_view memories kept (valued_at memories kept view)) views)

pub valued_append : (memories : List RuleMemory) (kept : List (List Cell)) (front back : List View)
    → valued_after memories kept (front ++ back) ≡ valued_after memories kept front ++ valued_after memories (kept_after memories kept front) back
valued_append memories kept [] back = refl
valued_append memories kept (view ∷ front) back =
    ap (λ list. valued_at memories kept view ∷ list) (valued_append memories (kept_after_view memories kept (valued_at memories kept view)) front back)

one_among : (relations : List Relation) (views : List Valued) (one other : Option Broken)
    → IsFirstAmong relations views one → IsFirstAmong relations views other → one ≡ other
one_among relations views None None all others_all = refl
one_among relations views None (Some other) all first = absurd (none_and_some relations views other all first)
one_among relations views (Some one) None first all = absurd (none_and_some relations views one all first)
one_among relations views (Some one) (Some other) first second = ap Some (one_view_broken relations views one other first second)

pub one_first_broken : (requirements : Requirements) (views : List View) (one other : Option Broken)
    → IsFirstBroken requirements views one → IsFirstBroken requirements views other → one ≡ other
one_first_broken requirements views = one_among requirements.relations (valued requirements views)

-- lists of views, one after another

among_after : (relations : List Relation) (front back : List Valued) (found : Option Broken)
    → All (MeetsAll relations) front → IsFirstAmong relations back found → IsFirstAmong relations (front ++ back) (moved_by (length front) found)
among_after relations front back None all others_all = All-append (MeetsAll relations) front back all others_all
among_after relations front back (Some broken) all first = record {
  before = front ++ first.before;
  view = first.view;
  after = first.after;
  split = ap (λ list. front ++ list) first.split ∙ sym (append_assoc front first.before (first.view ∷ first.after));
  counted = length-append front first.before ∙ ap (λ count. length front + count) first.counted;
  met = All-append (MeetsAll relations) front first.before all first.met;
  first = first.first;
}

among_stays : (relations : List Relation) (front back : List Valued) (broken : Broken)
    → IsFirstAmong relations front (Some broken) → IsFirstAmong relations (front ++ back) (Some broken)
among_stays relations front back broken first = record {
  before = first.before;
  view = first.view;
  after = first.after ++ back;
  split = ap (λ list. list ++ back) first.split ∙ append_assoc first.before (first.view ∷ first.after) back;
  counted = first.counted;
  met = first.met;
  first = first.first;
}

pub first_broken_after : (requirements : Requirements) (front back : List View) (found : Option Broken)
    → AllMeet requirements front → IsFirstBroken (after requirements front) back found
    → IsFirstBroken requirements (front ++ back) (moved_by (length front) found)
first_broken_after requirements front back found all first =
    let memories = requirements.memories in
    let kept = requirements.kept in
    let moved = among_after requirements.relations (valued requirements front) (valued (after requirements front) back) found all first in
    subst (λ count. IsFirstAmong requirements.relations (valued requirements (front ++ back)) (moved_by count found))
    (valued_length memories kept front)
    (subst (λ list. IsFirstAmong requirements.relations list (moved_by (length (valued requirements front)) found))
    (sym (valued_append memories kept front back)) moved)

pub first_broken_stays : (requirements : Requirements) (front back : List View) (broken : Broken)
    → IsFirstBroken requirements front (Some broken) → IsFirstBroken requirements (front ++ back) (Some broken)
first_broken_stays requirements front back broken first =
    subst (λ list. IsFirstAmong requirements.relations list (Some broken))
    (sym (valued_append requirements.memories requirements.kept front back))
    (among_stays requirements.relations (valued requirements front) (valued (after requirements front) back) broken first)

-- how it is found

-- a rule that is unmet, if all before its place are met
pub rule_here : (relations : List Relation) (view : Valued) (rule : ℕ) (default : Relation) → rule < length relations → MeetsAll (take rule relations) view
    → meets (get_or relations rule default) view ≡ false → IsFirstRuleBroken relations view rule
rule_here relations view rule default within met unmet = record {
  earlier = take rule relations;
  relation = get_or relations rule default;
  later = drop (suc rule) relations;
  split = split_at relations rule default within;
  counted = length-take-le rule relations (omega (arith, within));
  met = met;
  unmet = unmet;
}

-- a view that breaks a rule, if all before its place meet every rule
pub view_here : (relations : List Relation) (views : List Valued) (place rule : ℕ) (default : Valued) → place < length views → All (MeetsAll relations) (take place views)
    → IsFirstRuleBroken relations (get_or views place default) rule → IsFirstViewBroken relations views (record { view = place; rule = rule })
view_here relations views place rule default within met first = record {
  before = take place views;
  view = get_or views place default;
  after = drop (suc place) views;
  split = split_at views place default within;
  counted = length-take-le place views (omega (arith, within));
  met = met;
  first = first;
}

-- whether a view breaks a rule, by the rule that was found
pub breaks_by : (relations : List Relation) (view : Valued) (found : Option ℕ) → IsFirstRule relations view found → is_some found ≡ breaks_one relations view
breaks_by relations view None all = sym (ap not (list_all-from_AllPass (λ relation. meets relation view) relations all))
breaks_by relations view (Some rule) first = by (list_all (λ relation. meets relation view) relations) refl
  where
    by : (all : Bool) → list_all (λ relation. meets relation view) relations ≡ all → true ≡ breaks_one relations view
    by true all = absurd (meets_not_all relations view rule first (AllPass-from_list_all (λ relation. meets relation view) relations all))
    by false some = sym (ap not some)

module _ {Stated : Type 0} (says : Stated → Relation) where
  pub rule_at : (rules : List Stated) (view : Valued) (place : ℕ) (here : Stated) → place < length rules → MeetsAll (take place (map says rules)) view
      → here ≡ get_or rules place here → meets (says here) view ≡ false → IsFirstRuleBroken (map says rules) view place
  rule_at rules view place here within met is unmet =
      rule_here (map says rules) view place (says here) (subst (λ count. place < count) (sym (length-map rules says)) within) met
      (ap (λ relation. meets relation view) (get_or-map says rules place here ∙ ap says (sym is)) ∙ unmet)

  pub rule_met : (rules : List Stated) (view : Valued) (place : ℕ) (here : Stated) → place < length rules → MeetsAll (take place (map says rules)) view
      → here ≡ get_or rules place here → meets (says here) view ≡ true → MeetsAll (take (place + 1) (map says rules)) view
  rule_met rules view place here within met is here_met =
      all_more (λ relation. meets relation view ≡ true) (map says rules) place (says here)
      (subst (λ count. place < count) (sym (length-map rules says)) within) met
      (ap (λ relation. meets relation view) (get_or-map says rules place here ∙ ap says (sym is)) ∙ here_met)

  pub all_met : (rules : List Stated) (view : Valued) (place : ℕ) → length rules ≤ place → MeetsAll (take place (map says rules)) view → MeetsAll (map says rules) view
  all_met rules view place whole met =
      subst (λ relations. MeetsAll relations view)
      (take_all place (map says rules) (subst (λ count. count ≤ place) (sym (length-map rules says)) whole)) met

module _ {X : Type 0} (p : X → Bool) (list : List X) where
  -- if a search finds nothing, no element passes
  none_passes : position p list ≡ None → (place : ℕ) (default : X) → place < length list → p (get_or list place default) ≡ false
  none_passes none place default within = fails_before_first p list place default (by (nat_lt (position_or_len p list) (length list)) refl none)
    where
      by : (less : Bool) → nat_lt (position_or_len p list) (length list) ≡ less → ◌≡◌ {A = Option ℕ} (cond less (Some (position_or_len p list)) None) None
          → place < position_or_len p list
      by true is found = cc
      by false is found = ⊎_elim (λ less. absurd (true≢false (sym (lt-ltb _ _ less) ∙ is))) (λ past. omega (arith, within)) (cases_lt (position_or_len p list) (length list))

-- a view that breaks none of the rules meets them all
breaks_none : (relations : List Relation) (view : Valued) → breaks_one relations view ≡ false → MeetsAll relations view
breaks_none relations view none = AllPass-from_list_all (λ relation. meets relation view) relations (turned _ none)
  where
    turned : (all : Bool) → not all ≡ false → all ≡ true
    turned true is = refl
    turned false is = absurd (true≢false is)

breaks_not_all : (relations : List Relation) (view : Valued) → breaks_one relations view ≡ true → ¬ MeetsAll relations view
breaks_not_all relations view one all =
    true≢false (sym one ∙ ap not (list_all-from_AllPass (λ relation. meets relation view) relations all))

-- views where there are no memories

valued_at_place : (views : List View) (place : ℕ) (default : View) (other : Valued) → place < length views
    → get_or (map alone views) place other ≡ alone (get_or views place default)
valued_at_place views place default other within = mapped alone views place default other within

-- a view that breaks a rule, if all before its place meet every rule
pub alone_here : (relations : List Relation) (views : List View) (place rule : ℕ) (default : View) → place < length views
    → All (MeetsAll relations) (take place (map alone views)) → IsFirstRuleBroken relations (alone (get_or views place default)) rule
    → IsFirstViewBroken relations (map alone views) (record { view = place; rule = rule })
alone_here relations views place rule default within met first =
    view_here relations (map alone views) place rule (alone default) (subst (λ count. place < count) (sym (length-map views alone)) within) met
    (subst (λ one. IsFirstRuleBroken relations one rule) (sym (get_or-map alone views place default)) first)

-- what holds up to a view, and at it, holds up to the next
pub alone_met : (relations : List Relation) (views : List View) (place : ℕ) (default : View) → place < length views
    → All (MeetsAll relations) (take place (map alone views)) → MeetsAll relations (alone (get_or views place default))
    → All (MeetsAll relations) (take (place + 1) (map alone views))
alone_met relations views place default within met here =
    all_more (MeetsAll relations) (map alone views) place (alone default) (subst (λ count. place < count) (sym (length-map views alone)) within) met
    (subst (MeetsAll relations) (sym (get_or-map alone views place default)) here)

-- if a view breaks a rule at whatever default, it does not meet them all
pub not_all_met : (relations : List Relation) (views : List View) (place : ℕ) (default : View)
    → ((other : Valued) → ¬ MeetsAll relations (get_or (map alone views) place other)) → ¬ MeetsAll relations (alone (get_or views place default))
not_all_met relations views place default breaks all = breaks (alone default) (subst (MeetsAll relations) (sym (get_or-map alone views place default)) all)

pub all_alone_met : (relations : List Relation) (views : List View) (place : ℕ) → length views ≤ place
    → All (MeetsAll relations) (take place (map alone views)) → All (MeetsAll relations) (map alone views)
all_alone_met relations views place whole met =
    subst (All (MeetsAll relations)) (take_all place (map alone views) (subst (λ count. count ≤ place) (sym (length-map views alone)) whole)) met

-- what a search by `breaks_one` answers, where there are no memories
pub view_found : (relations : List Relation) (views : List View) (found : Option ℕ) → found ≡ position (λ view. breaks_one relations (alone view)) views
    → IsFirstView relations (map alone views) found
view_found relations views None is =
    All-map (MeetsAll relations) alone views (λ place default within.
    breaks_none relations _ (none_passes (λ view. breaks_one relations (alone view)) views (sym is) place default within))
view_found relations [] (Some place) is = absurd (cc is)
view_found relations (first ∷ others) (Some place) is =
    let views = first ∷ others in
    let breaks : View → Bool = λ view. breaks_one relations (alone view) in
    let within = (position-Some breaks views place first (sym is)).0 in
    let count = length-take-le place views (omega (arith, within)) in (
      subst (λ count. place < count) (sym (length-map views alone)) within,
      subst (All (MeetsAll relations)) (sym (take-map alone place views))
          (All-map (MeetsAll relations) alone (take place views) (λ earlier default before.
          let near : earlier < place = omega (arith, before, count) in
          subst (λ view. MeetsAll relations (alone view)) (sym (get_or-take place views earlier default near))
          (breaks_none relations _ ((position-Some breaks views place default (sym is)).2 earlier near)))),
      λ default. subst (λ one. ¬ MeetsAll relations one) (sym (valued_at_place views place first default within))
          (breaks_not_all relations _ (position-Some breaks views place first (sym is)).1),
    )

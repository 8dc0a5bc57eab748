-- The first view that breaks a rule, among what one piece sees and among the views of all pieces.
use Rattle.std.proofs.Common.{◌≡◌, ◌≢◌, ◌<◌, ◌≤◌, ◌∙◌, if◌then◌else◌, ℕ, List, [], ◌∷◌, ◌++◌, Bool, true, false, Option, Some, None, get_or, length, set, take, nat_lt, refl, sym, ap, subst, inl, inr, arith}
use Rattle.std.specs.List.{All}
use Rattle.std.specs.Prelude.{Contains}
use Rattle.std.proofs.lemmas.Bool.{cases_eq}
use Rattle.std.proofs.lemmas.Bool.Decides.{nat_tests}
use Rattle.std.proofs.lemmas.List.{get_or-set_other, get_or-set_same, get_or-take, length-set, length-take-le, take-map}
use Rattle.std.proofs.lemmas.List.Elements.{All-map, Contains-append_cases, Contains-append_left, Contains-append_right}
use Rattle.std.proofs.lemmas.Option.{same_Some, slice_get-get_or}
use Rattle.apex_types.specs.declared.record.Ordered.{Ordered}
use Rattle.apex_types.specs.declared.view.View.{View}
use Rattle.apex_machine.specs.Configuration.{Configuration}
use Rattle.apex_machine.specs.Pieces.{Part, pieces}
use Rattle.apex_machine.specs.Runs.{ArePlaced}
use Rattle.piece_check.specs.Parts.{piece_at}
use Rattle.user_rules.proofs.FirstBroken.{alone_here}
use Rattle.user_rules.specs.declared.relation.Relation.{Relation}
use Rattle.user_rules.specs.FirstBroken.{IsFirstRuleBroken, MeetsAll}
use Rattle.user_rules.specs.Meets.{alone}
use Rattle.verdict_merge.specs.declared.breach.Breach.{Breach}
use Rattle.verdict_merge.specs.declared.breach.Seen.{Seen}
use Rattle.verdict_merge.specs.declared.finding.Refused.{Refused}
use Rattle.verdict_merge.specs.Rounds.{IsTestedAlone}
use Rattle.verdict_merge.specs.Views.{AreSeen, IsFirstBreach, AreViews, IsViewOf, breach_before, count_before, earlier, first_some, seen_of, up_to}
use Rattle.verdict_merge.proofs.Among.{contains_cases, contains_here, contains_none}
use Rattle.verdict_merge.proofs.Giving.{HaveRun}
use Rattle.verdict_merge.proofs.Slotted.{HaveSlots, put_in, put_in_from, slot_at, views_in}
use Rattle.verdict_merge.proofs.Viewing.{AreSound, Gives, seen_have_slots, view_there}
use Rattle.verdict_merge.proofs.Watching.{held_at, length_held, views_are_wanted, wanted_within}

-- a view meets every rule where there are no memories
abbrev pub MeetsAlone : List Relation → View → Type 0
MeetsAlone relations view = MeetsAll relations (alone view)

-- what one piece sees

-- what is seen of one record is at its index
seen_at : (given : Option View) (index : ℕ) (one : Seen) → Contains (seen_of given index) one → one.index ≡ index
seen_at None index one there = absurd (contains_none one there)
seen_at (Some view) index one there = elim (contains_cases (record { index = index; view = view }) one [] there) [
  | inl same ↦ ap (λ (seen : Seen). seen.index) same
  | inr none ↦ absurd (contains_none one none)
]

-- the first breach of what was seen so far, and of one record after
pub breach_on : (relations : List Relation) (seen : List Seen) (given : Option View) (index : ℕ) (breach next : Option Breach)
    → ((one : Seen) → Contains seen one → one.index < index) → IsFirstBreach relations seen breach → IsFirstBreach relations (seen_of given index) next
    → IsFirstBreach relations (seen ++ seen_of given index) (first_some breach next)
breach_on relations seen given index None None less met also = λ one there. elim (Contains-append_cases seen (seen_of given index) one there) [
  | inl old ↦ met one old
  | inr new ↦ also one new
]
breach_on relations seen given index None (Some breach) less met (there, before, first) = (
  Contains-append_right seen (seen_of given index) breach.seen there,
  (λ one among smaller. elim (Contains-append_cases seen (seen_of given index) one among) [
    | inl old ↦ met one old
    | inr new ↦ before one new smaller
  ]),
  first,
)
breach_on relations seen given index (Some breach) next less (there, before, first) also = (
  Contains-append_left seen (seen_of given index) breach.seen there,
  (λ one among smaller. elim (Contains-append_cases seen (seen_of given index) one among) [
    | inl old ↦ before one old smaller
    | inr new ↦ absurd (omega (arith, smaller, seen_at given index one new, less breach.seen there))
  ]),
  first,
)

-- the view of one record that breaks a rule
pub one_breach : (relations : List Relation) (given : Option View) (index rule : ℕ) (view : View) → given ≡ Some view → IsFirstRuleBroken relations (alone view) rule
    → IsFirstBreach relations (seen_of given index) (Some (record { seen = record { index = index; view = view }; rule = rule }))
one_breach relations given index rule view is first =
    subst (λ one. IsFirstBreach relations (seen_of one index) (Some (record { seen = record { index = index; view = view }; rule = rule }))) (sym is) (
      contains_here (record { index = index; view = view }) [],
      (λ one there smaller. absurd (omega (arith, smaller, seen_at (Some view) index one there))),
      first,
    )

-- the view of one record that meets every rule
pub none_broken : (relations : List Relation) (given : Option View) (index : ℕ) (view : View) → given ≡ Some view → MeetsAlone relations view
    → IsFirstBreach relations (seen_of given index) None
none_broken relations given index view is met =
    subst (λ one. IsFirstBreach relations (seen_of one index) None) (sym is)
    (λ one there. elim (contains_cases (record { index = index; view = view }) one [] there) [
      | inl same ↦ subst (λ (seen : Seen). MeetsAlone relations seen.view) (sym same) met
      | inr none ↦ absurd (contains_none one none)
    ])

-- the views of all pieces

-- a breach among the views in these slots: it is of the record at its index, and the views in the slots before meet every rule
pub record IsBreachIn (configuration : Configuration) (parts : ℕ → Part) (relations : List Relation) (records : List Ordered) (slots : List (Option View)) (breach : Breach) : Type 0 where
  pub within : breach.seen.index < length records
  pub sound : (before : List Ordered) (ordered : Ordered) (after : List Ordered) → records ≡ before ++ ordered ∷ after → breach.seen.index ≡ length before
      → IsViewOf configuration parts before ordered breach.seen.view
  pub before : (index : ℕ) (view : View) → index < breach.seen.index → slot_at slots index ≡ Some view → MeetsAlone relations view
  pub first : IsFirstRuleBroken relations (alone breach.seen.view) breach.rule

-- the first breach among the views in these slots; none if each meets every rule
abbrev pub IsFirstIn : Configuration → (ℕ → Part) → List Relation → List Ordered → List (Option View) → Option Breach → Type 0
IsFirstIn configuration parts relations records slots None = (index : ℕ) (view : View) → slot_at slots index ≡ Some view → MeetsAlone relations view
IsFirstIn configuration parts relations records slots (Some breach) = IsBreachIn configuration parts relations records slots breach

-- what one more piece has seen is put in
pub first_more : (configuration : Configuration) (parts : ℕ → Part) (relations : List Relation) (number : ℕ) (records : List Ordered) (found : Option Refused) (seen : List Seen) (slots : List (Option View))
    (old next : Option Breach) → number < length (pieces configuration) → Gives configuration parts number → length slots ≡ length records
    → AreSeen configuration (piece_at configuration number) (parts number) 0 (up_to found records) seen
    → IsFirstIn configuration parts relations records slots old → IsFirstBreach relations seen next
    → IsFirstIn configuration parts relations records (put_in seen slots) (earlier old next)
first_more configuration parts relations number records found seen slots old next inside gives whole are was is = by old next was is
  where
    have : HaveSlots seen slots
    have = seen_have_slots configuration parts number records found seen slots whole are

    -- a view in a slot was there, or is one of those seen
    meets_at : (index : ℕ) (view : View) → slot_at (put_in seen slots) index ≡ Some view → ((one : View) → slot_at slots index ≡ Some one → MeetsAlone relations one)
        → ((one : Seen) → Contains seen one → one.index ≡ index → MeetsAlone relations one.view) → MeetsAlone relations view
    meets_at index view held there here = elim (put_in_from seen slots index view have held) [
      | inl is_shown ↦ there view is_shown
      | inr (one, among, at, same) ↦ subst (MeetsAlone relations) same (here one among at)
    ]

    at_seen : (breach : Breach) → Contains seen breach.seen → IsFirstRuleBroken relations (alone breach.seen.view) breach.rule
        → ((index : ℕ) (view : View) → index < breach.seen.index → slot_at (put_in seen slots) index ≡ Some view → MeetsAlone relations view)
        → IsBreachIn configuration parts relations records (put_in seen slots) breach
    at_seen breach among first before = record {
      within = let less = have breach.seen among in omega (arith, less, whole);
      sound = λ front ordered back split at. view_there configuration parts number records found seen breach.seen inside gives are among front ordered back split at;
      before = before;
      first = first;
    }

    as_was : (breach : Breach) → IsBreachIn configuration parts relations records slots breach
        → ((one : Seen) → Contains seen one → one.index < breach.seen.index → MeetsAlone relations one.view)
        → IsBreachIn configuration parts relations records (put_in seen slots) breach
    as_was breach was met = record {
      within = was.within;
      sound = was.sound;
      before = λ index view less held. meets_at index view held (λ one there. was.before index one less there) (λ one among at. met one among (omega (arith, at, less)));
      first = was.first;
    }

    of_two : (one other : Breach) → IsBreachIn configuration parts relations records slots one → IsFirstBreach relations seen (Some other)
        → (smaller : Bool) → nat_lt other.seen.index one.seen.index ≡ smaller
        → IsFirstIn configuration parts relations records (put_in seen slots) (if smaller then Some other else Some one)
    of_two one other was (among, before, first) true is =
        let less : other.seen.index < one.seen.index = grind (arith, nat_tests, is) in
        at_seen other among first
        (λ index view smaller held. meets_at index view held (λ view' there. was.before index view' (omega (arith, smaller, less)) there)
        (λ seen' among' at. before seen' among' (omega (arith, at, smaller))))
    of_two one other was (among, before, first) false is =
        let most : one.seen.index ≤ other.seen.index = grind (arith, nat_tests, is) in
        as_was one was (λ seen' among' smaller. before seen' among' (omega (arith, smaller, most)))

    by : (old next : Option Breach) → IsFirstIn configuration parts relations records slots old → IsFirstBreach relations seen next
        → IsFirstIn configuration parts relations records (put_in seen slots) (earlier old next)
    by None None was is = λ index view held. meets_at index view held (was index) (λ one among at. is one among)
    by None (Some breach) was (among, before, first) = at_seen breach among first
        (λ index view smaller held. meets_at index view held (was index) (λ one among' at. before one among' (omega (arith, at, smaller))))
    by (Some breach) None was is = as_was breach was (λ one among smaller. is one among)
    by (Some one) (Some other) was is = of_two one other was is (nat_lt other.seen.index one.seen.index) refl

-- a fact of each of the first views
all_first : (Fact : View → Type 0) (views : List View) (count : ℕ) → count ≤ length views → ((index : ℕ) (one : View) → index < count → Fact (get_or views index one))
    → All Fact (take count views)
all_first Fact views count within each = λ index one less.
    let below : index < count = omega (arith, less, length-take-le count views within) in
    subst Fact (sym (get_or-take count views index one below)) (each index one below)

-- the breach that is reported of a round is the first of the views before the record that is refused
module _ (configuration : Configuration) (parts : ℕ → Part) (relations : List Relation) (first : ℕ) (records : List Ordered) (found : Option Refused)
    (placed : ArePlaced first records) (outcome : HaveRun configuration parts records found) where
  abbrev pub wanted : ℕ
  wanted = count_before first records found

  -- the views in the first slots, with a fact of each slot
  pub views_of : (slots : List (Option View)) → length slots ≡ length records → AreSound configuration parts records slots
      → ((index : ℕ) → index < wanted → (view : View) × (slot_at slots index ≡ Some view))
      → (views : List View) × AreViews configuration parts (up_to found records) views × (length views ≡ wanted)
      × ((index : ℕ) (one : View) → index < wanted → slot_at slots index ≡ Some (get_or views index one))
  views_of slots whole sound filled =
      let within : wanted ≤ length slots = wanted_within configuration parts first records found slots placed outcome whole in
      let held = views_in wanted slots within filled in
      let counted : length held.0 ≡ wanted = length_held held.0 wanted slots held.1 within in (
        held.0,
        views_are_wanted configuration parts first records found slots held.0 placed outcome whole sound held.1,
        counted,
        λ index one less. held_at held.0 wanted slots held.1 index (get_or held.0 index one) (slice_get-get_or held.0 index one (omega (arith, less, counted))),
      )

  -- if each of these views meets every rule
  none_tested : (slots : List (Option View)) → length slots ≡ length records → AreSound configuration parts records slots
      → ((index : ℕ) → index < wanted → (view : View) × (slot_at slots index ≡ Some view))
      → ((index : ℕ) (view : View) → index < wanted → slot_at slots index ≡ Some view → MeetsAlone relations view)
      → IsTestedAlone configuration relations parts records found None
  none_tested slots whole sound filled met =
      let are = views_of slots whole sound filled in record {
        views = are.0;
        viewed = are.1;
        first = All-map (MeetsAll relations) alone are.0
            (λ index one less. met index (get_or are.0 index one) (omega (arith, less, are.2)) (are.3 index one (omega (arith, less, are.2))));
        reported = tt;
      }

  -- if one of them breaks a rule: its view is put into its slot
  one_tested : (slots : List (Option View)) (breach : Breach) → length slots ≡ length records → AreSound configuration parts records slots
      → ((index : ℕ) → index < wanted → (view : View) × (slot_at slots index ≡ Some view))
      → IsBreachIn configuration parts relations records slots breach → breach.seen.index < wanted
      → IsTestedAlone configuration relations parts records found (Some breach)
  one_tested slots breach whole sound filled is less =
      let at = breach.seen.index in
      let within : at < length slots = omega (arith, is.within, whole) in
      let there = set slots at (Some breach.seen.view) in
      let same : slot_at there at ≡ Some breach.seen.view = get_or-set_same slots at (Some breach.seen.view) None within in
      let other : (index : ℕ) → index ≢ at → slot_at there index ≡ slot_at slots index = λ index apart. get_or-set_other slots at index (Some breach.seen.view) None apart in
      let sound_there : AreSound configuration parts records there =
      λ view before ordered after split held. elim (cases_eq (length before) at) [
        | inl here ↦
            subst (IsViewOf configuration parts before ordered) (same_Some breach.seen.view view (sym same ∙ ap (slot_at there) (sym here) ∙ held)) (is.sound before ordered after split (sym here))
        | inr apart ↦ sound view before ordered after split (sym (other (length before) apart) ∙ held)
      ] in
      let filled_there : (index : ℕ) → index < wanted → (view : View) × (slot_at there index ≡ Some view) =
      λ index below. elim (cases_eq index at) [
        | inl here ↦ (breach.seen.view, ap (slot_at there) here ∙ same)
        | inr apart ↦ let view = filled index below in (view.0, other index apart ∙ view.1)
      ] in
      let are = views_of there (length-set slots at (Some breach.seen.view) ∙ whole) sound_there filled_there in
      let view : get_or are.0 at breach.seen.view ≡ breach.seen.view = same_Some (get_or are.0 at breach.seen.view) breach.seen.view (sym (are.3 at breach.seen.view less) ∙ same) in
      let before : All (MeetsAlone relations) (take at are.0) =
      all_first (MeetsAlone relations) are.0 at (omega (arith, less, are.2))
      (λ index one smaller. is.before index (get_or are.0 index one) smaller
      (sym (other index (apart_by index smaller)) ∙ are.3 index one (omega (arith, smaller, less)))) in
      record {
        views = are.0;
        viewed = are.1;
        first = alone_here relations are.0 at breach.rule breach.seen.view (omega (arith, less, are.2))
            (subst (All (MeetsAll relations)) (sym (take-map alone at are.0)) (All-map (MeetsAll relations) alone (take at are.0) before))
            (subst (λ one. IsFirstRuleBroken relations (alone one) breach.rule) (sym view) is.first);
        reported = slice_get-get_or are.0 at breach.seen.view (omega (arith, less, are.2)) ∙ ap (λ one. Some one) view;
      }
    where
      apart_by : (index : ℕ) → index < breach.seen.index → index ≢ breach.seen.index
      apart_by index smaller same = omega (arith, smaller, same)

  pub is_tested : (slots : List (Option View)) (breach : Option Breach) → length slots ≡ length records → AreSound configuration parts records slots
      → ((index : ℕ) → index < wanted → (view : View) × (slot_at slots index ≡ Some view))
      → IsFirstIn configuration parts relations records slots breach → IsTestedAlone configuration relations parts records found (breach_before wanted breach)
  is_tested slots None whole sound filled met = none_tested slots whole sound filled (λ index view less held. met index view held)
  is_tested slots (Some breach) whole sound filled is = by (nat_lt breach.seen.index wanted) refl
    where
      by : (before : Bool) → nat_lt breach.seen.index wanted ≡ before → IsTestedAlone configuration relations parts records found (if before then Some breach else None)
      by true e = one_tested slots breach whole sound filled is (grind (arith, nat_tests, e))
      by false e =
          let most : wanted ≤ breach.seen.index = grind (arith, nat_tests, e) in
          none_tested slots whole sound filled (λ index view less held. is.before index view (omega (arith, less, most)) held)

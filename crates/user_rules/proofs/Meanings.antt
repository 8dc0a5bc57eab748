-- The values of memories, by what the cells have kept, are what the sentences say.
use Rattle.std.proofs.Common.{◌≡◌, ◌≢◌, ◌⊎◌, ◌<◌, ◌∙◌, ℕ, ℤ, zero, suc, Bool, true, false, List, [], ◌∷◌, ◌++◌, Option, Some, None, get_or, if◌then◌else◌, length, nat_eq, ◌||◌, pos, arith, ap, append_assoc, eq-eqb, eqb-true, inl, inr, ne_eqb, refl, subst, sym, true≢false}
use Rattle.std.proofs.lemmas.Bool.{cases_eq}
use Rattle.std.proofs.lemmas.List.{append-nil}
use Rattle.std.proofs.lemmas.List.Elements.{All-cons, All-nil, filter-append}
use Rattle.std.specs.List.{All}
use Rattle.apex_types.specs.declared.view.View.{View}
use Rattle.apex_types.specs.Fields.{field_of}
use Rattle.user_rules.specs.declared.memory.Cell.{Cell}
use Rattle.user_rules.specs.declared.memory.Counted.{Counted}
use Rattle.user_rules.specs.declared.memory.Keeps.{Keeps}
use Rattle.user_rules.specs.declared.memory.Keeps.TheVariants.{Since, Count, Last}
use Rattle.user_rules.specs.declared.memory.Mark.{Mark}
use Rattle.user_rules.specs.declared.memory.RuleMemory.{RuleMemory}
use Rattle.user_rules.specs.declared.relation.Relation.{Relation}
use Rattle.user_rules.specs.Meets.{Valued, meets, value_of}
use Rattle.user_rules.specs.Memories.{mark_after, mark_at, mark_of, cells_after, changes, elapsed_since, empty, holder_of, kept_after_view, latest, lowered, meets_given, nothing, put, raised, value_at, value_in, values_at}
use Rattle.user_rules.specs.Remembered.{valued_after, valued_at}
use Rattle.user_rules.specs.Sentences.{IsLast, IsLastMet, IsSince, IsValueOf, count_over, earlier_of, is_holder, views_of}
use Rattle.user_rules.proofs.Firsts.{none_lacks}

-- what is kept after these views of one holder
abbrev mark_over : Keeps → Mark → List Valued → Mark
mark_over keeps cell [] = cell
mark_over keeps cell (one ∷ later) = mark_over keeps (mark_after keeps cell one) later

over_more : (keeps : Keeps) (cell : Mark) (front : List Valued) (one : Valued) → mark_over keeps cell (front ++ one ∷ []) ≡ mark_after keeps (mark_over keeps cell front) one
over_more keeps cell [] one = refl
over_more keeps cell (first ∷ front) one = over_more keeps (mark_after keeps cell first) front one

-- one holder

module _ (relation : Relation) (number_of : Valued → ℤ) where
  abbrev latest_over : Mark → List Valued → Mark
  latest_over cell [] = cell
  latest_over cell (one ∷ later) = latest_over (latest cell (number_of one) (meets relation one)) later

  -- the last view that met the relation, or that none did
  abbrev Found : Mark → List Valued → Type 0
  Found cell earlier =
      (All (λ one. meets relation one ≡ false) earlier × (latest_over cell earlier ≡ cell))
      ⊎ ((one : Valued) × IsLastMet relation earlier one × (latest_over cell earlier ≡ record { number = number_of one; met = true }))

  none_after : (cell : Mark) (first : Valued) (others : List Valued) (met : Bool) → meets relation first ≡ met → All (λ one. meets relation one ≡ false) others
      → latest_over (latest cell (number_of first) met) others ≡ latest cell (number_of first) met → Found cell (first ∷ others)
  none_after cell first others true is unmet same =
      inr (first, record { before = []; later = others; split = refl; met = is; unmet = unmet }, ap (λ met. latest_over (latest cell (number_of first) met) others) is ∙ same)
  none_after cell first others false is unmet same =
      inl (All-cons (λ one. meets relation one ≡ false) first others is unmet, ap (λ met. latest_over (latest cell (number_of first) met) others) is ∙ same)

  found_more : (cell : Mark) (first : Valued) (others : List Valued) (met : Bool) → meets relation first ≡ met → Found (latest cell (number_of first) met) others → Found cell (first ∷ others)
  found_more cell first others met is (inl (unmet, same)) = none_after cell first others met is unmet same
  found_more cell first others met is (inr (one, last, same)) = inr (
    one,
    record {
      before = first ∷ last.before;
      later = last.later;
      split = ap (λ list. first ∷ list) last.split;
      met = last.met;
      unmet = last.unmet;
    },
    ap (λ met. latest_over (latest cell (number_of first) met) others) is ∙ same,
  )

  last_or_none : (cell : Mark) (earlier : List Valued) → Found cell earlier
  last_or_none cell [] = inl (All-nil (λ one. meets relation one ≡ false), refl)
  last_or_none cell (first ∷ others) =
      found_more cell first others (meets relation first) refl (last_or_none (latest cell (number_of first) (meets relation first)) others)

since_over : (relation : Relation) (cell : Mark) (earlier : List Valued) → mark_over (Since relation) cell earlier ≡ latest_over relation (λ one. one.view.time) cell earlier
since_over relation cell [] = refl
since_over relation cell (one ∷ later) = since_over relation (latest cell one.view.time (meets relation one)) later

last_over : (relation : Relation) (field : _) (cell : Mark) (earlier : List Valued) → mark_over (Last relation field) cell earlier ≡ latest_over relation (λ one. field_of one.view field) cell earlier
last_over relation field cell [] = refl
last_over relation field cell (one ∷ later) = last_over relation field (latest cell (field_of one.view field) (meets relation one)) later

counts_over : (counted : Counted) (cell : Mark) (earlier : List Valued) → (mark_over (Count counted) cell earlier).number ≡ count_over counted cell.number earlier
counts_over counted cell [] = refl
counts_over counted cell (one ∷ later) = counts_over counted (mark_after (Count counted) cell one) later

-- the value by what is kept of these views is what the sentence says of them
meant : (keeps : Keeps) (view : View) (earlier : List Valued) → IsValueOf keeps view earlier (value_in keeps (mark_over keeps empty earlier) view)
meant (Since relation) view earlier = elim (last_or_none relation (λ one. one.view.time) empty earlier) [
  | inl (unmet, same) ↦ IsSince.never unmet (ap (λ cell. value_in (Since relation) cell view) (since_over relation empty earlier ∙ same))
  | inr (one, last, same) ↦ IsSince.since one last (ap (λ cell. value_in (Since relation) cell view) (since_over relation empty earlier ∙ same))
]
meant (Count counted) view earlier = counts_over counted empty earlier
meant (Last relation field) view earlier = elim (last_or_none relation (λ one. field_of one.view field) empty earlier) [
  | inl (unmet, same) ↦ IsLast.never unmet (ap (λ cell. value_in (Last relation field) cell view) (last_over relation field empty earlier ∙ same))
  | inr (one, last, same) ↦ IsLast.last one last (ap (λ cell. value_in (Last relation field) cell view) (last_over relation field empty earlier ∙ same))
]

-- one value

-- of two last views that meet a relation, one is the other
one_last : (relation : Relation) (before : List Valued) (one : Valued) (later others : List Valued) (other : Valued) (rest : List Valued) → before ++ one ∷ later ≡ others ++ other ∷ rest
    → meets relation one ≡ true → All (λ valued. meets relation valued ≡ false) later → meets relation other ≡ true → All (λ valued. meets relation valued ≡ false) rest → one ≡ other
one_last relation [] one later [] other rest same met unmet also not = cc
one_last relation [] one later (first ∷ others) other rest same met unmet also not =
    let tail : later ≡ others ++ other ∷ rest = cc in
    absurd (true≢false (sym also ∙ none_lacks (λ valued. meets relation valued ≡ false) others other rest later tail unmet))
one_last relation (first ∷ before) one later [] other rest same met unmet also not =
    let tail : rest ≡ before ++ one ∷ later = cc in
    absurd (true≢false (sym met ∙ none_lacks (λ valued. meets relation valued ≡ false) before one later rest tail not))
one_last relation (first ∷ before) one later (second ∷ others) other rest same met unmet also not =
    let tail : before ++ one ∷ later ≡ others ++ other ∷ rest = cc in
    one_last relation before one later others other rest tail met unmet also not

last_and_none : (relation : Relation) (earlier : List Valued) (one : Valued) → IsLastMet relation earlier one → All (λ valued. meets relation valued ≡ false) earlier → ⊥
last_and_none relation earlier one last unmet =
    true≢false (sym last.met ∙ none_lacks (λ valued. meets relation valued ≡ false) last.before one last.later earlier last.split unmet)

same_last : (relation : Relation) (earlier : List Valued) (one other : Valued) → IsLastMet relation earlier one → IsLastMet relation earlier other → one ≡ other
same_last relation earlier one other first second =
    one_last relation first.before one first.later second.before other second.later (sym first.split ∙ second.split) first.met first.unmet second.met second.unmet

pub one_value_is_meant : (keeps : Keeps) (view : View) (earlier : List Valued) (one other : ℤ) → IsValueOf keeps view earlier one → IsValueOf keeps view earlier other → one ≡ other
one_value_is_meant (Since relation) view earlier one other (IsSince.since first last is) (IsSince.since second also same) =
    is ∙ ap (λ (valued : Valued). elapsed_since valued.view.time view.time) (same_last relation earlier first second last also) ∙ sym same
one_value_is_meant (Since relation) view earlier one other (IsSince.since first last is) (IsSince.never unmet same) = absurd (last_and_none relation earlier first last unmet)
one_value_is_meant (Since relation) view earlier one other (IsSince.never unmet is) (IsSince.since second also same) = absurd (last_and_none relation earlier second also unmet)
one_value_is_meant (Since relation) view earlier one other (IsSince.never unmet is) (IsSince.never none same) = is ∙ sym same
one_value_is_meant (Count counted) view earlier one other is same = is ∙ sym same
one_value_is_meant (Last relation field) view earlier one other (IsLast.last first last is) (IsLast.last second also same) =
    is ∙ ap (λ (valued : Valued). field_of valued.view field) (same_last relation earlier first second last also) ∙ sym same
one_value_is_meant (Last relation field) view earlier one other (IsLast.last first last is) (IsLast.never unmet same) = absurd (last_and_none relation earlier first last unmet)
one_value_is_meant (Last relation field) view earlier one other (IsLast.never unmet is) (IsLast.last second also same) = absurd (last_and_none relation earlier second also unmet)
one_value_is_meant (Last relation field) view earlier one other (IsLast.never unmet is) (IsLast.never none same) = is ∙ sym same

-- all holders

put_here : (cells : List Cell) (holder : ℕ) (new : Mark) → mark_at (put cells holder new) holder ≡ new
put_here [] holder new = rw (eq-eqb holder holder refl) refl
put_here (cell ∷ cells) holder new = by (nat_eq cell.holder holder) refl (put_here cells holder new)
  where
    by : (own : Bool) → nat_eq cell.holder holder ≡ own → mark_at (put cells holder new) holder ≡ new → mark_at (put (cell ∷ cells) holder new) holder ≡ new
    by true is rest = rw is (rw (eq-eqb holder holder refl) refl)
    by false is rest = rw is (rw is rest)

put_elsewhere : (cells : List Cell) (holder other : ℕ) (new : Mark) → holder ≢ other → mark_at (put cells holder new) other ≡ mark_at cells other
put_elsewhere [] holder other new apart = rw (ne_eqb holder other apart) refl
put_elsewhere (cell ∷ cells) holder other new apart = by (nat_eq cell.holder holder) refl (put_elsewhere cells holder other new apart)
  where
    by : (own : Bool) → nat_eq cell.holder holder ≡ own → mark_at (put cells holder new) other ≡ mark_at cells other
        → mark_at (put (cell ∷ cells) holder new) other ≡ mark_at (cell ∷ cells) other
    by true is rest =
        let others : nat_eq cell.holder other ≡ false = ne_eqb cell.holder other (λ same. apart (sym (eqb-true cell.holder holder is) ∙ same)) in
        rw is (rw (ne_eqb holder other apart) (rw others refl))
    by false is rest = rw is (ap (λ mark. if nat_eq cell.holder other then cell.mark else mark) rest)

or_none : (met : Bool) → (met || false) ≡ met
or_none true = refl
or_none false = refl

-- a count stays where a view meets none of its relations
uncounted : (met back reset : Bool) (mark : Mark) → (met || back || reset) ≡ false
    → record { number = if reset then pos 0 else lowered back (raised met mark.number); met = mark.met || met } ≡ mark
uncounted false false false mark none = ap (λ met. record { number = mark.number; met = met }) (or_none mark.met)
uncounted false false true mark none = cc
uncounted false true reset mark none = cc
uncounted true back reset mark none = cc

-- a view that changes nothing leaves what is kept
unchanged : (keeps : Keeps) (mark : Mark) (one : Valued) → changes keeps one ≡ false → mark_after keeps mark one ≡ mark
unchanged (Since relation) mark one not = ap (latest mark one.view.time) not
unchanged (Last relation field) mark one not = ap (latest mark (field_of one.view field)) not
unchanged (Count counted) mark one not = uncounted (meets counted.relation one) (meets_given counted.back one) (meets_given counted.reset one) mark not

-- what is kept for the holder of a view after it
after_here : (keeps : Keeps) (cells : List Cell) (own : ℕ) (one : Valued) → mark_at (cells_after keeps cells (Some own) one) own ≡ mark_after keeps (mark_at cells own) one
after_here keeps cells own one = by (changes keeps one) refl
  where
    by : (change : Bool) → changes keeps one ≡ change
        → mark_at (if change then put cells own (mark_after keeps (mark_at cells own) one) else cells) own ≡ mark_after keeps (mark_at cells own) one
    by true is = put_here cells own (mark_after keeps (mark_at cells own) one)
    by false is = sym (unchanged keeps (mark_at cells own) one is)

-- what is kept for others
after_elsewhere : (keeps : Keeps) (cells : List Cell) (own other : ℕ) (one : Valued) → own ≢ other → mark_at (cells_after keeps cells (Some own) one) other ≡ mark_at cells other
after_elsewhere keeps cells own other one apart = by (changes keeps one)
  where
    by : (change : Bool) → mark_at (if change then put cells own (mark_after keeps (mark_at cells own) one) else cells) other ≡ mark_at cells other
    by true = put_elsewhere cells own other (mark_after keeps (mark_at cells own) one) apart
    by false = refl

-- a memory has kept the views of each holder
abbrev HasKept : RuleMemory → List Cell → List Valued → Type 0
HasKept memory cells before = (holder : ℕ) → mark_at cells holder ≡ mark_over memory.keeps empty (views_of memory.per holder before)

abbrev HaveKept : List RuleMemory → List (List Cell) → List Valued → Type 0
HaveKept [] kept before = Unit {0}
HaveKept (memory ∷ memories) [] before = ⊥
HaveKept (memory ∷ memories) (cells ∷ kept) before = HasKept memory cells before × HaveKept memories kept before

begun : (memories : List RuleMemory) → HaveKept memories (nothing memories) []
begun [] = tt
begun (memory ∷ memories) = (λ holder. refl, begun memories)

-- the views of a holder, with one more
views_more : (memory : RuleMemory) (holder : ℕ) (before : List Valued) (one : Valued) (mine : Bool) → is_holder holder (holder_of memory.per one.view) ≡ mine
    → views_of memory.per holder (before ++ one ∷ []) ≡ views_of memory.per holder before ++ (if mine then one ∷ [] else [])
views_more memory holder before one true is =
    filter-append (λ valued. is_holder holder (holder_of memory.per valued.view)) before (one ∷ []) ∙ rw is refl
views_more memory holder before one false is =
    filter-append (λ valued. is_holder holder (holder_of memory.per valued.view)) before (one ∷ []) ∙ rw is refl

one_more : (memory : RuleMemory) (cells : List Cell) (before : List Valued) (one : Valued) → HasKept memory cells before
    → HasKept memory (cells_after memory.keeps cells (holder_of memory.per one.view) one) (before ++ one ∷ [])
one_more memory cells before one kept holder = by (holder_of memory.per one.view) refl
  where
    by : (own : Option ℕ) → holder_of memory.per one.view ≡ own
        → mark_at (cells_after memory.keeps cells own one) holder ≡ mark_over memory.keeps empty (views_of memory.per holder (before ++ one ∷ []))
    by None is =
        kept holder ∙ ap (mark_over memory.keeps empty) (sym (append-nil (views_of memory.per holder before)))
        ∙ ap (mark_over memory.keeps empty) (sym (views_more memory holder before one false (ap (is_holder holder) is)))
    by (Some own) is = elim (cases_eq own holder) [
      | inl same ↦
          let mine : nat_eq own holder ≡ true = eq-eqb own holder same in
          ap (λ other. mark_at (cells_after memory.keeps cells (Some own) one) other) (sym same)
          ∙ after_here memory.keeps cells own one
          ∙ ap (λ cell. mark_after memory.keeps cell one) (kept own ∙ ap (λ other. mark_over memory.keeps empty (views_of memory.per other before)) same)
          ∙ sym (over_more memory.keeps empty (views_of memory.per holder before) one)
          ∙ ap (mark_over memory.keeps empty) (sym (views_more memory holder before one true (ap (is_holder holder) is ∙ mine)))
      | inr apart ↦
          let others : nat_eq own holder ≡ false = ne_eqb own holder apart in
          after_elsewhere memory.keeps cells own holder one apart
          ∙ kept holder ∙ ap (mark_over memory.keeps empty) (sym (append-nil (views_of memory.per holder before)))
          ∙ ap (mark_over memory.keeps empty) (sym (views_more memory holder before one false (ap (is_holder holder) is ∙ others)))
    ]

all_more : (memories : List RuleMemory) (kept : List (List Cell)) (before : List Valued) (one : Valued) → HaveKept memories kept before
    → HaveKept memories (kept_after_view memories kept one) (before ++ one ∷ [])
all_more [] kept before one have = tt
all_more (memory ∷ memories) [] before one have = absurd have
all_more (memory ∷ memories) (cells ∷ kept) before one (has, have) = (one_more memory cells before one has, all_more memories kept before one have)

-- the value of each memory
value_meant : (memory : RuleMemory) (cells : List Cell) (before : List Valued) (view : View) → HasKept memory cells before
    → IsValueOf memory.keeps view (earlier_of memory.per (holder_of memory.per view) before) (value_at memory cells view)
value_meant memory cells before view has = by (holder_of memory.per view)
  where
    by : (own : Option ℕ) → IsValueOf memory.keeps view (earlier_of memory.per own before) (value_in memory.keeps (mark_of cells own) view)
    by None = meant memory.keeps view []
    by (Some own) = subst (λ cell. IsValueOf memory.keeps view (views_of memory.per own before) (value_in memory.keeps cell view)) (sym (has own))
        (meant memory.keeps view (views_of memory.per own before))

values_meant : (memories : List RuleMemory) (kept : List (List Cell)) (before : List Valued) (view : View) → HaveKept memories kept before
    → (number : ℕ) (memory : RuleMemory) → number < length memories → memory ≡ get_or memories number memory
    → IsValueOf memory.keeps view (earlier_of memory.per (holder_of memory.per view) before) (value_of (values_at memories kept view) number)
values_meant [] kept before view have number memory within is = absurd (omega (arith, within))
values_meant (first ∷ memories) [] before view have number memory within is = absurd have
values_meant (first ∷ memories) (cells ∷ kept) before view (has, have) zero memory within is =
    subst (λ (one : RuleMemory). IsValueOf one.keeps view (earlier_of one.per (holder_of one.per view) before) (value_at first cells view)) (sym is) (value_meant first cells before view has)
values_meant (first ∷ memories) (cells ∷ kept) before view (has, have) (suc number) memory within is =
    values_meant memories kept before view have number memory (omega (arith, within)) is

-- all views
from_here : (memories : List RuleMemory) (kept : List (List Cell)) (earlier : List Valued) → HaveKept memories kept earlier
    → (views : List View) (before : List Valued) (one : Valued) (later : List Valued) → valued_after memories kept views ≡ before ++ one ∷ later
    → (number : ℕ) (memory : RuleMemory) → number < length memories → memory ≡ get_or memories number memory
    → IsValueOf memory.keeps one.view (earlier_of memory.per (holder_of memory.per one.view) (earlier ++ before)) (value_of one.values number)
from_here memories kept earlier have [] [] one later split number memory within is = absurd cc
from_here memories kept earlier have [] (first ∷ before) one later split number memory within is = absurd cc
from_here memories kept earlier have (view ∷ views) [] one later split number memory within is =
    let same : valued_at memories kept view ≡ one = cc in
    subst (λ (valued : Valued). IsValueOf memory.keeps valued.view (earlier_of memory.per (holder_of memory.per valued.view) (earlier ++ [])) (value_of valued.values number)) same
    (subst (λ list. IsValueOf memory.keeps view (earlier_of memory.per (holder_of memory.per view) list) (value_of (values_at memories kept view) number)) (sym (append-nil earlier))
    (values_meant memories kept earlier view have number memory within is))
from_here memories kept earlier have (view ∷ views) (first ∷ before) one later split number memory within is =
    let here = valued_at memories kept view in
    let same : here ≡ first = cc in
    let tail : valued_after memories (kept_after_view memories kept here) views ≡ before ++ one ∷ later = cc in
    let rest = from_here memories (kept_after_view memories kept here) (earlier ++ here ∷ []) (all_more memories kept earlier here have) views before one later tail number memory within is in
    subst (λ list. IsValueOf memory.keeps one.view (earlier_of memory.per (holder_of memory.per one.view) list) (value_of one.values number))
    (append_assoc earlier (here ∷ []) before ∙ ap (λ valued. earlier ++ valued ∷ before) same) rest

pub values_are_meant : (memories : List RuleMemory) (views : List View) (before : List Valued) (one : Valued) (later : List Valued)
    → valued_after memories (nothing memories) views ≡ before ++ one ∷ later
    → (number : ℕ) (memory : RuleMemory) → number < length memories → memory ≡ get_or memories number memory
    → IsValueOf memory.keeps one.view (earlier_of memory.per (holder_of memory.per one.view) before) (value_of one.values number)
values_are_meant memories = from_here memories (nothing memories) [] (begun memories)

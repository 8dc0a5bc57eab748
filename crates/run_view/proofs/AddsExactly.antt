-- Which changes are added: those of one item more each time.
use Rattle.std.proofs.Common.{◌≡◌, ◌<◌, ◌≤◌, ◌+◌, ◌-◌, ◌∙◌, ◌⊎◌, inl, inr, ℕ, zero, suc, List, [], ◌∷◌, ◌++◌, Some, length, get_or, refl, sym, ap, subst, append_assoc, arith}
use Rattle.std.proofs.lemmas.List.{append-nil}
use Rattle.std.proofs.lemmas.List.Elements.{All-append, All-cons, All-nil, All-weaker, Contains-append_left, Contains-append_right}
use Rattle.std.specs.List.{Contains, slice_get}
use Rattle.run_view.specs.declared.change.Change.{Change}
use Rattle.run_view.specs.Adds.{Adds, IsOfAny}
use Rattle.run_view.proofs.Parts.{contains_at}

-- no change is added if none is so
pub adds_no_change : {IsSo : Change → Type 0} (old : List Change) → ((change : Change) → IsSo change → ⊥) → Adds IsSo old old
adds_no_change {IsSo} old none = record { added = []; after = sym (append-nil old); so = All-nil IsSo; every = λ change is. absurd (none change is) }

-- one change is added if it alone is so
pub adds_one_change : {IsSo : Change → Type 0} {old new : List Change} (change : Change) → new ≡ old ++ change ∷ [] → IsSo change → ((other : Change) → IsSo other → other ≡ change)
    → Adds IsSo old new
adds_one_change {IsSo} {old} {new} change is holds alone = record {
  added = change ∷ [];
  after = is;
  so = All-cons IsSo change [] holds (All-nil IsSo);
  every = λ other so. (0, omega arith, sym (alone other so));
}

-- the same changes in other words
pub adds_same : {IsSo AlsoIs : Change → Type 0} {old new : List Change} → ((change : Change) → IsSo change → AlsoIs change) → ((change : Change) → AlsoIs change → IsSo change)
    → Adds IsSo old new → Adds AlsoIs old new
adds_same {IsSo} {AlsoIs} {old} {new} also back adds = record {
  added = adds.added;
  after = adds.after;
  so = All-weaker IsSo AlsoIs also adds.added adds.so;
  every = λ change is. adds.every change (back change is);
}

either_of : (IsFirst IsLater : Change → Type 0) (change : Change) (first later : List Change) → (IsFirst change → Contains first change) → (IsLater change → Contains later change)
    → IsFirst change ⊎ IsLater change → Contains (first ++ later) change
either_of IsFirst IsLater change first later one other (inl is) = Contains-append_left first later change (one is)
either_of IsFirst IsLater change first later one other (inr is) = Contains-append_right first later change (other is)

-- some changes are added, and then others
pub adds_then : {IsFirst IsLater : Change → Type 0} {old now new : List Change} → Adds IsFirst old now → Adds IsLater now new → Adds (λ change. IsFirst change ⊎ IsLater change) old new
adds_then {IsFirst} {IsLater} {old} {now} {new} first later = record {
  added = first.added ++ later.added;
  after = later.after ∙ ap (λ list. list ++ later.added) first.after ∙ append_assoc old first.added later.added;
  so = All-append (λ change. IsFirst change ⊎ IsLater change) first.added later.added
      (All-weaker IsFirst (λ change. IsFirst change ⊎ IsLater change) (λ change is. inl is) first.added first.so)
      (All-weaker IsLater (λ change. IsFirst change ⊎ IsLater change) (λ change is. inr is) later.added later.so);
  every = λ change is. either_of IsFirst IsLater change first.added later.added (first.every change) (later.every change) is;
}

-- a change that is so at an index below this one
abbrev pub IsBelow : (ℕ → Change → Type 0) → ℕ → Change → Type 0
IsBelow IsAt end change = (index : ℕ) × (index < end) × IsAt index change

pub adds_none_below : (IsAt : ℕ → Change → Type 0) (old : List Change) → Adds (IsBelow IsAt 0) old old
adds_none_below IsAt old = adds_no_change {IsSo = IsBelow IsAt 0} old (λ change is. absurd (omega (arith, is.1)))

-- an index below the next one is below this one, or is this one
pub at_or_below : (index end : ℕ) → index < end + 1 → (index < end) ⊎ (index ≡ end)
at_or_below zero zero less = inr refl
at_or_below zero (suc end) less = inl (omega arith)
at_or_below (suc index) zero less = absurd (omega arith)
at_or_below (suc index) (suc end) less = elim (at_or_below index end (omega arith)) [
  | inl below ↦ inl (omega arith)
  | inr same ↦ inr (omega arith)
]

below_one_more : (IsAt : ℕ → Change → Type 0) (index : ℕ) (change : Change) → IsBelow IsAt index change ⊎ IsAt index change → IsBelow IsAt (index + 1) change
below_one_more IsAt index change (inl is) = (is.0, omega (arith, is.1), is.2)
below_one_more IsAt index change (inr is) = (index, omega arith, is)

below_or_here : (IsAt : ℕ → Change → Type 0) (index : ℕ) (change : Change) → IsBelow IsAt (index + 1) change → IsBelow IsAt index change ⊎ IsAt index change
below_or_here IsAt index change is = elim (at_or_below is.0 index is.1) [
  | inl below ↦ inl (is.0, below, is.2)
  | inr same ↦ inr (subst (λ one. IsAt one change) same is.2)
]

-- the changes at one index more
pub adds_up : (IsAt : ℕ → Change → Type 0) {old now new : List Change} (index : ℕ) → Adds (IsBelow IsAt index) old now → Adds (IsAt index) now new → Adds (IsBelow IsAt (index + 1)) old new
adds_up IsAt {old} {now} {new} index before here =
    adds_same {IsSo = λ change. IsBelow IsAt index change ⊎ IsAt index change} {AlsoIs = IsBelow IsAt (index + 1)} (below_one_more IsAt index) (below_or_here IsAt index) (adds_then before here)

-- an item of a list, by its index
pub get_at : {Item : Type 0} (items : List Item) (index : ℕ) (item : Item) → index < length items → item ≡ get_or items index item → slice_get items index ≡ Some item
get_at [] index item less is = absurd (omega arith)
get_at (first ∷ others) zero item less is = cc
get_at (first ∷ others) (suc index) item less is = get_at others index item (omega arith) is

pub within : {Item : Type 0} (items : List Item) (index : ℕ) (item : Item) → slice_get items index ≡ Some item → index < length items
within [] index item is = cc
within (first ∷ others) zero item is = omega arith
within (first ∷ others) (suc index) item is = let there = within others index item is in omega (arith, there)

pub same_item : {Item : Type 0} (items : List Item) (index : ℕ) (one other : Item) → slice_get items index ≡ Some one → slice_get items index ≡ Some other → one ≡ other
same_item items index one other is also = cc

-- a change of the item at this index
abbrev pub IsOfItem : {Item : Type 0} → (Item → Change → Type 0) → List Item → ℕ → Change → Type 0
IsOfItem {Item} IsIts items index change = (item : Item) × (slice_get items index ≡ Some item) × IsIts item change

-- the changes of an item are those of the item at its index
pub adds_of_item : {Item : Type 0} (IsIts : Item → Change → Type 0) (items : List Item) (index : ℕ) (item : Item) {old new : List Change} → slice_get items index ≡ Some item
    → Adds (IsIts item) old new → Adds (IsOfItem IsIts items index) old new
adds_of_item IsIts items index item {old} {new} is adds =
    adds_same {IsSo = IsIts item} {AlsoIs = IsOfItem IsIts items index} (λ change so. (item, is, so))
    (λ change so. subst (λ one. IsIts one change) (same_item items index so.0 item so.1 is) so.2) adds

-- the changes of all items, from the first on
pub adds_of_all : {Item : Type 0} (IsIts : Item → Change → Type 0) (items : List Item) (end : ℕ) {old new : List Change} → length items ≤ end
    → Adds (IsBelow (IsOfItem IsIts items) end) old new → Adds (IsOfAny IsIts items) old new
adds_of_all IsIts items end {old} {new} all adds =
    adds_same {IsSo = IsBelow (IsOfItem IsIts items) end} {AlsoIs = IsOfAny IsIts items} (λ change so. (so.2.0, contains_at items so.0 so.2.0 (sym so.2.1), so.2.2))
    (λ change so. (so.1.0, omega (arith, so.1.1), (so.0, get_at items so.1.0 so.0 so.1.1 (sym so.1.2), so.2))) adds

-- a change of the item at this index from the end
abbrev pub IsOfItemFromEnd : {Item : Type 0} → (Item → Change → Type 0) → List Item → ℕ → Change → Type 0
IsOfItemFromEnd IsIts items after change = IsOfItem IsIts items (length items - 1 - after) change

back_again : (count index : ℕ) → index < count → index ≡ count - 1 - (count - 1 - index)
back_again count index less = omega arith

-- the changes of all items, from the last on
pub adds_of_all_from_end : {Item : Type 0} (IsIts : Item → Change → Type 0) (items : List Item) (end : ℕ) {old new : List Change} → length items ≤ end
    → Adds (IsBelow (IsOfItemFromEnd IsIts items) end) old new → Adds (IsOfAny IsIts items) old new
adds_of_all_from_end {Item} IsIts items end {old} {new} all adds =
    adds_same {IsSo = IsBelow (IsOfItemFromEnd IsIts items) end} {AlsoIs = IsOfAny IsIts items}
    (λ change so. (so.2.0, contains_at items (length items - 1 - so.0) so.2.0 (sym so.2.1), so.2.2))
    (λ change so. (
      length items - 1 - so.1.0,
      omega (arith, so.1.1),
      (so.0, subst (λ at. slice_get items at ≡ Some so.0) (back_again (length items) so.1.0 so.1.1) (get_at items so.1.0 so.0 so.1.1 (sym so.1.2)), so.2),
    )) adds

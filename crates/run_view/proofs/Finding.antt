-- Whether something was seen, and what is added then.
use Rattle.std.proofs.Common.{◌≡◌, ◌∙◌, List, [], ◌∷◌, ◌++◌, Bool, true, false, not, Result, get_or, map, Decides, refl, sym, subst}
use Rattle.std.proofs.lemmas.Bool.{false≢true}
use Rattle.std.proofs.lemmas.List.Folds.{Any-from_list_any, list_any_at}
use Rattle.std.proofs.lemmas.Result.{on_ok_weaker}
use Rattle.std.specs.List.{Contains, list_any}
use Rattle.std.specs.Result.{OnOk}
use Rattle.run_view.specs.declared.change.Change.{Change}
use Rattle.run_view.specs.Adds.{Adds}
use Rattle.run_view.proofs.AddsExactly.{adds_no_change, adds_one_change}
use Rattle.run_view.proofs.Mapped.{contains_mapped, map_contains}

-- whether an item is among these, if a test decides whether two items are the same
pub among : {Item : Type 0} (equal : Item → Item → Bool) → ((a b : Item) → Decides (equal a b) (a ≡ b)) → (items : List Item) (item : Item)
    → Decides (list_any (λ other. equal other item) items) (Contains items item)
among {Item} equal decides items item = (
  (λ holds.
      let there = Any-from_list_any (λ other. equal other item) items holds in
      let same : there.1 ≡ item = (decides there.1 item).0 there.4 in
      subst (λ (one : Item). Contains items one) same (there.0, there.2, there.3)),
  (λ there. list_any_at (λ other. equal other item) items there.0 item there.1 ((decides (get_or items there.0 item) item).1 there.2)),
)

-- whether one that is shown alike is among these, if a test decides whether two items are shown alike
pub among_shown : {Item Image : Type 0} (equal : Item → Item → Bool) (image : Item → Image) → ((a b : Item) → Decides (equal a b) (image a ≡ image b)) → (items : List Item) (item : Item)
    → Decides (list_any (λ other. equal other item) items) (Contains (map image items) (image item))
among_shown {Item} {Image} equal image decides items item = (
  (λ holds.
      let there = Any-from_list_any (λ other. equal other item) items holds in
      let same : image there.1 ≡ image item = (decides there.1 item).0 there.4 in
      subst (λ (one : Image). Contains (map image items) one) same (map_contains image items there.1 (there.0, there.2, there.3))),
  (λ there.
      let one = contains_mapped image items (image item) there in
      let same : get_or items one.1.0 one.0 ≡ one.0 = one.1.2 in
      list_any_at (λ other. equal other item) items one.1.0 one.0 one.1.1
      (subst (λ (other : Item). equal other item ≡ true) (sym same) ((decides one.0 item).1 one.2))),
)

-- nothing is added if a test holds
pub none_if : {Holds : Type 0} (made : Change) (test : Bool) (old : List Change) → Decides test Holds → test ≡ true → Adds (λ change. (¬ Holds) × (change ≡ made)) old old
none_if {Holds} made test old decides holds = adds_no_change {IsSo = λ change. (¬ Holds) × (change ≡ made)} old (λ change is. is.0 (decides.0 holds))

-- this change is added if a test does not hold
pub one_if_not : {T E Holds : Type 0} (made : Change) (test : Bool) (result : Result T E) (old new : List Change) → Decides test Holds → test ≡ false → OnOk result (new ≡ old ++ made ∷ [])
    → OnOk result (Adds (λ change. (¬ Holds) × (change ≡ made)) old new)
one_if_not {T} {E} {Holds} made test result old new decides fails adds =
    on_ok_weaker result
    (λ (so : new ≡ old ++ made ∷ []).
    adds_one_change {IsSo = λ change. (¬ Holds) × (change ≡ made)} made so ((λ holds. false≢true (sym fails ∙ decides.1 holds)), refl) (λ other is. is.1)) adds

-- a test by its negation
pub holds_by_not : (test other : Bool) → other ≡ not test → other ≡ false → test ≡ true
holds_by_not true other is fails = refl
holds_by_not false other is fails = absurd (false≢true (sym fails ∙ is))

pub fails_by_not : (test other : Bool) → other ≡ not test → other ≡ true → test ≡ false
fails_by_not false other is holds = refl
fails_by_not true other is holds = absurd (false≢true (sym is ∙ holds))

-- The objects of a kind that are shown.
use Rattle.std.proofs.Common.{◌≡◌, ◌<◌, ◌+◌, ◌∙◌, ℕ, zero, suc, List, [], ◌∷◌, ◌++◌, Option, Some, None, Bool, true, false, length, get_or, map, take, refl, sym, ap, subst, arith, if◌then◌else◌, nat_eq}
use Rattle.std.proofs.lemmas.Bool.Decides.{Decides-eqb}
use Rattle.std.proofs.lemmas.List.{map-append, take_all, take_more}
use Rattle.std.proofs.lemmas.List.Elements.{All-nil, All-push}
use Rattle.std.specs.Borrow.{Bor}
use Rattle.std.specs.List.{All, Contains}
use Rattle.std.specs.Map.Iter.{deref_pair}
use Rattle.apex_types.specs.declared.object_kind.ObjectKind.{ObjectKind}
use Rattle.apex_types.specs.declared.object_kind.ObjectKind.TheVariants as kind
use Rattle.apex_machine.specs.State.{Partition, item_at}
use Rattle.run_view.specs.declared.seen_object.SeenObject.{SeenObject}
use Rattle.run_view.specs.declared.thing.ThingView.{ThingView}
use Rattle.run_view.specs.Objects.{IsShown, ShowsKind, numbers_in, numbers_of}
use Rattle.run_view.specs.Plain.{PlainObject, plain_object, plain_objects}
use Rattle.run_view.specs.Things.{Shows, ShowsBlackboard, ShowsBuffer, ShowsEvent, ShowsMutex, ShowsObject, ShowsSemaphore}

first_is_some : {Item : Type 0} (test : Bool) (item : Item) (others : Option Item) → test ≡ true → (if test then Some item else others) ≡ None → ⊥
first_is_some true item others holds none = cc
first_is_some false item others holds none = cc

others_are_none : {Item : Type 0} (test : Bool) (item : Item) (others : Option Item) → (if test then Some item else others) ≡ None → others ≡ None
others_are_none true item others none = cc
others_are_none false item others none = none

-- an item is at each number of its list
number_is_there : {Item : Type 0} (items : List (ℕ × Item)) (number : ℕ) → Contains (numbers_in items) number → item_at items number ≡ None → ⊥
number_is_there [] number there none = absurd (omega (arith, there.1))
number_is_there (entry ∷ entries) number (zero, less, is) none = first_is_some (nat_eq number entry.0) entry.1 (item_at entries number) ((Decides-eqb number entry.0).1 (sym is)) none
number_is_there (entry ∷ entries) number (suc index, less, is) none =
    number_is_there entries number (index, omega arith, is) (others_are_none (nat_eq number entry.0) entry.1 (item_at entries number) none)

no_view : {Object : Type 0} (shows : Object → ThingView → Type 0) (found : Option Object) → Shows shows found None → found ≡ None
no_view shows None none = refl
no_view shows (Some object) none = absurd none

-- an object is shown at each number of its kind
pub object_is_there : (kind : ObjectKind) (number : ℕ) (partition : Partition) → Contains (numbers_of kind partition) number → ShowsObject kind number partition None → ⊥
object_is_there kind.Buffer number partition there none = number_is_there partition.buffers number there (no_view ShowsBuffer (item_at partition.buffers number) none)
object_is_there kind.Blackboard number partition there none = number_is_there partition.blackboards number there (no_view ShowsBlackboard (item_at partition.blackboards number) none)
object_is_there kind.Semaphore number partition there none = number_is_there partition.semaphores number there (no_view ShowsSemaphore (item_at partition.semaphores number) none)
object_is_there kind.Event number partition there none = number_is_there partition.events number there (no_view ShowsEvent (item_at partition.events number) none)
object_is_there kind.Mutex number partition there none = number_is_there partition.mutexes number there (no_view ShowsMutex (item_at partition.mutexes number) none)
object_is_there kind.SamplingPort number partition there none = absurd (omega (arith, there.1))
object_is_there kind.QueuingPort number partition there none = absurd (omega (arith, there.1))

-- objects under these numbers are shown
pub record AreShown (kind : ObjectKind) (partition : Partition) (numbers : List ℕ) (objects : List PlainObject) : Type 0 where
  pub numbered : map (λ object. object.number) objects ≡ numbers
  pub each : All (IsShown kind partition) objects

pub none_shown : (kind : ObjectKind) (partition : Partition) → AreShown kind partition [] []
none_shown kind partition = record { numbered = refl; each = All-nil (IsShown kind partition) }

-- one object more is shown
pub one_more_shown : (kind : ObjectKind) (partition : Partition) (numbers : List ℕ) (index : ℕ) (shown new : List SeenObject) (object : SeenObject) → index < length numbers
    → object.number ≡ get_or numbers index 0 → AreShown kind partition (take index numbers) (plain_objects shown) → new ≡ shown ++ object ∷ []
    → ShowsObject kind object.number partition (Some object.view) → AreShown kind partition (take (index + 1) numbers) (plain_objects new)
one_more_shown kind partition numbers index shown new object less is so more shows =
    let mapped : plain_objects new ≡ plain_objects shown ++ plain_object object ∷ [] = ap plain_objects more ∙ map-append plain_object shown (object ∷ []) in
    subst (λ (list : List PlainObject). AreShown kind partition (take (index + 1) numbers) list) (sym mapped)
    (record {
      numbered = map-append (λ (one : PlainObject). one.number) (plain_objects shown) (plain_object object ∷ []) ∙ ap (λ list. list ++ object.number ∷ []) so.numbered
          ∙ ap (λ one. take index numbers ++ one ∷ []) is
          ∙ sym (take_more numbers index 0 less);
      each = All-push (IsShown kind partition) (plain_objects shown) (plain_object object) so.each (object.view, refl, shows);
    })

-- all objects of a kind are shown
pub all_shown : (kind : ObjectKind) (partition : Partition) (numbers : List ℕ) (shown : List PlainObject) → numbers ≡ numbers_of kind partition
    → AreShown kind partition (take (length numbers) numbers) shown → ShowsKind kind partition shown
all_shown kind partition numbers shown is so = record { numbers = so.numbered ∙ take_all (length numbers) numbers (omega arith) ∙ is; each = so.each }

same_at : (numbers : List ℕ) (index one other : ℕ) → index < length numbers → get_or numbers index one ≡ get_or numbers index other
same_at [] index one other less = absurd (omega arith)
same_at (first ∷ others) zero one other less = refl
same_at (first ∷ others) (suc index) one other less = same_at others index one other (omega arith)

-- an object is shown at each of the numbers of its kind
pub never_none : (kind : ObjectKind) (partition : Partition) (numbers : List ℕ) (index number default : ℕ) → numbers ≡ numbers_of kind partition → index < length numbers
    → number ≡ get_or numbers index default → ShowsObject kind number partition None → ⊥
never_none kind partition numbers index number default same less is none =
    object_is_there kind number partition
    (subst (λ (list : List ℕ). Contains list number) same (index, less, same_at numbers index number default less ∙ sym is)) none

-- one number more of a table
pub one_more_number : {Object : Type 0} (yielded : List (Bor ℕ × Bor Object)) (one : Bor ℕ × Bor Object) (numbers new : List ℕ) → numbers ≡ numbers_in (map deref_pair yielded)
    → new ≡ numbers ++ one.0.now ∷ [] → new ≡ numbers_in (map deref_pair (yielded ++ one ∷ []))
one_more_number {Object} yielded one numbers new so more =
    more ∙ ap (λ list. list ++ one.0.now ∷ []) so ∙ sym (map-append (λ (entry : ℕ × Object). entry.0) (map deref_pair yielded) (deref_pair one ∷ []))
    ∙ ap numbers_in (sym (map-append deref_pair yielded (one ∷ [])))

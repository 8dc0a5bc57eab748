-- Objects under their numbers.
use Rattle.std.proofs.Common.{◌≡◌, ◌==◌, ◌<◌, ℕ, List, true, length, get_or, Decides, sym, subst}
use Rattle.std.proofs.lemmas.Bool.Decides.{Decides-eqb}
use Rattle.std.proofs.lemmas.List.Folds.{Any-from_list_any, list_any_at}
use Rattle.std.specs.List.{list_any}
use Rattle.run_view.specs.declared.seen_object.SeenObject.{SeenObject}
use Rattle.run_view.specs.ObjectChanges.{HasObject}
use Rattle.run_view.specs.Plain.{plain_object, plain_objects}
use Rattle.run_view.proofs.Mapped.{contains_mapped, map_contains}

-- an object at an index has its number
pub has_object_at : (objects : List SeenObject) (index : ℕ) (object : SeenObject) (number : ℕ) → index < length objects → object ≡ get_or objects index object → object.number ≡ number
    → HasObject number (plain_objects objects)
has_object_at objects index object number less is numbered = (plain_object object, map_contains plain_object objects object (index, less, sym is), numbered)

-- whether one of these objects has a number
pub has_object : (objects : List SeenObject) (number : ℕ) → Decides (list_any (λ (object : SeenObject). object.number == number) objects) (HasObject number (plain_objects objects))
has_object objects number = (
  (λ holds.
      let there = Any-from_list_any (λ (object : SeenObject). object.number == number) objects holds in
      (plain_object there.1, map_contains plain_object objects there.1 (there.0, there.2, there.3), (Decides-eqb there.1.number number).0 there.4)),
  (λ has.
      let one = contains_mapped plain_object objects has.0 has.1 in
      let same : get_or objects one.1.0 one.0 ≡ one.0 = one.1.2 in
      let numbered : one.0.number ≡ number = subst (λ plain. plain.number ≡ number) (sym one.2) has.2 in
      list_any_at (λ (object : SeenObject). object.number == number) objects one.1.0 one.0 one.1.1
      (subst (λ (other : SeenObject). (other.number == number) ≡ true) (sym same) ((Decides-eqb one.0.number number).1 numbered))),
)

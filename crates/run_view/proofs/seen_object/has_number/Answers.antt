-- An object is there under its number.
use Rattle.std.proofs.Common.{◌==◌, Bool, Decides, rules, tests, refl, sym, subst}
use Rattle.std.proofs.lemmas.Iterator.{YieldsList-from_slice}
use Rattle.std.proofs.lemmas.Iterator.Search.{any_from_yields_List}
use Rattle.run_view.specs.ObjectChanges.{HasObject}
use Rattle.run_view.specs.Plain.{plain_objects}
use Rattle.run_view.specs.declared.seen_object.SeenObject.{SeenObject}
use Rattle.run_view.proofs.Numbered.{has_object, has_object_at}
use Rattle.run_view.proofs.seen_object.has_number.Goals as goal

pub returns-then-now-index : goal.returns-then-now-index
returns-then-now-index c =
    (λ _. has_object_at c.args.now.now c.args.index c.index-now-index.result c.args.number c.if-index-now.true c.index-now-index.is (search (rules, tests)), λ _. refl)

pub returns : goal.returns
returns c =
    let is = any_from_yields_List (λ (object : SeenObject). object.number == c.args.number) _ _ c.any.result c.any.ensures.ran (YieldsList-from_slice c.args.now.now cc)
    (λ x b q k. search (rules, tests)) in
    subst (λ (test : Bool). Decides test (HasObject c.args.number (plain_objects c.args.now.now))) (sym is) (has_object c.args.now.now c.args.number)

-- What is found of the processes of a partition and of the objects of a kind: first what has changed, and then what is gone.
use Rattle.std.proofs.Common.{◌≡◌, ℕ, List, subst}
use Rattle.apex_types.specs.declared.object_kind.ObjectKind.{ObjectKind}
use Rattle.run_view.specs.declared.change.Change.{Change}
use Rattle.run_view.specs.declared.seen_object.SeenObject.{SeenObject}
use Rattle.run_view.specs.declared.seen_process.SeenProcess.{SeenProcess}
use Rattle.run_view.specs.Adds.{Adds, IsOfAny}
use Rattle.run_view.specs.ObjectChanges as objects
use Rattle.run_view.specs.Plain.{plain_objects}
use Rattle.run_view.specs.ProcessChanges as processes
use Rattle.run_view.proofs.AddsExactly.{adds_then}

pub found_processes : (part : ℕ) (before after first now last next : List SeenProcess) (old mid new : List Change) → first ≡ before → now ≡ after → last ≡ before → next ≡ after
    → Adds (IsOfAny (processes.IsItsChange part first) now) old mid → Adds (IsOfAny (processes.IsItsEnd part next) last) mid new
    → Adds (processes.IsFoundInProcesses part before after) old new
found_processes part before after first now last next old mid new one two three four changed ended =
    adds_then
    (subst (λ list. Adds (IsOfAny (processes.IsItsChange part list) after) old mid) one
    (subst (λ list. Adds (IsOfAny (processes.IsItsChange part first) list) old mid) two changed))
    (subst (λ list. Adds (IsOfAny (processes.IsItsEnd part after) list) mid new) three
    (subst (λ list. Adds (IsOfAny (processes.IsItsEnd part list) last) mid new) four ended))

pub found_objects : (part : ℕ) (kind : ObjectKind) (before after first now last next : List SeenObject) (old mid new : List Change) → first ≡ before → now ≡ after → last ≡ before
    → next ≡ after → Adds (IsOfAny (objects.IsItsChange part kind (plain_objects first)) (plain_objects now)) old mid
    → Adds (IsOfAny (objects.IsItsEnd part kind (plain_objects next)) (plain_objects last)) mid new
    → Adds (objects.IsFoundInKind part kind (plain_objects before) (plain_objects after)) old new
found_objects part kind before after first now last next old mid new one two three four changed ended =
    adds_then
    (subst (λ list. Adds (IsOfAny (objects.IsItsChange part kind (plain_objects list)) (plain_objects after)) old mid) one
    (subst (λ list. Adds (IsOfAny (objects.IsItsChange part kind (plain_objects first)) (plain_objects list)) old mid) two changed))
    (subst (λ list. Adds (IsOfAny (objects.IsItsEnd part kind (plain_objects after)) (plain_objects list)) mid new) three
    (subst (λ list. Adds (IsOfAny (objects.IsItsEnd part kind (plain_objects list)) (plain_objects last)) mid new) four ended))

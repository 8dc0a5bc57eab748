-- Waits and services that are equal.
use Rattle.std.proofs.Common.{◌≡◌, ◌==◌, Bool, true, Option, Some, None, option_map, Decides, rules, refl, ap, subst}
use Rattle.std.proofs.lemmas.Bool.{false≢true}
use Rattle.std.proofs.lemmas.Bool.Decides.{Decides-and, Decides-eqb, Decides-int_eq}
use Rattle.std.specs.Option.{option_eq}
use denote.Enum.Bare.{same_true}
use Rattle.apex_types.specs.declared.object_kind.ObjectKind.TheVariants as kind
use Rattle.apex_types.specs.contracts.object_kind.ObjectKind.{the_type as kind_type}
use Rattle.apex_types.specs.contracts.object_kind.ObjectKindPartialEq.TheImpl as kinds
use Rattle.apex_types.specs.contracts.service.Service.{the_type}
use Rattle.apex_types.specs.contracts.service.ServicePartialEq.TheImpl as services
use Rattle.apex_types.specs.contracts.shape.End.{the_type as end_type}
use Rattle.apex_types.specs.contracts.shape.EndPartialEq.TheImpl as ends
use Rattle.apex_types.specs.declared.object_kind.ObjectKind.{ObjectKind}
use Rattle.apex_types.specs.declared.service.Service.{Service}
use Rattle.apex_types.specs.declared.shape.End.{End}
use Rattle.apex_types.specs.declared.service.Service.TheVariants as service
use Rattle.apex_types.specs.declared.shape.End.TheVariants.{Senders, Receivers}
use Rattle.apex_machine.specs.contracts.state.WaitPartialEq.TheImpl as waits
use Rattle.apex_machine.specs.contracts.state.WaitingSetPartialEq.TheImpl as sets
use Rattle.apex_machine.specs.declared.state.Wait.{Wait}
use Rattle.apex_machine.specs.declared.state.Wait.TheVariants as wait
use Rattle.apex_machine.specs.declared.state.WaitingSet.{WaitingSet}

-- options are equal exactly if what they hold is shown alike
pub same_shown_option : {Item Image : Type 0} (equal : Item → Item → Bool) (image : Item → Image) → ((a b : Item) → Decides (equal a b) (image a ≡ image b)) → (a b : Option Item)
    → Decides (option_eq equal a b) (option_map image a ≡ option_map image b)
same_shown_option equal image decides None None = (λ _. refl, λ _. refl)
same_shown_option equal image decides None (Some b) = (λ holds. absurd (false≢true holds), λ same. cc)
same_shown_option equal image decides (Some a) None = (λ holds. absurd (false≢true holds), λ same. cc)
same_shown_option {Item} {Image} equal image decides (Some a) (Some b) =
    (λ holds. ap (λ (one : Image). Some one) ((decides a b).0 holds), λ same. (decides a b).1 (let inside : image a ≡ image b = cc in inside))

-- options are equal exactly if they are the same
pub same_option : {Item : Type 0} (equal : Item → Item → Bool) → ((a b : Item) → Decides (equal a b) (a ≡ b)) → (a b : Option Item) → Decides (option_eq equal a b) (a ≡ b)
same_option equal decides None None = (λ _. refl, λ _. refl)
same_option equal decides None (Some b) = (λ holds. absurd (false≢true holds), λ same. cc)
same_option equal decides (Some a) None = (λ holds. absurd (false≢true holds), λ same. cc)
same_option {Item} equal decides (Some a) (Some b) =
    (λ holds. ap (λ (one : Item). Some one) ((decides a b).0 holds), λ same. (decides a b).1 (let inside : a ≡ b = cc in inside))

service_itself : (asked : Service) → services.eq-value.it asked asked ≡ true
service_itself service.CreateProcess = refl
service_itself _ = refl

-- services are equal exactly if they are the same
pub same_service : (a b : Service) → Decides (services.eq-value.it a b) (a ≡ b)
same_service a b = (λ holds. same_true the_type (search rules) a b holds, λ same. subst (λ one. services.eq-value.it a one ≡ true) same (service_itself a))

kind_itself : (one : ObjectKind) → kinds.eq-value.it one one ≡ true
kind_itself kind.Buffer = refl
kind_itself _ = refl

end_itself : (one : End) → ends.eq-value.it one one ≡ true
end_itself Senders = refl
end_itself Receivers = refl

-- kinds of objects, and ends, are equal exactly if they are the same
same_kind : (a b : ObjectKind) → Decides (kinds.eq-value.it a b) (a ≡ b)
same_kind a b = (λ holds. same_true kind_type (search rules) a b holds, λ same. subst (λ one. kinds.eq-value.it a one ≡ true) same (kind_itself a))

same_end : (a b : End) → Decides (ends.eq-value.it a b) (a ≡ b)
same_end a b = (λ holds. same_true end_type (search rules) a b holds, λ same. subst (λ one. ends.eq-value.it a one ≡ true) same (end_itself a))

-- so are waiting sets
same_set : (a b : WaitingSet) → Decides (sets.eq-value.it a b) (a ≡ b)
same_set a b =
    let both = Decides-and _ _ (same_kind a.kind b.kind) (Decides-and _ _ (Decides-eqb a.number b.number) (same_end a.end b.end)) in (
      λ holds. (let found = both.0 holds in λ i. record { kind = found.0 i; number = found.1.0 i; end = found.1.1 i }),
      λ same. both.1 (ap (λ one. one.kind) same, (ap (λ one. one.number) same, ap (λ one. one.end) same)),
    )

-- waits are equal exactly if they are the same
pub same_wait : (a b : Wait) → Decides (waits.eq-value.it a b) (a ≡ b)
same_wait wait.Nothing wait.Nothing = (λ _. refl, λ _. refl)
same_wait wait.ForLock wait.ForLock = (λ _. refl, λ _. refl)
same_wait (wait.NormalMode a) (wait.NormalMode b) = (λ holds. ap wait.NormalMode ((Decides-int_eq a b).0 holds), λ same. (Decides-int_eq a b).1 cc)
same_wait (wait.FirstRelease a) (wait.FirstRelease b) = (λ holds. ap wait.FirstRelease ((Decides-eqb a b).0 holds), λ same. (Decides-eqb a b).1 cc)
same_wait (wait.Delay a) (wait.Delay b) = (λ holds. ap wait.Delay ((Decides-eqb a b).0 holds), λ same. (Decides-eqb a b).1 cc)
same_wait (wait.Until a) (wait.Until b) = (λ holds. ap wait.Until ((Decides-eqb a b).0 holds), λ same. (Decides-eqb a b).1 cc)
same_wait (wait.PeriodicRelease a) (wait.PeriodicRelease b) = (λ holds. ap wait.PeriodicRelease ((Decides-eqb a b).0 holds), λ same. (Decides-eqb a b).1 cc)
same_wait (wait.Suspended a) (wait.Suspended b) =
    (λ holds. ap wait.Suspended ((same_option ◌==◌ Decides-eqb a b).0 holds), λ same. (same_option ◌==◌ Decides-eqb a b).1 cc)
same_wait (wait.At a due) (wait.At b other) =
    let both = Decides-and _ _ (same_set a b) (same_option ◌==◌ Decides-eqb due other) in (
      λ holds. (let found = both.0 holds in let sets : a ≡ b = found.0 in let times : due ≡ other = found.1 in cc),
      λ same. both.1 ((let sets : a ≡ b = cc in sets), (let times : due ≡ other = cc in times)),
    )
same_wait a b = (λ holds. cc, λ same. cc)

-- A call is outside the profile exactly if a sentence puts it there.
use Rattle.std.proofs.Common.{◌≡◌, ◌⊎◌, ℕ, Option, Bool, true, false, not, ◌&&◌, nat_eq, refl, sym, ap, inl, inr, ◌↔◌}
use Rattle.apex_laws.specs.ProfileLaws.{AwaitsMutex, IsOutsideProfile, ProfileIsTheSentence}
use Rattle.apex_types.specs.declared.object_kind.ObjectKind.TheVariants as kind
use Rattle.apex_laws.proofs.Common.{CallerOperation, End, Mode, Owns, Partition, ProcessOperation, Request, Wait, Who, in_profile, is_for_mutex, is_normal, item_at, natural_of, owns_mutex, set_at, waits_for_mutex}
use Rattle.apex_laws.proofs.Booleans.{impossible}
use Rattle.apex_laws.proofs.ConditionTests.{caller_tells, equal_tells, normal_tells, owns_tells, Tells, tells_both, tells_not}
use Rattle.apex_laws.proofs.SetNames.{same_kind_is}

-- two negations do not both hold exactly if one of the facts does
some_holds : {one other : Bool} {First Second : Type 0} → Tells one First → Tells other Second → ((not one && not other) ≡ false) ↔ (First ⊎ Second)
some_holds {one = true} first second = (λ fails. inl (first.0 refl), λ facts. refl)
some_holds {one = false} {other = true} first second = (λ fails. inr (second.0 refl), λ facts. refl)
some_holds {one = false} {other = false} first second = (λ fails. impossible (sym fails), elim [ inl fact ↦ sym (first.1 fact) | inr fact ↦ sym (second.1 fact) ])

-- a negated test that fails
not_fails : (test : Bool) → not test ≡ false → test ≡ true
not_fails true is = refl
not_fails false is = impossible (sym is)

-- a wait for a mutex
for_mutex_tells : (one : Wait) → Tells (is_for_mutex one) ((mutex : ℕ) × (end : End) × (due : Option ℕ) × (one ≡ Wait.At (set_at kind.Mutex mutex end) due))
for_mutex_tells (Wait.At wanted due) =
    (λ holds. (wanted.number, wanted.end, due, λ i. Wait.At (record { kind = same_kind_is wanted.kind kind.Mutex holds i; number = wanted.number; end = wanted.end }) due), λ fact. ap is_for_mutex fact.3)
for_mutex_tells one = (impossible, λ fact. ap is_for_mutex fact.3)

awaits_tells : (partition : Partition) (number : ℕ) → Tells (waits_for_mutex partition.table number) (AwaitsMutex partition number)
awaits_tells partition number =
    let found = caller_tells (λ process. is_for_mutex process.wait) (λ process. (mutex : ℕ) × (end : End) × (due : Option ℕ) × (process.wait ≡ Wait.At (set_at kind.Mutex mutex end) due))
    (λ process. for_mutex_tells process.wait) (item_at partition.table number) in (
      λ holds. let is = found.0 holds in record { process = is.0; is_member = is.1; mutex = is.2.0; end = is.2.1; due = is.2.2; waits = is.2.3 },
      λ fact. found.1 (fact.process, fact.is_member, (fact.mutex, fact.end, fact.due, fact.waits)),
    )

module _ (who : Who) (partition : Partition) where
  -- the caller is process 0 before NORMAL, or owns a mutex; a process owns a mutex, or waits for one
  caller_stops : ((not (nat_eq who.proc 0 && not (is_normal partition.mode)) && not (owns_mutex partition.mutexes who.proc)) ≡ false)
      ↔ (((who.proc ≡ 0) × ¬ (partition.mode ≡ Mode.Normal)) ⊎ ((held : ℕ) × Owns partition who.proc held))
  caller_stops = some_holds (tells_both (equal_tells who.proc 0) (tells_not (normal_tells partition.mode))) (owns_tells partition who.proc)

  is_held : (number : ℕ) → ((not (owns_mutex partition.mutexes number) && not (waits_for_mutex partition.table number)) ≡ false)
      ↔ (((held : ℕ) × Owns partition number held) ⊎ AwaitsMutex partition number)
  is_held number = some_holds (owns_tells partition number) (awaits_tells partition number)

  outside : (asked : Request) → in_profile who partition asked ≡ false → IsOutsideProfile who partition asked
  outside (Request.Process process ProcessOperation.Stop) is = IsOutsideProfile.owner_is_stopped ((owns_tells partition (natural_of process)).0 (not_fails (owns_mutex partition.mutexes (natural_of process)) is))
  outside (Request.Caller CallerOperation.StopSelf) is =
      elim (caller_stops.0 is) [ inl none ↦ IsOutsideProfile.initialising_stops none.1 none.0 | inr owns ↦ IsOutsideProfile.owner_stops owns ]
  outside (Request.Process process ProcessOperation.Suspend) is =
      elim ((is_held (natural_of process)).0 is) [ inl owns ↦ IsOutsideProfile.owner_is_suspended owns | inr awaits ↦ IsOutsideProfile.waiter_is_suspended awaits ]
  outside (Request.Process process (ProcessOperation.SetPriority priority)) is =
      elim ((is_held (natural_of process)).0 is) [ inl owns ↦ IsOutsideProfile.owner_is_changed owns | inr awaits ↦ IsOutsideProfile.waiter_is_changed awaits ]
  outside _ is = impossible (sym is)

  lies_outside : {asked : Request} → IsOutsideProfile who partition asked → in_profile who partition asked ≡ false
  lies_outside (IsOutsideProfile.owner_is_stopped {process = process} owns) = ap not ((owns_tells partition (natural_of process)).1 owns)
  lies_outside (IsOutsideProfile.initialising_stops other none) = caller_stops.1 (inl (none, other))
  lies_outside (IsOutsideProfile.owner_stops owns) = caller_stops.1 (inr owns)
  lies_outside (IsOutsideProfile.owner_is_suspended {process = process} owns) = (is_held (natural_of process)).1 (inl owns)
  lies_outside (IsOutsideProfile.waiter_is_suspended {process = process} awaits) = (is_held (natural_of process)).1 (inr awaits)
  lies_outside (IsOutsideProfile.owner_is_changed {process = process} owns) = (is_held (natural_of process)).1 (inl owns)
  lies_outside (IsOutsideProfile.waiter_is_changed {process = process} awaits) = (is_held (natural_of process)).1 (inr awaits)

pub profile_is_the_sentence : ProfileIsTheSentence
profile_is_the_sentence who partition asked = (outside who partition asked, lies_outside who partition)

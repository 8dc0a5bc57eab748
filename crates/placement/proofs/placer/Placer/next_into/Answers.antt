use Rattle.std.proofs.Common.{◌≡◌, List, Option, Result, ◌∙◌, ◌∷◌, [], Bool, length, suc, sym, ap, subst, refl, Some, None, Ok, Err, ℕ}
use Rattle.std.specs.Prelude.{IfSome}
use Rattle.std.specs.Result.{IsErrAnd}
use Rattle.csv_rows.specs.Source.{Gives}
use Rattle.order_cert.specs.Kept.{place_of, put, taken_of}
use Rattle.record_read.specs.Steps.{IsOutside}
use Rattle.core_intake.specs.Answered.{Answer, Answered}
use Rattle.placement.specs.declared.fault.PlacingFault.{PlacingFault}
use Rattle.placement.specs.Lanes.{IsAhead, IsEnded, OnEnd, Placing, left_at}
use Rattle.placement.specs.Reading.{CanFail}
use Rattle.placement.specs.Scan.{Scan, cert_fault, led_by, placed_at, row_fault}
use Rattle.placement.proofs.Ahead.{AreAhead, EndsSo, cert_ends, none_next, pair_refused, record_absent, record_leads, row_ends}
use Rattle.placement.proofs.Puts.{core_end, core_fault, core_record}
use Rattle.placement.proofs.placer.Placer.next_into.Goals as goal

pub returns-in-Ok-None-clause-puts : goal.returns-in-Ok-None-clause-puts
returns-in-Ok-None-clause-puts g c =
    let can : CanFail = record { recordings = g.R.TextSource.can_fail; certificate = g.C.TextSource.can_fail } in
    let going = c.self.invariant.2 (ap (λ placing. placing.ended) c.self.view_is ∙ c.requires.going) in
    let gives = rw c.in-Ok-None.field-0-is at (c.in-Ok-None.ensures.gives going) in
    let old : Placing = record { lanes = c.self.inside.intake; pairs = c.self.inside.pairs.left; kept = c.self.inside.keeper; ended = c.self.inside.ended } in (
      Ok None,
      (refl, refl),
      tt,
      λ honest. subst (λ placing. EndsSo can placing (Ok tt)) c.self.view_is
          (none_next can old c.next.new.self.left (Ok tt) gives (rw c.place-place.ensures at (c.in_ok-finish-in-Ok-None.ensures.ended honest))),
    )

-- a fault that is handed on is the answer
err_is : (result : Result Bool PlacingFault) (fault : PlacingFault) → IsErrAnd result (λ one. one ≡ fault) → result ≡ Err fault
err_is (Ok found) fault is = absurd is
err_is (Err one) fault is = ap Err is

pub returns-in_err-finish-in-Ok-None-clause-puts : goal.returns-in_err-finish-in-Ok-None-clause-puts
returns-in_err-finish-in-Ok-None-clause-puts g c =
    let can : CanFail = record { recordings = g.R.TextSource.can_fail; certificate = g.C.TextSource.can_fail } in
    let going = c.self.invariant.2 (ap (λ placing. placing.ended) c.self.view_is ∙ c.requires.going) in
    let gives = rw c.in-Ok-None.field-0-is at (c.in-Ok-None.ensures.gives going) in
    let old : Placing = record { lanes = c.self.inside.intake; pairs = c.self.inside.pairs.left; kept = c.self.inside.keeper; ended = c.self.inside.ended } in
    let fault = c.in_err-finish-in-Ok-None.field-0.0 in (
      Err fault,
      (err_is c.from_residual.result fault c.from_residual.ensures.1, refl),
      tt,
      λ honest. subst (λ placing. EndsSo can placing (Err fault)) c.self.view_is
          (none_next can old c.next.new.self.left (Err fault) gives
          (subst (λ place. OnEnd (IsEnded can.recordings old.lanes place (taken_of old.kept)) (Err fault)) c.place-place.ensures (c.in_err-finish-in-Ok-None.ensures.ended honest))),
    )

pub returns-in-Err-clause-puts : goal.returns-in-Err-clause-puts
returns-in-Err-clause-puts g c =
    let can : CanFail = record { recordings = g.R.TextSource.can_fail; certificate = g.C.TextSource.can_fail } in
    let going = c.self.invariant.2 (ap (λ placing. placing.ended) c.self.view_is ∙ c.requires.going) in
    let old : Placing = record { lanes = c.self.inside.intake; pairs = c.self.inside.pairs.left; kept = c.self.inside.keeper; ended = c.self.inside.ended } in
    let answered = c.cert_fault.ensures ∙ ap (λ place. cert_fault place c.in-Err.fault) c.place-place.ensures in (
      Err c.cert_fault.result,
      (refl, refl),
      tt,
      λ honest. subst (λ fault. EndsSo can c.args.self.now (Err fault)) (sym answered)
          (subst (λ placing. EndsSo can placing (Err (cert_fault (place_of old.kept) c.in-Err.fault))) c.self.view_is (cert_ends can old c.next.new.self.left c.in-Err.fault (c.in-Err.ensures.gives going))),
    )

pub returns-in-Err-take-clause-puts : goal.returns-in-Err-take-clause-puts
returns-in-Err-take-clause-puts g c =
    let inside = c.self.inside in
    let going = c.self.invariant.2 (ap (λ placing. placing.ended) c.self.view_is ∙ c.requires.going) in
    let gives = rw c.in-Ok-Some.field-0-is at (c.in-Ok-Some.ensures.gives going) in (
      Err c.order_fault.result,
      (refl, refl),
      tt,
      λ honest. rw (c.order_fault.ensures, c.place-place.ensures, sym c.self.view_is)
          (pair_refused _ (length inside.intake) inside.intake inside.pairs.left c.next.new.self.left (taken_of inside.keeper) (place_of inside.keeper) c.in-Ok-Some.pair c.in-Err-take.fault gives
          (rw c.self.invariant.0 at c.in-Err-take.ensures.refused)),
    )

-- what a core answered, by another word for the core and for the answer
answer_at : (can_fail : Bool) (old new : List Answered) (core other : ℕ) (answer given : Answer) → answer ≡ given → core ≡ other
    → IfSome (left_at old core) (λ items. Gives (IsOutside can_fail) items answer (left_at new core))
    → IfSome (left_at old other) (λ items. Gives (IsOutside can_fail) items given (left_at new other))
answer_at can_fail old new core other answer given is same gives =
    subst (λ n. IfSome (left_at old n) (λ items. Gives (IsOutside can_fail) items given (left_at new n))) same
    (subst (λ one. IfSome (left_at old core) (λ items. Gives (IsOutside can_fail) items one (left_at new core))) is gives)

pub returns-in-Ok-false-clause-puts : goal.returns-in-Ok-false-clause-puts
returns-in-Ok-false-clause-puts g c =
    let inside = c.self.inside in
    let pair = c.in-Ok-Some.pair in
    let going = c.self.invariant.2 (ap (λ placing. placing.ended) c.self.view_is ∙ c.requires.going) in
    let gives = rw c.in-Ok-Some.field-0-is at (c.in-Ok-Some.ensures.gives going) in
    let answered = c.next_of_into.ensures.puts in
    let none = core_end _ _ answered.0 _ _ (rw c.in-Ok-false.field-0-test at (rw c.in-Ok-false.is at answered.1)) in (
      Err c.order_fault-in-Ok-false.result,
      (refl, none.1),
      tt,
      λ honest. rw (c.order_fault-in-Ok-false.ensures, c.place-place.ensures, sym c.self.view_is)
          (record_absent _ (length inside.intake) inside.intake inside.pairs.left c.next.new.self.left (taken_of inside.keeper) (place_of inside.keeper) pair
          (left_at c.next_of_into.new.intake pair.core) gives (rw c.self.invariant.0 at c.in-Ok.ensures.fits) (answer_at _ _ _ _ _ _ _ none.0 c.new-core.ensures (answered.2 honest))),
    )

pub returns-in-Err-next_of_into-clause-puts : goal.returns-in-Err-next_of_into-clause-puts
returns-in-Err-next_of_into-clause-puts g c =
    let can : CanFail = record { recordings = g.R.TextSource.can_fail; certificate = g.C.TextSource.can_fail } in
    let pair = c.in-Ok-Some.pair in
    let going = c.self.invariant.2 (ap (λ placing. placing.ended) c.self.view_is ∙ c.requires.going) in
    let gives = rw c.in-Ok-Some.field-0-is at (c.in-Ok-Some.ensures.gives going) in
    let old : Placing = record { lanes = c.self.inside.intake; pairs = c.self.inside.pairs.left; kept = c.self.inside.keeper; ended = c.self.inside.ended } in
    let fault = c.in-Err-next_of_into.fault in
    let answered = c.in-Err-next_of_into.ensures.puts in
    let failed = core_fault _ _ answered.0 _ _ fault answered.1 in (
      Err c.row_fault.result,
      (refl, failed.1),
      tt,
      λ honest. rw c.row_fault.ensures (subst (λ placing. EndsSo can placing (Err (row_fault pair.core pair.seq fault))) c.self.view_is
          (row_ends can old c.next.new.self.left pair (left_at c.next_of_into.new.intake pair.core) fault gives
          (rw c.self.invariant.0 at c.in-Ok.ensures.fits) (answer_at _ _ _ _ _ _ _ failed.0 c.new-core.ensures (answered.2 honest)))),
    )

pub returns-in-Ok-true-clause-puts : goal.returns-in-Ok-true-clause-puts
returns-in-Ok-true-clause-puts g c =
    let can : CanFail = record { recordings = g.R.TextSource.can_fail; certificate = g.C.TextSource.can_fail } in
    let inside = c.self.inside in
    let pair = c.in-Ok-Some.pair in
    let lanes = c.next_of_into.new.intake in
    let left = c.next.new.self.left in
    let keeper = c.take.new.self in
    let going = c.self.invariant.2 (ap (λ placing. placing.ended) c.self.view_is ∙ c.requires.going) in
    let gives = rw c.in-Ok-Some.field-0-is at (c.in-Ok-Some.ensures.gives going) in
    let answered = c.next_of_into.ensures.puts in
    let taken = core_record _ _ answered.0 _ _ (rw c.in-Ok-true.field-0-test at (rw c.in-Ok-true.is at answered.1)) in
    let rec = taken.0 in
    let Led : Scan → (pos core : ℕ) → Scan = λ scanned pos core. led_by (placed_at pos core rec ∷ []) scanned in (
      Ok (Some (placed_at c.in-Ok.pos c.new-core.result rec)),
      (refl, taken.2),
      (rw (← c.self.view_is) c.in-Ok.ensures.place, rw (← c.self.view_is, c.new-core.ensures, ← c.self.invariant.0) c.in-Ok.ensures.within),
      λ honest scanned ahead.
          let onward : AreAhead can (length inside.intake) lanes left (put (taken_of inside.keeper) pair.core (suc (taken_of inside.keeper pair.core))) (suc (place_of inside.keeper)) scanned =
          subst (λ place. AreAhead can (length inside.intake) lanes left (put (taken_of inside.keeper) pair.core (suc (taken_of inside.keeper pair.core))) place scanned) c.in-Ok.ensures.next
          (subst (λ taken. AreAhead can (length inside.intake) lanes left taken (place_of keeper) scanned) c.in-Ok.ensures.taken
          (subst (λ cores. AreAhead can cores lanes left (taken_of keeper) (place_of keeper) scanned) c.next_of_into.ensures.count ahead)) in
          subst (λ placing. IsAhead can placing (Led scanned c.in-Ok.pos c.new-core.result)) c.self.view_is
          (subst (λ pos. AreAhead can (length inside.intake) inside.intake inside.pairs.left (taken_of inside.keeper) (place_of inside.keeper) (Led scanned pos c.new-core.result)) (sym c.in-Ok.ensures.place)
          (subst (λ core. AreAhead can (length inside.intake) inside.intake inside.pairs.left (taken_of inside.keeper) (place_of inside.keeper) (Led scanned (place_of inside.keeper) core)) (sym c.new-core.ensures)
          (record_leads can (length inside.intake) inside.intake lanes inside.pairs.left left (taken_of inside.keeper) (place_of inside.keeper) pair rec scanned gives
          (rw c.self.invariant.0 at c.in-Ok.ensures.fits) (answer_at _ _ _ _ _ _ _ taken.1 c.new-core.ensures (answered.2 honest))
          (λ other apart. c.next_of_into.ensures.others other (λ same. apart (same ∙ c.new-core.ensures))) onward))),
    )

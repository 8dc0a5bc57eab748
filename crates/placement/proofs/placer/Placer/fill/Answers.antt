use Rattle.std.proofs.Common.{◌≡◌, ◌∙◌, ◌++◌, ◌∷◌, ◌+◌, ◌<◌, [], length, true, refl, sym, ap, subst, arith, Ok, Err}
use Rattle.std.proofs.lemmas.List.{length-append}
use Rattle.apex_machine.specs.Runs.{ArePlaced, AreOfCores}
use Rattle.order_cert.specs.Kept.{place_of}
use Rattle.placement.specs.Lanes.{Lead}
use Rattle.placement.specs.Reading.{CanFail}
use Rattle.placement.proofs.Ahead.{end_on, lead_on}
use Rattle.placement.proofs.Places.{placed_more, of_cores_more}
use Rattle.placement.proofs.Puts.{next_end, next_fault, next_record}
use Rattle.placement.proofs.placer.Placer.fill.Goals as goal

pub records-init : goal.records-init
records-init g c =
    let can : CanFail = record { recordings = g.R.TextSource.can_fail; certificate = g.C.TextSource.can_fail } in
    record {
      lead = λ honest. subst (λ items. Lead can c.args.self.now items c.args.self.now) (sym c.requires.empty) (λ scanned ahead. ahead);
      honest = λ honest. honest;
      placed = rw c.requires.empty tt;
      of_cores = rw c.requires.empty tt;
      place = rw c.requires.empty (omega arith);
      few = rw c.requires.empty (omega arith);
      going = c.requires.going;
      lanes = refl;
    }

pub returns-in-Ok-false-clause-filled : goal.returns-in-Ok-false-clause-filled
returns-in-Ok-false-clause-filled g c =
    let can : CanFail = record { recordings = g.R.TextSource.can_fail; certificate = g.C.TextSource.can_fail } in
    let put = c.next_into.ensures.puts in
    let ended = next_end put.0 _ _ (rw c.in-Ok-false.field-0-test at (rw c.in-Ok-false.is at put.1)) in
    λ honest. rw (ended.1, c.try_reserve.ensures.items)
    (end_on can c.args.self.now c.records.self c.records.round.items (Ok tt) (c.records.invariant.lead (c.next_into.ensures.honest honest)) (rw ended.0 at (put.3 honest)))

pub returns-in-Err-Input-clause-filled : goal.returns-in-Err-Input-clause-filled
returns-in-Err-Input-clause-filled g c =
    let can : CanFail = record { recordings = g.R.TextSource.can_fail; certificate = g.C.TextSource.can_fail } in
    let put = c.in-Err-Input.ensures.puts in
    let ended = next_fault put.0 _ _ _ (rw c.in-Err-Input.field-0-is at put.1) in
    λ honest. rw (ended.1, c.try_reserve.ensures.items)
    (end_on can c.args.self.now c.records.self c.records.round.items (Err c.in-Err-Input.fault) (c.records.invariant.lead (c.in-Err-Input.ensures.honest honest))
    (rw ended.0 at (put.3 honest)))

pub records-preserved : goal.records-preserved
records-preserved g c =
    let can : CanFail = record { recordings = g.R.TextSource.can_fail; certificate = g.C.TextSource.can_fail } in
    let front = c.records.round.items in
    let before = c.records.invariant in
    let put = c.next_into.ensures.puts in
    let next = next_record put.0 _ _ (rw c.in-Ok-true.field-0-test at (rw c.in-Ok-true.is at put.1)) in
    let one = next.0 in
    let grown : c.next_into.new.records.items ≡ front ++ one ∷ [] = next.2 ∙ ap (λ items. items ++ one ∷ []) c.try_reserve.ensures.items in
    let at = rw next.1 at put.2 in
    let found : c.next_into.result ≡ Ok true = c.in-Ok-true.is ∙ ap Ok c.in-Ok-true.field-0-test in
    let place = c.next_into.ensures.place found in
    let long : length (front ++ one ∷ []) ≡ length front + 1 = length-append front (one ∷ []) in
    record {
      lead = λ honest. subst (λ items. Lead can c.args.self.now items c.next_into.new.self) (sym grown)
          (lead_on can c.args.self.now c.records.self c.next_into.new.self front one (before.lead (c.next_into.ensures.honest honest)) (rw next.1 at (put.3 honest)));
      honest = λ honest. before.honest (c.next_into.ensures.honest honest);
      placed = subst (ArePlaced (place_of c.args.self.now.kept)) (sym grown) (placed_more (place_of c.args.self.now.kept) front one before.placed (at.0 ∙ before.place));
      of_cores = subst (AreOfCores (length c.args.self.now.lanes)) (sym grown)
          (of_cores_more (length c.args.self.now.lanes) front one before.of_cores (subst (λ n. one.core < n) before.lanes at.1));
      place = place ∙ omega (arith, before.place, ap length grown, long);
      few = omega (arith, c.records-test.true, c.len.ensures, ap length grown, long);
      going = c.next_into.ensures.going found;
      lanes = c.next_into.ensures.lanes ∙ before.lanes;
    }

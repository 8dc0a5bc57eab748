-- The first due time that is of no lower core.
use Rattle.std.proofs.Common.{◌≡◌, Some, None, refl, rules, sym, ◌∙◌}
use Rattle.std.proofs.lemmas.Bool.{ltb-false, ltb-true}
use Rattle.std.proofs.lemmas.Option.{slice_get_past, slice_get_read}
use Rattle.scheduling.specs.Orders.{place_where}
use Rattle.scheduling.specs.Ranks.{due_before}
use Rattle.scheduling.proofs.Firsts.{earlier_carries, is_earlier}
use Rattle.scheduling.proofs.Missed.{some_reached-at}
use Rattle.scheduling.proofs.Orders.{parted}
use Rattle.scheduling.proofs.order.is_some_reached.Goals as goal

pub returns-then-eq : goal.returns-then-eq
returns-then-eq c =
    let dues = c.as_slice-in_order.result.now in
    let core = c.args.core in
    let ordered = c.as_slice-in_order.ensures.in_order in
    let at : c.passing-place.result ≡ place_where (is_earlier core) dues
    = c.passing-place.ensures (is_earlier core) (λ item answer says. search rules) (parted due_before (is_earlier core) (earlier_carries core) dues ordered) in
    let found = c.in-Some.ensures.lookup in
    let there = slice_get_read dues _ _ c.in-Some.due.now refl (ltb-true _ _ (sym found.0)) found.1 in
    rw (← c.as_slice-in_order.ensures.keys)
    (sym (rw (sym c.eq.ensures ∙ c.if-eq.true) at (some_reached-at core c.args.time c.passing-place.result dues (Some c.in-Some.due.now) ordered at there)))

pub returns-else-eq : goal.returns-else-eq
returns-else-eq c =
    let dues = c.as_slice-in_order.result.now in
    let core = c.args.core in
    let ordered = c.as_slice-in_order.ensures.in_order in
    let at : c.passing-place.result ≡ place_where (is_earlier core) dues
    = c.passing-place.ensures (is_earlier core) (λ item answer says. search rules) (parted due_before (is_earlier core) (earlier_carries core) dues ordered) in
    let found = c.in-Some.ensures.lookup in
    let there = slice_get_read dues _ _ c.in-Some.due.now refl (ltb-true _ _ (sym found.0)) found.1 in
    rw (← c.as_slice-in_order.ensures.keys)
    (c.if-eq.false ∙ sym (rw (sym c.eq.ensures ∙ c.if-eq.false) at (some_reached-at core c.args.time c.passing-place.result dues (Some c.in-Some.due.now) ordered at there)))

pub returns-in-None : goal.returns-in-None
returns-in-None c =
    let dues = c.as_slice-in_order.result.now in
    let core = c.args.core in
    let ordered = c.as_slice-in_order.ensures.in_order in
    let at : c.passing-place.result ≡ place_where (is_earlier core) dues
    = c.passing-place.ensures (is_earlier core) (λ item answer says. search rules) (parted due_before (is_earlier core) (earlier_carries core) dues ordered) in
    let missing = rw c.in-None.is at c.get.ensures.lookup in
    rw (← c.as_slice-in_order.ensures.keys)
    (sym (some_reached-at core c.args.time c.passing-place.result dues None ordered at (slice_get_past dues _ (ltb-false _ _ (sym missing.0)))))

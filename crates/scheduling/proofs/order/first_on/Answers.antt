-- The first rank that is of no lower core.
use Rattle.std.proofs.Common.{◌≡◌, Some, None, refl, rules, sym, ◌∙◌}
use Rattle.std.proofs.lemmas.Bool.{ltb-false, ltb-true}
use Rattle.std.proofs.lemmas.Option.{slice_get_past, slice_get_read}
use Rattle.scheduling.specs.Orders.{place_where}
use Rattle.scheduling.specs.Ranks.{rank_before}
use Rattle.scheduling.proofs.Firsts.{below_carries, first_on-at, is_below}
use Rattle.scheduling.proofs.Orders.{parted}
use Rattle.scheduling.proofs.order.first_on.Goals as goal
use Rattle.scheduling.proofs.order.first_on.Goals.{in_default-via-in-Some+else-eq, in_default-via-in_default}

pub returns-in-Some : goal.returns-in-Some
returns-in-Some c =
    let ranks = c.as_slice-ranks_in_order.result.now in
    let core = c.args.core in
    let ordered = c.as_slice-ranks_in_order.ensures.in_order in
    let at : c.passing-place.result ≡ place_where (is_below core) ranks
    = c.passing-place.ensures (is_below core) (λ item answer says. search rules) (parted rank_before (is_below core) (below_carries core) ranks ordered) in
    let found = c.in-Some.ensures.lookup in
    let there = slice_get_read ranks _ _ c.in-Some.rank.now refl (ltb-true _ _ (sym found.0)) found.1 in
    rw (← c.as_slice-ranks_in_order.ensures.keys)
    (sym (rw (sym c.eq.ensures ∙ c.if-eq.true) at (first_on-at core c.passing-place.result ranks (Some c.in-Some.rank.now) ordered at there)))

pub returns-in_default : goal.returns-in_default
returns-in_default c =
    let ranks = c.as_slice-ranks_in_order.result.now in
    let core = c.args.core in
    let ordered = c.as_slice-ranks_in_order.ensures.in_order in
    let at : c.passing-place.result ≡ place_where (is_below core) ranks
    = c.passing-place.ensures (is_below core) (λ item answer says. search rules) (parted rank_before (is_below core) (below_carries core) ranks ordered) in
    rw (← c.as_slice-ranks_in_order.ensures.keys)
    (sym (elim c.in_default.branch [
      | in_default-via-in-Some+else-eq w ↦
          let found = w.in-Some.ensures.lookup in
          let there = slice_get_read ranks _ _ w.in-Some.rank.now refl (ltb-true _ _ (sym found.0)) found.1 in
          rw (sym w.eq.ensures ∙ w.if-eq.false) at (first_on-at core c.passing-place.result ranks (Some w.in-Some.rank.now) ordered at there)
      | in_default-via-in_default w ↦
          let missing = rw w.in_default.is at c.get.ensures.lookup in
          first_on-at core c.passing-place.result ranks None ordered at (slice_get_past ranks _ (ltb-false _ _ (sym missing.0)))
    ]))

-- Those of lower cores are left out.
use Rattle.std.proofs.Common.{◌≡◌, ◌+◌, rules, arith}
use Rattle.scheduling.specs.Firsts.{due_count}
use Rattle.scheduling.specs.Orders.{place_where}
use Rattle.scheduling.specs.Ranks.{due_before}
use Rattle.scheduling.proofs.Firsts.{by_carries, due_count-between, earlier_carries, is_by, is_earlier}
use Rattle.scheduling.proofs.Orders.{parted}
use Rattle.scheduling.proofs.order.due_count.Goals as goal

between : (c : goal.After-passing-reached) → c.passing-reached.result ≡ c.passing-earlier.result + due_count c.args.core c.args.time c.as_slice-in_order.result.now
between c =
    let dues = c.as_slice-in_order.result.now in
    let core = c.args.core in
    let time = c.args.time in
    let ordered = c.as_slice-in_order.ensures.in_order in
    let earlier : c.passing-earlier.result ≡ place_where (is_earlier core) dues
    = c.passing-earlier.ensures (is_earlier core) (λ item answer says. search rules) (parted due_before (is_earlier core) (earlier_carries core) dues ordered) in
    let reached : c.passing-reached.result ≡ place_where (is_by core time) dues
    = c.passing-reached.ensures (is_by core time) (λ item answer says. search rules) (parted due_before (is_by core time) (by_carries core time) dues ordered) in
    omega (arith, earlier, reached, due_count-between core time dues ordered)

pub overflow_sub-result : goal.overflow_sub-result
overflow_sub-result c = omega (arith, between c)

pub returns : goal.returns
returns c = rw (← c.as_slice-in_order.ensures.keys) (omega (arith, between c))

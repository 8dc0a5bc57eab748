use Rattle.apex_types.specs.Rising.{IsRising}
use Rattle.wait_set.proofs.WaiterLists.{once-rising}
use Rattle.wait_set.proofs.ended.Ended.is_exactly.Goals as goal

pub returns-in-All : goal.returns-in-All
returns-in-All c =
    let exactly = rw c.as_slice-named.ensures.list at c.is_exactly.ensures in
    let rising : IsRising c.args.woken.now = rw c.as_slice-named.ensures.list at c.as_slice-named.ensures.rising in
    rw c.in-All.is (λ is. (exactly.0 is).0, λ exact. exactly.1 (exact, once-rising c.args.woken.now rising))

pub returns-in-First : goal.returns-in-First
returns-in-First c =
    let exactly = rw c.as_slice-named.ensures.list at c.is_first.ensures in
    let rising : IsRising c.args.woken.now = rw c.as_slice-named.ensures.list at c.as_slice-named.ensures.rising in
    rw c.in-First.is (λ is. (exactly.0 is).0, λ exact. exactly.1 (exact, once-rising c.args.woken.now rising))

-- What the orders of processes, places and ranks say.
use Rattle.std.proofs.Common.{◌≡◌, ℕ, Bool, ◌&&◌, ◌||◌, nat_eq, nat_lt, refl, sym, ◌∙◌, arith}
use Rattle.std.proofs.lemmas.Bool.Decides.{nat_tests}
use Rattle.std.specs.BTreeMap.{is_at}
use Rattle.std.specs.Cmp.{both_tied}
use Rattle.std.specs.Ordering.{is_eq, is_gt, nat_cmp, ordering_then}
use Rattle.apex_types.specs.declared.record.Who.{Who}
use Rattle.apex_types.specs.contracts.record.WhoOrd.TheImpl as who_order
use Rattle.apex_machine.specs.declared.state.Entry.{Entry}
use Rattle.apex_machine.specs.State.{is_same}
use Rattle.apex_machine.specs.Waiting.{precedes}
use Rattle.apex_types.specs.declared.discipline.Discipline.{Discipline}
use Rattle.apex_types.specs.declared.discipline.Discipline.TheVariants.{Fifo, Priority}
use Rattle.wait_set.specs.declared.rank.Rank.{Rank}
use Rattle.wait_set.specs.contracts.rank.RankOrd.TheImpl as rank_order
use Rattle.wait_set.specs.Kept.{is_rank}
use Rattle.wait_set.specs.Ranks.{rank_of}

-- numbers are equal by their order
pub number_is : (one other : ℕ) → is_eq (nat_cmp one other) ≡ nat_eq one other
number_is one other = grind (arith, nat_tests)

-- equality of numbers goes both ways
pub number_swap : (one other : ℕ) → nat_eq one other ≡ nat_eq other one
number_swap one other = grind (arith, nat_tests)

-- a number is above another in their order if the other is below it
pub number_above : (one other : ℕ) → is_gt (nat_cmp one other) ≡ nat_lt other one
number_above one other = grind (arith, nat_tests)

-- a pair of numbers is above another in their order, by the first or else by the second
pub pair_above : (a b p q : ℕ) → is_gt (ordering_then (nat_cmp a b) (nat_cmp q p)) ≡ (nat_lt b a || (nat_eq a b && nat_lt p q))
pair_above a b p q = grind (arith, nat_tests, number_above)

-- the order of processes finds the same process
pub who_is : (one other : Who) → is_at (who_order.cmp-value.it one) other ≡ is_same one other
who_is one other = sym (both_tied _ _ _ _ (sym (number_is one.part other.part)) (sym (number_is one.proc other.proc)))

-- the order of ranks finds the same rank
pub rank_is : (one other : Rank) → is_at (rank_order.cmp-value.it one) other ≡ is_rank one other
rank_is one other =
    sym (both_tied _ _ _ _ (number_swap one.urgency.0 other.urgency.0 ∙ sym (number_is other.urgency.0 one.urgency.0)) (sym (number_is one.place other.place)))

-- whether a rank goes on before another
abbrev pub rank_precedes : Rank → Rank → Bool
rank_precedes one other =
    nat_lt other.urgency.0 one.urgency.0 || (nat_eq one.urgency.0 other.urgency.0 && nat_lt one.place other.place)

-- a rank is above another in their order if the other comes first
pub rank_above : (one other : Rank) → is_gt (rank_order.cmp-value.it other one) ≡ rank_precedes one other
rank_above one other = pair_above one.urgency.0 other.urgency.0 one.place other.place

-- one entry precedes another if its rank does
pub precedes-rank : (discipline : Discipline) (one other : Entry)
    → precedes discipline one other ≡ rank_precedes (rank_of discipline one) (rank_of discipline other)
precedes-rank Fifo one other = refl
precedes-rank Priority one other = refl

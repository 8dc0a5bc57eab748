-- As many are named as fall due.
use Rattle.std.proofs.Common.{◌≡◌, ℕ, true, nat_eq, ap, sym, ◌∙◌, arith}
use Rattle.std.proofs.lemmas.Bool.Decides.{nat_tests}
use Rattle.scheduling.specs.Firsts.{due_count}
use Rattle.scheduling.specs.Orders.{keys_in}
use Rattle.scheduling.specs.Ranks.{due_before, due_time_of}
use Rattle.scheduling.proofs.Counts.{as_many, due_are_named}
use Rattle.scheduling.proofs.table.ProcTable.due_are_named.Goals as goal

equal : (a b : ℕ) → nat_eq a b ≡ true → a ≡ b
equal a b h = grind (arith, nat_tests)

test_equal : (a b : ℕ) → a ≡ b → nat_eq a b ≡ true
test_equal a b h = grind (arith, nat_tests)

pub returns : goal.returns
returns c =
    let a = c.args in
    let entries = c.self.inside.processes.entries in
    let each = rw (← c.self.view_is) at c.requires.each in
    let count : c.due_count.result ≡ due_count a.core a.time (keys_in due_before due_time_of entries)
    = c.due_count.ensures ∙ ap (due_count a.core a.time) c.self.invariant.due_times in
    rw (← c.self.view_is) (
      λ same. due_are_named a.part a.core a.time entries a.woken.now c.len.ensures.unique c.requires.rising each
          (sym c.count_of.ensures ∙ equal c.count_of.result c.due_count.result same ∙ count),
      λ back. test_equal c.count_of.result c.due_count.result
          (c.count_of.ensures ∙ as_many a.part a.core a.time entries a.woken.now c.len.ensures.unique c.requires.rising each back ∙ sym count),
    )

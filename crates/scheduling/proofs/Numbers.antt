-- The numbers of processes: new ones, and those that callers give.
use Rattle.std.proofs.Common.{◌≡◌, ◌≢◌, true≢false, is_some, ℕ, zero, suc, ◌<◌, ◌≤◌, ◌^◌, true, is_none, nat_le, nat_lt, Option, Some, None, ℤ, pos, negsuc, refl, sym, ap, arith}
use Rattle.std.proofs.lemmas.Bool.{and_parts}
use Rattle.std.proofs.lemmas.Bool.Decides.{nat_tests}
use Rattle.apex_types.specs.declared.limits.TheConstants.{GREATEST_NUMBER}
use Rattle.apex_machine.specs.declared.state.Process.{Process}
use Rattle.apex_machine.specs.State.{Table, created, is_free, item_at}
use Rattle.apex_machine.specs.Answer.{is_new}
use Rattle.scheduling.specs.Numbers.{NumbersFit, number_of}
use Rattle.scheduling.proofs.Tables.{absent-above}

none_of : (found : Option Process) → is_none found ≡ true → found ≡ None
none_of None h = refl
none_of (Some process) h = cc

-- no process has a new number
pub new-absent : (table : Table) (number : ℕ) → is_new (is_free table) (Some (pos number)) ≡ true → item_at table number ≡ None
new-absent table number new = none_of _ (and_parts (nat_le number GREATEST_NUMBER) _ (and_parts (nat_lt 0 number) _ new).1).1

-- a new number fits
pub new-fits : (table : Table) (number : ℕ) → is_new (is_free table) (Some (pos number)) ≡ true → number < 2 ^ 32
new-fits table number new = grind (arith, nat_tests)

-- a number that can be no process's has no process
pub created-none : (table : Table) (given : ℤ) → NumbersFit table → number_of given ≡ None → created table given ≡ None
created-none table (pos zero) fit none = refl
created-none table (pos (suc n)) fit none = absent-above table (suc n) fit (above n none)
  where
    above : (m : ℕ) → number_of (pos (suc m)) ≡ None → 2 ^ 32 ≤ suc m
    above m h = grind (arith, nat_tests)
created-none table (negsuc n) fit none = refl

-- another number has the process of the table
pub created-some : (table : Table) (given : ℤ) (number : ℕ) → number_of given ≡ Some number → ¬ (given ≡ pos 0) → created table given ≡ item_at table number
created-some table (pos zero) number found apart = absurd (apart refl)
created-some table (pos (suc n)) number found apart =
    let same : suc n ≡ number = grind (arith, nat_tests) in
    rw same refl
created-some table (negsuc n) number found apart = cc

-- a natural number that fits is a process's own

pub natural-none : (table : Table) (n : ℕ) → NumbersFit table → number_of (pos n) ≡ None → item_at table n ≡ None
natural-none table n fit none = absent-above table n fit (grind (arith, nat_tests))

pub natural-some : (n number : ℕ) → number_of (pos n) ≡ Some number → number ≡ n
natural-some n number found = grind (arith, nat_tests)

-- a caller's number that fits is that number
pub given-some : (given : ℤ) (number : ℕ) → number_of given ≡ Some number → given ≡ pos number
given-some (pos n) number is = ap pos (sym (natural-some n number is))
given-some (negsuc n) number is = cc

-- what is some process is not none
pub there-is : (process : Process) (found : Option Process) → Some process ≡ found → found ≢ None
there-is process None is = λ none. true≢false (ap is_some is)
there-is process (Some other) is = λ none. true≢false (ap is_some none)

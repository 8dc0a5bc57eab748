-- The laws on waiting sets.
use Rattle.std.proofs.Common.{◌≡◌, ◌<◌, List, [], ◌∷◌, ◌++◌, true, nat_lt, refl, ap, arith}
use Rattle.std.proofs.lemmas.Bool.Decides.{nat_tests}
use Rattle.apex_machine.specs.declared.state.Entry.{Entry}
use Rattle.wait_set.specs.Laws.{EntersLast, RisingIsListOfWaiters, AreBeforePlace}
use Rattle.wait_set.specs.Sets.{entered}
use Rattle.wait_set.proofs.WaiterLists.{once-rising}

-- an entry after all others enters as the last
pub last : (entry : Entry) (entries : List Entry) → AreBeforePlace entry.place entries → entered entry entries ≡ entries ++ entry ∷ []
last entry [] before = refl
last entry (other ∷ others) before =
    let below : other.place < entry.place = before.0 in
    let is : nat_lt other.place entry.place ≡ true = grind (arith, nat_tests) in
    rw is (ap (λ rest. other ∷ rest) (last entry others before.1))

pub enters_last : EntersLast
enters_last = last

pub rising_is_list_of_waiters : RisingIsListOfWaiters
rising_is_list_of_waiters entries named rising exact = (exact, once-rising named rising)

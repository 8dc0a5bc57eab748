-- Whether a list names the processes that fall due, in both directions.
use Rattle.std.specs.Prelude.{ℕ, suc, List, [], ◌∷◌, IsTrue, nat_eq, if◌then◌else◌}
use Rattle.apex_types.specs.declared.record.Who.{Who}
use Rattle.apex_machine.specs.State.{Table, is_named, item_at}
use Rattle.apex_machine.specs.DueTimes.{falls_due}

-- each process of the partition that is named falls due
abbrev pub NamedFallDue : ℕ → ℕ → ℕ → Table → List Who → Type 0
NamedFallDue partition core time table woken = (number : ℕ)
    → IsTrue (is_named (record { part = partition; proc = number }) woken) → IsTrue (falls_due core time (item_at table number))

-- each process of the partition that falls due is named
abbrev pub DueAreNamed : ℕ → ℕ → ℕ → Table → List Who → Type 0
DueAreNamed partition core time table woken = (number : ℕ)
    → IsTrue (falls_due core time (item_at table number)) → IsTrue (is_named (record { part = partition; proc = number }) woken)

-- how many processes of a list are of a partition
abbrev pub count_of : ℕ → List Who → ℕ
count_of partition [] = 0
count_of partition (who ∷ others) = if nat_eq who.part partition then suc (count_of partition others) else count_of partition others

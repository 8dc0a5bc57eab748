-- The choice where the error handler is dormant.
use Rattle.std.proofs.Common.{◌≡◌, ℕ, Bool, true, false, Option, Some, None, ◌&&◌, if◌then◌else◌, refl, sym, ◌∙◌}
use Rattle.apex_types.specs.declared.record.Who.{Who}
use Rattle.apex_machine.specs.declared.state.Process.{Process}
use Rattle.apex_machine.specs.Choice.{choice_under, is_one_alive, is_one_ready, partition_choice, pauses_others}
use Rattle.apex_machine.specs.State.{Partition, is_normal, item_at}

-- a dormant handler is not ready, and no core stands still for it
pub choice_without : (number core : ℕ) (partition : Partition) → (is_normal partition.mode && is_one_alive (item_at partition.table 0)) ≡ false
    → partition_choice number core partition ≡ choice_under number core partition.lock.owner partition.table
choice_without number core partition dormant = by (is_normal partition.mode) (item_at partition.table 0) dormant
  where
    under : Option Who
    under = choice_under number core partition.lock.owner partition.table

    by : (normal : Bool) (handler : Option Process) → (normal && is_one_alive handler) ≡ false
        → (if normal && is_one_ready core handler then Some (record { part = number; proc = 0 })
        else if normal && (is_one_alive handler && pauses_others partition.handler) then None
        else under) ≡ under
    by false handler dormant = refl
    by true None dormant = refl
    by true (Some process) dormant = rw dormant refl

-- the choice that the code makes of what it has found out about a partition
pub choice_of_dormant : (number core : ℕ) (owner : Option ℕ) (alive : Bool) (seen partition : Partition) → seen ≡ partition → owner ≡ seen.lock.owner
    → alive ≡ (is_normal partition.mode && is_one_alive (item_at partition.table 0)) → alive ≡ false
    → choice_under number core owner seen.table ≡ partition_choice number core partition
choice_of_dormant number core owner alive seen partition same owns tells dormant =
    rw (owns, same) (sym (choice_without number core partition (sym tells ∙ dormant)))

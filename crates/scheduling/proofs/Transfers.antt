-- A mutex's change of owner, one owner after the other.
use Rattle.std.proofs.Common.{◌≡◌, ℕ, Some, None, refl, sym, ap, ◌∙◌}
use Rattle.apex_machine.specs.Processes.{granted, restored}
use Rattle.scheduling.specs.Changes.{only, with_each}
use Rattle.scheduling.specs.Processes.{Processes}
use Rattle.scheduling.specs.Transfers.{freed, transferred}
use Rattle.scheduling.specs.declared.transfer.Transfer.{Transfer}
use Rattle.scheduling.proofs.Tables.{each_item-congr, each_item-same, each_item-twice, nat_eq-swap, with_table}

pub freed-some : (transfer : Transfer) (owner : ℕ) (old new : Processes) → transfer.from ≡ Some owner → new ≡ with_each (only owner restored) old → new ≡ with_each (freed transfer) old
freed-some transfer owner old new from is =
    is ∙ ap (with_table old) (each_item-congr _ _ (λ number process. rw (from, nat_eq-swap owner number) refl) old.table)

pub freed-none : (transfer : Transfer) (old new : Processes) → transfer.from ≡ None → new ≡ old → new ≡ with_each (freed transfer) old
freed-none transfer old new from is = is ∙ ap (with_table old) (sym (each_item-same _ (λ number process. rw from refl) old.table))

pub granted-some : (transfer : Transfer) (owner : ℕ) (old middle new : Processes) → transfer.to ≡ Some owner → middle ≡ with_each (freed transfer) old
    → new ≡ with_each (only owner (granted transfer.priority)) middle → new ≡ with_each (transferred transfer) old
granted-some transfer owner old middle new to freed_it is =
    is ∙ ap (with_each (only owner (granted transfer.priority))) freed_it
    ∙ ap (with_table old)
    (each_item-twice (freed transfer) (only owner (granted transfer.priority)) old.table
    ∙ each_item-congr _ _ (λ number process. rw (to, nat_eq-swap owner number) refl) old.table)

pub granted-none : (transfer : Transfer) (old middle : Processes) → transfer.to ≡ None → middle ≡ with_each (freed transfer) old
    → middle ≡ with_each (transferred transfer) old
granted-none transfer old middle to freed_it = freed_it ∙ ap (with_table old) (each_item-congr _ _ (λ number process. rw to refl) old.table)

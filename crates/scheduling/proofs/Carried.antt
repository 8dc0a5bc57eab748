-- What a call sets in its partition.
use Rattle.std.proofs.Common.{◌≡◌, ℕ, ◌<◌, ◌^◌, true, false, nat_eq, List, [], ◌∷◌, ◌++◌, Option, Some, None, ℤ, pos, negsuc, MatchOption, nat_abs, refl, sym, ap, ◌∙◌, arith}
use Rattle.std.proofs.lemmas.Bool.Decides.{nat_tests}
use Rattle.apex_types.specs.declared.record.Call.{Call as CallRecord}
use Rattle.apex_types.specs.declared.operation.{CallerOperation.CallerOperation, HealthOperation.HealthOperation, ProcessOperation.ProcessOperation}
use Rattle.apex_types.specs.declared.request.Request.{Request}
use Rattle.apex_types.specs.declared.operation.ObjectOperation.TheVariants as on
use Rattle.apex_types.specs.declared.request.Request.TheVariants as request
use Rattle.apex_machine.specs.declared.state.CoreState.{CoreState}
use Rattle.apex_machine.specs.declared.state.Process.{Process}
use Rattle.apex_machine.specs.State.{Partition, Table, each_item, is_free, time_of}
use Rattle.apex_machine.specs.Answer.{is_new}
use Rattle.apex_machine.specs.Arguments.{is_priority}
use Rattle.apex_machine.specs.Processes.{new_process, set_by, set_in}
use Rattle.apex_machine.specs.After.{created_by, is_done, mode_by}
use Rattle.scheduling.specs.Changes.{named, only, with_each}
use Rattle.scheduling.specs.Numbers.{NumbersFit, number_of}
use Rattle.scheduling.specs.Processes.{Processes}
use Rattle.scheduling.specs.Sound.{AsksSoundly}
use Rattle.scheduling.proofs.Tables.{each_item-congr, each_item-same, nat_eq-swap, with_table}
use Rattle.scheduling.specs.declared.transfer.Transfer.{Transfer}
use Rattle.scheduling.specs.declared.fault.FaultChange.{FaultChange}
use Rattle.scheduling.specs.Faults.{IsFaultChangeOf, fault_set}
use Rattle.scheduling.specs.Transfers.{IsTransferOf, passed_on}
use Rattle.apex_types.specs.declared.operation.ObjectOperation.{ObjectOperation}

pub append-nothing : (table : Table) → table ++ [] ≡ table
append-nothing [] = refl
append-nothing (entry ∷ entries) = ap (λ rest. entry ∷ rest) (append-nothing entries)

-- a change of a process by a caller's number that is its own

pub named-found : (change : Process → Process) (given : ℤ) (number : ℕ) (processes : Processes) → number_of given ≡ Some number
    → with_each (only number change) processes ≡ with_each (named given change) processes
named-found change (pos n) number processes found =
    let same : n ≡ number = grind (arith, nat_tests) in
    ap (with_table processes) (each_item-congr _ _ (λ other process. rw (same, nat_eq-swap number other) refl) processes.table)
named-found change (negsuc n) number processes found = cc

-- a change by any other number
pub named-none : (change : Process → Process) (given : ℤ) (processes : Processes) → number_of given ≡ None → NumbersFit processes.table
    → processes ≡ with_each (named given change) processes
named-none change (pos n) processes none fit = ap (with_table processes) (sym (stays processes.table fit))
  where
    apart : (number : ℕ) → number < 2 ^ 32 → nat_eq n number ≡ false
    apart number bound = grind (arith, nat_tests)

    stays : (entries : Table) → NumbersFit entries → each_item (named (pos n) change) entries ≡ entries
    stays [] h = refl
    stays (entry ∷ entries) h = rw (apart entry.0 h.0, stays entries h.1) refl
named-none change (negsuc n) processes none fit =
    ap (with_table processes) (sym (each_item-same _ (λ number process. refl) processes.table))

-- the mode and the processes once a call has set what it sets in them, beside what becomes of its caller
abbrev pub carried : ℕ → ℕ → ℕ → List CoreState → CallRecord → Request → Partition → Processes → Processes
carried place period first cores call asked partition old = record old {
  mode = mode_by asked old.mode;
  table = each_item (set_by place period cores partition call.who.proc asked) old.table ++ created_by first call asked;
}

-- a service that sets nothing beside its caller
pub carried-none : (place period first : ℕ) (cores : List CoreState) (call : CallRecord) (asked : Request) (partition : Partition) (old : Processes)
    → ((name : List ℕ) (priority own capacity : ℤ) → asked ≡ request.CreateProcess name priority own capacity → ⊥)
    → ((process : ℤ) (operation : ProcessOperation) → asked ≡ request.Process process operation → ⊥)
    → ((mode : ℤ) → asked ≡ request.SetPartitionMode mode → ⊥)
    → ((number : ℤ) (operation : ObjectOperation) → asked ≡ request.Object number operation → ⊥)
    → ((operation : HealthOperation) → asked ≡ request.Health operation → ⊥)
    → ((operation : CallerOperation) → asked ≡ request.Caller operation → ⊥)
    → old ≡ carried place period first cores call asked partition old
carried-none place period first cores call (request.CreateProcess name priority own capacity) partition old create target mode object health caller = absurd (create name priority own capacity refl)
carried-none place period first cores call (request.Process process operation) partition old create target mode object health caller = absurd (target process operation refl)
carried-none place period first cores call (request.SetPartitionMode given) partition old create target mode object health caller = absurd (mode given refl)
carried-none place period first cores call (request.Object given operation) partition old create target mode object health caller = absurd (object given operation refl)
carried-none place period first cores call (request.Health operation) partition old create target mode object health caller = absurd (health operation refl)
carried-none place period first cores call (request.Caller operation) partition old create target mode object health caller = absurd (caller operation refl)
carried-none place period first cores call _ partition old create target mode object health caller =
    ap (with_table old) (sym (append-nothing _ ∙ each_item-same _ (λ number process. refl) old.table))

-- a service of an object
pub carried-object : (place period first : ℕ) (cores : List CoreState) (call : CallRecord) (given : ℤ) (operation : ObjectOperation) (transfer : Transfer) (partition : Partition) (old new : Processes)
    → IsTransferOf partition call.who.proc (request.Object given operation) transfer → new ≡ passed_on transfer operation old
    → new ≡ carried place period first cores call (request.Object given operation) partition old
carried-object place period first cores call given (on.Mutex operation) transfer partition old new passes is =
    is ∙ ap (with_table old) (each_item-congr _ _ (λ number process. sym (passes number process)) old.table ∙ sym (append-nothing _))
carried-object place period first cores call given _ transfer partition old new passes is =
    is ∙ ap (with_table old) (sym (append-nothing _ ∙ each_item-same _ (λ number process. refl) old.table))

-- a service of the health monitor or the error handler
pub carried-health : (place period first : ℕ) (cores : List CoreState) (call : CallRecord) (operation : HealthOperation) (made : FaultChange) (partition : Partition) (old new : Processes)
    → IsFaultChangeOf partition call.who.proc (request.Health operation) made → new ≡ with_each (fault_set made place call.who.proc) old
    → new ≡ carried place period first cores call (request.Health operation) partition old
carried-health place period first cores call operation made partition old new changes is =
    is ∙ ap (with_table old) (each_item-congr _ _ (λ number process. sym (changes place number process)) old.table ∙ sym (append-nothing _))

-- a service that concerns its caller alone, or ends the handler's work
pub carried-caller : (place period first : ℕ) (cores : List CoreState) (call : CallRecord) (operation : CallerOperation) (made : FaultChange) (partition : Partition) (old new : Processes)
    → IsFaultChangeOf partition call.who.proc (request.Caller operation) made → new ≡ with_each (fault_set made place call.who.proc) old
    → new ≡ carried place period first cores call (request.Caller operation) partition old
carried-caller place period first cores call operation made partition old new changes is =
    is ∙ ap (with_table old) (each_item-congr _ _ (λ number process. sym (changes place number process)) old.table ∙ sym (append-nothing _))

-- CREATE_PROCESS

-- the number that a sound call claims for its process
claims-number : (table : Table) (claimed : Option ℤ) (found : Option ℕ) (number : ℕ) → is_new (is_free table) claimed ≡ true
    → MatchOption claimed (found ≡ None) (λ given. found ≡ number_of given) → found ≡ Some number → claimed ≡ Some (pos number)
claims-number table None found number new is there = cc
claims-number table (Some (negsuc n)) found number new is there = cc
claims-number table (Some (pos n)) found number new is there =
    let some : number_of (pos n) ≡ Some number = sym is ∙ there in
    let same : n ≡ number = grind (arith, nat_tests) in
    ap (λ m. Some (pos m)) same

priority-kept : (priority : ℤ) → is_priority priority ≡ true → pos (nat_abs priority) ≡ priority
priority-kept (pos n) h = refl
priority-kept (negsuc n) h = cc

pub carried-create : (place period first : ℕ) (cores : List CoreState) (call : CallRecord) (name : List ℕ) (priority own capacity : ℤ) (partition : Partition) (old new : Processes)
    (found : Option ℕ) (number cast : ℕ)
    → new ≡ with_table old (old.table ++ (number, new_process first name (pos cast) own capacity) ∷ [])
    → cast ≡ nat_abs priority
    → is_done call.claim.out ≡ true → AsksSoundly old.table call (request.CreateProcess name priority own capacity)
    → MatchOption call.claim.val (found ≡ None) (λ given. found ≡ number_of given) → found ≡ Some number
    → new ≡ carried place period first cores call (request.CreateProcess name priority own capacity) partition old
carried-create place period first cores call name priority own capacity partition old new found number cast is_new_one kept done sound is there =
    let facts = sound done in
    let table : old.table ++ (number, new_process first name (pos cast) own capacity) ∷ []
    ≡ each_item (set_by place period cores partition call.who.proc (request.CreateProcess name priority own capacity)) old.table
    ++ created_by first call (request.CreateProcess name priority own capacity)
    = ap (λ (p : ℤ). old.table ++ (number, new_process first name p own capacity) ∷ []) (ap pos kept ∙ priority-kept priority facts.1)
    ∙ (rw (
      claims-number old.table call.claim.val found number facts.0 is there,
      done,
      each_item-same (set_by place period cores partition call.who.proc (request.CreateProcess name priority own capacity)) (λ other process. refl) old.table,
    ) refl) in
    is_new_one ∙ ap (with_table old) table

-- services that name a process

pub carried-target : (place period first : ℕ) (cores : List CoreState) (call : CallRecord) (given : ℤ) (operation : ProcessOperation) (partition : Partition) (old new : Processes)
    → partition.mode ≡ old.mode
    → new ≡ with_each (named given (λ found. set_in place period (time_of cores found.affinity) old.mode operation found)) old
    → new ≡ carried place period first cores call (request.Process given operation) partition old
carried-target place period first cores call given operation partition old new mode is =
    is ∙ ap (λ current. with_each (named given (λ found. set_in place period (time_of cores found.affinity) current operation found)) old) (sym mode)
    ∙ ap (with_table old) (sym (append-nothing _))

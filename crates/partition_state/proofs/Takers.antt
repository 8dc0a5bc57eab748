-- Who takes an error, the list of errors, and what becomes of processes by errors.
use Rattle.std.proofs.Common.{◌≡◌, ℕ, ◌<◌, ◌≤◌, Bool, true, false, ◌&&◌, not, nat_eq, nat_lt, ℤ, List, [], ◌∷◌, ◌++◌, length, remove, slice_get, Option, Some, None, is_some, if◌then◌else◌, refl, sym, ap, ◌∙◌, arith}
use Rattle.std.specs.Prelude.{IfNone, IfSome}
use Rattle.std.proofs.lemmas.Bool.Decides.{nat_tests}
use Rattle.apex_types.specs.declared.error.ErrorCode.{ErrorCode}
use Rattle.apex_types.specs.declared.error.ErrorCode.TheVariants as error
use Rattle.apex_types.specs.declared.limits.TheConstants.{MOST_ERRORS}
use Rattle.apex_types.specs.declared.operation.{CallerOperation.CallerOperation, HealthOperation.HealthOperation}
use Rattle.apex_types.specs.declared.record.ErrorReport.{ErrorReport}
use Rattle.apex_types.specs.declared.request.Request.{Request}
use Rattle.apex_types.specs.declared.request.Request.TheVariants as request
use Rattle.apex_machine.specs.declared.state.ErrorHandler.{ErrorHandler}
use Rattle.apex_machine.specs.declared.state.ListedError.{ListedError}
use Rattle.apex_machine.specs.declared.state.Process.{Process}
use Rattle.apex_machine.specs.After.{partition_reported}
use Rattle.apex_machine.specs.Errors.{deadline_after, error_set, handed_over, handles_more, healed, is_handled, is_some_listed, listed, listed_if_handled, oldest_reported, reported, without_oldest}
use Rattle.apex_machine.specs.State.{Partition, is_handler, is_normal}
use Rattle.scheduling.specs.declared.fault.FaultChange.TheVariants as change
use Rattle.scheduling.specs.Changes.{deadline_taken, only, with_each}
use Rattle.scheduling.specs.Faults.{IsFaultChangeOf}
use Rattle.scheduling.specs.Processes.{Processes, processes_of}
use Rattle.scheduling.proofs.Tables.{each_item-congr, each_item-same, each_item-twice, with_table}
use Rattle.partition_state.proofs.Served.{with_processes}

-- who takes an error

-- who takes it is the partition's handler
pub taken_by : (partition : Partition) (process : ℕ) (taker : Option ErrorHandler) → taker ≡ partition.handler → is_handled partition process ≡ true
    → IfSome taker (λ handler. (is_handled partition process ≡ true) × (partition.handler ≡ Some handler))
taken_by partition process None is handled = tt
taken_by partition process (Some handler) is handled = (handled, sym is)

-- without a handler none takes it
no_handler : (normal other : Bool) (handler : Option ErrorHandler) → None ≡ handler → (normal && (is_some handler && other)) ≡ true → ⊥
no_handler true other None is handled = let never : ◌≡◌ {A = Bool} false true = handled in cc
no_handler false other None is handled = let never : ◌≡◌ {A = Bool} false true = handled in cc
no_handler normal other (Some handler) is handled = cc

pub none_takes : (partition : Partition) (process : ℕ) (taker : Option ErrorHandler) → taker ≡ partition.handler → is_handled partition process ≡ true
    → IfNone taker (is_handled partition process ≡ false)
none_takes partition process None is handled = absurd (no_handler (is_normal partition.mode) (not (nat_eq process 0)) partition.handler is handled)
none_takes partition process (Some handler) is handled = tt

-- the list of errors

-- an error past the greatest number is lost
pub list_full : (list : List ListedError) (one : ListedError) → MOST_ERRORS ≤ length list → list ≡ listed one list
list_full list one full =
    let past : nat_lt (length list) MOST_ERRORS ≡ false = grind (arith, nat_tests) in
    rw past refl

-- another is the last of the list
pub list_grows : (list : List ListedError) (one : ListedError) → length list < MOST_ERRORS → list ++ one ∷ [] ≡ listed one list
list_grows list one room =
    let below : nat_lt (length list) MOST_ERRORS ≡ true = grind (arith, nat_tests) in
    rw below refl

-- an error that no handler takes is not listed
pub not_listed : (partition : Partition) (one : ListedError) → is_handled partition one.process ≡ false → partition ≡ record partition { errors = listed_if_handled partition one }
not_listed partition one none = rw none refl

-- and one that the handler takes is
pub is_listed : (partition before : Partition) (one : ListedError) (errors : List ListedError) → before ≡ partition → is_handled partition one.process ≡ true
    → errors ≡ listed one before.errors → record before { errors = errors } ≡ record partition { errors = listed_if_handled partition one }
is_listed partition before one errors same handled is = rw (is, same, handled) refl

-- without the oldest, if there is one

pub none_oldest : (list : List ListedError) → length list ≡ 0 → list ≡ without_oldest list
none_oldest [] none = refl
none_oldest (error ∷ errors) none = absurd (omega (arith, none))

pub without_first : (list : List ListedError) → 0 < length list → remove list 0 ≡ without_oldest list
without_first [] some = absurd (omega (arith, some))
without_first (error ∷ errors) some = refl

pub oldest_taken : (partition before : Partition) (errors : List ListedError) → before ≡ partition → errors ≡ without_oldest before.errors
    → record before { errors = errors } ≡ record partition { errors = without_oldest partition.errors }
oldest_taken partition before errors same is = rw (is, same) refl

-- what is reported of the oldest
pub oldest_is : (list : List ListedError) (one : ListedError) → Some one ≡ slice_get list 0 → oldest_reported list ≡ oldest_reported (one ∷ [])
oldest_is [] one is = cc
oldest_is (first ∷ others) one is =
    let same : first ≡ one = cc in
    rw same refl

-- the processes after an error

-- no other error takes a deadline
other_error : (one : ErrorCode) → (one ≡ error.DeadlineMissed → ⊥) → (process : Process) → deadline_after one process ≡ process
other_error error.DeadlineMissed other process = absurd (other refl)
other_error _ other process = refl

-- a missed deadline is taken away
pub deadline_goes : (one : ErrorCode) (failed : ℕ) (old new : Processes) → one ≡ error.DeadlineMissed → new ≡ with_each (only failed deadline_taken) old
    → new ≡ with_each (only failed (deadline_after one)) old
deadline_goes one failed old new missed is = rw missed is

-- and no other one
pub deadline_stays : (one : ErrorCode) (failed : ℕ) (old : Processes) → (one ≡ error.DeadlineMissed → ⊥) → old ≡ with_each (only failed (deadline_after one)) old
deadline_stays one failed old other = ap (with_table old) (sym (each_item-same _ same old.table))
  where
    same : (number : ℕ) (process : Process) → only failed (deadline_after one) number process ≡ process
    same number process = rw (other_error one other process) (by (nat_eq number failed))
      where
        by : (b : Bool) → (if b then process else process) ≡ process
        by true = refl
        by false = refl

-- and then the handler takes the error, if it does
pub error_taken : (place : ℕ) (partition : Partition) (report : ErrorReport) (handler : ErrorHandler) (old middle new : Processes)
    → is_handled partition report.who.proc ≡ true → partition.handler ≡ Some handler
    → middle ≡ with_each (only report.who.proc (deadline_after report.error)) old
    → new ≡ with_each (handed_over place handler report.who.proc) middle → new ≡ with_each (reported place partition report) old
error_taken place partition report handler old middle new handled is first then_is =
    then_is ∙ ap (with_each (handed_over place handler report.who.proc)) first
    ∙ ap (with_table old) (each_item-twice _ _ old.table ∙ each_item-congr _ _ (λ number process. rw (handled, is) refl) old.table)

pub error_left : (place : ℕ) (partition : Partition) (report : ErrorReport) (old new : Processes) → is_handled partition report.who.proc ≡ false
    → new ≡ with_each (only report.who.proc (deadline_after report.error)) old → new ≡ with_each (reported place partition report) old
error_left place partition report old new none is = is ∙ ap (with_table old) (each_item-congr _ _ (λ number process. rw none refl) old.table)

-- the partition after an error that does not restart it
pub is_told : (place : ℕ) (partition middle : Partition) (report : ErrorReport) (message : List ℕ) (processes : Processes) → message ≡ []
    → middle ≡ record partition { errors = listed_if_handled partition (record { error = report.error; process = report.who.proc; message = message }) }
    → processes ≡ with_each (reported place partition report) (processes_of partition) → with_processes processes middle ≡ partition_reported place report partition
is_told place partition middle report message processes empty is become = rw (is, become, empty) refl

-- who is faulted

-- an error that the handler takes
pub raised_changes : (partition : Partition) (caller : ℕ) (operation : HealthOperation) (given size : ℤ) (message : List ℕ) (handler : ErrorHandler)
    → operation ≡ HealthOperation.RaiseError given size message → is_handled partition caller ≡ true → partition.handler ≡ Some handler
    → IsFaultChangeOf partition caller (request.Health operation) (change.Raises handler)
raised_changes partition caller operation given size message handler raises handled is = λ place number process. rw (raises, handled, is) refl

-- and one that it does not take
pub raised_stays : (partition : Partition) (caller : ℕ) (operation : HealthOperation) (given size : ℤ) (message : List ℕ)
    → operation ≡ HealthOperation.RaiseError given size message → is_handled partition caller ≡ false
    → IsFaultChangeOf partition caller (request.Health operation) change.Unchanged
raised_stays partition caller operation given size message raises none = λ place number process. rw (raises, none) refl

-- no other request of the health monitor or the error handler makes anybody faulted
pub reported_stays : (partition : Partition) (caller : ℕ) (operation : HealthOperation)
    → ((given size : ℤ) (message : List ℕ) → operation ≡ HealthOperation.RaiseError given size message → ⊥)
    → IsFaultChangeOf partition caller (request.Health operation) change.Unchanged
reported_stays partition caller (HealthOperation.RaiseError given size message) other = absurd (other given size message refl)
reported_stays partition caller _ other = λ place number process. refl

-- the handler's STOP_SELF
pub ended_changes : (place : ℕ) (partition : Partition) (caller : ℕ) (left : List ListedError) (number : ℕ) (process : Process) → is_handler partition caller ≡ true
    → partition.errors ≡ left → error_set place partition caller (request.Caller CallerOperation.StopSelf) number process ≡ healed place left number process
ended_changes place partition caller left number process is same = rw (is, same) refl

pub ended_more : (partition : Partition) (caller : ℕ) (left : List ListedError) → is_handler partition caller ≡ true → partition.errors ≡ left
    → handles_more partition caller (request.Caller CallerOperation.StopSelf) ≡ is_some_listed left
ended_more partition caller left is same = rw (is, same) refl

-- that of another process
pub stopped_stays : (place : ℕ) (partition : Partition) (caller number : ℕ) (process : Process) → is_handler partition caller ≡ false
    → error_set place partition caller (request.Caller CallerOperation.StopSelf) number process ≡ process
stopped_stays place partition caller number process is = rw is refl

pub stopped_no_more : (partition : Partition) (caller : ℕ) → is_handler partition caller ≡ false → handles_more partition caller (request.Caller CallerOperation.StopSelf) ≡ false
stopped_no_more partition caller is = rw is refl

-- no other request of a process for itself heals any
pub going_stays : (partition : Partition) (caller : ℕ) (operation : CallerOperation) → (operation ≡ CallerOperation.StopSelf → ⊥)
    → IsFaultChangeOf partition caller (request.Caller operation) change.Unchanged
going_stays partition caller CallerOperation.StopSelf other = absurd (other refl)
going_stays partition caller _ other = λ place number process. refl

pub going_no_more : (partition : Partition) (caller : ℕ) (operation : CallerOperation) → (operation ≡ CallerOperation.StopSelf → ⊥)
    → handles_more partition caller (request.Caller operation) ≡ false
going_no_more partition caller CallerOperation.StopSelf other = absurd (other refl)
going_no_more partition caller _ other = refl

-- and no other request changes who is faulted
pub others_stay : (partition : Partition) (caller : ℕ) (asked : Request) → ((operation : HealthOperation) → asked ≡ request.Health operation → ⊥)
    → ((operation : CallerOperation) → asked ≡ request.Caller operation → ⊥) → IsFaultChangeOf partition caller asked change.Unchanged
others_stay partition caller (request.Health operation) health own = absurd (health operation refl)
others_stay partition caller (request.Caller operation) health own = absurd (own operation refl)
others_stay partition caller _ health own = λ place number process. refl

pub others_no_more : (partition : Partition) (caller : ℕ) (asked : Request) → ((operation : CallerOperation) → asked ≡ request.Caller operation → ⊥)
    → handles_more partition caller asked ≡ false
others_no_more partition caller (request.Caller operation) own = absurd (own operation refl)
others_no_more partition caller _ own = refl

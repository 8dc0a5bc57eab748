-- Calls that restart their caller's partition, and calls that don't.
use Rattle.std.proofs.Common.{◌≡◌, ℕ, List, [], ◌∷◌, true, false, cond, nat_eq, Option, Some, None, refl, sym, ap, ◌∙◌, true≢false, ◌||◌}
use Rattle.std.proofs.lemmas.Bool.{and_parts, eq-eqb}
use Rattle.apex_types.specs.declared.object_kind.ObjectKind.TheVariants as kind
use Rattle.apex_laws.proofs.Common.{Call, CallRecord, Configuration, CoreState, Mode, ObjectKind, Out, Partition, Request, Ret, Return, Table, WaitingSet, Who, are_distinct, each_item, ends_wait, entries_at, entries_at_end, entries_in}
use Rattle.apex_laws.proofs.Common.{first_processes, initialising_process, is_done, is_named, is_no_error, is_waiting, item_at, objects_by, objects_of, own_partition, partition_by, partition_called, is_restart, restart_of, restarts, restarts_by}
use Rattle.apex_laws.proofs.Common.{returned, started_partition, stops, waits_at, woken_if_named}
use Rattle.apex_laws.proofs.Common.{StartCondition, Wait}
use Rattle.apex_laws.proofs.Awaited.{Awaited, awaits, for_none, is_for, set_awaits}
use Rattle.apex_laws.proofs.Common.{message_of, Error, ErrorReport, HealthOperation, Restart, partition_errored, partition_reported, restart_reported, restarted}
use Rattle.apex_laws.proofs.Booleans.{by_test, either_way, impossible, neither, neither_first, neither_later, never_found, not_first, not_second}

-- the caller's partition

-- what holds of the caller's partition after a call: by whether the call restarts it
own_case : (Holds : Partition → Type 0) (configuration : Configuration) (cores : List CoreState) (place core : ℕ) (call : CallRecord) (partition : Partition)
    → (restart_of configuration call ≡ None → Holds (partition_called configuration cores place core call partition))
    → ((restart : Restart) → restart_of configuration call ≡ Some restart → Holds (restarted restart configuration call.who.part place))
    → Holds (own_partition (restart_of configuration call) configuration cores place core call partition)
own_case Holds configuration cores place core call partition goes_on anew = by (restart_of configuration call) refl
  where
    by : (one : Option Restart) → restart_of configuration call ≡ one → Holds (own_partition one configuration cores place core call partition)
    by None none = goes_on none
    by (Some restart) is = anew restart is

-- what holds for the objects of the caller's partition that a call uses or creates, if it is done
pub done_case : (Holds : Partition → Type 0) (configuration : Configuration) (call : CallRecord) (partition : Partition)
    → (is_done call.claim.out ≡ true → Holds (objects_by configuration call.who call.claim.val call.request partition)) → Holds partition
    → Holds (cond (is_done call.claim.out) (objects_by configuration call.who call.claim.val call.request partition) partition)
done_case Holds configuration call partition used stays =
    by_test Holds (is_done call.claim.out) (objects_by configuration call.who call.claim.val call.request partition) partition used (λ not_done. stays)

-- the processes of a partition after a record of others, with those woken that it names
abbrev pub woken_table : ℕ → ℕ → List ℕ → List Who → Table → Table
woken_table place number message woken table = each_item (λ other process. woken_if_named place message woken (record { part = number; proc = other }) process) table

-- what holds of a partition after a call: by whether it is a call of one of its processes, and whether that restarts it
pub call_case : (Holds : Partition → Type 0) (configuration : Configuration) (cores : List CoreState) (place core number : ℕ) (call : CallRecord) (partition : Partition)
    → (nat_eq call.who.part number ≡ true → restart_of configuration call ≡ None → Holds (partition_called configuration cores place core call partition))
    → (nat_eq call.who.part number ≡ true → (restart : Restart) → restart_of configuration call ≡ Some restart → Holds (restarted restart configuration call.who.part place))
    → (nat_eq call.who.part number ≡ false → Holds (record partition { table = woken_table place number (message_of call.request) call.claim.woken partition.table }))
    → Holds (partition_by configuration cores place core number (Call call) partition)
call_case Holds configuration cores place core number call partition goes_on anew foreign =
    by_test Holds (nat_eq call.who.part number) (own_partition (restart_of configuration call) configuration cores place core call partition)
    (record partition { table = woken_table place number (message_of call.request) call.claim.woken partition.table })
    (λ own. own_case Holds configuration cores place core call partition (goes_on own) (anew own)) foreign

-- what holds of a partition after a return
pub return_case : (Holds : Partition → Type 0) (configuration : Configuration) (cores : List CoreState) (place core number : ℕ) (ret : Return) (partition : Partition)
    → Holds (record partition { table = each_item (returned ret.who.proc) partition.table }) → Holds partition → Holds (partition_by configuration cores place core number (Ret ret) partition)
return_case Holds configuration cores place core number ret partition back stays =
    by_test Holds (nat_eq ret.who.part number) (record partition { table = each_item (returned ret.who.proc) partition.table }) partition (λ own. back) (λ other. stays)

-- what holds of a partition after an error: by whether it is one of its processes, and whether that restarts it
pub error_case : (Holds : Partition → Type 0) (configuration : Configuration) (cores : List CoreState) (place core number : ℕ) (report : ErrorReport) (partition : Partition)
    → (nat_eq report.who.part number ≡ true → restart_reported configuration report ≡ None → Holds (partition_reported place report partition))
    → (nat_eq report.who.part number ≡ true → (restart : Restart) → restart_reported configuration report ≡ Some restart → Holds (restarted restart configuration report.who.part place))
    → (nat_eq report.who.part number ≡ false → Holds partition) → Holds (partition_by configuration cores place core number (Error report) partition)
error_case Holds configuration cores place core number report partition told anew stays =
    by_test Holds (nat_eq report.who.part number) (partition_errored (restart_reported configuration report) configuration place report partition) partition
    (λ own. by (told own) (anew own) (restart_reported configuration report) refl) stays
  where
    by : (restart_reported configuration report ≡ None → Holds (partition_reported place report partition))
        → ((restart : Restart) → restart_reported configuration report ≡ Some restart → Holds (restarted restart configuration report.who.part place))
        → (one : Option Restart) → restart_reported configuration report ≡ one → Holds (partition_errored one configuration place report partition)
    by told anew None none = told none
    by told anew (Some restart) is = anew restart is

-- which calls restart no partition

-- a call that waits
waits_on : (asked : Request) (given : Out) → is_waiting given ≡ true → restarts_by asked given ≡ false
waits_on (Request.SetPartitionMode next) Out.Waits waits = refl
waits_on (Request.SetPartitionMode next) _ waits = impossible waits
waits_on (Request.Health (HealthOperation.RaiseError error length message)) Out.Waits waits = refl
waits_on (Request.Health (HealthOperation.RaiseError error length message)) _ waits = impossible waits
waits_on (Request.Health operation) given waits = refl
waits_on _ given waits = refl

pub waiting_goes_on : (call : CallRecord) → is_waiting call.claim.out ≡ true → is_restart call ≡ false
waiting_goes_on call waits = waits_on call.request call.claim.out waits

-- a call that answers
pub answering_goes_on : (asked : Request) (given : Out) → ¬ (given ≡ Out.Never) → restarts_by asked given ≡ false
answering_goes_on (Request.SetPartitionMode next) Out.Never answers = absurd (answers refl)
answering_goes_on (Request.SetPartitionMode next) _ answers = refl
answering_goes_on (Request.Health (HealthOperation.RaiseError error length message)) Out.Never answers = absurd (answers refl)
answering_goes_on (Request.Health (HealthOperation.RaiseError error length message)) _ answers = refl
answering_goes_on (Request.Health operation) given answers = refl
answering_goes_on _ given answers = refl

-- a call that isn't done
pub not_done_goes_on : (call : CallRecord) → is_done call.claim.out ≡ false → is_restart call ≡ false
not_done_goes_on call not_done = answering_goes_on call.request call.claim.out (λ never. true≢false (sym (ap is_done never) ∙ not_done))

-- a call that answers NO_ERROR
pub done_goes_on : (call : CallRecord) → is_no_error call.claim.out ≡ true → is_restart call ≡ false
done_goes_on call done = answering_goes_on call.request call.claim.out (λ never. true≢false (sym done ∙ ap is_no_error never))

-- a call that is no restart makes none, and one that makes one is a restart
pub no_restart : (configuration : Configuration) (call : CallRecord) → is_restart call ≡ false → restart_of configuration call ≡ None
no_restart configuration call none = rw none refl

pub some_restart : (configuration : Configuration) (call : CallRecord) (restart : Restart) → restart_of configuration call ≡ Some restart → is_restart call ≡ true
some_restart configuration call restart is = either_way (is_restart call) (λ holds. holds) (λ fails. never_found (sym (no_restart configuration call fails) ∙ is))

-- so it is with the report of an error
pub told_on : (configuration : Configuration) (report : ErrorReport) → report.restarts ≡ false → restart_reported configuration report ≡ None
told_on configuration report goes_on = rw goes_on refl

pub told_anew : (configuration : Configuration) (report : ErrorReport) (restart : Restart) → restart_reported configuration report ≡ Some restart → report.restarts ≡ true
told_anew configuration report restart is = either_way report.restarts (λ holds. holds) (λ fails. never_found (sym (told_on configuration report fails) ∙ is))

-- whose wait goes on

-- a call that restarts no partition restarts none
pub restarts_none : (call : CallRecord) (number : ℕ) → is_restart call ≡ false → restarts call number ≡ false
restarts_none call number none = rw none refl

-- a call of another partition doesn't restart this one
pub restarts_other : (call : CallRecord) (number : ℕ) → nat_eq number call.who.part ≡ false → restarts call number ≡ false
restarts_other call number elsewhere = not_second (is_restart call) (nat_eq number call.who.part) elsewhere

-- a process that a call doesn't name, stop or restart with its partition
pub goes_on : (call : CallRecord) (who : Who) → restarts call who.part ≡ false → is_named who call.claim.woken ≡ false → stops call who ≡ false → ends_wait call who ≡ false
goes_on call who here named stopped = neither (restarts call who.part) (is_named who call.claim.woken || stops call who) here (neither (is_named who call.claim.woken) (stops call who) named stopped)

pub not_named : (call : CallRecord) (who : Who) → ends_wait call who ≡ false → is_named who call.claim.woken ≡ false
not_named call who stays = neither_first (is_named who call.claim.woken) (stops call who) (neither_later (restarts call who.part) (is_named who call.claim.woken || stops call who) stays)

pub not_stopped : (call : CallRecord) (who : Who) → ends_wait call who ≡ false → stops call who ≡ false
not_stopped call who stays = neither_later (is_named who call.claim.woken) (stops call who) (neither_later (restarts call who.part) (is_named who call.claim.woken || stops call who) stays)

-- if the wait of a process of the caller's partition continues, the call does not restart it
pub not_restarted : (call : CallRecord) (who : Who) → who.part ≡ call.who.part → ends_wait call who ≡ false → is_restart call ≡ false
not_restarted call who here stays =
    either_way (is_restart call)
    (λ is. (let anew : restarts call who.part ≡ true = rw (is, eq-eqb who.part call.who.part here) refl in
    absurd (true≢false (sym anew ∙ neither_first (restarts call who.part) (is_named who call.claim.woken || stops call who) stays))))
    (λ is_not. is_not)

-- a call that restarts a partition does not return
pub never_returns : (asked : Request) (given : Out) → restarts_by asked given ≡ true → given ≡ Out.Never
never_returns (Request.SetPartitionMode next) Out.Never is = refl
never_returns (Request.SetPartitionMode next) _ is = impossible is
never_returns (Request.Health (HealthOperation.RaiseError error length message)) Out.Never is = refl
never_returns (Request.Health (HealthOperation.RaiseError error length message)) _ is = impossible is
never_returns (Request.Health operation) given is = impossible is
never_returns _ given is = impossible is

-- so it is no STOP
pub restart_stops_none : (call : CallRecord) → is_restart call ≡ true → (who : Who) → stops call who ≡ false
restart_stops_none call is who = not_first (is_no_error call.claim.out) _ (ap is_no_error (never_returns call.request call.claim.out is))

-- a restart ends the waits of all processes of its partition
pub restart_ends : (call : CallRecord) (who : Who) → is_restart call ≡ true → who.part ≡ call.who.part → ends_wait call who ≡ true
restart_ends call who is here = rw (is, eq-eqb who.part call.who.part here) refl

-- a partition as it starts

-- its processes have distinct numbers
pub start_distinct : (mode : Mode) (core place : ℕ) → are_distinct (first_processes mode core place) ≡ true
start_distinct Mode.Idle core place = refl
start_distinct _ core place = refl

-- its sets are empty
pub start_set : (start : StartCondition) (mode : Mode) (configuration : Configuration) (number place : ℕ) (wanted : WaitingSet) → entries_at (started_partition start mode configuration number place) wanted ≡ []
start_set start mode configuration number place wanted = none_of wanted.kind
  where
    none_of : (one : ObjectKind) → entries_in (entries_at_end one wanted.end) (item_at (objects_of (started_partition start mode configuration number place) one) wanted.number) ≡ []
    none_of kind.Buffer = refl
    none_of _ = refl

-- no process waits in it, or for its lock
first_awaits_not : (core place process : ℕ) (wanted : Awaited) → awaits wanted (item_at ((0, initialising_process core place) ∷ []) process) ≡ true → ⊥
first_awaits_not core place process wanted waits =
    by_test (λ found. awaits wanted found ≡ true → ⊥) (nat_eq process 0) (Some (initialising_process core place)) None
    (λ first waits. true≢false (sym (and_parts true (is_for wanted Wait.Nothing) waits).1 ∙ for_none wanted Wait.Nothing refl)) (λ other waits. true≢false (sym waits)) waits

pub start_awaits_not : (mode : Mode) (core place process : ℕ) (wanted : Awaited) → awaits wanted (item_at (first_processes mode core place) process) ≡ true → ⊥
start_awaits_not Mode.Idle core place process wanted waits = true≢false (sym waits)
start_awaits_not Mode.ColdStart core place process wanted waits = first_awaits_not core place process wanted waits
start_awaits_not _ core place process wanted waits = first_awaits_not core place process wanted waits

pub start_waits_not : (mode : Mode) (core place process : ℕ) (wanted : WaitingSet) → waits_at wanted (item_at (first_processes mode core place) process) ≡ true → ⊥
start_waits_not mode core place process wanted waits =
    start_awaits_not mode core place process (Awaited.TheSet wanted) (set_awaits wanted (item_at (first_processes mode core place) process) ∙ waits)

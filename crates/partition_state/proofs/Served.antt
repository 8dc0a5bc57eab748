-- What a call that was served makes of the objects is what it makes of the partition's.
use Rattle.std.proofs.Common.{◌≡◌, ℕ, List, [], ◌∷◌, if◌then◌else◌, ◌&&◌, not, is_some, option_map, Option, Some, None, Result, Ok, Err, Bool, true, false, IfErr, OnOk, refl, sym, ap, ◌∙◌, cond}
use Rattle.apex_types.specs.declared.object_kind.ObjectKind.TheVariants as kind
use Rattle.apex_types.specs.declared.cause.Cause.{Cause}
use Rattle.apex_types.specs.declared.code.Code.TheVariants as code
use Rattle.apex_types.specs.declared.operation.{CallerOperation.CallerOperation, HealthOperation.HealthOperation, LockOperation.LockOperation, ProcessOperation.ProcessOperation, SamplingOperation.SamplingOperation}
use Rattle.apex_types.specs.declared.record.Call.{Call as CallRecord}
use Rattle.apex_types.specs.declared.record.Out.{Out}
use Rattle.apex_types.specs.declared.record.Out.TheVariants as out
use Rattle.apex_types.specs.declared.record.Who.{Who}
use Rattle.apex_types.specs.declared.request.Request.{Request}
use Rattle.apex_types.specs.declared.request.Request.TheVariants as request
use Rattle.apex_machine.specs.declared.state.CoreState.{CoreState}
use Rattle.apex_machine.specs.declared.state.ListedError.{ListedError}
use Rattle.apex_machine.specs.declared.state.Mode.{Mode}
use Rattle.apex_machine.specs.declared.state.Process.{Process}
use Rattle.apex_machine.specs.declared.state.Restart.{Restart}
use Rattle.apex_machine.specs.declared.state.StartCondition.{StartCondition}
use Rattle.apex_machine.specs.declared.state.StartCondition.TheVariants.{PartitionRestart}
use Rattle.apex_machine.specs.declared.state.Wait.{Wait}
use Rattle.apex_machine.specs.declared.state.Wait.TheVariants as wait
use Rattle.apex_machine.specs.After.{is_done, lock_called, objects_called, partition_called, restart_by_error, restart_for, restart_of}
use Rattle.apex_machine.specs.Answer.{done, never}
use Rattle.apex_machine.specs.Arguments.{natural_of, restart_given}
use Rattle.apex_machine.specs.Configuration.{Configuration}
use Rattle.apex_machine.specs.Demands.{AllHold, Demand, Judges}
use Rattle.apex_machine.specs.Errors.{ends_handler, error_mode, errors_by, handler_by, health_answer, is_handled, oldest_reported, restarts_by_error}
use Rattle.apex_machine.specs.Services.{peer}
use Rattle.apex_machine.specs.State.{Lock, Partition, created, with_objects, ObjectOf, time_of}
use Rattle.apex_machine.specs.Waiting.{is_no_error, is_restart, restarts_by}
use Rattle.apex_laws.specs.PartLaws.{IsOwnCall}
use Rattle.apex_laws.specs.PartObjects.{left_by, objects_changed}
use Rattle.apex_laws.specs.PartSets.{left_if_there}
use Rattle.apex_laws.proofs.LeavingSets.{stopped_leaves}
use Rattle.apex_laws.proofs.LockStays.{other_calls_leave_lock}
use Rattle.apex_laws.proofs.PartObjects.{one_object_changes}
use Rattle.partition_objects.specs.Locks.{after as lock_after}
use Rattle.scheduling.specs.Processes.{Processes, processes_of}
use Rattle.scheduling.specs.declared.transfer.Transfer.{Transfer}
use Rattle.wait_set.specs.declared.object.ObjFault.{ObjFault}
use Rattle.wait_set.specs.declared.object.ObjFault.TheVariants.{Unlawful, Memory}
use Rattle.wait_set.specs.Actors.{Refuses}
use Rattle.partition_state.specs.Calls.{IsClear, IsJudged, ReadsAtPort, RefusesOrWants, actor_of, objects_noted, objects_served, served, served_demands, with_lock_stopped}
use Rattle.partition_state.proofs.Clear.{own_call, target_found}
use Rattle.partition_state.proofs.Locks.{lock_before, lock_self_stopped, lock_used}
use Rattle.partition_state.proofs.Sets.{either_way}
use Rattle.apex_types.specs.Shapes.{kind_used}
use Rattle.apex_types.specs.Requested.{kind_of}
use Rattle.apex_types.specs.declared.object_kind.ObjectKind.{ObjectKind}

-- whether a request may change the lock: a stop, or an operation on it
abbrev pub reaches_lock : Request → Bool
reaches_lock (request.Process process ProcessOperation.Stop) = true
reaches_lock (request.Caller CallerOperation.StopSelf) = true
reaches_lock (request.Preemption operation) = true
reaches_lock _ = false

-- whether a request is one of the health monitor or the error handler
abbrev pub is_health : Request → Bool
is_health (request.Health operation) = true
is_health _ = false

-- the objects and the lock after a call

-- what a service that reaches no lock changes leaves the lock as it is
put_leaves_lock : (kind : ObjectKind) (objects : List (ℕ × ObjectOf kind)) (partition : Partition) → (with_objects kind objects partition).lock ≡ partition.lock
put_leaves_lock kind.Buffer objects partition = refl
put_leaves_lock _ objects partition = refl

changed_leaves_lock : (configuration : Configuration) (place : ℕ) (call : CallRecord) (partition : Partition) (asked : Request)
    → (objects_changed configuration place call asked partition).lock ≡ partition.lock
changed_leaves_lock configuration place call partition (request.Create name object) = put_leaves_lock (kind_of object) _ partition
changed_leaves_lock configuration place call partition (request.Object number operation) = put_leaves_lock (kind_used operation) _ partition
changed_leaves_lock configuration place call partition (request.SamplingPort port SamplingOperation.Read) = refl
changed_leaves_lock configuration place call partition _ = refl

-- the objects and the ports after a call, with the lock after it
abbrev pub all_called : Configuration → ℕ → CallRecord → Partition → Partition
all_called configuration place call partition = record (objects_called configuration place call partition) { lock = lock_called place call partition.lock }

all_are_called : (configuration : Configuration) (cores : List CoreState) (place core : ℕ) (partition : Partition) (call : CallRecord)
    → IsClear configuration cores place core partition call → AllHold (served_demands configuration cores core partition call) → is_restart call ≡ false
    → (asked : Request) → call.request ≡ asked
    → all_called configuration place call partition ≡ objects_served configuration place call asked partition
all_are_called configuration cores place core partition call clear holds goes_on (request.Process process ProcessOperation.Stop) is =
    by (created partition.table process) refl
  where
    own : IsOwnCall configuration call.who.part place core cores partition call
    own = own_call configuration cores place core partition call clear holds

    by : (target : Option Process) → created partition.table process ≡ target
        → all_called configuration place call partition
        ≡ left_if_there (peer call.who process) target (with_lock_stopped (natural_of process) call.claim.woken partition)
    by None e = absurd (target_found configuration (time_of cores core) call.who partition process (rw is at clear.conditions) e)
    by (Some target) e =
        let held = rw is at holds in
        let done : is_no_error call.claim.out ≡ true = rw held.0 refl in
        (stopped_leaves configuration call.who.part place core cores partition call own process is done target e).2
all_are_called configuration cores place core partition call clear holds goes_on (request.Caller CallerOperation.StopSelf) is =
    let held = rw is at holds in
    let own = own_call configuration cores place core partition call clear holds in
    ap (λ (one : Partition). record one { lock = lock_called place call partition.lock })
    (one_object_changes configuration call.who.part place core cores partition call own (rw (goes_on, is) refl) (request.Caller CallerOperation.StopSelf) is)
    ∙ ap (λ lock. record partition { lock = lock }) (lock_self_stopped place call partition.lock is held.0)
all_are_called configuration cores place core partition call clear holds goes_on (request.Preemption operation) is =
    let held = rw is at holds in
    let own = own_call configuration cores place core partition call clear holds in
    ap (λ (one : Partition). record one { lock = lock_called place call partition.lock })
    (one_object_changes configuration call.who.part place core cores partition call own (rw (goes_on, is) refl) (request.Preemption operation) is)
    ∙ ap (λ lock. record partition { lock = lock })
    (lock_used place call operation partition.lock is (lock_before configuration cores place core partition call clear) held)
all_are_called configuration cores place core partition call clear holds goes_on asked is =
    let own = own_call configuration cores place core partition call clear holds in
    ap (λ (one : Partition). record one { lock = lock_called place call partition.lock })
    (one_object_changes configuration call.who.part place core cores partition call own (rw (goes_on, is) refl) asked is)
    ∙ ap (λ lock. record (objects_changed configuration place call asked partition) { lock = lock })
    (other_calls_leave_lock configuration call.who.part place core cores partition call own (rw is refl) (rw is refl) goes_on
    ∙ sym (changed_leaves_lock configuration place call partition asked))

-- the error handler and the listed errors after a call

-- a service of the health monitor or the error handler is done
health_is_done : (configuration : Configuration) (cores : List CoreState) (core : ℕ) (partition : Partition) (call : CallRecord)
    → AllHold (served_demands configuration cores core partition call) → (operation : HealthOperation) → call.request ≡ request.Health operation → is_done call.claim.out ≡ true
health_is_done configuration cores core partition call holds operation is = let held = rw is at holds in by operation held.0
  where
    raised : (anew : Bool) → call.claim.out ≡ (if anew then never else done).out → is_done call.claim.out ≡ true
    raised true given = rw given refl
    raised false given = rw given refl

    reported : (errors : List ListedError) → call.claim.out ≡ (oldest_reported errors).out → is_done call.claim.out ≡ true
    reported [] given = rw given refl
    reported (error ∷ errors) given = rw given refl

    by : (operation : HealthOperation) → call.claim.out ≡ (health_answer configuration call.who.part partition call.who.proc operation).out → is_done call.claim.out ≡ true
    by (HealthOperation.RaiseError error length message) given = raised (restarts_by_error configuration call.who.part partition call.who.proc) given
    by HealthOperation.GetErrorStatus given = reported partition.errors given
    by _ given = rw given refl

-- so the request of a call alone decides of both
handler_is_called : (configuration : Configuration) (cores : List CoreState) (core : ℕ) (partition : Partition) (call : CallRecord)
    → AllHold (served_demands configuration cores core partition call) → (asked : Request) → call.request ≡ asked
    → cond (is_done call.claim.out) (handler_by configuration call.who.part asked partition.handler) partition.handler ≡ handler_by configuration call.who.part asked partition.handler
handler_is_called configuration cores core partition call holds (request.Health operation) is = rw (health_is_done configuration cores core partition call holds operation is) refl
handler_is_called configuration cores core partition call holds _ is = either_way (is_done call.claim.out) partition.handler partition.handler refl

errors_are_called : (configuration : Configuration) (cores : List CoreState) (core : ℕ) (partition : Partition) (call : CallRecord)
    → AllHold (served_demands configuration cores core partition call) → (asked : Request) → call.request ≡ asked
    → cond (is_done call.claim.out) (errors_by call.who.proc asked partition) partition.errors ≡ errors_by call.who.proc asked partition
errors_are_called configuration cores core partition call holds (request.Health operation) is = rw (health_is_done configuration cores core partition call holds operation is) refl
errors_are_called configuration cores core partition call holds _ is = either_way (is_done call.claim.out) partition.errors partition.errors refl

-- a partition after a call, except for its mode and its processes
abbrev pub all_but_processes : Configuration → ℕ → CallRecord → Partition → Partition
all_but_processes configuration place call partition = record (objects_called configuration place call partition) {
  handler = cond (is_done call.claim.out) (handler_by configuration call.who.part call.request partition.handler) partition.handler;
  errors = cond (is_done call.claim.out) (errors_by call.who.proc call.request partition) partition.errors;
  lock = lock_called place call partition.lock;
}

pub served_is_called : (configuration : Configuration) (cores : List CoreState) (place core : ℕ) (partition : Partition) (call : CallRecord)
    → IsClear configuration cores place core partition call → AllHold (served_demands configuration cores core partition call) → is_restart call ≡ false
    → all_but_processes configuration place call partition ≡ served configuration place call call.request partition
served_is_called configuration cores place core partition call clear holds goes_on =
    let handler = handler_is_called configuration cores core partition call holds call.request refl in
    let errors = errors_are_called configuration cores core partition call holds call.request refl in
    let objects = all_are_called configuration cores place core partition call clear holds goes_on call.request refl in
    λ i. record (objects i) { handler = handler i; errors = errors i }

-- the objects leave the error handler and the listed errors as they are

put_leaves_handler : (kind : ObjectKind) (objects : List (ℕ × ObjectOf kind)) (partition : Partition) → (with_objects kind objects partition).handler ≡ partition.handler
put_leaves_handler kind.Buffer objects partition = refl
put_leaves_handler _ objects partition = refl

changed_leaves_handler : (configuration : Configuration) (place : ℕ) (call : CallRecord) (partition : Partition) (asked : Request)
    → (objects_changed configuration place call asked partition).handler ≡ partition.handler
changed_leaves_handler configuration place call partition (request.Create name object) = put_leaves_handler (kind_of object) _ partition
changed_leaves_handler configuration place call partition (request.Object number operation) = put_leaves_handler (kind_used operation) _ partition
changed_leaves_handler configuration place call partition (request.SamplingPort port SamplingOperation.Read) = refl
changed_leaves_handler configuration place call partition _ = refl

put_leaves_errors : (kind : ObjectKind) (objects : List (ℕ × ObjectOf kind)) (partition : Partition) → (with_objects kind objects partition).errors ≡ partition.errors
put_leaves_errors kind.Buffer objects partition = refl
put_leaves_errors _ objects partition = refl

changed_leaves_errors : (configuration : Configuration) (place : ℕ) (call : CallRecord) (partition : Partition) (asked : Request)
    → (objects_changed configuration place call asked partition).errors ≡ partition.errors
changed_leaves_errors configuration place call partition (request.Create name object) = put_leaves_errors (kind_of object) _ partition
changed_leaves_errors configuration place call partition (request.Object number operation) = put_leaves_errors (kind_used operation) _ partition
changed_leaves_errors configuration place call partition (request.SamplingPort port SamplingOperation.Read) = refl
changed_leaves_errors configuration place call partition _ = refl

-- so a partition is as it was served, if it is so but for a handler and errors that stay
with_handler : (configuration : Configuration) (who : Who) (asked : Request) (before objects new : Partition) → is_health asked ≡ false → objects.handler ≡ before.handler
    → objects.errors ≡ before.errors → new ≡ objects
    → new ≡ record objects { handler = handler_by configuration who.part asked before.handler; errors = errors_by who.proc asked before }
with_handler configuration who asked before objects new other stays stay is =
    let handler = stays ∙ sym (kept asked other) in
    let errors = stay ∙ sym (left asked other) in
    is ∙ (λ i. record objects { handler = handler i; errors = errors i })
  where
    kept : (asked : Request) → is_health asked ≡ false → handler_by configuration who.part asked before.handler ≡ before.handler
    kept (request.Health operation) other = let never : ◌≡◌ {A = Bool} true false = other in cc
    kept _ other = refl

    left : (asked : Request) → is_health asked ≡ false → errors_by who.proc asked before ≡ before.errors
    left (request.Health operation) other = let never : ◌≡◌ {A = Bool} true false = other in cc
    left _ other = refl

-- a service that reaches no lock and is none of the health monitor or the error handler changes the one object that it names
pub one_is_served : (configuration : Configuration) (place : ℕ) (call : CallRecord) (asked : Request) (partition new : Partition) → reaches_lock asked ≡ false
    → is_health asked ≡ false → new ≡ objects_changed configuration place call asked partition → new ≡ served configuration place call asked partition
one_is_served configuration place call (request.Process process ProcessOperation.Stop) partition new other no_health is =
    let never : ◌≡◌ {A = Bool} true false = other in cc
one_is_served configuration place call (request.Caller CallerOperation.StopSelf) partition new other no_health is =
    let never : ◌≡◌ {A = Bool} true false = other in cc
one_is_served configuration place call (request.Preemption operation) partition new other no_health is =
    let never : ◌≡◌ {A = Bool} true false = other in cc
one_is_served configuration place call asked partition new other no_health is =
    with_handler configuration call.who asked partition (objects_changed configuration place call asked partition) new no_health
    (changed_leaves_handler configuration place call partition asked) (changed_leaves_errors configuration place call partition asked) is

pub changed_is_served : (configuration : Configuration) (place : ℕ) (call : CallRecord) (partition new : Partition) → reaches_lock call.request ≡ false
    → is_health call.request ≡ false
    → new ≡ objects_changed configuration place call call.request partition → new ≡ served configuration place call call.request partition
changed_is_served configuration place call partition new = one_is_served configuration place call call.request partition new

-- and an operation on the lock changes the lock
pub lock_is_served : (configuration : Configuration) (place : ℕ) (call : CallRecord) (operation : LockOperation) (partition old : Partition) (new : Lock) (result : Result Transfer ObjFault)
    → partition ≡ old → OnOk result (new ≡ lock_after (actor_of place call) operation call.claim partition.lock)
    → OnOk result (record partition { lock = new } ≡ served configuration place call (request.Preemption operation) old)
lock_is_served configuration place call operation partition old new (Ok transfer) same is =
    ap (λ lock. record partition { lock = lock }) is ∙ ap (λ one. served configuration place call (request.Preemption operation) one) same
lock_is_served configuration place call operation partition old new (Err fault) same is = tt

-- a service of the health monitor or the error handler changes the handler and the listed errors
pub health_is_served : (configuration : Configuration) (place : ℕ) (call : CallRecord) (operation : HealthOperation) (partition new : Partition) → call.request ≡ request.Health operation
    → new ≡ record partition {
      handler = handler_by configuration call.who.part (request.Health operation) partition.handler;
      errors = errors_by call.who.proc (request.Health operation) partition;
    }
    → new ≡ served configuration place call call.request partition
health_is_served configuration place call operation partition new is become = rw is become

-- what is accepted or refused as it is judged holds, or its cause is that of the first demand that fails

pub accepted_ok : (demands : List {1} Demand) (judged : Result (Unit {0}) Cause) (result : Result Transfer ObjFault) → Judges demands judged
    → IsJudged judged result → OnOk result (AllHold demands)
accepted_ok demands (Ok done) (Ok transfer) judges is = judges
accepted_ok demands (Err cause) (Ok transfer) judges is = absurd is
accepted_ok demands judged (Err fault) judges is = tt

pub accepted_refused : (demands : List {1} Demand) (judged : Result (Unit {0}) Cause) (result : Result Transfer ObjFault) → Judges demands judged
    → IsJudged judged result → IfErr result (Refuses demands)
accepted_refused demands judged (Ok transfer) judges is = tt
accepted_refused demands (Ok done) (Err fault) judges is = let never : ◌≡◌ {A = Bool} false true = is in cc
accepted_refused demands (Err cause) (Err fault) judges is = rw is judges

-- a refusal is one also if memory may be lacking
pub refuses_or_wants : (demands : List {1} Demand) (fault : ObjFault) → Refuses demands fault → RefusesOrWants demands fault
refuses_or_wants demands (Unlawful cause) refuses = refuses
refuses_or_wants demands Memory refuses = tt

-- the mode and the processes stay

put_keeps : (kind : ObjectKind) (objects : List (ℕ × ObjectOf kind)) (partition : Partition) → processes_of (with_objects kind objects partition) ≡ processes_of partition
put_keeps kind.Buffer objects partition = refl
put_keeps _ objects partition = refl

left_keeps : (who : Who) (waited : Wait) (partition : Partition) → processes_of (left_by who waited partition) ≡ processes_of partition
left_keeps who (wait.At wanted due) partition = put_keeps wanted.kind _ partition
left_keeps who _ partition = refl

pub served_keeps : (configuration : Configuration) (place : ℕ) (call : CallRecord) (partition : Partition) (asked : Request)
    → processes_of (objects_served configuration place call asked partition) ≡ processes_of partition
served_keeps configuration place call partition (request.Process process ProcessOperation.Stop) = by (created partition.table process)
  where
    stopped : Partition
    stopped = with_lock_stopped (natural_of process) call.claim.woken partition

    by : (target : Option Process) → processes_of (left_if_there (peer call.who process) target stopped) ≡ processes_of partition
    by None = refl
    by (Some target) = left_keeps (peer call.who process) target.wait stopped
served_keeps configuration place call partition (request.Caller CallerOperation.StopSelf) = refl
served_keeps configuration place call partition (request.Preemption operation) = refl
served_keeps configuration place call partition (request.Create name object) = put_keeps (kind_of object) _ partition
served_keeps configuration place call partition (request.Object number operation) = put_keeps (kind_used operation) _ partition
served_keeps configuration place call partition (request.SamplingPort port SamplingOperation.Read) = refl
served_keeps configuration place call partition _ = refl

-- the partition with these processes
abbrev pub with_processes : Processes → Partition → Partition
with_processes processes partition = record partition { mode = processes.mode; table = processes.table }

-- what a call leaves with its port does not look at the processes
pub noted_with : (processes : Processes) (call : CallRecord) (asked : Request) (partition : Partition)
    → objects_noted call asked (with_processes processes partition) ≡ with_processes processes (objects_noted call asked partition)
noted_with processes call (request.SamplingPort port SamplingOperation.Read) partition = refl
noted_with processes call _ partition = refl

pub reads_with : (processes : Processes) (call : CallRecord) (asked : Request) (partition : Partition) → ReadsAtPort call asked partition
    → ReadsAtPort call asked (with_processes processes partition)
reads_with processes call (request.SamplingPort port SamplingOperation.Read) partition reads = reads
reads_with processes call _ partition reads = tt

-- with the objects and the processes after a call it is the partition after it
pub is_called : (configuration : Configuration) (cores : List CoreState) (place core : ℕ) (call : CallRecord) (old new : Partition) (processes : Processes)
    → new ≡ all_but_processes configuration place call old → processes ≡ processes_of (partition_called configuration cores place core call old)
    → with_processes processes new ≡ partition_called configuration cores place core call old
is_called configuration cores place core call old new processes objects become = rw (objects, become) refl

-- restarts

-- a call that is no restart makes none
pub no_restart : (configuration : Configuration) (call : CallRecord) → is_restart call ≡ false → restart_of configuration call ≡ None
no_restart configuration call none = rw none refl

given_none : (given : Option Mode) (start : StartCondition) → is_some given ≡ true → option_map {U = Restart} (λ mode. record { start = start; mode = mode }) given ≡ None → ⊥
given_none None start some none = cc
given_none (Some mode) start some none = cc

-- a call that is served as it claims and makes no restart is none
pub no_restart_asked : (configuration : Configuration) (cores : List CoreState) (core : ℕ) (partition : Partition) (call : CallRecord)
    → AllHold (served_demands configuration cores core partition call) → restart_of configuration call ≡ None → is_restart call ≡ false
no_restart_asked configuration cores core partition call holds none = by (is_restart call) refl
  where
    raised : (policy : Option Mode) (handled : Bool) → error_mode configuration call.who.part ≡ policy → call.claim.out ≡ out.Never
        → call.claim.out ≡ (if not handled && is_some (error_mode configuration call.who.part) then never else done).out
        → restart_by_error configuration call.who.part ≡ None → ⊥
    raised None true is claimed given nothing = let clash : out.Never ≡ out.Answer code.NoError = sym claimed ∙ given in cc
    raised None false is claimed given nothing = let clash : out.Never ≡ out.Answer code.NoError = sym claimed ∙ (rw is at given) in cc
    raised (Some mode) handled is claimed given nothing = let nothing_too = rw is at nothing in cc

    apart : (asked : Request) (claimed : Out) → call.request ≡ asked → call.claim.out ≡ claimed → restarts_by asked claimed ≡ true
        → restart_for configuration call.who.part asked ≡ None → ⊥
    apart (request.SetPartitionMode next) out.Never is same restarts nothing = given_none (restart_given next) PartitionRestart restarts nothing
    apart (request.SetPartitionMode next) _ is same restarts nothing = let never : ◌≡◌ {A = Bool} false true = restarts in cc
    apart (request.Health (HealthOperation.RaiseError error length message)) out.Never is same restarts nothing =
        let held = rw is at holds in
        raised (error_mode configuration call.who.part) (is_handled partition call.who.proc) refl same held.0 nothing
    apart (request.Health (HealthOperation.RaiseError error length message)) _ is same restarts nothing = let never : ◌≡◌ {A = Bool} false true = restarts in cc
    apart (request.Health operation) _ is same restarts nothing = let never : ◌≡◌ {A = Bool} false true = restarts in cc
    apart _ _ is same restarts nothing = let never : ◌≡◌ {A = Bool} false true = restarts in cc

    by : (b : Bool) → is_restart call ≡ b → b ≡ false
    by true is = absurd (apart call.request call.claim.out refl refl is (rw is at none))
    by false is = refl

-- who is faulted

-- the handler's STOP_SELF takes no listed error
pub ending_keeps_errors : (caller : ℕ) (asked : Request) (partition : Partition) → ends_handler partition caller asked ≡ true → errors_by caller asked partition ≡ partition.errors
ending_keeps_errors caller (request.Caller CallerOperation.StopSelf) partition ends = refl
ending_keeps_errors caller _ partition ends = let never : ◌≡◌ {A = Bool} false true = ends in cc

-- What a call or an error that restarts a partition does, and what any other error does, is what the sentences say.
use Rattle.std.proofs.Common.{◌≡◌, ℕ, zero, suc, ap, subst, ◌∙◌, List, [], ◌∷◌, ◌⊎◌, Bool, true, false, cond, is_some, IsTrue, refl, sym, inl, inr, true≢false, nat_eq, Option, Some, None, option_map, ◌&&◌, ℤ, pos, negsuc}
use Rattle.std.proofs.lemmas.Bool.{and_parts, eq-eqb, eqb-true}
use Rattle.std.proofs.lemmas.List.Elements.{All-cons, All-contains, All-nil, All-weaker}
use Rattle.std.specs.Prelude.{All, Contains}
use Rattle.apex_laws.proofs.Common.{Answer, Body, Call, CallRecord, Channel, Claim, Condition, Configuration, CoreState, Entry, Ordered, Step, is_normal, Error, ErrorCode, ErrorIsTheSentence, ErrorReport, HasOutcome, HealthOperation, IsInError, IsInitialising, IsReported}
use Rattle.apex_laws.proofs.Common.{IsRestartOf, IsStart, KeepsOnly, Mode, OnlyErrorsChange, Out, Partition, Process, Receivers, Request, Restart, RestartIsTheSentence, Restarts, Senders, StartCondition, State, Table, WaitingSet, Who, answer_of}
use Rattle.apex_laws.proofs.Common.{CanHaveError, channel_effect, channel_of, channel_set, choice_under, conditions_of, deadline_after, each_item, ends_wait, enters, error_mode, first_core, first_processes, initialising_process, is_channel, is_handling_on}
use Rattle.apex_laws.proofs.Common.{is_named, is_no_error, is_one_ready, is_paused, is_restart, is_waiting, item_at, message_of, own_partition, partition_choice, partition_errored, partition_reported, process_in, ready_entries, reported, restart_by_error}
use Rattle.apex_laws.proofs.Common.{restart_for, restart_given, restart_of, restart_reported, restarted, restarts_by, set_after, time_of, use_of, window_now, without, woken_if_named, foremost}
use Rattle.apex_laws.proofs.Booleans.{by_test, cannot_hold, either_way, impossible, is_itself, never_found, not_first, one_item}
use Rattle.apex_laws.proofs.Choices.{FoundReady, choice_is, foremost_is_chosen, owner_is_ready}
use Rattle.apex_laws.proofs.DeadlineRules.{missed_exists}
use Rattle.apex_laws.proofs.ErrorRules.{after_error_says, list_after_says, mode_restarts, restarting_by, restarting_is, restarts_mode}
use Rattle.apex_laws.proofs.Errors.{lawful_restart}
use Rattle.apex_laws.proofs.Records.{keeps_only, lawful_body, next_channel, next_cores, next_partition}
use Rattle.apex_laws.proofs.Restarts.{goes_on, never_returns, restart_ends, restarts_other, some_restart, told_on, woken_table}
use Rattle.apex_laws.proofs.Tables.{at_each, turns_each}
use Rattle.apex_laws.proofs.Untouched.{each_stays, not_woken_if_named}
use Rattle.apex_laws.proofs.Wakes.{health_woken}

-- which calls restart a partition

-- SET_PARTITION_MODE, by its number
mode_says : (configuration : Configuration) (call : CallRecord) (restart : Restart) (next : ℤ) → call.request ≡ Request.SetPartitionMode next → call.claim.out ≡ Out.Never
    → restart_for configuration call.who.part (Request.SetPartitionMode next) ≡ Some restart → Restarts configuration call restart
mode_says configuration call restart (pos zero) asks never names = subst (Restarts configuration call) (one_item names) (Restarts.to_idle asks never)
mode_says configuration call restart (pos (suc zero)) asks never names = subst (Restarts configuration call) (one_item names) (Restarts.to_cold_start asks never)
mode_says configuration call restart (pos (suc (suc zero))) asks never names = subst (Restarts configuration call) (one_item names) (Restarts.to_warm_start asks never)
mode_says configuration call restart (pos (suc (suc (suc n)))) asks _ names = never_found names
mode_says configuration call restart (negsuc n) asks _ names = never_found names

-- RAISE_APPLICATION_ERROR, by what is configured
raised_says : (configuration : Configuration) (call : CallRecord) (restart : Restart) (given length : ℤ) (message : List ℕ)
    → call.request ≡ Request.Health (HealthOperation.RaiseError given length message) → call.claim.out ≡ Out.Never
    → restart_by_error configuration call.who.part ≡ Some restart → Restarts configuration call restart
raised_says configuration call restart given length message asks silent names = by (error_mode configuration call.who.part) refl names
  where
    by : (one : Option Mode) → error_mode configuration call.who.part ≡ one
        → option_map {U = Restart} (λ mode. record { start = StartCondition.ErrorRestart; mode = mode }) one ≡ Some restart → Restarts configuration call restart
    by None at names = never_found names
    by (Some mode) at names =
        subst (Restarts configuration call) (one_item names) (Restarts.by_error given length message mode asks silent (mode_restarts configuration call.who.part mode at))

asked_says : (configuration : Configuration) (call : CallRecord) (restart : Restart) (asked : Request) (given : Out) → call.request ≡ asked → call.claim.out ≡ given
    → restarts_by asked given ≡ true → restart_for configuration call.who.part asked ≡ Some restart → Restarts configuration call restart
asked_says configuration call restart (Request.SetPartitionMode next) Out.Never asks silent is names = mode_says configuration call restart next asks silent names
asked_says configuration call restart (Request.SetPartitionMode next) _ asks silent is names = impossible is
asked_says configuration call restart (Request.Health (HealthOperation.RaiseError error length message)) Out.Never asks silent is names =
    raised_says configuration call restart error length message asks silent names
asked_says configuration call restart (Request.Health (HealthOperation.RaiseError error length message)) _ asks silent is names = impossible is
asked_says configuration call restart (Request.Health operation) given asks silent is names = impossible is
asked_says configuration call restart _ given asks silent is names = impossible is

says_restart : (configuration : Configuration) (call : CallRecord) (restart : Restart) → restart_of configuration call ≡ Some restart → Restarts configuration call restart
says_restart configuration call restart is =
    let restarts = some_restart configuration call restart is in
    asked_says configuration call restart call.request call.claim.out refl refl restarts
    (sym (ap (λ test. cond test (restart_for configuration call.who.part call.request) None) restarts) ∙ is)

is_restarting : (configuration : Configuration) (call : CallRecord) (restart : Restart) → Restarts configuration call restart → restart_of configuration call ≡ Some restart
is_restarting configuration call _ (Restarts.to_idle asks never) = λ i. cond (restarts_by (asks i) (never i)) (restart_for configuration call.who.part (asks i)) None
is_restarting configuration call _ (Restarts.to_cold_start asks never) = λ i. cond (restarts_by (asks i) (never i)) (restart_for configuration call.who.part (asks i)) None
is_restarting configuration call _ (Restarts.to_warm_start asks never) = λ i. cond (restarts_by (asks i) (never i)) (restart_for configuration call.who.part (asks i)) None
is_restarting configuration call _ (Restarts.by_error given length message entered asks never restarts) =
    (λ i. cond (restarts_by (asks i) (never i)) (restart_for configuration call.who.part (asks i)) None)
    ∙ ap (option_map {U = Restart} (λ mode. record { start = StartCondition.ErrorRestart; mode = mode })) (restarts_mode configuration call.who.part entered restarts)

-- what such a call claims

-- it goes through no channel, and its answer names no process
asked_silent : (configuration : Configuration) (cores : List CoreState) (core : ℕ) (who : Who) (partition : Partition) (asked : Request) (given : Out) → restarts_by asked given ≡ true
    → (channel_of partition asked ≡ None) × ((answer_of configuration cores core who partition asked).woken ≡ [])
asked_silent configuration cores core who partition (Request.SetPartitionMode next) given is = (refl, refl)
asked_silent configuration cores core who partition (Request.Health (HealthOperation.RaiseError error length message)) given is =
    (refl, health_woken configuration who.part partition who.proc (HealthOperation.RaiseError error length message))
asked_silent configuration cores core who partition (Request.Health operation) given is = impossible is
asked_silent configuration cores core who partition _ given is = impossible is

-- no process is named, and no channel
record IsSilent (claim : Claim) : Type 0 where
  nobody : (who : Who) → is_named who claim.woken ≡ false
  no_channel : claim.chan ≡ None

silent : (conditions : List Condition) (channel : Option ℕ) (answer : Answer) (suited : ℕ → Bool) (through : ℕ → Answer) (claim : Claim)
    → channel ≡ None → answer.woken ≡ [] → HasOutcome conditions channel answer suited through claim → IsSilent claim
silent [] None answer suited through claim off none has = record { nobody = λ who. has.woken who ∙ ap (is_named who) none; no_channel = has.chan }
silent [] (Some channel) answer suited through claim off none has = never_found (sym off)
silent (condition ∷ conditions) channel answer suited through claim off none has = record { nobody = λ who. ap (is_named who) has.woken; no_channel = has.chan }

-- the partition as it starts

initialising : (core place : ℕ) → IsInitialising core place (initialising_process core place)
initialising core place = record { ready = record { alive = refl; sound = refl; goes_on = refl; waits = refl; affinity = refl }; position = refl; priority = refl; due = refl; period = refl; deadline = refl }

alone : (core place : ℕ)
    → ((process : Process) × (item_at ((0, initialising_process core place) ∷ []) 0 ≡ Some process) × IsInitialising core place process)
    × ((number : ℕ) → ¬ (number ≡ 0) → item_at ((0, initialising_process core place) ∷ []) number ≡ None)
alone core place = (
  (initialising_process core place, refl, initialising core place),
  λ number differs. (let off : nat_eq number 0 ≡ false = cannot_hold (nat_eq number 0) (λ same. differs (eqb-true number 0 same)) in rw off refl),
)

starts : (mode : Mode) (core place : ℕ) → IsStart mode core place (first_processes mode core place)
starts Mode.Idle core place = λ number. refl
starts Mode.ColdStart core place = alone core place
starts _ core place = alone core place

-- the whole restart, if the others and the contents of channels stay, and only the processes of the partition leave the sets of channels
anew : (configuration : Configuration) (place : ℕ) (restart : Restart) (part : ℕ) (state next : State) → next.partitions part ≡ restarted restart configuration part place
    → ((number : ℕ) → ¬ (number ≡ part) → next.partitions number ≡ state.partitions number) → ((number : ℕ) → (next.channels number).content ≡ (state.channels number).content)
    → ((number : ℕ) → KeepsOnly (λ who. who.part ≡ part) (state.channels number).senders (next.channels number).senders)
    → ((number : ℕ) → KeepsOnly (λ who. who.part ≡ part) (state.channels number).receivers (next.channels number).receivers) → next.cores ≡ state.cores
    → IsRestartOf configuration place restart part state next
anew configuration place restart part state next own elsewhere contents senders receivers cores = record {
  mode = ap (λ (one : Partition). one.mode) own;
  start = ap (λ (one : Partition). one.start) own;
  handler = ap (λ (one : Partition). one.handler) own;
  errors = ap (λ (one : Partition). one.errors) own;
  lock = ap (λ (one : Partition). one.lock) own;
  processes = subst (IsStart restart.mode (first_core configuration part) place) (sym (ap (λ (one : Partition). one.table) own)) (starts restart.mode (first_core configuration part) place);
  buffers = ap (λ (one : Partition). one.buffers) own;
  blackboards = ap (λ (one : Partition). one.blackboards) own;
  semaphores = ap (λ (one : Partition). one.semaphores) own;
  events = ap (λ (one : Partition). one.events) own;
  mutexes = ap (λ (one : Partition). one.mutexes) own;
  sampling_ports = ap (λ (one : Partition). one.sampling_ports) own;
  queuing_ports = ap (λ (one : Partition). one.queuing_ports) own;
  elsewhere = elsewhere;
  contents = contents;
  senders = senders;
  receivers = receivers;
  cores = cores;
}

-- the sets of channels

-- a restart takes exactly the processes of its partition out of a set
restarted_set : (place : ℕ) (call : CallRecord) (wanted : WaitingSet) (entries : List Entry) → is_restart call ≡ true
    → ((who : Who) → is_named who call.claim.woken ≡ false) → KeepsOnly (λ who. who.part ≡ call.who.part) entries (set_after place (Call call) wanted entries)
restarted_set place call wanted entries is nobody =
    let stops : call.claim.out ≡ Out.Never = never_returns call.request call.claim.out is in
    let enters_not : enters call wanted ≡ false = not_first (is_waiting call.claim.out) _ (ap is_waiting stops) in
    rw enters_not (keeps_only (λ who. who.part ≡ call.who.part) (ends_wait call) (goes stops) stays entries)
  where
    goes : call.claim.out ≡ Out.Never → (who : Who) → ends_wait call who ≡ true → who.part ≡ call.who.part
    goes stops who passed =
        either_way (nat_eq who.part call.who.part) (λ here. eqb-true who.part call.who.part here)
        (λ there. absurd (true≢false (sym passed ∙ goes_on call who (restarts_other call who.part there) (nobody who) (not_first (is_no_error call.claim.out) _ (ap is_no_error stops)))))

    stays : (who : Who) → ends_wait call who ≡ false → ¬ (who.part ≡ call.who.part)
    stays who kept here = true≢false (sym (restart_ends call who is here) ∙ kept)

-- a call that restarts its partition
says : (configuration : Configuration) (state : State) (ordered : Ordered) (call : CallRecord) (restart : Restart) (next : State)
    → Step configuration state ordered next → ordered.rec.body ≡ Call call → restart_of configuration call ≡ Some restart
    → IsRestartOf configuration ordered.pos restart call.who.part state next
says configuration state ordered call restart next step is found =
    let place = ordered.pos in
    let core = ordered.core in
    let part = call.who.part in
    let partition = state.partitions part in
    let restarts = some_restart configuration call restart found in
    let law = lawful_body configuration state ordered next (Call call) step is in
    let off = asked_silent configuration state.cores core call.who partition call.request call.claim.out restarts in
    let quiet = silent (conditions_of configuration (time_of state.cores core) call.who partition call.request) (channel_of partition call.request)
    (answer_of configuration state.cores core call.who partition call.request) _ _ call.claim off.0 off.1 law.outcome in
    let partitions = next_partition configuration state ordered next (Call call) step is in
    let channels = next_channel configuration state ordered next (Call call) step is in
    let own : next.partitions part ≡ restarted restart configuration part place =
    partitions part
    ∙ ap (λ test. cond test (own_partition (restart_of configuration call) configuration state.cores place core call partition) (record partition { table = woken_table place part (message_of call.request) call.claim.woken partition.table })) (is_itself part)
    ∙ ap (λ one. own_partition one configuration state.cores place core call partition) found in
    anew configuration place restart part state next own
    (λ number there.
    (let foreign : nat_eq part number ≡ false = cannot_hold (nat_eq part number) (λ same. there (sym (eqb-true part number same))) in
    partitions number
    ∙ ap (λ test. cond test (own_partition (restart_of configuration call) configuration state.cores place core call (state.partitions number))
    (record (state.partitions number) { table = woken_table place number (message_of call.request) call.claim.woken (state.partitions number).table })) foreign
    ∙ ap (λ (table : Table). let other : Partition = record (state.partitions number) { table = table } in other)
    (each_stays (λ other process. woken_if_named place (message_of call.request) call.claim.woken (record { part = number; proc = other }) process) (state.partitions number).table
    (λ other process. not_woken_if_named place (message_of call.request) call.claim.woken (record { part = number; proc = other }) process (quiet.nobody (record { part = number; proc = other }))))))
    (λ number. ap (λ (one : Channel). one.content) (channels number)
    ∙ ap (λ test. cond test (channel_effect configuration (time_of state.cores core) number call.who.part (use_of call.request) (state.channels number)).next (state.channels number).content)
    (ap (is_channel number) quiet.no_channel))
    (λ number. subst (KeepsOnly (λ who. who.part ≡ part) (state.channels number).senders) (sym (ap (λ (one : Channel). one.senders) (channels number)))
    (restarted_set place call (channel_set number Senders) (state.channels number).senders restarts quiet.nobody))
    (λ number. subst (KeepsOnly (λ who. who.part ≡ part) (state.channels number).receivers) (sym (ap (λ (one : Channel). one.receivers) (channels number)))
    (restarted_set place call (channel_set number Receivers) (state.channels number).receivers restarts quiet.nobody))
    (next_cores configuration state ordered next (Call call) step is)

-- each lawful restart makes one
makes_one : (configuration : Configuration) (state : State) (ordered : Ordered) (call : CallRecord) (next : State)
    → Step configuration state ordered next → ordered.rec.body ≡ Call call → is_restart call ≡ true → (restart : Restart) × (restart_of configuration call ≡ Some restart)
makes_one configuration state ordered call next step is restarts =
    let law = lawful_body configuration state ordered next (Call call) step is in
    lawful_restart configuration state.cores ordered.core (state.partitions call.who.part) call _ _ _ law.outcome restarts

pub restart_is_the_sentence : RestartIsTheSentence
restart_is_the_sentence = (says, λ configuration call restart. (says_restart configuration call restart, is_restarting configuration call restart), makes_one)

-- errors

-- the choice of a partition is in its table, whatever the numbers are

all_there : (table : Table) → All (λ entry. is_some (item_at table entry.0) ≡ true) table
all_there [] = All-nil _
all_there (entry ∷ entries) =
    All-cons (λ (one : ℕ × Process). is_some (item_at (entry ∷ entries) one.0) ≡ true) entry entries (rw is_itself refl)
    (All-weaker (λ (one : ℕ × Process). is_some (item_at entries one.0) ≡ true) (λ (one : ℕ × Process). is_some (item_at (entry ∷ entries) one.0) ≡ true)
    (λ one there. by_test (λ (found : Option Process). is_some found ≡ true) (nat_eq one.0 entry.0) (Some entry.1) (item_at entries one.0) (λ same. refl) (λ other. there))
    entries (all_there entries))

some_there : (found : Option Process) → is_some found ≡ true → (process : Process) × (found ≡ Some process)
some_there None there = impossible there
some_there (Some process) there = (process, refl)

first_there : (number core : ℕ) (table : Table) (who : Who) (first : Option (ℕ × Process)) → foremost (ready_entries core table) ≡ first
    → option_map {U = Who} (λ entry. record { part = number; proc = entry.0 }) first ≡ Some who → is_some (item_at table who.proc) ≡ true
first_there number core table who None at chosen = never_found chosen
first_there number core table who (Some entry) at chosen =
    let same : ◌≡◌ {A = Who} (record { part = number; proc = entry.0 }) who = one_item chosen in
    let there : is_some (item_at table entry.0) ≡ true =
    All-contains (λ (one : ℕ × Process). is_some (item_at table one.0) ≡ true) table entry (all_there table) (foremost_is_chosen core table entry at).is_member in
    subst (λ (proc : ℕ). is_some (item_at table proc) ≡ true) (ap (λ (one : Who). one.proc) same) there

ready_there : (core : ℕ) (found : Option Process) → is_one_ready core found ≡ true → is_some found ≡ true
ready_there core None passes = impossible passes
ready_there core (Some process) passes = refl

owned_there : (number core proc : ℕ) (table : Table) (who : Who) → ◌≡◌ {A = Option Who} (Some (record { part = number; proc = proc })) (Some who)
    → is_one_ready core (item_at table proc) ≡ true → is_some (item_at table who.proc) ≡ true
owned_there number core proc table who is passes =
    let same : ◌≡◌ {A = Who} (record { part = number; proc = proc }) who = one_item is in
    subst (λ (one : ℕ). is_some (item_at table one) ≡ true) (ap (λ (one : Who). one.proc) same) (ready_there core (item_at table proc) passes)

under_there : (number core : ℕ) (owner : Option ℕ) (table : Table) (who : Who) → choice_under number core owner table ≡ Some who → is_some (item_at table who.proc) ≡ true
under_there number core None table who chosen = first_there number core table who (foremost (ready_entries core table)) refl chosen
under_there number core (Some owner) table who chosen =
    by_test (λ (choice : Option Who). choice ≡ Some who → is_some (item_at table who.proc) ≡ true) (is_one_ready core (item_at table owner))
    (Some (record { part = number; proc = owner })) (choice_under number core None table)
    (λ passes is. owned_there number core owner table who is passes)
    (λ fails is. first_there number core table who (foremost (ready_entries core table)) refl is) chosen

chosen_there : (number core : ℕ) (partition : Partition) (who : Who) → partition_choice number core partition ≡ Some who → is_some (item_at partition.table who.proc) ≡ true
chosen_there number core partition who chosen =
    let under = choice_under number core partition.lock.owner partition.table in
    by_test (λ (choice : Option Who). choice ≡ Some who → is_some (item_at partition.table who.proc) ≡ true) (is_handling_on core partition)
    (Some (record { part = number; proc = 0 })) (cond (is_paused partition) None under)
    (λ handles is. owned_there number core 0 partition.table who is (and_parts (is_normal partition.mode) (is_one_ready core (item_at partition.table 0)) handles).1)
    (λ handles_not. by_test (λ (choice : Option Who). choice ≡ Some who → is_some (item_at partition.table who.proc) ≡ true) (is_paused partition) None under
    (λ pauses is. never_found is) (λ stays is. under_there number core partition.lock.owner partition.table who is)) chosen

-- the process of an error
in_error : (configuration : Configuration) (state : State) (core : ℕ) (who : Who) (error : ErrorCode) → CanHaveError error configuration state core who
    → (process : Process) × (process_in state who ≡ Some process) × IsInError error core state who process
in_error configuration state core who ErrorCode.DeadlineMissed law = missed_exists core (time_of state.cores core) (process_in state who) law
in_error configuration state core who _ law =
    let chosen = choice_is (window_now configuration state.cores core) state.partitions core who law.1 in
    let there = some_there (process_in state who) (chosen_there who.part core (state.partitions who.part) who chosen.choice) in
    (there.0, there.1, law.0)

-- what its report makes of it
reported_is : (error : ErrorCode) (old : Process) → IsReported error old (deadline_after error old)
reported_is ErrorCode.DeadlineMissed old = refl
reported_is _ old = refl

-- the next partition of an error
next_own : (configuration : Configuration) (state : State) (ordered : Ordered) (report : ErrorReport) (next : State) (one : Option Restart)
    → Step configuration state ordered next → ordered.rec.body ≡ Error report → restart_reported configuration report ≡ one
    → next.partitions report.who.part ≡ partition_errored one configuration ordered.pos report (state.partitions report.who.part)
next_own configuration state ordered report next one step is told =
    let part = report.who.part in
    next_partition configuration state ordered next (Error report) step is part
    ∙ ap (λ test. cond test (partition_errored (restart_reported configuration report) configuration ordered.pos report (state.partitions part)) (state.partitions part)) (is_itself part)
    ∙ ap (λ found. partition_errored found configuration ordered.pos report (state.partitions part)) told

next_other : (configuration : Configuration) (state : State) (ordered : Ordered) (report : ErrorReport) (next : State)
    → Step configuration state ordered next → ordered.rec.body ≡ Error report → (number : ℕ) → ¬ (number ≡ report.who.part) → next.partitions number ≡ state.partitions number
next_other configuration state ordered report next step is number there =
    next_partition configuration state ordered next (Error report) step is number
    ∙ ap (λ test. cond test (partition_errored (restart_reported configuration report) configuration ordered.pos report (state.partitions number)) (state.partitions number))
    (cannot_hold (nat_eq report.who.part number) (λ same. there (sym (eqb-true report.who.part number same))))

-- a set of a channel after an error that restarts its partition
left_set : (place : ℕ) (report : ErrorReport) (wanted : WaitingSet) (entries : List Entry) → report.restarts ≡ true
    → KeepsOnly (λ who. who.part ≡ report.who.part) entries (set_after place (Error report) wanted entries)
left_set place report wanted entries restarts =
    rw restarts (keeps_only (λ who. who.part ≡ report.who.part) (λ who. nat_eq who.part report.who.part) (λ who passed. eqb-true who.part report.who.part passed)
    (λ who kept here. true≢false (sym (eq-eqb who.part report.who.part here) ∙ kept)) entries)

pub error_is_the_sentence : ErrorIsTheSentence
error_is_the_sentence configuration state ordered report next step is =
    let place = ordered.pos in
    let part = report.who.part in
    let partition = state.partitions part in
    let law = lawful_body configuration state ordered next (Error report) step is in
    let channels = next_channel configuration state ordered next (Error report) step is in
    let elsewhere = next_other configuration state ordered report next step is in
    let cores = next_cores configuration state ordered next (Error report) step is in
    let change : ℕ → Process → Process = reported place partition report in
    either_way report.restarts
    (λ restarts.
    (let restarting = restarting_is configuration part partition report.who.proc (law.restart ∙ restarts) in
    let restart : Restart = record { start = StartCondition.ErrorRestart; mode = restarting.1.0 } in
    let told : restart_reported configuration report ≡ Some restart =
    ap (λ test. cond test (restart_by_error configuration part) None) restarts
    ∙ ap (option_map {U = Restart} (λ mode. record { start = StartCondition.ErrorRestart; mode = mode })) (restarts_mode configuration part restarting.1.0 restarting.1.1) in
    inr (
      restarts,
      (
        restarting.1.0,
        restarting.1.1,
        anew configuration place restart part state next (next_own configuration state ordered report next (Some restart) step is told) elsewhere
            (λ number. ap (λ (one : Channel). one.content) (channels number))
            (λ number. subst (KeepsOnly (λ who. who.part ≡ part) (state.channels number).senders) (sym (ap (λ (one : Channel). one.senders) (channels number)))
            (left_set place report (channel_set number Senders) (state.channels number).senders restarts))
            (λ number. subst (KeepsOnly (λ who. who.part ≡ part) (state.channels number).receivers) (sym (ap (λ (one : Channel). one.receivers) (channels number)))
            (left_set place report (channel_set number Receivers) (state.channels number).receivers restarts)) cores,
      ),
    )))
    (λ stays.
    (let old = in_error configuration state ordered.core report.who report.error law.process in
    let own : next.partitions part ≡ partition_reported place report partition = next_own configuration state ordered report next None step is (told_on configuration report stays) in
    inl (
      stays,
      record {
        process = old.0;
        found = old.1;
        in_error = old.2;
        goes_on = λ restarting. true≢false (sym (restarting_by configuration part partition report.who.proc restarting) ∙ law.restart ∙ stays);
        peers = λ who one here at.
            let found : item_at partition.table who.proc ≡ Some one = subst (λ number. item_at (state.partitions number).table who.proc ≡ Some one) here at in
            let told : Process = cond (nat_eq who.proc report.who.proc) (deadline_after report.error one) one in
            record {
              old = one;
              new = change who.proc one;
              before = at;
              after = subst (λ number. item_at (next.partitions number).table who.proc ≡ Some (change who.proc one)) (sym here)
                  (ap (λ (found : Partition). item_at found.table who.proc) own ∙ turns_each change partition.table who.proc one found);
              change = record {
                told = told;
                first = by_test (λ (new : Process). ((who.proc ≡ report.who.proc) × IsReported report.error one new) ⊎ ((¬ (who.proc ≡ report.who.proc)) × (new ≡ one)))
                    (nat_eq who.proc report.who.proc) (deadline_after report.error one) one
                    (λ same. inl (eqb-true who.proc report.who.proc same, reported_is report.error one))
                    (λ other. inr (λ same. true≢false (sym (eq-eqb who.proc report.who.proc same) ∙ other), refl));
                second = after_error_says place partition report.who.proc who.proc told (change who.proc one) refl;
              };
            };
        no_others = λ number none. ap (λ (found : Partition). item_at found.table number) own ∙ at_each change partition.table number ∙ ap (option_map (change number)) none;
        errors = list_after_says partition (record { error = report.error; process = report.who.proc; message = [] }) (next.partitions part).errors (ap (λ (one : Partition). one.errors) own);
        rest = own ∙ ap (λ (one : Partition). let back : Partition = record partition { table = one.table; errors = one.errors } in back) (sym own);
        elsewhere = elsewhere;
        channels = λ number. channels number ∙ ap (left_if number) stays;
        cores = cores;
      },
    )))
  where
    -- a channel, by whether its processes of the partition leave it
    left_if : ℕ → Bool → Channel
    left_if number restarts = record (state.channels number) {
      senders = cond restarts (without (λ who. nat_eq who.part report.who.part) (state.channels number).senders) (state.channels number).senders;
      receivers = cond restarts (without (λ who. nat_eq who.part report.who.part) (state.channels number).receivers) (state.channels number).receivers;
    }

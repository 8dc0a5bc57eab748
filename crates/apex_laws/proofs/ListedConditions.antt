-- The error conditions that are listed for a call are exactly those of its service that hold.
use Rattle.std.proofs.Common.{◌≡◌, ℕ, ◌<◌, ℤ, pos, List, [], ◌∷◌, ◌++◌, Option, Some, None, Bool, true, false, not, nat_lt, option_map, length, refl, sym, ◌∙◌, negsuc, ap, subst, inl, inr}
use Rattle.std.proofs.lemmas.List.Elements.{All-append, All-cons, All-contains, All-nil, Contains-append_left, Contains-append_right, Contains-push}
use Rattle.std.specs.Prelude.{◌<ℤ◌, All, Contains, IsTrue}
use Rattle.apex_laws.specs.ConditionLaws.{CodesAreTheSentences, ConditionsAreTheSentences}
use Rattle.apex_types.specs.declared.operation.ObjectOperation.TheVariants as on
use Rattle.apex_laws.proofs.Common.{AllAreCreated, BlackboardOperation, BufferOperation, CallerOperation, Code, Condition, Configuration, Direction, EventOperation, GREATEST_MAXIMUM, HasCondition, HasTimeOut, IsCalledBy, IsCodeOf, IsObject}
use Rattle.apex_laws.proofs.Common.{IsProcess, IsSetUp, LONGEST_MESSAGE, MayNotWait, Mode, MOST_MESSAGES, MutexOperation, NameIsTaken, NamesNone, NamesNoProcess, NamesNothing, NewObject, Partition, Port, Process, ProcessOperation}
use Rattle.apex_laws.proofs.Common.{QueuingOperation, Request, SamplingOperation, SemaphoreOperation, WaitsFor, Who, code_of, conditions_for, conditions_of, created, created_count, creation_conditions, destination_conditions, given_object}
use Rattle.apex_laws.proofs.Common.{is_longer, is_normal, item_at, kind_of, message_conditions, name_in, object_conditions, objects_of, of_caller, parameter_conditions, period_of, process_limit, source_conditions}
use Rattle.apex_laws.proofs.Common.{start_conditions, time_out_conditions, waiting_conditions, when}
use Rattle.apex_laws.proofs.Common.{GREATEST_LOCK_LEVEL, LockOperation, LONGEST_REPORT, conditions_if, natural_of}
use Rattle.apex_laws.proofs.ConditionTests.{above_period_tells, reaches_tells, unowned_tells}
use Rattle.apex_laws.proofs.Common.{HealthOperation}
use Rattle.apex_laws.proofs.ErrorRules.{by_handler_tells, concurrency_tells, handler_tells, none_listed_tells}
use Rattle.apex_laws.proofs.Booleans.{impossible, member_first, member_later}
use Rattle.apex_laws.proofs.ConditionTests.{at_most_tells, below_tells, between_tells, caller_tells, cold_start_tells, core_tells, created_by, created_is, destination_tells, equal_tells, fails_tells, full_tells, longer_tells}
use Rattle.apex_laws.proofs.ConditionTests.{may_not_wait_tells, member_cases, member_nowhere, mode_tells, named_tells, negative_tells, no_length_tells, no_multiple_tells, no_object_by, no_object_is, no_period_tells, no_process_by, no_process_is}
use Rattle.apex_laws.proofs.ConditionTests.{no_time_out_tells, none_tells, normal_mode_tells, normal_tells, number_tells, object_by, object_is, over_tells, owner_tells, owns_tells, periodic_caller_tells, periodic_tells, priority_tells}
use Rattle.apex_laws.proofs.ConditionTests.{queuing_port_tells, sampling_port_tells, second_tells, source_tells, suspended_tells, Tells, tells_both, tells_itself, tells_not, unnamed_tells, value_tells, warm_start_mode_tells, beyond_tells}

-- each condition that is listed for a call holds

-- a fact about each of some conditions
record Each (conditions : List Condition) (Goal : Condition → Type 0) : Type 0 where
  all : All Goal conditions

-- no condition
none : {Goal : Condition → Type 0} → Each [] Goal
none = record { all = All-nil _ }

-- one condition alone
alone : {one : Condition} {Goal : Condition → Type 0} → Goal one → Each (one ∷ []) Goal
alone {one} {Goal} goal = record { all = All-cons Goal one [] goal (All-nil Goal) }

-- one condition, if it holds
each_when : {Goal : Condition → Type 0} (test : Bool) (one : Condition) → (test ≡ true → Goal one) → Each (when test one) Goal
each_when true one goal = alone (goal refl)
each_when false one goal = none

-- one condition, if a fact holds
if_fact : {test : Bool} {Fact : Type 0} {Goal : Condition → Type 0} (one : Condition) → Tells test Fact → (Fact → Goal one) → Each (when test one) Goal
if_fact {test} one tells sentence = each_when test one (λ holds. sentence (tells.0 holds))

-- one condition, unless a fact holds
unless_fact : {test : Bool} {Fact : Type 0} {Goal : Condition → Type 0} (one : Condition) → Tells test Fact → (¬ Fact → Goal one) → Each (when (not test) one) Goal
unless_fact one tells sentence = if_fact one (tells_not tells) sentence

-- the conditions of two lists
both : {one other : List Condition} {Goal : Condition → Type 0} → Each one Goal → Each other Goal → Each (one ++ other) Goal
both {one} {other} {Goal} first second = record { all = All-append Goal one other first.all second.all }

-- the conditions of what is created, and of what isn't
each_created : {Object : Type 0} {Goal : Condition → Type 0} (found : Option Object) (conditions : Object → List Condition)
    → (found ≡ None → Goal Condition.NotCreated) → ((object : Object) → found ≡ Some object → Each (conditions object) Goal) → Each (conditions_for found conditions) Goal
each_created None conditions nobody some = alone (nobody refl)
each_created (Some object) conditions nobody some = some object refl

-- the conditions of what is created alone
each_if : {Object : Type 0} {Goal : Condition → Type 0} (found : Option Object) (conditions : Object → List Condition)
    → ((object : Object) → found ≡ Some object → Each (conditions object) Goal) → Each (conditions_if found conditions) Goal
each_if None conditions some = none
each_if (Some object) conditions some = some object refl

each_of_start : {Goal : Condition → Type 0} (found : Option Process) → (found ≡ None → Goal Condition.NotCreated)
    → ((process : Process) → found ≡ Some process → IsTrue process.alive → Goal Condition.AlreadyStarted) → Each (start_conditions found) Goal
each_of_start None nobody alive = alone (nobody refl)
each_of_start (Some process) nobody alive = each_when process.alive Condition.AlreadyStarted (alive process refl)

-- a condition is among these

record Among (conditions : List Condition) (one : Condition) : Type 0 where
  among : Contains conditions one

in_first : {conditions : List Condition} {one : Condition} (others : List Condition) → Among conditions one → Among (conditions ++ others) one
in_first {conditions} {one} others is = record { among = Contains-append_left conditions others one is.among }

in_later : {others : List Condition} {one : Condition} (conditions : List Condition) → Among others one → Among (conditions ++ others) one
in_later {others} {one} conditions is = record { among = Contains-append_right conditions others one is.among }

it_alone : {one : Condition} → Among (one ∷ []) one
it_alone {one} = record { among = Contains-push [] one }

in_when : {one : Condition} (test : Bool) → test ≡ true → Among (when test one) one
in_when true holds = it_alone
in_when false holds = impossible holds

-- where a fact holds
by_fact : {test : Bool} {Fact : Type 0} {one : Condition} → Tells test Fact → Fact → Among (when test one) one
by_fact {test} tells fact = in_when test (tells.1 fact)

-- where a fact doesn't hold
by_no_fact : {test : Bool} {Fact : Type 0} {one : Condition} → Tells test Fact → ¬ Fact → Among (when (not test) one) one
by_no_fact tells fails = by_fact (tells_not tells) fails

in_none : {Object : Type 0} (found : Option Object) (conditions : Object → List Condition) → found ≡ None → Among (conditions_for found conditions) Condition.NotCreated
in_none found conditions nobody = subst (λ one. Among (conditions_for one conditions) Condition.NotCreated) (sym nobody) it_alone

in_some : {Object : Type 0} {one : Condition} (found : Option Object) (conditions : Object → List Condition) (object : Object) → found ≡ Some object
    → Among (conditions object) one → Among (conditions_for found conditions) one
in_some {one = one} found conditions object at is = subst (λ some. Among (conditions_for some conditions) one) (sym at) is

in_if : {Object : Type 0} {one : Condition} (found : Option Object) (conditions : Object → List Condition) (object : Object) → found ≡ Some object
    → Among (conditions object) one → Among (conditions_if found conditions) one
in_if {one = one} found conditions object at is = subst (λ some. Among (conditions_if some conditions) one) (sym at) is

module _ (configuration : Configuration) (now : ℕ) (who : Who) (partition : Partition) where
  -- a caller of a current priority above a mutex's
  above_tells : (priority : ℕ) → Tells (of_caller (λ process. nat_lt priority process.current_priority) (item_at partition.table who.proc))
      ((process : Process) × IsCalledBy who partition process × (priority < process.current_priority))
  above_tells priority =
      caller_tells (λ process. nat_lt priority process.current_priority) (λ process. priority < process.current_priority) (λ process. below_tells priority process.current_priority)
      (item_at partition.table who.proc)

  -- what the tests say

  abbrev Holds : Request → Condition → Type 0
  Holds asked one = HasCondition configuration now who partition asked one

  time_out_says : {asked : Request} (time_out : ℤ) → HasTimeOut asked time_out → Each (time_out_conditions time_out) (Holds asked)
  time_out_says time_out has = if_fact Condition.TimeOutOutOfRange (no_time_out_tells time_out) (HasCondition.time_out_below time_out has)

  waiting_says : {asked : Request} (time_out : ℤ) → WaitsFor asked time_out → Each (waiting_conditions who partition time_out) (Holds asked)
  waiting_says time_out waits =
      if_fact Condition.MayNotWait (tells_both (tells_not (over_tells time_out)) (may_not_wait_tells who partition)) (λ facts. HasCondition.may_not_wait time_out waits facts.0 facts.1)

  normal_says : {asked : Request} → IsSetUp asked → Each (when (is_normal partition.mode) Condition.InNormal) (Holds asked)
  normal_says sets = if_fact Condition.InNormal (normal_tells partition.mode) (HasCondition.in_normal sets)

  creation_says : {asked : Request} (taken full : Bool) → IsSetUp asked → (taken ≡ true → NameIsTaken partition asked)
      → (full ≡ true → AllAreCreated configuration who.part partition asked) → Each (creation_conditions partition taken full) (Holds asked)
  creation_says taken full sets named all =
      both (both (normal_says sets) (each_when taken Condition.NameTaken (λ holds. HasCondition.name_taken (named holds))))
      (each_when full Condition.AllCreated (λ holds. HasCondition.all_created (all holds)))

  -- a service that names a process, by what is found
  process_says : {asked : Request} (process : ℤ) (conditions : Process → List Condition) → (NamesNoProcess partition process → NamesNothing partition asked)
      → ((found : Process) → IsProcess partition process found → Each (conditions found) (Holds asked)) → Each (conditions_for (created partition.table process) conditions) (Holds asked)
  process_says process conditions names sentences =
      each_created (created partition.table process) conditions (λ nobody. HasCondition.names_nothing (names (no_process_is partition process nobody)))
      (λ found at. sentences found (created_is partition process found at))

  -- a service that names an object
  object_says : {Object : Type 0} {asked : Request} (objects : List (ℕ × Object)) (given : ℤ) (conditions : Object → List Condition) → (NamesNone objects given → NamesNothing partition asked)
      → ((found : Object) → IsObject objects given found → Each (conditions found) (Holds asked)) → Each (conditions_for (given_object objects given) conditions) (Holds asked)
  object_says objects given conditions names sentences =
      each_created (given_object objects given) conditions (λ nobody. HasCondition.names_nothing (names (no_object_is objects given nobody)))
      (λ found at. sentences found (object_is objects given found at))

  -- with no other condition
  lone_says : {Object : Type 0} {asked : Request} (objects : List (ℕ × Object)) (given : ℤ) → (NamesNone objects given → NamesNothing partition asked)
      → Each (conditions_for (given_object objects given) (λ found. [])) (Holds asked)
  lone_says objects given names = object_says objects given _ names (λ found is. none)

  -- with a time-out
  use_says : {Object : Type 0} {asked : Request} (objects : List (ℕ × Object)) (given time_out : ℤ) → (NamesNone objects given → NamesNothing partition asked)
      → HasTimeOut asked time_out → WaitsFor asked time_out → Each (object_conditions who partition (given_object objects given) time_out) (Holds asked)
  use_says objects given time_out names has waits = both (both (lone_says objects given names) (time_out_says time_out has)) (waiting_says time_out waits)

  -- with a message of some length
  message_says : {Object : Type 0} {asked : Request} (objects : List (ℕ × Object)) (given length : ℤ) (size_of : Object → ℕ) → (NamesNone objects given → NamesNothing partition asked)
      → (length <ℤ pos 1 → Holds asked Condition.EmptyMessage) → ((found : Object) → IsObject objects given found → pos (size_of found) <ℤ length → Holds asked Condition.LongerThanObject)
      → Each (message_conditions (option_map size_of (given_object objects given)) length) (Holds asked)
  message_says {Object} {asked} objects given length size_of names empty long = both (by (given_object objects given) refl) (if_fact Condition.EmptyMessage (no_length_tells length) empty)
    where
      by : (found : Option Object) → given_object objects given ≡ found → Each (conditions_for (option_map size_of found) (λ greatest. when (is_longer greatest length) Condition.LongerThanObject)) (Holds asked)
      by None nobody = alone (HasCondition.names_nothing (names (no_object_is objects given nobody)))
      by (Some found) at = if_fact Condition.LongerThanObject (longer_tells (size_of found) length) (long found (object_is objects given found at))

  -- a message into a port
  source_says : {asked : Request} (ports : List (ℕ × Port)) (given length : ℤ) → (NamesNone ports given → NamesNothing partition asked)
      → (length <ℤ pos 1 → Holds asked Condition.EmptyMessage) → ((found : Port) → IsObject ports given found → pos found.size <ℤ length → Holds asked Condition.LongerThanPort)
      → ((found : Port) → IsObject ports given found → ¬ (found.direction ≡ Direction.Source) → Holds asked Condition.NotSource)
      → Each (source_conditions (given_object ports given) length) (Holds asked)
  source_says ports given length names empty long no_source =
      both (object_says ports given _ names (λ found is.
      both (if_fact Condition.LongerThanPort (longer_tells found.size length) (long found is)) (unless_fact Condition.NotSource (source_tells found.direction) (no_source found is))))
      (if_fact Condition.EmptyMessage (no_length_tells length) empty)

  -- a message from a port
  destination_says : {asked : Request} (ports : List (ℕ × Port)) (given : ℤ) → (NamesNone ports given → NamesNothing partition asked)
      → ((found : Port) → IsObject ports given found → ¬ (found.direction ≡ Direction.Destination) → Holds asked Condition.NotDestination)
      → Each (destination_conditions (given_object ports given)) (Holds asked)
  destination_says ports given names no_destination =
      object_says ports given _ names (λ found is. if_fact Condition.NotDestination (destination_tells found.direction) (no_destination found is))

  -- what a creation is given
  parameters_say : (name : List ℕ) (object : NewObject) → Each (parameter_conditions configuration who.part name object) (Holds (Request.Create name object))
  parameters_say name (NewObject.Buffer size capacity discipline) =
      both (both (unless_fact _ (between_tells 1 LONGEST_MESSAGE size) HasCondition.create_buffer_size) (unless_fact _ (between_tells 1 MOST_MESSAGES capacity) HasCondition.create_buffer_capacity))
      (unless_fact _ (between_tells 0 1 discipline) HasCondition.create_buffer_discipline)
  parameters_say name (NewObject.Blackboard size) = unless_fact _ (between_tells 1 LONGEST_MESSAGE size) HasCondition.create_blackboard_size
  parameters_say name (NewObject.Semaphore value maximum discipline) =
      both (both (unless_fact _ (between_tells 1 GREATEST_MAXIMUM maximum) HasCondition.create_semaphore_maximum) (unless_fact _ (value_tells maximum value) HasCondition.create_semaphore_value))
      (unless_fact _ (between_tells 0 1 discipline) HasCondition.create_semaphore_discipline)
  parameters_say name NewObject.Event = none
  parameters_say name (NewObject.Mutex priority discipline) =
      both (unless_fact _ (priority_tells priority) HasCondition.create_mutex_priority) (unless_fact _ (between_tells 0 1 discipline) HasCondition.create_mutex_discipline)
  parameters_say name (NewObject.SamplingPort size way refresh) = unless_fact _ (sampling_port_tells configuration who.part name size way refresh) HasCondition.create_sampling_port
  parameters_say name (NewObject.QueuingPort size capacity way order) =
      unless_fact _ (queuing_port_tells configuration who.part name size capacity way order) HasCondition.create_queuing_port

  -- each condition that is listed for a call holds
  says : (asked : Request) → Each (conditions_of configuration now who partition asked) (Holds asked)
  says (Request.CreateProcess name priority period time_capacity) =
      both (both (both (both (both
      (creation_says _ _ tt (named_tells (λ (process : Process). process.name) name partition.table).0 (at_most_tells (process_limit configuration who.part) (created_count partition.table)).0)
      (unless_fact _ (priority_tells priority) HasCondition.create_process_priority))
      (if_fact _ (no_period_tells period) (λ facts. HasCondition.create_process_period facts.0 facts.1)))
      (if_fact _ (no_multiple_tells (period_of configuration who.part) period) (λ facts. HasCondition.create_process_multiple facts.0 facts.1)))
      (if_fact _ (no_period_tells time_capacity) (λ facts. HasCondition.create_process_capacity facts.0 facts.1)))
      (if_fact _ (above_period_tells period time_capacity) (λ facts. HasCondition.create_process_above facts.0 facts.1))
  says (Request.Process process (ProcessOperation.InitializeCoreAffinity core)) =
      both (both (if_fact _ (none_tells (created partition.table process)) (λ nobody. HasCondition.names_nothing (no_process_is partition process nobody))) (normal_says tt))
      (unless_fact _ (core_tells configuration who.part core) HasCondition.affinity_core)
  says (Request.Process process ProcessOperation.Start) =
      each_of_start (created partition.table process) (λ nobody. HasCondition.names_nothing (no_process_is partition process nobody))
      (λ found at. HasCondition.start_alive found (created_is partition process found at))
  says (Request.Process process (ProcessOperation.DelayedStart delay)) =
      both (both (each_of_start (created partition.table process) (λ nobody. HasCondition.names_nothing (no_process_is partition process nobody))
      (λ found at. HasCondition.delayed_start_alive found (created_is partition process found at)))
      (if_fact _ (negative_tells delay) HasCondition.delayed_start_delay))
      (each_if (created partition.table process) _
      (λ found at. if_fact _ (reaches_tells delay found) (λ facts. HasCondition.delayed_start_period found facts.0 (created_is partition process found at) facts.1 facts.2)))
  says (Request.Process process ProcessOperation.GetStatus) = process_says process _ (λ names. names) (λ found is. none)
  says (Request.Process process ProcessOperation.GetMutexState) = process_says process _ (λ names. names) (λ found is. none)
  says (Request.Process process ProcessOperation.Stop) =
      both (process_says process _ (λ names. names) (λ found is. if_fact _ (fails_tells found.alive) (HasCondition.stop_dormant found is)))
      (if_fact _ (number_tells process who.proc) HasCondition.stop_itself)
  says (Request.Caller CallerOperation.StopSelf) = none
  says (Request.Process process ProcessOperation.Suspend) =
      both (process_says process _ (λ names. names) (λ found is. both (both
      (both (if_fact _ (fails_tells found.alive) (HasCondition.suspend_dormant found is)) (if_fact _ (periodic_tells found) (HasCondition.suspend_periodic found is)))
      (if_fact _ (suspended_tells found) (HasCondition.suspend_suspended found is)))
      (if_fact _ (owner_tells partition.lock.owner (natural_of process)) (λ owns. HasCondition.suspend_lock_owner found is (owns ∙ ap Some (ap natural_of is.is))))))
      (if_fact _ (number_tells process who.proc) HasCondition.suspend_itself)
  says (Request.Caller (CallerOperation.SuspendSelf time_out)) =
      both (both (time_out_says time_out refl) (if_fact _ (periodic_caller_tells who partition) HasCondition.suspend_self_periodic))
      (if_fact _ (may_not_wait_tells who partition) HasCondition.suspend_self_waits)
  says (Request.Process process ProcessOperation.Resume) =
      both (process_says process _ (λ names. names) (λ found is. both
      (both (if_fact _ (fails_tells found.alive) (HasCondition.resume_dormant found is)) (if_fact _ (periodic_tells found) (HasCondition.resume_periodic found is)))
      (if_fact _ (tells_both (tells_itself found.alive) (tells_not (suspended_tells found))) (λ facts. HasCondition.resume_running found is facts.0 facts.1))))
      (if_fact _ (number_tells process who.proc) HasCondition.resume_itself)
  says (Request.Process process (ProcessOperation.SetPriority priority)) =
      both (process_says process _ (λ names. names) (λ found is. if_fact _ (fails_tells found.alive) (HasCondition.set_priority_dormant found is)))
      (unless_fact _ (priority_tells priority) HasCondition.set_priority_priority)
  says (Request.Caller CallerOperation.GetMyId) = if_fact _ (equal_tells who.proc 0) HasCondition.get_my_id_initialising
  says (Request.Caller (CallerOperation.TimedWait ticks)) =
      both (if_fact _ (negative_tells ticks) HasCondition.timed_wait_delay) (if_fact _ (may_not_wait_tells who partition) HasCondition.timed_wait_waits)
  says (Request.Caller CallerOperation.PeriodicWait) =
      both (unless_fact _ (periodic_caller_tells who partition) HasCondition.periodic_wait_aperiodic) (if_fact _ (may_not_wait_tells who partition) HasCondition.periodic_wait_waits)
  says (Request.Caller (CallerOperation.Replenish budget)) =
      both (both (both (unless_fact _ (normal_tells partition.mode) HasCondition.replenish_before_normal) (if_fact _ (equal_tells who.proc 0) HasCondition.replenish_initialising))
      (if_fact _ (no_period_tells budget) (λ facts. HasCondition.replenish_budget facts.0 facts.1)))
      (if_fact _ (beyond_tells now budget who partition) (λ facts. HasCondition.replenish_beyond facts.0 facts.1 facts.2.0 facts.2.1))
  says (Request.Caller CallerOperation.GetTime) = none
  says (Request.Caller CallerOperation.GetPartitionStatus) = none
  says (Request.Health (HealthOperation.ReportMessage length message)) = unless_fact _ (between_tells 0 LONGEST_REPORT length) HasCondition.report_length
  says (Request.Health HealthOperation.CreateHandler) =
      both (normal_says tt) (if_fact _ (handler_tells partition.handler) (λ there. HasCondition.handler_created there.0 there.1))
  says (Request.Health (HealthOperation.ConfigureHandler concurrency core)) =
      both (both (both (normal_says tt) (if_fact _ (none_tells partition.handler) HasCondition.configure_none))
      (unless_fact _ (concurrency_tells concurrency) HasCondition.configure_concurrency))
      (unless_fact _ (core_tells configuration who.part core) HasCondition.configure_core)
  says (Request.Health (HealthOperation.RaiseError error length message)) =
      both (unless_fact _ (number_tells error 1) HasCondition.raise_other) (unless_fact _ (between_tells 0 LONGEST_REPORT length) HasCondition.raise_length)
  says (Request.Health HealthOperation.GetErrorStatus) =
      both (unless_fact _ (by_handler_tells partition who.proc) HasCondition.status_not_handler) (if_fact _ (none_listed_tells partition.errors) HasCondition.status_none)
  says (Request.SetPartitionMode next) =
      both (both (unless_fact _ (mode_tells next) HasCondition.set_mode_none)
      (if_fact _ (tells_both (normal_mode_tells next) (normal_tells partition.mode)) (λ facts. HasCondition.set_mode_normal facts.0 facts.1)))
      (if_fact _ (tells_both (warm_start_mode_tells next) (cold_start_tells partition.mode)) (λ facts. HasCondition.set_mode_warm facts.0 facts.1))
  says (Request.Create name object) =
      let of = kind_of object in
      both (creation_says _ _ tt (named_tells (name_in of) name (objects_of partition of)).0 (full_tells configuration who.part partition of).0) (parameters_say name object)
  says (Request.Object buffer (on.Buffer (BufferOperation.Send length time_out message))) =
      both (both (message_says partition.buffers buffer length (λ found. found.size) (λ names. names) HasCondition.send_buffer_empty HasCondition.send_buffer_long) (time_out_says time_out refl))
      (waiting_says time_out refl)
  says (Request.Object buffer (on.Buffer (BufferOperation.Receive time_out))) = use_says partition.buffers buffer time_out (λ names. names) refl refl
  says (Request.Object blackboard (on.Blackboard (BlackboardOperation.Display length message))) =
      message_says partition.blackboards blackboard length (λ found. found.size) (λ names. names) HasCondition.display_empty HasCondition.display_long
  says (Request.Object blackboard (on.Blackboard (BlackboardOperation.Read time_out))) = use_says partition.blackboards blackboard time_out (λ names. names) refl refl
  says (Request.Object blackboard (on.Blackboard BlackboardOperation.Clear)) = lone_says partition.blackboards blackboard (λ names. names)
  says (Request.Object semaphore (on.Semaphore (SemaphoreOperation.Wait time_out))) = use_says partition.semaphores semaphore time_out (λ names. names) refl refl
  says (Request.Object semaphore (on.Semaphore SemaphoreOperation.Signal)) = lone_says partition.semaphores semaphore (λ names. names)
  says (Request.Object event (on.Event EventOperation.Set)) = lone_says partition.events event (λ names. names)
  says (Request.Object event (on.Event EventOperation.Reset)) = lone_says partition.events event (λ names. names)
  says (Request.Object event (on.Event (EventOperation.Wait time_out))) = use_says partition.events event time_out (λ names. names) refl refl
  says (Request.Object mutex (on.Mutex (MutexOperation.Acquire time_out))) =
      both (both (both (both (object_says partition.mutexes mutex _ (λ names. names) (λ found is. if_fact _ (above_tells found.priority) (λ facts. HasCondition.acquire_above found facts.0 is facts.1 facts.2)))
      (time_out_says time_out refl))
      (if_fact _ (equal_tells who.proc 0) HasCondition.acquire_initialising))
      (if_fact _ (second_tells partition mutex who.proc) (λ facts. HasCondition.acquire_second facts.0 facts.1 facts.2)))
      (if_fact _ (owner_tells partition.lock.owner who.proc) HasCondition.acquire_lock_owner)
  says (Request.Object mutex (on.Mutex MutexOperation.Release)) =
      object_says partition.mutexes mutex _ (λ names. names) (λ found is. unless_fact _ (owner_tells found.owner who.proc) (HasCondition.release_not_owner found is))
  says (Request.Object mutex (on.Mutex (MutexOperation.Reset process))) =
      both (both (lone_says partition.mutexes mutex (λ names. names))
      (if_fact _ (none_tells (created partition.table process)) (λ nobody. HasCondition.reset_no_process (no_process_is partition process nobody))))
      (each_if (given_object partition.mutexes mutex) _
      (λ found at. if_fact _ (unowned_tells partition process found) (λ facts. HasCondition.reset_not_owner found facts.0 facts.1 (object_is partition.mutexes mutex found at) facts.2)))
  says (Request.SamplingPort port (SamplingOperation.Write length message)) =
      source_says partition.sampling_ports port length (λ names. names) HasCondition.write_empty HasCondition.write_long HasCondition.write_no_source
  says (Request.SamplingPort port SamplingOperation.Read) = destination_says partition.sampling_ports port (λ names. names) HasCondition.read_no_destination
  says (Request.QueuingPort port (QueuingOperation.Send length time_out message)) =
      both (both (source_says partition.queuing_ports port length (λ names. names) HasCondition.send_empty HasCondition.send_long HasCondition.send_no_source) (time_out_says time_out refl))
      (waiting_says time_out refl)
  says (Request.QueuingPort port (QueuingOperation.Receive time_out)) =
      both (both (destination_says partition.queuing_ports port (λ names. names) HasCondition.receive_no_destination) (time_out_says time_out refl)) (waiting_says time_out refl)
  says (Request.QueuingPort port QueuingOperation.Clear) = destination_says partition.queuing_ports port (λ names. names) HasCondition.clear_no_destination
  says (Request.GetId of name) = if_fact _ (unnamed_tells partition of name) HasCondition.get_id_unnamed
  says (Request.GetStatus of object) = lone_says (objects_of partition of) object (λ names. names)
  says (Request.Preemption LockOperation.Lock) =
      both (both (both (unless_fact _ (normal_tells partition.mode) HasCondition.lock_before_normal) (if_fact _ (equal_tells who.proc 0) HasCondition.lock_initialising))
      (if_fact _ (tells_both (owner_tells partition.lock.owner who.proc) (at_most_tells GREATEST_LOCK_LEVEL partition.lock.level)) (λ facts. HasCondition.lock_greatest facts.0 facts.1)))
      (if_fact _ (owns_tells partition who.proc) (λ owns. HasCondition.lock_mutex_owner owns.0 owns.1))
  says (Request.Preemption LockOperation.Unlock) =
      both (both (unless_fact _ (normal_tells partition.mode) HasCondition.unlock_before_normal) (if_fact _ (equal_tells who.proc 0) HasCondition.unlock_initialising))
      (unless_fact _ (owner_tells partition.lock.owner who.proc) HasCondition.unlock_not_owner)

  -- each condition that holds is listed for the call

  abbrev Has : Request → Condition → Type 0
  Has asked one = Among (conditions_of configuration now who partition asked) one

  -- what names nothing

  no_process : (process : ℤ) (conditions : Process → List Condition) → NamesNoProcess partition process → Among (conditions_for (created partition.table process) conditions) Condition.NotCreated
  no_process process conditions names = in_none (created partition.table process) conditions (no_process_by partition process names)

  no_object : {Object : Type 0} (objects : List (ℕ × Object)) (given : ℤ) (conditions : Object → List Condition) → NamesNone objects given
      → Among (conditions_for (given_object objects given) conditions) Condition.NotCreated
  no_object objects given conditions names = in_none (given_object objects given) conditions (no_object_by objects given names)

  no_use : {Object : Type 0} (objects : List (ℕ × Object)) (given time_out : ℤ) → NamesNone objects given → Among (object_conditions who partition (given_object objects given) time_out) Condition.NotCreated
  no_use objects given time_out names = in_first _ (in_first _ (no_object objects given _ names))

  no_message : {Object : Type 0} (objects : List (ℕ × Object)) (given length : ℤ) (size_of : Object → ℕ) → NamesNone objects given
      → Among (message_conditions (option_map size_of (given_object objects given)) length) Condition.NotCreated
  no_message objects given length size_of names = in_first _ (in_none (option_map size_of (given_object objects given)) _ (ap (option_map size_of) (no_object_by objects given names)))

  nothing_met : (asked : Request) → NamesNothing partition asked → Has asked Condition.NotCreated
  nothing_met (Request.Process process (ProcessOperation.InitializeCoreAffinity core)) names =
      in_first _ (in_first _ (by_fact (none_tells (created partition.table process)) (no_process_by partition process names)))
  nothing_met (Request.Process process ProcessOperation.Start) names = rw (no_process_by partition process names) it_alone
  nothing_met (Request.Process process (ProcessOperation.DelayedStart delay)) names =
      in_first _ (in_first _ (subst (λ one. Among (start_conditions one) Condition.NotCreated) (sym (no_process_by partition process names)) it_alone))
  nothing_met (Request.Process process ProcessOperation.GetStatus) names = no_process process _ names
  nothing_met (Request.Process process ProcessOperation.GetMutexState) names = no_process process _ names
  nothing_met (Request.Process process ProcessOperation.Stop) names = in_first _ (no_process process _ names)
  nothing_met (Request.Process process ProcessOperation.Suspend) names = in_first _ (no_process process _ names)
  nothing_met (Request.Process process ProcessOperation.Resume) names = in_first _ (no_process process _ names)
  nothing_met (Request.Process process (ProcessOperation.SetPriority priority)) names = in_first _ (no_process process _ names)
  nothing_met (Request.Object buffer (on.Buffer (BufferOperation.Send length time_out message))) names =
      in_first _ (in_first _ (no_message partition.buffers buffer length (λ found. found.size) names))
  nothing_met (Request.Object buffer (on.Buffer (BufferOperation.Receive time_out))) names = no_use partition.buffers buffer time_out names
  nothing_met (Request.Object blackboard (on.Blackboard (BlackboardOperation.Display length message))) names = no_message partition.blackboards blackboard length (λ found. found.size) names
  nothing_met (Request.Object blackboard (on.Blackboard (BlackboardOperation.Read time_out))) names = no_use partition.blackboards blackboard time_out names
  nothing_met (Request.Object blackboard (on.Blackboard BlackboardOperation.Clear)) names = no_object partition.blackboards blackboard _ names
  nothing_met (Request.Object semaphore (on.Semaphore (SemaphoreOperation.Wait time_out))) names = no_use partition.semaphores semaphore time_out names
  nothing_met (Request.Object semaphore (on.Semaphore SemaphoreOperation.Signal)) names = no_object partition.semaphores semaphore _ names
  nothing_met (Request.Object event (on.Event EventOperation.Set)) names = no_object partition.events event _ names
  nothing_met (Request.Object event (on.Event EventOperation.Reset)) names = no_object partition.events event _ names
  nothing_met (Request.Object event (on.Event (EventOperation.Wait time_out))) names = no_use partition.events event time_out names
  nothing_met (Request.Object mutex (on.Mutex (MutexOperation.Acquire time_out))) names = in_first _ (in_first _ (in_first _ (in_first _ (no_object partition.mutexes mutex _ names))))
  nothing_met (Request.Object mutex (on.Mutex MutexOperation.Release)) names = no_object partition.mutexes mutex _ names
  nothing_met (Request.Object mutex (on.Mutex (MutexOperation.Reset process))) names = in_first _ (in_first _ (no_object partition.mutexes mutex _ names))
  nothing_met (Request.SamplingPort port (SamplingOperation.Write length message)) names = in_first _ (no_object partition.sampling_ports port _ names)
  nothing_met (Request.SamplingPort port SamplingOperation.Read) names = no_object partition.sampling_ports port _ names
  nothing_met (Request.QueuingPort port (QueuingOperation.Send length time_out message)) names = in_first _ (in_first _ (in_first _ (no_object partition.queuing_ports port _ names)))
  nothing_met (Request.QueuingPort port (QueuingOperation.Receive time_out)) names = in_first _ (in_first _ (no_object partition.queuing_ports port _ names))
  nothing_met (Request.QueuingPort port QueuingOperation.Clear) names = no_object partition.queuing_ports port _ names
  nothing_met (Request.GetStatus of object) names = no_object (objects_of partition of) object _ names
  nothing_met _ names = absurd names

  -- time-outs

  below_met : (given time_out : ℤ) → time_out ≡ given → time_out <ℤ negsuc 0 → Among (time_out_conditions given) Condition.TimeOutOutOfRange
  below_met given time_out same under = by_fact (no_time_out_tells given) (subst (λ one. one <ℤ negsuc 0) same under)

  time_out_met : (asked : Request) (time_out : ℤ) → HasTimeOut asked time_out → time_out <ℤ negsuc 0 → Has asked Condition.TimeOutOutOfRange
  time_out_met (Request.Caller (CallerOperation.SuspendSelf given)) time_out same under = in_first _ (in_first _ (below_met given time_out same under))
  time_out_met (Request.Object mutex (on.Mutex (MutexOperation.Acquire given))) time_out same under = in_first _ (in_first _ (in_first _ (in_later _ (below_met given time_out same under))))
  time_out_met (Request.Object buffer (on.Buffer (BufferOperation.Send length given message))) time_out same under = in_first _ (in_later _ (below_met given time_out same under))
  time_out_met (Request.Object buffer (on.Buffer (BufferOperation.Receive given))) time_out same under = in_first _ (in_later _ (below_met given time_out same under))
  time_out_met (Request.Object blackboard (on.Blackboard (BlackboardOperation.Read given))) time_out same under = in_first _ (in_later _ (below_met given time_out same under))
  time_out_met (Request.Object semaphore (on.Semaphore (SemaphoreOperation.Wait given))) time_out same under = in_first _ (in_later _ (below_met given time_out same under))
  time_out_met (Request.Object event (on.Event (EventOperation.Wait given))) time_out same under = in_first _ (in_later _ (below_met given time_out same under))
  time_out_met (Request.QueuingPort port (QueuingOperation.Send length given message)) time_out same under = in_first _ (in_later _ (below_met given time_out same under))
  time_out_met (Request.QueuingPort port (QueuingOperation.Receive given)) time_out same under = in_first _ (in_later _ (below_met given time_out same under))
  time_out_met _ time_out same under = absurd same

  -- a caller that may not wait

  waiting_met : (given time_out : ℤ) → time_out ≡ given → ¬ (time_out ≡ pos 0) → MayNotWait who partition → Among (waiting_conditions who partition given) Condition.MayNotWait
  waiting_met given time_out same not_over may_not =
      by_fact (tells_both (tells_not (over_tells given)) (may_not_wait_tells who partition)) (λ over. not_over (same ∙ over), may_not)

  waits_met : (asked : Request) (time_out : ℤ) → WaitsFor asked time_out → ¬ (time_out ≡ pos 0) → MayNotWait who partition → Has asked Condition.MayNotWait
  waits_met (Request.Object buffer (on.Buffer (BufferOperation.Send length given message))) time_out same not_over may_not = in_later _ (waiting_met given time_out same not_over may_not)
  waits_met (Request.Object buffer (on.Buffer (BufferOperation.Receive given))) time_out same not_over may_not = in_later _ (waiting_met given time_out same not_over may_not)
  waits_met (Request.Object blackboard (on.Blackboard (BlackboardOperation.Read given))) time_out same not_over may_not = in_later _ (waiting_met given time_out same not_over may_not)
  waits_met (Request.Object semaphore (on.Semaphore (SemaphoreOperation.Wait given))) time_out same not_over may_not = in_later _ (waiting_met given time_out same not_over may_not)
  waits_met (Request.Object event (on.Event (EventOperation.Wait given))) time_out same not_over may_not = in_later _ (waiting_met given time_out same not_over may_not)
  waits_met (Request.QueuingPort port (QueuingOperation.Send length given message)) time_out same not_over may_not = in_later _ (waiting_met given time_out same not_over may_not)
  waits_met (Request.QueuingPort port (QueuingOperation.Receive given)) time_out same not_over may_not = in_later _ (waiting_met given time_out same not_over may_not)
  waits_met _ time_out same not_over may_not = absurd same

  -- creations

  normal_met : (asked : Request) → IsSetUp asked → partition.mode ≡ Mode.Normal → Has asked Condition.InNormal
  normal_met (Request.CreateProcess name priority period time_capacity) sets normal =
      in_first _ (in_first _ (in_first _ (in_first _ (in_first _ (in_first _ (in_first _ (by_fact (normal_tells partition.mode) normal)))))))
  normal_met (Request.Health HealthOperation.CreateHandler) sets normal = in_first _ (by_fact (normal_tells partition.mode) normal)
  normal_met (Request.Health (HealthOperation.ConfigureHandler concurrency core)) sets normal =
      in_first _ (in_first _ (in_first _ (by_fact (normal_tells partition.mode) normal)))
  normal_met (Request.Health operation) sets normal = absurd sets
  normal_met (Request.Process process (ProcessOperation.InitializeCoreAffinity core)) sets normal = in_first _ (in_later _ (by_fact (normal_tells partition.mode) normal))
  normal_met (Request.Create name object) sets normal = in_first _ (in_first _ (in_first _ (by_fact (normal_tells partition.mode) normal)))
  normal_met _ sets normal = absurd sets

  taken_met : (asked : Request) → NameIsTaken partition asked → Has asked Condition.NameTaken
  taken_met (Request.CreateProcess name priority period time_capacity) named =
      in_first _ (in_first _ (in_first _ (in_first _ (in_first _ (in_first _ (in_later _ (by_fact (named_tells (λ (process : Process). process.name) name partition.table) named)))))))
  taken_met (Request.Create name object) named =
      let of = kind_of object in
      in_first _ (in_first _ (in_later _ (by_fact (named_tells (name_in of) name (objects_of partition of)) named)))
  taken_met _ named = absurd named

  all_met : (asked : Request) → AllAreCreated configuration who.part partition asked → Has asked Condition.AllCreated
  all_met (Request.CreateProcess name priority period time_capacity) all =
      in_first _ (in_first _ (in_first _ (in_first _ (in_first _ (in_later _ (by_fact (at_most_tells (process_limit configuration who.part) (created_count partition.table)) all))))))
  all_met (Request.Create name object) all = in_first _ (in_later _ (by_fact (full_tells configuration who.part partition (kind_of object)) all))
  all_met _ all = absurd all

  -- targets

  process_met : {one : Condition} (process : ℤ) (conditions : Process → List Condition) (found : Process) → IsProcess partition process found → Among (conditions found) one
      → Among (conditions_for (created partition.table process) conditions) one
  process_met process conditions found is among = in_some (created partition.table process) conditions found (created_by partition process found is) among

  object_met : {Object : Type 0} {one : Condition} (objects : List (ℕ × Object)) (given : ℤ) (conditions : Object → List Condition) (found : Object) → IsObject objects given found
      → Among (conditions found) one → Among (conditions_for (given_object objects given) conditions) one
  object_met objects given conditions found is among = in_some (given_object objects given) conditions found (object_by objects given found is) among

  -- a message that is too long for an object
  long_met : {Object : Type 0} (objects : List (ℕ × Object)) (given length : ℤ) (size_of : Object → ℕ) (found : Object) → IsObject objects given found → pos (size_of found) <ℤ length
      → Among (message_conditions (option_map size_of (given_object objects given)) length) Condition.LongerThanObject
  long_met objects given length size_of found is long =
      in_first _ (in_some (option_map size_of (given_object objects given)) _ (size_of found) (ap (option_map size_of) (object_by objects given found is)) (by_fact (longer_tells (size_of found) length) long))

  too_long_met : (ports : List (ℕ × Port)) (given length : ℤ) (found : Port) → IsObject ports given found → pos found.size <ℤ length → Among (source_conditions (given_object ports given) length) Condition.LongerThanPort
  too_long_met ports given length found is long = in_first _ (object_met ports given _ found is (in_first _ (by_fact (longer_tells found.size length) long)))

  no_source_met : (ports : List (ℕ × Port)) (given length : ℤ) (found : Port) → IsObject ports given found → ¬ (found.direction ≡ Direction.Source)
      → Among (source_conditions (given_object ports given) length) Condition.NotSource
  no_source_met ports given length found is other = in_first _ (object_met ports given _ found is (in_later _ (by_no_fact (source_tells found.direction) other)))

  no_destination_met : (ports : List (ℕ × Port)) (given : ℤ) (found : Port) → IsObject ports given found → ¬ (found.direction ≡ Direction.Destination)
      → Among (destination_conditions (given_object ports given)) Condition.NotDestination
  no_destination_met ports given found is other = object_met ports given _ found is (by_fact (destination_tells found.direction) other)

  -- each condition that holds is among those of the call
  met : {asked : Request} {one : Condition} → HasCondition configuration now who partition asked one → Has asked one
  met (HasCondition.names_nothing {asked = asked} names) = nothing_met asked names
  met (HasCondition.time_out_below {asked = asked} time_out has under) = time_out_met asked time_out has under
  met (HasCondition.may_not_wait {asked = asked} time_out waits not_over may_not) = waits_met asked time_out waits not_over may_not
  met (HasCondition.in_normal {asked = asked} sets normal) = normal_met asked sets normal
  met (HasCondition.name_taken {asked = asked} named) = taken_met asked named
  met (HasCondition.all_created {asked = asked} all) = all_met asked all
  met (HasCondition.create_process_priority {priority = priority} other) = in_first _ (in_first _ (in_first _ (in_first _ (in_later _ (by_no_fact (priority_tells priority) other)))))
  met (HasCondition.create_process_period {period = period} other most) = in_first _ (in_first _ (in_first _ (in_later _ (by_fact (no_period_tells period) (other, most)))))
  met (HasCondition.create_process_multiple {period = period} above other) =
      in_first _ (in_first _ (in_later _ (by_fact (no_multiple_tells (period_of configuration who.part) period) (above, other))))
  met (HasCondition.create_process_capacity {time_capacity = time_capacity} other most) = in_first _ (in_later _ (by_fact (no_period_tells time_capacity) (other, most)))
  met (HasCondition.create_process_above {period = period} {time_capacity = time_capacity} above longer) = in_later _ (by_fact (above_period_tells period time_capacity) (above, longer))
  met (HasCondition.affinity_core {core = core} other) = in_later _ (by_no_fact (core_tells configuration who.part core) other)
  met (HasCondition.start_alive {process = process} found is alive) = rw (created_by partition process found is) (in_when found.alive alive)
  met (HasCondition.delayed_start_alive {process = process} found is alive) =
      in_first _ (in_first _ (subst (λ one. Among (start_conditions one) Condition.AlreadyStarted) (sym (created_by partition process found is)) (in_when found.alive alive)))
  met (HasCondition.delayed_start_delay {delay = delay} under) = in_first _ (in_later _ (by_fact (negative_tells delay) under))
  met (HasCondition.delayed_start_period {process = process} {delay = delay} found period is at reaches) =
      in_later _ (in_if (created partition.table process) _ found (created_by partition process found is) (by_fact (reaches_tells delay found) (period, at, reaches)))
  met (HasCondition.stop_itself {process = process} same) = in_later _ (by_fact (number_tells process who.proc) same)
  met (HasCondition.stop_dormant {process = process} found is dormant) = in_first _ (process_met process _ found is (by_fact (fails_tells found.alive) dormant))
  met (HasCondition.suspend_itself {process = process} same) = in_later _ (by_fact (number_tells process who.proc) same)
  met (HasCondition.suspend_dormant {process = process} found is dormant) = in_first _ (process_met process _ found is (in_first _ (in_first _ (in_first _ (by_fact (fails_tells found.alive) dormant)))))
  met (HasCondition.suspend_periodic {process = process} found is periodic) = in_first _ (process_met process _ found is (in_first _ (in_first _ (in_later _ (by_fact (periodic_tells found) periodic)))))
  met (HasCondition.suspend_suspended {process = process} found is suspended) = in_first _ (process_met process _ found is (in_first _ (in_later _ (by_fact (suspended_tells found) suspended))))
  met (HasCondition.suspend_lock_owner {process = process} found is owns) =
      in_first _ (process_met process _ found is (in_later _ (by_fact (owner_tells partition.lock.owner (natural_of process)) (owns ∙ ap Some (sym (ap natural_of is.is))))))
  met (HasCondition.suspend_self_periodic periodic) = in_first _ (in_later _ (by_fact (periodic_caller_tells who partition) periodic))
  met (HasCondition.suspend_self_waits may_not) = in_later _ (by_fact (may_not_wait_tells who partition) may_not)
  met (HasCondition.resume_itself {process = process} same) = in_later _ (by_fact (number_tells process who.proc) same)
  met (HasCondition.resume_dormant {process = process} found is dormant) = in_first _ (process_met process _ found is (in_first _ (in_first _ (by_fact (fails_tells found.alive) dormant))))
  met (HasCondition.resume_periodic {process = process} found is periodic) = in_first _ (process_met process _ found is (in_first _ (in_later _ (by_fact (periodic_tells found) periodic))))
  met (HasCondition.resume_running {process = process} found is alive running) =
      in_first _ (process_met process _ found is (in_later _ (by_fact (tells_both (tells_itself found.alive) (tells_not (suspended_tells found))) (alive, running))))
  met (HasCondition.set_priority_priority {priority = priority} other) = in_later _ (by_no_fact (priority_tells priority) other)
  met (HasCondition.set_priority_dormant {process = process} found is dormant) = in_first _ (process_met process _ found is (by_fact (fails_tells found.alive) dormant))
  met (HasCondition.get_my_id_initialising none) = by_fact (equal_tells who.proc 0) none
  met (HasCondition.timed_wait_delay {ticks = ticks} under) = in_first _ (by_fact (negative_tells ticks) under)
  met (HasCondition.timed_wait_waits may_not) = in_later _ (by_fact (may_not_wait_tells who partition) may_not)
  met (HasCondition.periodic_wait_aperiodic other) = in_first _ (by_no_fact (periodic_caller_tells who partition) other)
  met (HasCondition.periodic_wait_waits may_not) = in_later _ (by_fact (may_not_wait_tells who partition) may_not)
  met (HasCondition.set_mode_none {next = next} other) = in_first _ (in_first _ (by_no_fact (mode_tells next) other))
  met (HasCondition.set_mode_normal {next = next} three normal) = in_first _ (in_later _ (by_fact (tells_both (normal_mode_tells next) (normal_tells partition.mode)) (three, normal)))
  met (HasCondition.set_mode_warm {next = next} two cold) = in_later _ (by_fact (tells_both (warm_start_mode_tells next) (cold_start_tells partition.mode)) (two, cold))
  met (HasCondition.create_buffer_size {size = size} other) = in_later _ (in_first _ (in_first _ (by_no_fact (between_tells 1 LONGEST_MESSAGE size) other)))
  met (HasCondition.create_buffer_capacity {capacity = capacity} other) = in_later _ (in_first _ (in_later _ (by_no_fact (between_tells 1 MOST_MESSAGES capacity) other)))
  met (HasCondition.create_buffer_discipline {given = given} other) = in_later _ (in_later _ (by_no_fact (between_tells 0 1 given) other))
  met (HasCondition.send_buffer_empty {length = length} empty) = in_first _ (in_first _ (in_later _ (by_fact (no_length_tells length) empty)))
  met (HasCondition.send_buffer_long {buffer = buffer} {length = length} found is long) =
      in_first _ (in_first _ (long_met partition.buffers buffer length (λ found. found.size) found is long))
  met (HasCondition.create_blackboard_size {size = size} other) = in_later _ (by_no_fact (between_tells 1 LONGEST_MESSAGE size) other)
  met (HasCondition.display_empty {length = length} empty) = in_later _ (by_fact (no_length_tells length) empty)
  met (HasCondition.display_long {blackboard = blackboard} {length = length} found is long) = long_met partition.blackboards blackboard length (λ found. found.size) found is long
  met (HasCondition.create_semaphore_maximum {maximum = maximum} other) = in_later _ (in_first _ (in_first _ (by_no_fact (between_tells 1 GREATEST_MAXIMUM maximum) other)))
  met (HasCondition.create_semaphore_value {value = value} {maximum = maximum} other) = in_later _ (in_first _ (in_later _ (by_no_fact (value_tells maximum value) other)))
  met (HasCondition.create_semaphore_discipline {given = given} other) = in_later _ (in_later _ (by_no_fact (between_tells 0 1 given) other))
  met (HasCondition.create_mutex_priority {priority = priority} other) = in_later _ (in_first _ (by_no_fact (priority_tells priority) other))
  met (HasCondition.create_mutex_discipline {given = given} other) = in_later _ (in_later _ (by_no_fact (between_tells 0 1 given) other))
  met (HasCondition.acquire_initialising none) = in_first _ (in_first _ (in_later _ (by_fact (equal_tells who.proc 0) none)))
  met (HasCondition.acquire_second {mutex = mutex} held owns other) = in_first _ (in_later _ (by_fact (second_tells partition mutex who.proc) (held, owns, other)))
  met (HasCondition.acquire_above {mutex = mutex} found process is calls above) =
      in_first _ (in_first _ (in_first _ (in_first _ (object_met partition.mutexes mutex _ found is (by_fact (above_tells found.priority) (process, calls, above))))))
  met (HasCondition.acquire_lock_owner owns) = in_later _ (by_fact (owner_tells partition.lock.owner who.proc) owns)
  met (HasCondition.release_not_owner {mutex = mutex} found is other) = object_met partition.mutexes mutex _ found is (by_no_fact (owner_tells found.owner who.proc) other)
  met (HasCondition.reset_no_process {process = process} names) = in_first _ (in_later _ (by_fact (none_tells (created partition.table process)) (no_process_by partition process names)))
  met (HasCondition.reset_not_owner {mutex = mutex} {process = process} found named is there other) =
      in_later _ (in_if (given_object partition.mutexes mutex) _ found (object_by partition.mutexes mutex found there) (by_fact (unowned_tells partition process found) (named, is, other)))
  met (HasCondition.create_sampling_port {name = name} {size = size} {way = way} {refresh = refresh} other) =
      in_later _ (by_no_fact (sampling_port_tells configuration who.part name size way refresh) other)
  met (HasCondition.create_queuing_port {name = name} {size = size} {capacity = capacity} {way = way} {order = order} other) =
      in_later _ (by_no_fact (queuing_port_tells configuration who.part name size capacity way order) other)
  met (HasCondition.write_empty {length = length} empty) = in_later _ (by_fact (no_length_tells length) empty)
  met (HasCondition.write_long {port = port} {length = length} found is long) = too_long_met partition.sampling_ports port length found is long
  met (HasCondition.write_no_source {port = port} {length = length} found is other) = no_source_met partition.sampling_ports port length found is other
  met (HasCondition.read_no_destination {port = port} found is other) = no_destination_met partition.sampling_ports port found is other
  met (HasCondition.send_empty {length = length} empty) = in_first _ (in_first _ (in_later _ (by_fact (no_length_tells length) empty)))
  met (HasCondition.send_long {port = port} {length = length} found is long) = in_first _ (in_first _ (too_long_met partition.queuing_ports port length found is long))
  met (HasCondition.send_no_source {port = port} {length = length} found is other) = in_first _ (in_first _ (no_source_met partition.queuing_ports port length found is other))
  met (HasCondition.receive_no_destination {port = port} found is other) = in_first _ (in_first _ (no_destination_met partition.queuing_ports port found is other))
  met (HasCondition.clear_no_destination {port = port} found is other) = no_destination_met partition.queuing_ports port found is other
  met (HasCondition.report_length {length = length} other) = by_no_fact (between_tells 0 LONGEST_REPORT length) other
  met (HasCondition.handler_created handler holds) = in_later _ (by_fact (handler_tells partition.handler) (handler, holds))
  met (HasCondition.configure_none none) = in_first _ (in_first _ (in_later _ (by_fact (none_tells partition.handler) none)))
  met (HasCondition.configure_concurrency {concurrency = concurrency} other) = in_first _ (in_later _ (by_no_fact (concurrency_tells concurrency) other))
  met (HasCondition.configure_core {core = core} other) = in_later _ (by_no_fact (core_tells configuration who.part core) other)
  met (HasCondition.raise_other {given = given} other) = in_first _ (by_no_fact (number_tells given 1) other)
  met (HasCondition.raise_length {length = length} other) = in_later _ (by_no_fact (between_tells 0 LONGEST_REPORT length) other)
  met (HasCondition.status_not_handler other) = in_first _ (by_no_fact (by_handler_tells partition who.proc) other)
  met (HasCondition.status_none none) = in_later _ (by_fact (none_listed_tells partition.errors) none)
  met (HasCondition.get_id_unnamed {of = of} {name = name} other) = by_fact (unnamed_tells partition of name) other
  met (HasCondition.lock_before_normal other) = in_first _ (in_first _ (in_first _ (by_no_fact (normal_tells partition.mode) other)))
  met (HasCondition.lock_initialising none) = in_first _ (in_first _ (in_later _ (by_fact (equal_tells who.proc 0) none)))
  met (HasCondition.lock_greatest owns greatest) =
      in_first _ (in_later _ (by_fact (tells_both (owner_tells partition.lock.owner who.proc) (at_most_tells GREATEST_LOCK_LEVEL partition.lock.level)) (owns, greatest)))
  met (HasCondition.lock_mutex_owner held owns) = in_later _ (by_fact (owns_tells partition who.proc) (held, owns))
  met (HasCondition.replenish_before_normal other) = in_first _ (in_first _ (in_first _ (by_no_fact (normal_tells partition.mode) other)))
  met (HasCondition.replenish_initialising none) = in_first _ (in_first _ (in_later _ (by_fact (equal_tells who.proc 0) none)))
  met (HasCondition.replenish_budget {budget = budget} other most) = in_first _ (in_later _ (by_fact (no_period_tells budget) (other, most)))
  met (HasCondition.replenish_beyond {budget = budget} process calls periodic ends) = in_later _ (by_fact (beyond_tells now budget who partition) (process, calls, (periodic, ends)))
  met (HasCondition.unlock_before_normal other) = in_first _ (in_first _ (by_no_fact (normal_tells partition.mode) other))
  met (HasCondition.unlock_initialising none) = in_first _ (in_later _ (by_fact (equal_tells who.proc 0) none))
  met (HasCondition.unlock_not_owner other) = in_later _ (by_no_fact (owner_tells partition.lock.owner who.proc) other)

-- so a condition is among those of a call exactly if it holds
pub conditions_are_the_sentences : ConditionsAreTheSentences
conditions_are_the_sentences configuration now who partition asked one =
    (λ listed. All-contains (HasCondition configuration now who partition asked) (conditions_of configuration now who partition asked) one (says configuration now who partition asked).all listed, λ holds. (met configuration now who partition holds).among)

-- the code of one of some conditions, and a condition that has it
code_listed : (conditions : List Condition) (given : Code) → IsCodeOf conditions given → (one : Condition) × Contains conditions one × (given ≡ code_of one)
code_listed [] given is = absurd is
code_listed (first ∷ others) given (inl same) = (first, member_first first others, same)
code_listed (first ∷ others) given (inr later) =
    let found = code_listed others given later in (found.0, member_later first found.0 others found.1, found.2)

listed_code : (conditions : List Condition) (one : Condition) (given : Code) → Contains conditions one → given ≡ code_of one → IsCodeOf conditions given
listed_code [] one given listed same = absurd (member_nowhere one listed)
listed_code (first ∷ others) one given listed same =
    elim (member_cases first one others listed) [ inl here ↦ inl (same ∙ ap code_of here) | inr there ↦ inr (listed_code others one given there same) ]

-- so a code is one of a call exactly if a condition with it holds
pub codes_are_the_sentences : CodesAreTheSentences
codes_are_the_sentences configuration now who partition asked given = (
  λ is. let found = code_listed (conditions_of configuration now who partition asked) given is in
      (found.0, (conditions_are_the_sentences configuration now who partition asked found.0).0 found.1, found.2),
  λ holds. listed_code (conditions_of configuration now who partition asked) holds.0 given
      ((conditions_are_the_sentences configuration now who partition asked holds.0).1 holds.1) holds.2,
)

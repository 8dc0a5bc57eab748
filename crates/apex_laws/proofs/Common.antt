-- What the proofs speak of, from one place: the types and definitions of the machine, and those of the laws. Declares nothing.
pub use Rattle.apex_types.specs.declared.code.{Code.Code}
pub use Rattle.apex_types.specs.declared.error.{ErrorCode.ErrorCode}
pub use Rattle.apex_types.specs.declared.discipline.{Discipline.Discipline}
pub use Rattle.apex_types.specs.declared.limits.TheConstants.{GREATEST_MAXIMUM, GREATEST_NUMBER, GREATEST_PRIORITY, LONGEST_MESSAGE, MOST_MESSAGES, LONGEST_REPORT, GREATEST_LOCK_LEVEL}
pub use Rattle.apex_types.specs.declared.object_kind.{ObjectKind.ObjectKind, NamedKind.NamedKind}
pub use Rattle.apex_types.specs.declared.operation.{BlackboardOperation.BlackboardOperation, BufferOperation.BufferOperation, CallerOperation.CallerOperation, EventOperation.EventOperation, HealthOperation.HealthOperation, LockOperation.LockOperation, MutexOperation.MutexOperation, NewObject.NewObject, ObjectOperation.ObjectOperation, ProcessOperation.ProcessOperation, QueuingOperation.QueuingOperation, SamplingOperation.SamplingOperation, SemaphoreOperation.SemaphoreOperation}
pub use Rattle.apex_types.specs.declared.record.{Body.Body, Call.Call as CallRecord, Claim.Claim, Ordered.Ordered, Out.Out, Return.Return, Who.Who, Crossing.Crossing, ErrorReport.ErrorReport}
pub use Rattle.apex_types.specs.declared.record.Body.TheVariants.{Call, Disp, Ret, Tick, Arrive, Depart, Error}
pub use Rattle.apex_types.specs.declared.request.{Request.Request}
pub use Rattle.apex_types.specs.declared.shape.{End.End}
pub use Rattle.apex_types.specs.declared.shape.End.TheVariants.{Receivers, Senders}
pub use Rattle.apex_types.specs.Requested.{kind_of, service_of}
pub use Rattle.apex_types.specs.Shapes.{kind_used}
pub use Rattle.apex_machine.specs.declared.condition.{Condition.Condition}
pub use Rattle.apex_machine.specs.declared.state.{CoreState.CoreState, Direction.Direction, Entry.Entry, ErrorHandler.ErrorHandler, ErrorPolicy.ErrorPolicy, ListedError.ListedError, Mode.Mode, Restart.Restart, Outcome.Outcome, Process.Process, Wait.Wait, WaitingSet.WaitingSet, StartCondition.StartCondition}
pub use Rattle.apex_machine.specs.After.{adjusted, after, called, channel_after, content_by, cores_by, created_by, each_set, is_channel, is_done, is_valid, mode_by, new_blackboard, new_buffer, new_event, new_mutex, new_object, new_queuing_port, new_sampling_port, new_semaphore, numbered, numbered_if, objects_by, objects_called, own_partition, partition_by, partition_called, returned, ticked, with_sets, woken_if_named, partition_errored, partition_reported, partition_woken, lock_called, restart_by_error, restart_for, restart_of, restart_reported, restarted, sets_left}
pub use Rattle.apex_machine.specs.Answer.{Answer, answering, done, done_with, Effect, effect_on, HasValue, HasValues, is_new, NamesExactly, never_waking, NewNumber, unmet, waiters_of, waiting, waking}
pub use Rattle.apex_machine.specs.Arguments.{direction_number, discipline_number, is_between, is_length, is_longer, is_mode, is_negative, is_normal_mode, is_number, is_over, is_period, is_priority, is_time_out, is_warm_start_mode, natural_of, period_given, restart_given, suits_maximum, suits_period, capacity_given, is_above_period, is_at_least, is_report_length, is_time_capacity, mode_number, start_number}
pub use Rattle.apex_machine.specs.Channels.{capacity_of, end_among, EndsAreApart, has_channel, is_at_destination, is_at_end, is_at_source, is_port, is_receiver, is_sender, queuing_end, queuing_port, QueuingPort, receiving_discipline, refresh_of, samples, sampling_port, SamplingPort, sending_discipline, ends_inside, is_from_outside, is_port_inside, is_to_outside, size_of}
pub use Rattle.apex_machine.specs.Choice.{choice_in, choice_of, choice_under, foremost, goes_before, GoesBefore, HandlerIsReady, is_handling_on, is_one_alive, is_one_ready, is_paused, is_ready, IsChosen, IsChosenIn, IsChosenUnder, IsReady, IsReadyOwner, IsTheHandler, OthersPause, partition_choice, pauses_others, ready_entries, sooner, waits_for_nothing}
pub use Rattle.apex_machine.specs.Conditions.{code_of, conditions_for, creation_conditions, is_cold_start, is_taken, may_not_wait, of_caller, owns_mutex, time_out_conditions, waiting_conditions, when, conditions_if}
pub use Rattle.apex_machine.specs.Configuration.{ChannelEnd, Configuration, first_core, has_core, has_partition, is_core, limits_of, object_limit, period_of, process_limit, QueuingChannel, WindowsAreConfigured, is_end_of}
pub use Rattle.apex_machine.specs.CreationConditions.{is_full, parameter_conditions}
pub use Rattle.apex_machine.specs.Deadlines.{deadline_by, deadline_from, ends_after, entry_deadline, entry_time, has_missed, is_missed, is_reached, release_deadline, some_missed}
pub use Rattle.apex_machine.specs.Demands.{AllHold, AllWaitAt, call_demands, CanHave, channel_demands, Demand, demands, FirstFails, has_entry_in, IfDue, InNoWindow, InWindowOf, IsRunning, LocalStep, module_demands, outcome_demands, own_call_demands, partition_demands, ReturnsValues, used_demands, WakesHere, window_now, arrival_demands, departure_demands, error_demands, process_demand, where_named}
pub use Rattle.apex_machine.specs.DueTimes.{due_by, due_of_call, due_time, entry_wait, falls_due, first_release, is_for_mutex, is_released, is_suspension, NamesThoseDue, next_release, release_after, time_out_of, wait_in, wait_of, waits_for_normal, delay_kept, delay_wait, is_for_lock, waits_for_lock}
pub use Rattle.apex_machine.specs.Errors.{after_error, deadline_after, ends_handler, error_mode, error_set, errors_after, errors_by, faulted, handed_over, handler_by, handler_started, handles_more, has_error, healed, health_answer, is_handled, is_some_listed, listed, listed_if_handled, oldest_reported, policy_of, reported, restart_under, restarts_by_error, without_oldest}
pub use Rattle.apex_machine.specs.Locks.{at_level, enters_lock, first_for_lock, freed_by_stop, given_up, is_of_lock, lock_by, lock_effect, lock_left, lock_stopped, lock_waiters_after, locked, locked_again, locked_by, locked_from, next_owner, not_locked, owns_lock, passed_on, passed_to, unlocked, unlocked_once}
pub use Rattle.apex_machine.specs.Names.{number_named, number_of}
pub use Rattle.apex_machine.specs.ObjectConditions.{acquire_conditions, message_conditions, object_conditions, owns_another, reset_conditions}
pub use Rattle.apex_machine.specs.Objects.{acquired, acquired_again, acquired_from, at_maximum, board_read, buffer_received, buffer_sent, cleared, displayed, event_reset, event_set, event_waited, handed_on as hand_on, handed_on, is_owner, mutex_effect, mutex_released, not_acquired, object_effect, raised, released_once, semaphore_waited, signalled}
pub use Rattle.apex_machine.specs.Pieces.{ChannelPart, is_configured, Module, OfChannel, OfPartition, one_more, Part, part, part_after, PartitionPart, Piece, stops_at_end, stops_some, time_at, times_by, times_of, touched_by, touches}
pub use Rattle.apex_machine.specs.PortConditions.{destination_conditions, is_queuing_port, is_sampling_port, is_source, source_conditions, suits_refresh}
pub use Rattle.apex_machine.specs.Ports.{Ask, channel_by, channel_effect, channel_of, Read, reading_of, Receive, sampled, Send, suits, suits_use, Use, use_of, used, Write, written, Clear, arrival_use, arrived, departed}
pub use Rattle.apex_machine.specs.ProcessConditions.{created_count, lock_conditions, preemption_conditions, suspend_conditions, suspension_conditions, unlock_conditions, is_periodic, is_suspended, start_conditions, delayed_start_conditions, reaches_period, replenish_conditions, replenishes_beyond}
pub use Rattle.apex_machine.specs.Processes.{after_normal, by_mutex, caller_after, caller_with, code_when_due, new_process, on_ownership, outcome_of, outcome_by, release_reached, release_taken, released, renews, service_of_wait, set_by, set_in, started, stopped, value_when_woken, wait_ended, woken_by}
pub use Rattle.apex_machine.specs.Queue.{appended, Messages, not_yet, received, sent, emptied as emptied_queue, messages_sent}
pub use Rattle.apex_machine.specs.Runs.{ArePlaced, Finds, FindsNext, Goes, PieceRun, Refusal, Refuses}
pub use Rattle.apex_machine.specs.ServiceConditions.{conditions_of}
pub use Rattle.apex_machine.specs.Services.{answer_by, answer_of, HasNoValues, in_profile, never, peer, resuming, waits_for_mutex}
pub use Rattle.apex_machine.specs.State.{at_core, Blackboard, Buffer, change_at, Channel, channel_set, cold_partition, cold_state, Content, created, each_item, entries_at_end, Event, first_processes, given_object, initialising_process, is_free, is_named, is_of_channel, is_of_object, is_same, is_same_end, is_same_kind, is_same_set, item_at, is_handler, is_normal, free_lock, Lock, Mutex, name_in, names_one_of, ObjectOf, objects_of, occupant_of, Partition, Port, Queued, Sampled, Semaphore, set_at, Stamped, started_partition, State, Table, time_of, with_ends, with_objects, is_occupant}
pub use Rattle.apex_machine.specs.Statuses.{deadline_number, mutex_owned, mutex_state, partition_status, process_status, reporting, state_number}
pub use Rattle.apex_machine.specs.Step.{AllConfigured, channel_answer, ChannelConfigured, due_of, HasCode, HasNoneDue, HasOutcome, IsAnswered, IsCodeOf, IsLawful, IsLawfulBody, IsLawfulCall, IsLawfulReturn, IsLawfulTick, IsRefused, IsThrough, outcome_returned, Run, Step, IsLawfulArrival, IsLawfulDeparture, IsTaken, IsLawfulError, MissesNone, NoneMissed, NoneMissedIn, CanHaveError}
pub use Rattle.apex_machine.specs.Waiting.{ends_wait, enters, entry_of, first_waiter, is_in, is_no_error, is_target, is_the_set, is_waiting, IsFirst, message_of, Precedes, precedes, is_restart, restarts, restarts_by, service_at, set_after, set_of, sooner_entry, stop_of, stops, waits_at, without, after_first, first_waiters, followed_by}
pub use Rattle.apex_laws.specs.ConditionSentences.{AllAreCreated, HasCondition, HasTimeOut, IsCalledBy, IsCalledByPeriodic, IsCoreOf, IsDirection, IsFrom, IsMultipleOf, IsObject, IsPeriodic, IsPriority, IsProcess, IsQueuingPort, IsSamplingPort, IsSetUp, IsSuspended, KindIsFull, MayNotWait, NameIsTaken, NamesNone, NamesNoProcess, NamesNothing, OneIsNamed, OneOfKindIsNamed, Owns, OwnsLock, TellsDiscipline, WaitsFor, OneHasName, OneProcessIsNamed}
pub use Rattle.apex_laws.specs.DeadlineSentences.{EndsAfter, HasMissed, IsDeadlineAfter, IsDeadlineFrom, IsEntryDeadline, IsEntryTime}
pub use Rattle.apex_laws.specs.ErrorSentences.{ErrorRestartsIn, HasMoreErrors, IsAfterError, IsByHandler, IsConcurrency, IsErrorStatus, IsHandedOver, IsHandlerAfter, IsHandlerStarted, IsHealed, IsHealthAnswer, IsListAfter, IsListAfterError, IsListed, IsRaising, IsRestartingError, IsSetByStop, NoneTakes, RestartsIn, Takes}
pub use Rattle.apex_laws.specs.Laws.{AllEntries, AllPairs, AllPorts, are_distinct, DormantWaitNot, AreTied, AtMostOneNextState, ChoiceIsTheSentence, entries_at, entries_at_channel, entries_in, entries_of, IsAtEnd, IsEarlier, IsInOrder, IsTied, IsTiedToLock, OneFirstRefusal, OneRun, PiecesCompose, PiecesFollow, RunOfEach, SetsAreInOrder, StaysInOrder, StaysTied, ViewIsOfTheRun, WaitersHaveEntries, WhoWaitsHasEntry}
pub use Rattle.apex_laws.specs.ObjectLaws.{AreApart, BlackboardIsTheSentence, ChannelIsTheSentence, EventIsTheSentence, FirstIsTheSentence, LockIsTheSentence, MutexIsTheSentence, ObjectCallIsTheSentence, OrderIsApart, QueueIsTheSentence, SamplingIsTheSentence, SemaphoreIsTheSentence, CrossingIsTheSentence}
pub use Rattle.apex_laws.specs.ObjectSentences.{IsAcquiring, IsClearing, IsEventWait, IsReading, IsReceiving, IsReleasing, IsResetting, IsSampling, IsSemaphoreWait, IsSending, IsSignal, IsUnmet, IsUse, no_error, reads, tells_channel, AreFirst, IsArriving, IsDeparting, IsEmptying, IsLocking, IsMutexReset, IsPassedOn, IsStoppedOwner, IsUnlocking, gives_level}
pub use Rattle.apex_laws.specs.PartLaws.{DueLeave, ForeignCallsLeaveSets, HasDistinctObjects, is_set_used, IsOwnCall, IsSoundLock, IsSoundPart, LetsGoAsAnswered, OnlyDoneLetsGo, OnlyErrorsChange, OnlyProcessesChange, OtherCallsLeaveLock, OtherSetsStay, PartStaysSound, RefusedLeavesLock, RunningIsInNoSet, stops_one}
pub use Rattle.apex_laws.specs.PartObjects.{all_left, at_end, EachLeavesItsSet, left_by, objects_changed, OneObjectChanges, RefusedLeavesObjects, stopped_lock, StoppedLeaves, with_set, without_one}
pub use Rattle.apex_laws.specs.ProcessSentences.{ends_valued, ends_with, IsMutexState, IsStop, HasCalled, HasDueTime, IsAtRelease, IsBegun, IsCaller, IsEntry, IsFirstRelease, IsMutexChange, IsNormalEntered, IsOverOrWaits, IsOwnerChange, IsReleased, IsResuming, IsStarted, IsWoken, OnTarget, Renews, taking, WaitsForOther, IsModeNumber, IsPartitionStatus, IsProcessStatus, IsStartNumber, IsStateNumber, IsDeadlineNumber}
pub use Rattle.apex_laws.specs.RecordLaws.{CallIsTheSentence, DispatchIsTheSentence, RefusalIsTheSentence, RestartIsTheSentence, ReturnIsTheSentence, SetIsTheSentence, TickIsTheSentence, ArrivalIsTheSentence, DepartureIsTheSentence, ErrorIsTheSentence}
pub use Rattle.apex_laws.specs.RecordSentences.{emptied, FallsDue, GoesThrough, IsAdded, IsInitialising, IsRestartOf, IsSetAfterCall, IsSetIfDone, IsStart, KeepsOnly, ObjectsAre, process_in, Restarts, IsCrossingOf, IsErrorOf, IsInError, IsReported, IsTold}
pub use Rattle.apex_laws.specs.WaitLaws.{EnteringIsTheSentence, EnteringLockIsTheSentence, LockIsAwaitedForever, TimeOutIsTheSentence, WaitsIn}

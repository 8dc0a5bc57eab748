-- What the rules compute of errors is exactly what the sentences say: who takes an error, what it makes of processes and of the list of errors, and
-- what the services of health monitoring give.
use Rattle.std.proofs.Common.{◌≡◌, ℕ, ◌<◌, ◌≤◌, List, [], ◌∷◌, ◌++◌, length, Bool, true, false, cond, not, nat_eq, nat_le, nat_lt, zero, suc, ℤ, pos, negsuc, Option, Some, None, is_some, refl, sym, ap, subst, ◌∙◌, ◌&&◌, ◌||◌, ◌⊎◌, inl, inr, arith, true≢false}
use Rattle.std.proofs.lemmas.Bool.{and_from, and_parts, eq-eqb, eqb-true, leb-true, ltb-true}
use Rattle.std.proofs.lemmas.List.Elements.{All-cons, All-contains, All-nil}
use Rattle.std.specs.Option.{option_map_or}
use Rattle.std.specs.Prelude.{All, Contains, ◌↔◌}
use Rattle.apex_machine.specs.Configuration.{PartitionLimits}
use Rattle.apex_types.specs.declared.limits.TheConstants.{MOST_ERRORS}
use Rattle.apex_laws.proofs.Common.{Answer, CallerOperation, Configuration, ErrorHandler, ErrorPolicy, ErrorRestartsIn, HasMoreErrors, HealthOperation, IsAfterError, IsByHandler, IsErrorStatus, IsHandedOver, IsHandlerAfter, IsHandlerStarted}
use Rattle.apex_laws.proofs.Common.{IsHealed, IsHealthAnswer, IsListAfter, IsListAfterError, IsListed, IsRaising, IsRestartingError, IsSetByStop, ListedError, Mode, NoneTakes, Partition, Process, Request, RestartsIn, Takes, after_error, done, ends_handler}
use Rattle.apex_laws.proofs.Common.{error_mode, errors_by, faulted, first_core, handed_over, handler_by, handles_more, has_error, healed, health_answer, is_handled, is_handler, is_normal, is_number, is_some_listed, limits_of, listed, listed_if_handled, never}
use Rattle.apex_laws.proofs.Common.{IsFrom, is_between, natural_of, oldest_reported, restart_under, restarts_by_error, without_oldest}
use Rattle.apex_laws.proofs.Booleans.{by_test, cannot_hold, either_way, first_holds, holds_if, impossible, member_first, member_later, neither_later, never_found, one_item, other_holds}
use Rattle.apex_laws.proofs.ConditionTests.{between_tells, normal_tells, number_tells, Tells, tells_either}

-- who takes an error

some_is : {Item : Type 0} (found : Option Item) → is_some found ≡ true → (item : Item) × (found ≡ Some item)
some_is None is = impossible is
some_is (Some item) is = (item, refl)

not_zero : (process : ℕ) → not (nat_eq process 0) ≡ true → ¬ (process ≡ 0)
not_zero process passes same = true≢false (sym passes ∙ ap not (eq-eqb process 0 same))

pub handled_is : (partition : Partition) (process : ℕ) → is_handled partition process ≡ true → (handler : ErrorHandler) × Takes partition process handler
handled_is partition process passes =
    let first = and_parts (is_normal partition.mode) (is_some partition.handler && not (nat_eq process 0)) passes in
    let second = and_parts (is_some partition.handler) (not (nat_eq process 0)) first.1 in
    let handler = some_is partition.handler second.0 in
    (handler.0, record { normal = (normal_tells partition.mode).0 first.0; created = handler.1; other = not_zero process second.1 })

pub handled_by : (partition : Partition) (process : ℕ) (handler : ErrorHandler) → Takes partition process handler → is_handled partition process ≡ true
handled_by partition process handler takes =
    and_from _ _ (ap is_normal takes.normal)
    (and_from _ _ (ap is_some takes.created) (ap not (cannot_hold (nat_eq process 0) (λ same. takes.other (eqb-true process 0 same)))))

not_handled : (partition : Partition) (process : ℕ) → is_handled partition process ≡ false → NoneTakes partition process
not_handled partition process fails handler takes = true≢false (sym (handled_by partition process handler takes) ∙ fails)

none_handled : (partition : Partition) (process : ℕ) → NoneTakes partition process → is_handled partition process ≡ false
none_handled partition process none = cannot_hold (is_handled partition process) (λ passes. (let is = handled_is partition process passes in none is.0 is.1))

-- which errors restart a partition

policy_restarts : (one : ErrorPolicy) (entered : Mode) → restart_under one ≡ Some entered → RestartsIn one entered
policy_restarts ErrorPolicy.Ignore entered is = never_found is
policy_restarts ErrorPolicy.Idle entered is = subst (RestartsIn ErrorPolicy.Idle) (one_item is) RestartsIn.to_idle
policy_restarts ErrorPolicy.ColdStart entered is = subst (RestartsIn ErrorPolicy.ColdStart) (one_item is) RestartsIn.to_cold_start
policy_restarts ErrorPolicy.WarmStart entered is = subst (RestartsIn ErrorPolicy.WarmStart) (one_item is) RestartsIn.to_warm_start

restarts_policy : (one : ErrorPolicy) (entered : Mode) → RestartsIn one entered → restart_under one ≡ Some entered
restarts_policy _ _ RestartsIn.to_idle = refl
restarts_policy _ _ RestartsIn.to_cold_start = refl
restarts_policy _ _ RestartsIn.to_warm_start = refl

pub mode_restarts : (configuration : Configuration) (number : ℕ) (entered : Mode) → error_mode configuration number ≡ Some entered → ErrorRestartsIn configuration number entered
mode_restarts configuration number entered is = by (limits_of configuration number) refl is
  where
    by : (found : Option PartitionLimits) → limits_of configuration number ≡ found
        → restart_under (option_map_or (λ (limits : PartitionLimits). limits.on_error) found ErrorPolicy.Ignore) ≡ Some entered → ErrorRestartsIn configuration number entered
    by None at is = never_found is
    by (Some limits) at is = record { limits = limits; of = at; mode = policy_restarts limits.on_error entered is }

pub restarts_mode : (configuration : Configuration) (number : ℕ) (entered : Mode) → ErrorRestartsIn configuration number entered → error_mode configuration number ≡ Some entered
restarts_mode configuration number entered is =
    ap (λ found. restart_under (option_map_or (λ (limits : PartitionLimits). limits.on_error) found ErrorPolicy.Ignore)) is.of ∙ restarts_policy is.limits.on_error entered is.mode

pub restarting_is : (configuration : Configuration) (number : ℕ) (partition : Partition) (process : ℕ) → restarts_by_error configuration number partition process ≡ true
    → IsRestartingError configuration number partition process
restarting_is configuration number partition process passes =
    let parts = and_parts (not (is_handled partition process)) (is_some (error_mode configuration number)) passes in
    let mode = some_is (error_mode configuration number) parts.1 in (
      λ handler takes. true≢false (sym parts.0 ∙ ap not (handled_by partition process handler takes)),
      (mode.0, mode_restarts configuration number mode.0 mode.1),
    )

pub restarting_by : (configuration : Configuration) (number : ℕ) (partition : Partition) (process : ℕ) → IsRestartingError configuration number partition process
    → restarts_by_error configuration number partition process ≡ true
restarting_by configuration number partition process (none, (entered, restarts)) =
    and_from _ _ (ap not (none_handled partition process none)) (ap is_some (restarts_mode configuration number entered restarts))

-- processes

-- a process after an error that the handler takes, by what it is
abbrev handed_if : Bool → Bool → Bool → ℕ → ErrorHandler → Process → Process
handed_if first own lives place handler old =
    cond first (cond lives old (record old { alive = true; affinity = handler.core; ready_position = place })) (cond own (faulted old) old)

handed_says : (place : ℕ) (handler : ErrorHandler) (failed number : ℕ) (old new : Process) → new ≡ handed_over place handler failed number old → IsHandedOver place handler failed number old new
handed_says place handler failed number old new is =
    let started : Process = record old { alive = true; affinity = handler.core; ready_position = place } in
    by_test (λ one. new ≡ one → IsHandedOver place handler failed number old new) (nat_eq number 0) (cond old.alive old started) (cond (nat_eq number failed) (faulted old) old)
    (λ first is. IsHandedOver.is_handler (eqb-true number 0 first) (by_test (λ one. new ≡ one → IsHandlerStarted place handler old new) old.alive old started
    (λ lives is. IsHandlerStarted.is_ready lives is) (λ rests is. IsHandlerStarted.starts rests is) is))
    (λ later is. (let apart : ¬ (number ≡ 0) = λ zero. true≢false (sym (eq-eqb number 0 zero) ∙ later) in
    by_test (λ one. new ≡ one → IsHandedOver place handler failed number old new) (nat_eq number failed) (faulted old) old
    (λ own is. IsHandedOver.is_faulted apart (eqb-true number failed own) is)
    (λ another is. IsHandedOver.is_another apart (λ same. true≢false (sym (eq-eqb number failed same) ∙ another)) is) is)) is

handed_by : (place : ℕ) (handler : ErrorHandler) (failed number : ℕ) (old new : Process) → IsHandedOver place handler failed number old new → new ≡ handed_over place handler failed number old
handed_by place handler failed number old new (IsHandedOver.is_handler at_first (IsHandlerStarted.starts rests is)) =
    is ∙ sym (λ i. handed_if (eq-eqb number 0 at_first i) (nat_eq number failed) (rests i) place handler old)
handed_by place handler failed number old new (IsHandedOver.is_handler at_first (IsHandlerStarted.is_ready lives is)) =
    is ∙ sym (λ i. handed_if (eq-eqb number 0 at_first i) (nat_eq number failed) (lives i) place handler old)
handed_by place handler failed number old new (IsHandedOver.is_faulted apart own is) =
    is ∙ sym (λ i. handed_if (cannot_hold (nat_eq number 0) (λ same. apart (eqb-true number 0 same)) i) (eq-eqb number failed own i) old.alive place handler old)
handed_by place handler failed number old new (IsHandedOver.is_another apart another is) =
    is ∙ sym (λ i. handed_if (cannot_hold (nat_eq number 0) (λ same. apart (eqb-true number 0 same)) i) (cannot_hold (nat_eq number failed) (λ same. another (eqb-true number failed same)) i) old.alive place handler old)

-- a process after an error, by whether a handler takes it
after_handled : (place : ℕ) (partition : Partition) (failed number : ℕ) (old : Process) (handler : ErrorHandler) → Takes partition failed handler
    → after_error place partition failed number old ≡ handed_over place handler failed number old
after_handled place partition failed number old handler takes =
    ap (λ test. cond test (option_map_or (λ one. handed_over place one failed number old) partition.handler old) old) (handled_by partition failed handler takes)
    ∙ ap (λ found. option_map_or (λ one. handed_over place one failed number old) found old) takes.created

after_none : (place : ℕ) (partition : Partition) (failed number : ℕ) (old : Process) → NoneTakes partition failed → after_error place partition failed number old ≡ old
after_none place partition failed number old none =
    ap (λ test. cond test (option_map_or (λ one. handed_over place one failed number old) partition.handler old) old) (none_handled partition failed none)

pub after_error_says : (place : ℕ) (partition : Partition) (failed number : ℕ) (old new : Process) → new ≡ after_error place partition failed number old
    → IsAfterError place partition failed number old new
after_error_says place partition failed number old new is =
    either_way (is_handled partition failed)
    (λ handled. (let handler = handled_is partition failed handled in
    IsAfterError.handled handler.0 handler.1 (handed_says place handler.0 failed number old new (is ∙ after_handled place partition failed number old handler.0 handler.1))))
    (λ fails. (let none = not_handled partition failed fails in IsAfterError.not_handled none (is ∙ after_none place partition failed number old none)))

pub after_error_by : (place : ℕ) (partition : Partition) (failed number : ℕ) (old new : Process) → IsAfterError place partition failed number old new
    → new ≡ after_error place partition failed number old
after_error_by place partition failed number old new (IsAfterError.handled handler takes is) =
    handed_by place handler failed number old new is ∙ sym (after_handled place partition failed number old handler takes)
after_error_by place partition failed number old new (IsAfterError.not_handled none is) = is ∙ sym (after_none place partition failed number old none)

-- whether a list has an error of a process

has_error_is : (number : ℕ) (errors : List ListedError) → has_error number errors ≡ true → (one : ListedError) × Contains errors one × (one.process ≡ number)
has_error_is number [] is = impossible is
has_error_is number (error ∷ errors) is =
    either_way (nat_eq error.process number) (λ own. (error, member_first error errors, eqb-true error.process number own))
    (λ another. (let rest = has_error_is number errors (other_holds (nat_eq error.process number) (has_error number errors) is another) in
    (rest.0, member_later error rest.0 errors rest.1, rest.2)))

all_others : (number : ℕ) (errors : List ListedError) → has_error number errors ≡ false → All (λ one. ¬ (one.process ≡ number)) errors
all_others number [] none = All-nil _
all_others number (error ∷ errors) none =
    All-cons (λ (one : ListedError). ¬ (one.process ≡ number)) error errors
    (λ own. true≢false (sym (first_holds (nat_eq error.process number) (has_error number errors) (eq-eqb error.process number own)) ∙ none))
    (all_others number errors (neither_later (nat_eq error.process number) (has_error number errors) none))

none_listed : (number : ℕ) (errors : List ListedError) → has_error number errors ≡ false → (one : ListedError) → Contains errors one → ¬ (one.process ≡ number)
none_listed number errors none one is_member = All-contains (λ (one : ListedError). ¬ (one.process ≡ number)) errors one (all_others number errors none) is_member

has_error_by : (number : ℕ) (errors : List ListedError) (one : ListedError) → Contains errors one → one.process ≡ number → has_error number errors ≡ true
has_error_by number errors one is_member own = holds_if (has_error number errors) (λ fails. none_listed number errors fails one is_member own)

-- the end of the handler

pub by_handler_is : (partition : Partition) (caller : ℕ) → is_handler partition caller ≡ true → IsByHandler partition caller
by_handler_is partition caller passes =
    let parts = and_parts (is_normal partition.mode) (nat_eq caller 0) passes in
    record { normal = (normal_tells partition.mode).0 parts.0; is = eqb-true caller 0 parts.1 }

pub by_handler_by : (partition : Partition) (caller : ℕ) → IsByHandler partition caller → is_handler partition caller ≡ true
by_handler_by partition caller is = and_from _ _ (ap is_normal is.normal) (eq-eqb caller 0 is.is)

-- a process after it, by whether it is faulted and has an error in the list
abbrev healed_if : Bool → Bool → ℕ → Process → Process
healed_if faults more place old = cond (faults && not more) (record old { faulted = false; ready_position = place }) old

healed_says : (place : ℕ) (errors : List ListedError) (number : ℕ) (old new : Process) (faults more : Bool) → old.faulted ≡ faults → has_error number errors ≡ more
    → new ≡ healed_if faults more place old → IsHealed place errors number old new
healed_says place errors number old new true true faults more is = (let one = has_error_is number errors more in IsHealed.has_more one.0 one.1 one.2 is)
healed_says place errors number old new true false faults more is = IsHealed.goes_on faults (none_listed number errors more) is
healed_says place errors number old new false more faults has is = IsHealed.was_sound faults is

healed_by : (place : ℕ) (errors : List ListedError) (number : ℕ) (old new : Process) → IsHealed place errors number old new → new ≡ healed place errors number old
healed_by place errors number old new (IsHealed.goes_on faults none is) =
    is ∙ sym (λ i. healed_if (faults i) (cannot_hold (has_error number errors) (λ has. (let one = has_error_is number errors has in none one.0 one.1 one.2)) i) place old)
healed_by place errors number old new (IsHealed.has_more one is_member own is) =
    is ∙ sym (ap (λ more. healed_if old.faulted more place old) (has_error_by number errors one is_member own) ∙ same_when old.faulted)
  where
    same_when : (faults : Bool) → healed_if faults true place old ≡ old
    same_when true = refl
    same_when false = refl
healed_by place errors number old new (IsHealed.was_sound sound is) = is ∙ sym (ap (λ faults. healed_if faults (has_error number errors) place old) sound)

pub stop_set_says : (place : ℕ) (partition : Partition) (caller number : ℕ) (old new : Process) → new ≡ cond (is_handler partition caller) (healed place partition.errors number old) old
    → IsSetByStop place partition caller number old new
stop_set_says place partition caller number old new is =
    by_test (λ one. new ≡ one → IsSetByStop place partition caller number old new) (is_handler partition caller) (healed place partition.errors number old) old
    (λ ends is. IsSetByStop.of_handler (by_handler_is partition caller ends) (healed_says place partition.errors number old new old.faulted (has_error number partition.errors) refl refl is))
    (λ other is. IsSetByStop.of_another (λ by. true≢false (sym (by_handler_by partition caller by) ∙ other)) is) is

pub stop_set_by : (place : ℕ) (partition : Partition) (caller number : ℕ) (old new : Process) → IsSetByStop place partition caller number old new
    → new ≡ cond (is_handler partition caller) (healed place partition.errors number old) old
stop_set_by place partition caller number old new (IsSetByStop.of_handler by is) =
    healed_by place partition.errors number old new is ∙ sym (ap (λ test. cond test (healed place partition.errors number old) old) (by_handler_by partition caller by))
stop_set_by place partition caller number old new (IsSetByStop.of_another not_by is) =
    is ∙ sym (ap (λ test. cond test (healed place partition.errors number old) old)
    (cannot_hold (is_handler partition caller) (λ passes. not_by (by_handler_is partition caller passes))))

-- errors that are left
left_is : (errors : List ListedError) → is_some_listed errors ≡ true → ¬ (errors ≡ [])
left_is errors is none = true≢false (sym is ∙ ap is_some_listed none)

left_by : (errors : List ListedError) → ¬ (errors ≡ []) → is_some_listed errors ≡ true
left_by [] some = absurd (some refl)
left_by (error ∷ errors) some = refl

pub more_is : (partition : Partition) (caller : ℕ) (asked : Request) → handles_more partition caller asked ≡ true → HasMoreErrors partition caller asked
more_is partition caller (Request.Caller CallerOperation.StopSelf) is =
    let parts = and_parts (is_handler partition caller) (is_some_listed partition.errors) is in
    record { asks = refl; by_handler = by_handler_is partition caller parts.0; left = left_is partition.errors parts.1 }
more_is partition caller (Request.Caller operation) is = impossible is
more_is partition caller _ is = impossible is

pub more_by : (partition : Partition) (caller : ℕ) (asked : Request) → HasMoreErrors partition caller asked → handles_more partition caller asked ≡ true
more_by partition caller asked has =
    ap (λ one. handles_more partition caller one) has.asks ∙ and_from _ _ (by_handler_by partition caller has.by_handler) (left_by partition.errors has.left)

-- the list of errors

listed_says : (error : ListedError) (old new : List ListedError) → new ≡ listed error old → IsListed error old new
listed_says error old new is =
    by_test (λ one. new ≡ one → IsListed error old new) (nat_lt (length old) MOST_ERRORS) (old ++ error ∷ []) old
    (λ below is. IsListed.enters (ltb-true (length old) MOST_ERRORS below) is) (λ full is. IsListed.is_lost (grind arith) is) is

pub list_after_says : (partition : Partition) (error : ListedError) (new : List ListedError) → new ≡ listed_if_handled partition error → IsListAfterError partition error new
list_after_says partition error new is =
    by_test (λ one. new ≡ one → IsListAfterError partition error new) (is_handled partition error.process) (listed error partition.errors) partition.errors
    (λ handled is. (let handler = handled_is partition error.process handled in IsListAfterError.handled handler.0 handler.1 (listed_says error partition.errors new is)))
    (λ fails is. IsListAfterError.not_handled (not_handled partition error.process fails) is) is

pub list_says : (caller : ℕ) (asked : Request) (partition : Partition) → IsListAfter caller asked partition (errors_by caller asked partition)
list_says caller (Request.Health (HealthOperation.RaiseError given length message)) partition = list_after_says partition _ _ refl
list_says caller (Request.Health HealthOperation.GetErrorStatus) partition = by partition.errors refl
  where
    by : (errors : List ListedError) → partition.errors ≡ errors
        → ((oldest : ListedError) × (partition.errors ≡ oldest ∷ without_oldest errors)) ⊎ ((partition.errors ≡ []) × (without_oldest errors ≡ []))
    by [] is = inr (is, refl)
    by (error ∷ errors) is = inl (error, is)
list_says caller (Request.Health operation) partition = refl
list_says caller _ partition = refl

-- the handler

pub handler_says : (configuration : Configuration) (number : ℕ) (asked : Request) (old : Option ErrorHandler) → IsHandlerAfter configuration number asked old (handler_by configuration number asked old)
handler_says configuration number (Request.Health HealthOperation.CreateHandler) old = (record { pauses = true; core = first_core configuration number }, refl, refl, refl)
handler_says configuration number (Request.Health (HealthOperation.ConfigureHandler concurrency core)) old =
    let handler : ErrorHandler = record { pauses = is_number concurrency 0; core = natural_of core } in (
      handler,
      refl,
      either_way (is_number concurrency 0) (λ zero. inl ((number_tells concurrency 0).0 zero, zero))
          (λ other. inr (λ zero. true≢false (sym ((number_tells concurrency 0).1 zero) ∙ other), other)),
      refl,
    )
handler_says configuration number (Request.Health operation) old = refl
handler_says configuration number _ old = refl

-- what the services give

status_says : (errors : List ListedError) (answer : Answer) → answer ≡ oldest_reported errors → IsErrorStatus errors answer
status_says [] answer is = IsErrorStatus.nothing refl is
status_says (error ∷ errors) answer is = IsErrorStatus.oldest error errors refl is

status_by : (errors : List ListedError) (answer : Answer) → IsErrorStatus errors answer → answer ≡ oldest_reported errors
status_by errors answer (IsErrorStatus.oldest error others at is) = is ∙ sym (ap oldest_reported at)
status_by errors answer (IsErrorStatus.nothing none is) = is ∙ sym (ap oldest_reported none)

raising_says : (configuration : Configuration) (number : ℕ) (partition : Partition) (caller : ℕ) (answer : Answer) → answer ≡ cond (restarts_by_error configuration number partition caller) never done
    → IsRaising configuration number partition caller answer
raising_says configuration number partition caller answer is =
    by_test (λ one. answer ≡ one → IsRaising configuration number partition caller answer) (restarts_by_error configuration number partition caller) never done
    (λ passes is. IsRaising.restarts (restarting_is configuration number partition caller passes) is)
    (λ fails is. IsRaising.goes_on (λ restarts. true≢false (sym (restarting_by configuration number partition caller restarts) ∙ fails)) is) is

raising_by : (configuration : Configuration) (number : ℕ) (partition : Partition) (caller : ℕ) (answer : Answer) → IsRaising configuration number partition caller answer
    → answer ≡ cond (restarts_by_error configuration number partition caller) never done
raising_by configuration number partition caller answer (IsRaising.restarts restarts is) =
    is ∙ sym (ap (λ test. cond test never done) (restarting_by configuration number partition caller restarts))
raising_by configuration number partition caller answer (IsRaising.goes_on restarts_not is) =
    is ∙ sym (ap (λ test. cond test never done)
    (cannot_hold (restarts_by_error configuration number partition caller) (λ passes. restarts_not (restarting_is configuration number partition caller passes))))

pub health_is_the_sentence : (configuration : Configuration) (number : ℕ) (partition : Partition) (caller : ℕ) (operation : HealthOperation) (answer : Answer)
    → (answer ≡ health_answer configuration number partition caller operation) ↔ IsHealthAnswer configuration number partition caller operation answer
health_is_the_sentence configuration number partition caller (HealthOperation.RaiseError error length message) answer =
    (raising_says configuration number partition caller answer, raising_by configuration number partition caller answer)
health_is_the_sentence configuration number partition caller HealthOperation.GetErrorStatus answer = (status_says partition.errors answer, status_by partition.errors answer)
health_is_the_sentence configuration number partition caller _ answer = (λ is. is, λ is. is)

-- what the error conditions of health monitoring test

pub handler_tells : (found : Option ErrorHandler) → Tells (is_some found) ((handler : ErrorHandler) × (found ≡ Some handler))
handler_tells None = (impossible, λ fact. never_found fact.1)
handler_tells (Some handler) = (λ holds. (handler, refl), λ fact. refl)

pub none_listed_tells : (errors : List ListedError) → Tells (not (is_some_listed errors)) (errors ≡ [])
none_listed_tells [] = (λ holds. refl, λ fact. refl)
none_listed_tells (error ∷ errors) = (impossible, λ fact. cc)

pub by_handler_tells : (partition : Partition) (caller : ℕ) → Tells (is_handler partition caller) (IsByHandler partition caller)
by_handler_tells partition caller = (by_handler_is partition caller, by_handler_by partition caller)

-- a concurrency is 0 or 1
zero_or_one : (n : ℕ) → is_between 0 1 (pos n) ≡ true → (pos n ≡ pos 0) ⊎ (pos n ≡ pos 1)
zero_or_one n within =
    let most : n ≤ 1 = leb-true n 1 (and_parts (nat_le 0 n) (nat_le n 1) within).1 in
    either_way (nat_eq n 0) (λ zero. inl (ap pos (eqb-true n 0 zero)))
    (λ above. (let apart : ¬ (n ≡ 0) = λ zero. true≢false (sym (eq-eqb n 0 zero) ∙ above) in inr (ap pos (one_left n most apart))))
  where
    one_left : (n : ℕ) → n ≤ 1 → ¬ (n ≡ 0) → n ≡ 1
    one_left zero most apart = absurd (apart refl)
    one_left (suc n) most apart = omega arith

pub concurrency_tells : (given : ℤ) → Tells (is_number given 0 || is_number given 1) (IsFrom (pos 0) (pos 1) given)
concurrency_tells (negsuc n) = (impossible, λ fact. impossible ((between_tells 0 1 (negsuc n)).1 fact))
concurrency_tells (pos n) =
    let either = tells_either (number_tells (pos n) 0) (number_tells (pos n) 1) in
    (λ holds. within (either.0 holds), λ fact. either.1 (zero_or_one n ((between_tells 0 1 (pos n)).1 fact)))
  where
    within : (pos n ≡ pos 0) ⊎ (pos n ≡ pos 1) → IsFrom (pos 0) (pos 1) (pos n)
    within (inl at_first) = subst (IsFrom (pos 0) (pos 1)) (sym at_first) ((between_tells 0 1 (pos 0)).0 refl)
    within (inr one) = subst (IsFrom (pos 0) (pos 1)) (sym one) ((between_tells 0 1 (pos 1)).0 refl)

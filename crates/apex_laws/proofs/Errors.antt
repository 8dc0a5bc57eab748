-- What errors leave of processes and of partitions, and which of them restart a partition.
use Rattle.std.proofs.Common.{◌≡◌, ℕ, List, [], ◌∷◌, Bool, true, false, cond, not, nat_eq, ℤ, Option, Some, None, is_some, refl, sym, ap, ◌∙◌, ◌&&◌, subst, option_map}
use Rattle.std.proofs.lemmas.Bool.{and_parts}
use Rattle.std.specs.Option.{option_map_or}
use Rattle.apex_laws.proofs.Common.{AllHold, Answer, CallRecord, Claim, Code, Condition, Configuration, CoreState, ErrorCode, ErrorHandler, ErrorReport, HasCode, HasOutcome, HealthOperation, Mode, Out, Partition, Process, Request, Restart, StartCondition, Who, after_error, answer_of}
use Rattle.apex_laws.proofs.Common.{channel_of, deadline_after, done, ends_handler, error_mode, error_set, faulted, handed_over, handler_started, has_error, healed, health_answer, is_handled, is_restart, never, outcome_demands, reported, restart_by_error}
use Rattle.apex_laws.proofs.Common.{restart_for, restart_given, restart_of, restart_reported, restarts_by, restarts_by_error}
use Rattle.apex_laws.proofs.Booleans.{by_test, either_way, impossible, never_found}
use Rattle.apex_laws.proofs.Choices.{choice_from, choice_is}
use Rattle.apex_laws.proofs.Common.{CanHaveError, State, process_demand, window_now}
use Rattle.apex_laws.proofs.Restarts.{never_returns}

-- processes

-- a fact about a process after an error: it holds of the process as it was, of a faulted one, and of a handler that starts
pub after_error_case : (Fact : Process → Type 0) (place : ℕ) (partition : Partition) (failed number : ℕ) (x : Process) → Fact x → Fact (faulted x)
    → ((handler : ErrorHandler) → x.alive ≡ false → Fact (record x { alive = true; affinity = handler.core; ready_position = place }))
    → Fact (after_error place partition failed number x)
after_error_case Fact place partition failed number x stays fails starts =
    by_test Fact (is_handled partition failed) (option_map_or (λ handler. handed_over place handler failed number x) partition.handler x) x
    (λ handled. by partition.handler) (λ other. stays)
  where
    by : (one : Option ErrorHandler) → Fact (option_map_or (λ handler. handed_over place handler failed number x) one x)
    by None = stays
    by (Some handler) =
        by_test Fact (nat_eq number 0) (handler_started place handler x) (cond (nat_eq number failed) (faulted x) x)
        (λ first. by_test Fact x.alive x (record x { alive = true; affinity = handler.core; ready_position = place }) (λ lives. stays) (λ rests. starts handler rests))
        (λ other. by_test Fact (nat_eq number failed) (faulted x) x (λ own. fails) (λ another. stays))

-- a fact about a process in which a request sets something as far as errors go: it may also be healed
pub error_set_case : (Fact : Process → Type 0) (place : ℕ) (partition : Partition) (caller : ℕ) (asked : Request) (number : ℕ) (x : Process) → Fact x → Fact (faulted x)
    → Fact (record x { faulted = false; ready_position = place })
    → ((handler : ErrorHandler) → x.alive ≡ false → Fact (record x { alive = true; affinity = handler.core; ready_position = place }))
    → Fact (error_set place partition caller asked number x)
error_set_case Fact place partition caller (Request.Health (HealthOperation.RaiseError given length message)) number x stays fails heals starts =
    after_error_case Fact place partition caller number x stays fails starts
error_set_case Fact place partition caller (Request.Caller operation) number x stays fails heals starts =
    by_test Fact (ends_handler partition caller (Request.Caller operation)) (healed place partition.errors number x) x
    (λ ends. by_test Fact (x.faulted && not (has_error number partition.errors)) (record x { faulted = false; ready_position = place }) x (λ goes. heals) (λ more. stays))
    (λ other. stays)
error_set_case Fact place partition caller (Request.Health operation) number x stays fails heals starts = stays
error_set_case Fact place partition caller _ number x stays fails heals starts = stays

-- a fact about a process after the report of an error: also of one whose deadline is taken away
pub reported_case : (Fact : Process → Type 0) (place : ℕ) (partition : Partition) (report : ErrorReport) (number : ℕ) (x : Process)
    → ((deadline : Option ℕ) (faulted : Bool) → Fact (record x { deadline = deadline; faulted = faulted }))
    → ((handler : ErrorHandler) (deadline : Option ℕ) → x.alive ≡ false → Fact (record x { alive = true; affinity = handler.core; ready_position = place; deadline = deadline }))
    → Fact (reported place partition report number x)
reported_case Fact place partition report number x stays starts =
    by_test (λ (y : Process). Fact (after_error place partition report.who.proc number y)) (nat_eq number report.who.proc) (deadline_after report.error x) x
    (λ own. by report.error) (λ other. after_error_case Fact place partition report.who.proc number x (stays x.deadline x.faulted) (stays x.deadline true) (λ handler. starts handler x.deadline))
  where
    by : (error : ErrorCode) → Fact (after_error place partition report.who.proc number (deadline_after error x))
    by ErrorCode.DeadlineMissed =
        after_error_case Fact place partition report.who.proc number (record x { deadline = None }) (stays None x.faulted) (stays None true) (λ handler. starts handler None)
    by _ = after_error_case Fact place partition report.who.proc number x (stays x.deadline x.faulted) (stays x.deadline true) (λ handler. starts handler x.deadline)

-- restarts

-- an error that restarts a partition has its restart
pub restart_there : (configuration : Configuration) (number : ℕ) → is_some (error_mode configuration number) ≡ true
    → (restart : Restart) × (restart_by_error configuration number ≡ Some restart)
restart_there configuration number some = by (error_mode configuration number) refl some
  where
    by : (one : Option Mode) → error_mode configuration number ≡ one → is_some one ≡ true → (restart : Restart) × (restart_by_error configuration number ≡ Some restart)
    by None is some = impossible some
    by (Some mode) is some = (record { start = StartCondition.ErrorRestart; mode = mode }, ap (option_map {U = Restart} (λ mode. record { start = StartCondition.ErrorRestart; mode = mode })) is)

pub error_restarts : (configuration : Configuration) (number : ℕ) (partition : Partition) (process : ℕ) → restarts_by_error configuration number partition process ≡ true
    → (restart : Restart) × (restart_by_error configuration number ≡ Some restart)
error_restarts configuration number partition process is =
    restart_there configuration number (and_parts (not (is_handled partition process)) (is_some (error_mode configuration number)) is).1

-- so it is with the report of one
has_told : (configuration : Configuration) (report : ErrorReport) → report.restarts ≡ true → (restart : Restart) × (restart_by_error configuration report.who.part ≡ Some restart)
    → (restart : Restart) × (restart_reported configuration report ≡ Some restart)
has_told configuration report restarts (restart, found) = (restart, rw restarts found)

pub told_restarts : (configuration : Configuration) (partition : Partition) (report : ErrorReport) → restarts_by_error configuration report.who.part partition report.who.proc ≡ report.restarts
    → report.restarts ≡ true → (restart : Restart) × (restart_reported configuration report ≡ Some restart)
told_restarts configuration partition report is restarts =
    has_told configuration report restarts (error_restarts configuration report.who.part partition report.who.proc (is ∙ restarts))

-- and with a call
given_there : (next : ℤ) → is_some (restart_given next) ≡ true → (restart : Restart) × (option_map {U = Restart} (λ mode. record { start = StartCondition.PartitionRestart; mode = mode }) (restart_given next) ≡ Some restart)
given_there next some = by (restart_given next) some
  where
    by : (one : Option Mode) → is_some one ≡ true → (restart : Restart) × (option_map {U = Restart} (λ mode. record { start = StartCondition.PartitionRestart; mode = mode }) one ≡ Some restart)
    by None some = impossible some
    by (Some mode) some = (record { start = StartCondition.PartitionRestart; mode = mode }, refl)

-- an answer returns
answers_not : {Fact : Type 0} {code : Code} → Out.Answer code ≡ Out.Never → Fact
answers_not never = cc

asked_restart : (configuration : Configuration) (cores : List CoreState) (core : ℕ) (who : Who) (partition : Partition) (asked : Request) (given : Out) → restarts_by asked given ≡ true
    → (channel_of partition asked ≡ None → (answer_of configuration cores core who partition asked).out ≡ Out.Never)
    → (restart : Restart) × (restart_for configuration who.part asked ≡ Some restart)
asked_restart configuration cores core who partition (Request.SetPartitionMode next) Out.Never is answers = given_there next is
asked_restart configuration cores core who partition (Request.SetPartitionMode next) _ is answers = impossible is
asked_restart configuration cores core who partition (Request.Health (HealthOperation.RaiseError error length message)) given is answers =
    by_test (λ (answer : Answer). answer.out ≡ Out.Never → (restart : Restart) × (restart_by_error configuration who.part ≡ Some restart))
    (restarts_by_error configuration who.part partition who.proc) never done
    (λ restarts is. error_restarts configuration who.part partition who.proc restarts) (λ goes_on is. answers_not is) (answers refl)
asked_restart configuration cores core who partition (Request.Health operation) given is answers = impossible is
asked_restart configuration cores core who partition _ given is answers = impossible is

-- no error condition answers that a call does not return
no_code : (conditions : List Condition) (given : Out) → given ≡ Out.Never → HasCode conditions given → ⊥
no_code conditions given never has = (let no : HasCode conditions Out.Never = subst (HasCode conditions) never has in no)

-- what a lawful call that does not return has for its answer
lawful_never : (conditions : List Condition) (channel : Option ℕ) (answer : Answer) (suited : ℕ → Bool) (through : ℕ → Answer) (claim : Claim)
    → HasOutcome conditions channel answer suited through claim → claim.out ≡ Out.Never → channel ≡ None → answer.out ≡ Out.Never
lawful_never [] None answer suited through claim has silent off = sym has.out ∙ silent
lawful_never [] (Some channel) answer suited through claim has silent off = never_found (sym off)
lawful_never (condition ∷ conditions) channel answer suited through claim has silent off = absurd (no_code (condition ∷ conditions) claim.out silent has.out)

demanded_never : (conditions : List Condition) (channel : Option ℕ) (number : ℕ) (asked : Request) (answer : Answer) (claim : Claim)
    → AllHold (outcome_demands conditions channel number asked answer claim) → claim.out ≡ Out.Never → channel ≡ None → answer.out ≡ Out.Never
demanded_never [] None number asked answer claim hold silent off = sym hold.1.0 ∙ silent
demanded_never [] (Some channel) number asked answer claim hold silent off = never_found (sym off)
demanded_never (condition ∷ conditions) channel number asked answer claim hold silent off = absurd (no_code (condition ∷ conditions) claim.out silent hold.1.0)

-- a restart has its restart
has_restart : (configuration : Configuration) (call : CallRecord) → is_restart call ≡ true → (restart : Restart) × (restart_for configuration call.who.part call.request ≡ Some restart)
    → (restart : Restart) × (restart_of configuration call ≡ Some restart)
has_restart configuration call is (restart, found) = (restart, rw is found)

pub lawful_restart : (configuration : Configuration) (cores : List CoreState) (core : ℕ) (partition : Partition) (call : CallRecord) (conditions : List Condition) (suited : ℕ → Bool) (through : ℕ → Answer)
    → HasOutcome conditions (channel_of partition call.request) (answer_of configuration cores core call.who partition call.request) suited through call.claim
    → is_restart call ≡ true → (restart : Restart) × (restart_of configuration call ≡ Some restart)
lawful_restart configuration cores core partition call conditions suited through has is =
    has_restart configuration call is (asked_restart configuration cores core call.who partition call.request call.claim.out is
    (λ off. lawful_never conditions (channel_of partition call.request) (answer_of configuration cores core call.who partition call.request) suited through call.claim has
    (never_returns call.request call.claim.out is) off))

pub demanded_restart : (configuration : Configuration) (cores : List CoreState) (core number : ℕ) (partition : Partition) (call : CallRecord) (conditions : List Condition)
    → AllHold (outcome_demands conditions (channel_of partition call.request) number call.request (answer_of configuration cores core call.who partition call.request) call.claim)
    → is_restart call ≡ true → (restart : Restart) × (restart_of configuration call ≡ Some restart)
demanded_restart configuration cores core number partition call conditions hold is =
    has_restart configuration call is (asked_restart configuration cores core call.who partition call.request call.claim.out is
    (λ off. demanded_never conditions (channel_of partition call.request) number call.request (answer_of configuration cores core call.who partition call.request) call.claim hold
    (never_returns call.request call.claim.out is) off))

-- the process of an error, as the module and its partition see it
pub can_have : (configuration : Configuration) (state : State) (core : ℕ) (who : Who) (error : ErrorCode) → window_now configuration state.cores core ≡ Some who.part
    → (process_demand error who.part state.cores (state.partitions who.part) core who).holds → CanHaveError error configuration state core who
can_have configuration state core who ErrorCode.DeadlineMissed window holds = holds
can_have configuration state core who _ window holds = (holds.0, choice_from (window_now configuration state.cores core) state.partitions core who window holds.1)

pub have_demanded : (configuration : Configuration) (state : State) (core : ℕ) (who : Who) (error : ErrorCode) → CanHaveError error configuration state core who
    → (process_demand error who.part state.cores (state.partitions who.part) core who).holds
have_demanded configuration state core who ErrorCode.DeadlineMissed law = law
have_demanded configuration state core who _ law = (law.0, (choice_is (window_now configuration state.cores core) state.partitions core who law.1).choice)

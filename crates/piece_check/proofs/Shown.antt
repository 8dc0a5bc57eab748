-- What shows that a demand fails, as the code finds it.
use Rattle.std.proofs.Common.{◌≡◌, ◌⊎◌, ℕ, List, Option, Some, None, Bool, true, false, nat_eq, refl, ap, sym, ◌∙◌, option_map, inl, inr}
use Rattle.std.specs.List.{find}
use Rattle.apex_types.specs.declared.cause.Cause.{Cause}
use Rattle.apex_types.specs.declared.cause.Cause.TheVariants as cause
use Rattle.apex_machine.specs.declared.state.Process.{Process}
use Rattle.apex_machine.specs.Answer.{Answer}
use Rattle.apex_machine.specs.Channels.{is_from_outside, is_to_outside, size_of}
use Rattle.apex_machine.specs.Configuration.{Configuration}
use Rattle.apex_machine.specs.Deadlines.{has_missed, is_reached}
use Rattle.apex_machine.specs.Objects.{is_owner}
use Rattle.apex_machine.specs.Ports.{departed}
use Rattle.apex_machine.specs.Queue.{Messages}
use Rattle.apex_machine.specs.State.{Channel, Content, Mutex, Queued, Sampled, Table}
use Rattle.apex_laws.proofs.Booleans.{not_second}
use Rattle.module_config.proofs.Shown.{found-passes}
use Rattle.wait_set.specs.declared.given.Given.{Given}
use Rattle.wait_set.specs.Givens.{answer_given}
use Rattle.channel.specs.Held.{ForQueuing, ForSampling, SaysTheSame, Settings}
use Rattle.channel.specs.Kinds as kinds
use Rattle.channel.specs.Kinds.{is_sampled}
use Rattle.piece_check.specs.declared.evidence.Evidence.{Evidence}
use Rattle.piece_check.specs.declared.evidence.Evidence.TheVariants as evidence
use Rattle.piece_check.specs.Evidence.{ShowsDeparted, ShowsDeparture, ShowsMissed, ShowsPriority, first_mutex, is_elsewhere}

-- the number of the entry that a search finds is that of the first mutex of which the test holds
pub first_is : {Found : Type 0} (test : Mutex → Bool) (mutexes : List (ℕ × Mutex)) (see : Found → ℕ × Mutex) (found : Option Found)
    → option_map see found ≡ find (λ entry. test entry.1) mutexes → option_map (λ item. (see item).0) found ≡ first_mutex test mutexes
first_is {Found = Found} test mutexes see found is = of_both found ∙ ap (option_map (λ entry. entry.0)) is
  where
    of_both : (o : Option Found) → option_map (λ item. (see item).0) o ≡ option_map (λ entry. entry.0) (option_map see o)
    of_both None = refl
    of_both (Some item) = refl

-- the priorities of a process that is there, and the mutexes that are found
pub priority_shown : (mutexes : List (ℕ × Mutex)) (number recorded : ℕ) (process : Process) (found : Option Process) (owned elsewhere : Option ℕ) → Some process ≡ found
    → owned ≡ first_mutex (λ mutex. is_owner mutex.owner number) mutexes → elsewhere ≡ first_mutex (is_elsewhere recorded number) mutexes
    → ShowsPriority mutexes number recorded found
    (evidence.Priority process.current_priority process.base_priority process.retained_priority owned elsewhere)
priority_shown mutexes number recorded process found owned elsewhere there is_owned is_other = rw (← there, is_owned, is_other) refl

-- deadlines

-- a process without a deadline has missed none
none_to_miss : (core now : ℕ) (process : Process) → process.deadline ≡ None → has_missed core now process ≡ false
none_to_miss core now process none = not_second (nat_eq process.affinity core) (is_reached now process.deadline) (rw none refl)

-- so a process that a search finds for its missed deadline has one
pub missed_has_one : (number core now : ℕ) (table : Table) (missed : ℕ) (process : Process)
    → Some (missed, process) ≡ find (λ entry. has_missed core now entry.1) table → process.deadline ≡ None
    → ShowsMissed number (find (λ entry. has_missed core now entry.1) table) evidence.Nothing
missed_has_one number core now table missed process found none =
    let passes = found-passes (λ (entry : ℕ × Process). has_missed core now entry.1) table (missed, process) (sym found) in
    let clash : false ≡ true = sym (none_to_miss core now process none) ∙ passes in
    cc

-- what a configuration says of a channel, if its settings are these

pub from_outside_is : (configuration : Configuration) (number : ℕ) (settings : Settings) → SaysTheSame configuration number settings
    → is_from_outside configuration number ≡ kinds.is_from_outside settings
from_outside_is configuration number (ForSampling settings) same = same.2
from_outside_is configuration number (ForQueuing settings) same = same.6

pub to_outside_is : (configuration : Configuration) (number : ℕ) (settings : Settings) → SaysTheSame configuration number settings
    → is_to_outside configuration number ≡ kinds.is_to_outside settings
to_outside_is configuration number (ForSampling settings) same = same.3
to_outside_is configuration number (ForQueuing settings) same = same.7

pub size_is : (configuration : Configuration) (number : ℕ) (settings : Settings) → SaysTheSame configuration number settings
    → size_of configuration number ≡ kinds.size_in settings
size_is configuration number (ForSampling settings) same = same.1
size_is configuration number (ForQueuing settings) same = same.5

-- messages that depart

-- nothing departs from a sampling channel
pub nothing_departs : (content : Content) (answer : Answer) → is_sampled content ≡ true → ShowsDeparted content answer evidence.Nothing
nothing_departs (Sampled last) answer samples = refl
nothing_departs (Queued messages) answer samples = let clash : false ≡ true = samples in cc

-- from a queue a message departs
pub queue_departs : (content : Content) (messages : Messages) (answer : Answer) (given : Given) → content ≡ Queued messages → answer_given given ≡ answer
    → ShowsDeparted content answer (evidence.Answer given)
queue_departs content messages answer given queued gives = rw queued gives

-- the same is shown if the message is wrong, and if the processes are
pub departure_shown : (configuration : Configuration) (now number : ℕ) (channel : Channel) (why : Cause) (shown : Evidence) → (why ≡ cause.Data) ⊎ (why ≡ cause.Woken)
    → ShowsDeparted channel.content (departed configuration now number channel).answer shown → ShowsDeparture configuration now number channel why shown
departure_shown configuration now number channel why shown (inl of_message) shows = rw of_message shows
departure_shown configuration now number channel why shown (inr of_woken) shows = rw of_woken shows

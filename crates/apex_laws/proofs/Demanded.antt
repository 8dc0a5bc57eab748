-- A record is lawful exactly where each piece that it touches finds all its demands met.
use Rattle.std.proofs.Common.{◌≡◌, ℕ, List, [], ◌∷◌, length, Bool, true, false, nat_lt, ℤ, Option, Some, None, IsTrue, sym, subst, refl, ◌∙◌, true≢false, ap, nat_eq, ◌||◌}
use Rattle.std.proofs.lemmas.Bool.{eqb-true, eq-eqb}
use Rattle.apex_types.specs.declared.object_kind.ObjectKind.TheVariants as kind
use Rattle.apex_laws.proofs.Common.{AllEntries, AllHold, AllWaitAt, Answer, AreTied, Ask, Body, Call, CallRecord, CanHave, Channel, ChannelConfigured, Claim, Code, Condition, Configuration, Content, Disp, Effect, EndsAreApart, Entry}
use Rattle.apex_laws.proofs.Common.{HasOutcome, HasValues, IfDue, InNoWindow, InWindowOf, IsLawful, IsLawfulBody, IsLawfulCall, IsLawfulReturn, IsRunning, IsThrough, IsTied, Messages, Module, NamesExactly, OfChannel, OfPartition, Ordered}
use Rattle.apex_laws.proofs.Common.{Out, Outcome, Partition, Piece, Queued, QueuingOperation, Read, Receive, Receivers, Request, Ret, Return, ReturnsValues, Sampled, SamplingOperation, Send, Senders, Stamped, State, Tick, WaitingSet}
use Rattle.apex_laws.proofs.Common.{WakesHere, Who, WindowsAreConfigured, Write, answer_of, answering, appended, call_demands, capacity_of, channel_answer, channel_demands, channel_effect, channel_of, channel_set, choice_of, partition_choice}
use Rattle.apex_laws.proofs.Common.{conditions_of, demands, due_of, first_waiter, has_channel, has_entry_in, has_partition, is_channel, is_configured, is_named, is_over, is_receiver, is_sender, item_at, module_demands, names_one_of, not_yet}
use Rattle.apex_laws.proofs.Common.{occupant_of, outcome_demands, outcome_returned, own_call_demands, part, partition_demands, reading_of, received, receiving_discipline, refresh_of, sending_discipline, sent, suits_use, time_of, touched_by}
use Rattle.apex_laws.proofs.Common.{touches, unmet, use_of, used, used_demands, waiting, waits_at, window_now}
use Rattle.apex_laws.proofs.Common.{Arrive, Clear, Crossing, Demand, Depart, Error, ErrorReport, IsLawfulArrival, IsLawfulDeparture, IsLawfulError, MissesNone, NoneMissed, NoneMissedIn, arrival_demands, departure_demands, error_demands, where_named}
use Rattle.apex_laws.proofs.Wakes.{WaitsThere, arrival_wakes, departure_wakes}
use Rattle.apex_laws.proofs.Booleans.{by_test, cannot_hold, first_holds, impossible, is_itself, later_holds, neither, never_found, one_item}
use Rattle.apex_laws.proofs.Errors.{can_have, have_demanded}
use Rattle.apex_laws.proofs.Choices.{choice_from, choice_is, chosen_exists, idle_choice, IsChoice, joined_choice, not_idle, own_choice, ready_waits_not}
use Rattle.apex_laws.proofs.Ends.{port_is_at_end, WaitsAtEnd}
use Rattle.apex_laws.proofs.Tables.{same_time}
use Rattle.apex_laws.proofs.Waiters.{all_weaker, member_not}
use Rattle.apex_laws.proofs.WaitersOf.{same_itself, some_named}
use Rattle.apex_laws.proofs.Wakes.{ClaimsOutcome, found, use_wakes, woken}

-- The outcome that a call claims and the outcome that a return gives back, as a whole and demand by demand.

-- calls

-- what a channel says of a call through it
pub record ChannelSays (suited : Bool) (answer : Answer) (claim : Claim) : Type 0 where
  pub kind : IsTrue suited
  pub out : claim.out ≡ answer.out
  pub values : HasValues answer.val answer.val2 answer.val3 claim
  pub bytes : claim.bytes ≡ answer.bytes
  pub woken : NamesExactly answer.woken claim.woken

-- the demands of the caller's partition and those of the channel that is claimed are the outcome that a lawful call has
pub has_outcome : (conditions : List Condition) (channel : Option ℕ) (number : ℕ) (asked : Request) (answer : Answer) (suited : ℕ → Bool) (through : ℕ → Answer) (claim : Claim)
    → AllHold (outcome_demands conditions channel number asked answer claim)
    → ((channel : ℕ) → claim.chan ≡ Some channel → ChannelSays (suited channel) (through channel) claim)
    → HasOutcome conditions channel answer suited through claim
has_outcome [] None number asked answer suited through claim hold says =
    record { chan = hold.0; out = hold.1.0; values = hold.1.1.0; bytes = hold.1.1.1.0; woken = hold.1.1.1.1.0 }
has_outcome [] (Some channel) number asked answer suited through claim hold says =
    let of_channel = says channel hold.0 in
    record { chan = hold.0; kind = of_channel.kind; out = of_channel.out; values = of_channel.values; bytes = of_channel.bytes; woken = of_channel.woken }
has_outcome (condition ∷ conditions) channel number asked answer suited through claim hold says =
    record { chan = hold.0; out = hold.1.0; values = hold.1.1.0; bytes = hold.1.1.1.0; woken = hold.1.1.1.1.0 }

-- the outcome that a lawful call has meets the demands of the caller's partition
pub outcome_holds : (conditions : List Condition) (channel : Option ℕ) (number : ℕ) (asked : Request) (answer : Answer) (suited : ℕ → Bool) (through : ℕ → Answer) (claim : Claim)
    → ((channel : ℕ) → IsTrue (suited channel) → CanHave asked (through channel).out)
    → ((other : ℕ) → channel ≡ Some other → IsThrough other (suited other) (through other) claim → names_one_of number claim.woken ≡ false)
    → HasOutcome conditions channel answer suited through claim
    → AllHold (outcome_demands conditions channel number asked answer claim)
outcome_holds [] None number asked answer suited through claim can apart has = (has.chan, (has.out, (has.values, (has.bytes, (has.woken, tt)))))
outcome_holds [] (Some channel) number asked answer suited through claim can apart has =
    (has.chan, (subst (CanHave asked) (sym has.out) (can channel has.kind), (apart channel refl has, tt)))
outcome_holds (condition ∷ conditions) channel number asked answer suited through claim can apart has =
    (has.chan, (has.out, (has.values, (has.bytes, (has.woken, tt)))))

-- a lawful call that claims a channel is answered by that channel
pub through_claimed : (conditions : List Condition) (channel : Option ℕ) (answer : Answer) (suited : ℕ → Bool) (through : ℕ → Answer) (claim : Claim) (claimed : ℕ)
    → claim.chan ≡ Some claimed → HasOutcome conditions channel answer suited through claim → IsThrough claimed (suited claimed) (through claimed) claim
through_claimed [] None answer suited through claim claimed is has = never_found (sym has.chan ∙ is)
through_claimed (condition ∷ conditions) channel answer suited through claim claimed is has = never_found (sym has.chan ∙ is)
through_claimed [] (Some channel) answer suited through claim claimed is has =
    subst (λ one. IsThrough one (suited one) (through one) claim) (one_item (sym has.chan ∙ is)) has

-- what a channel can give, as a partition sees it

unmet_can : (Fact : Out → Type 0) (time_out : ℤ) → Fact (answering Code.NotAvailable).out → (is_over time_out ≡ false → Fact waiting.out) → Fact (unmet time_out).out
unmet_can Fact time_out at_once waits =
    by_test (λ (answer : Answer). Fact answer.out) (is_over time_out) (answering Code.NotAvailable) waiting (λ over. at_once) (λ later. waits later)

sent_can : (Fact : Out → Type 0) (capacity : ℕ) (message : List ℕ) (time_out : ℤ) (first : Option Entry) (messages : Messages) → ((one : Out) → one ≡ (answering Code.NoError).out → Fact one)
    → Fact (answering Code.NotAvailable).out → (is_over time_out ≡ false → Fact waiting.out) → Fact (sent capacity message time_out first messages).answer.out
sent_can Fact capacity message time_out (Some entry) messages done at_once waits = done _ refl
sent_can Fact capacity message time_out None messages done at_once waits =
    by_test (λ (effect : Effect Messages). Fact effect.answer.out) (nat_lt (length messages) capacity) (appended message messages) (not_yet time_out messages)
    (λ room. done _ refl) (λ full. unmet_can Fact time_out at_once waits)

received_can : (Fact : Out → Type 0) (time_out : ℤ) (first : Option Entry) (messages : Messages) → ((one : Out) → one ≡ (answering Code.NoError).out → Fact one)
    → Fact (answering Code.NotAvailable).out → (is_over time_out ≡ false → Fact waiting.out) → Fact (received time_out first messages).answer.out
received_can Fact time_out first [] done at_once waits = unmet_can Fact time_out at_once waits
received_can Fact time_out None (message ∷ others) done at_once waits = done _ refl
received_can Fact time_out (Some entry) (message ∷ others) done at_once waits = done _ refl

done_can : (asked : Request) (one : Out) → one ≡ (answering Code.NoError).out → CanHave asked one
done_can asked one is = subst (CanHave asked) (sym is) tt

-- an outcome that a channel of the right kind gives is one that the partition lets pass
pub channel_can : (configuration : Configuration) (now number partition : ℕ) (asked : Request) (channel : Channel) → IsTrue (suits_use configuration number partition (use_of asked) channel)
    → CanHave asked (channel_effect configuration now number partition (use_of asked) channel).answer.out
channel_can configuration now number partition (Request.SamplingPort port (SamplingOperation.Write length message)) channel suited = by channel.content
  where
    by : (content : Content) → CanHave (Request.SamplingPort port (SamplingOperation.Write length message)) (used configuration now number partition (Write message) channel content).answer.out
    by (Sampled last) = tt
    by (Queued messages) = tt
channel_can configuration now number partition (Request.SamplingPort port SamplingOperation.Read) channel suited = by channel.content
  where
    read : (last : Option Stamped) → CanHave (Request.SamplingPort port SamplingOperation.Read) (reading_of now (refresh_of configuration number) last).out
    read None = tt
    read (Some last) = tt

    by : (content : Content) → CanHave (Request.SamplingPort port SamplingOperation.Read) (used configuration now number partition Read channel content).answer.out
    by (Sampled last) = read last
    by (Queued messages) = tt
channel_can configuration now number partition (Request.QueuingPort port (QueuingOperation.Send length time_out message)) channel suited = by channel.content
  where
    by : (content : Content) → CanHave (Request.QueuingPort port (QueuingOperation.Send length time_out message)) (used configuration now number partition (Send message time_out) channel content).answer.out
    by (Queued messages) =
        sent_can (CanHave (Request.QueuingPort port (QueuingOperation.Send length time_out message))) (capacity_of configuration number) message time_out
        (first_waiter (receiving_discipline configuration number) channel.receivers) messages
        (done_can (Request.QueuingPort port (QueuingOperation.Send length time_out message))) tt (λ later. later)
    by (Sampled last) = tt
channel_can configuration now number partition (Request.QueuingPort port (QueuingOperation.Receive time_out)) channel suited = by channel.content
  where
    by : (content : Content) → CanHave (Request.QueuingPort port (QueuingOperation.Receive time_out)) (used configuration now number partition (Receive time_out) channel content).answer.out
    by (Queued messages) =
        received_can (CanHave (Request.QueuingPort port (QueuingOperation.Receive time_out))) time_out
        (first_waiter (sending_discipline configuration number) channel.senders) messages
        (done_can (Request.QueuingPort port (QueuingOperation.Receive time_out))) tt (λ later. later)
    by (Sampled last) = tt
channel_can configuration now number partition (Request.QueuingPort port QueuingOperation.Clear) channel suited = by channel.content
  where
    by : (content : Content) → CanHave (Request.QueuingPort port QueuingOperation.Clear) (used configuration now number partition Clear channel content).answer.out
    by (Queued messages) = tt
    by (Sampled last) = tt
channel_can configuration now number partition (Request.GetStatus kind.QueuingPort port) channel suited = by channel.content
  where
    by : (content : Content) → CanHave (Request.GetStatus kind.QueuingPort port) (used configuration now number partition Ask channel content).answer.out
    by (Queued messages) = tt
    by (Sampled last) = tt
channel_can configuration now number partition _ channel suited = impossible suited

-- returns

-- an outcome is due that has all that the return gives back: it is the outcome that the return gives back
pub returned_is_due : (due : Option Outcome) (ret : Return) → IfDue due (λ outcome. outcome.service ≡ ret.service)
    → IfDue due (λ outcome. outcome.code ≡ ret.code) → IfDue due (λ outcome. ReturnsValues outcome ret)
    → IfDue due (λ outcome. outcome.bytes ≡ ret.bytes) → due ≡ Some (outcome_returned ret)
returned_is_due None ret service code values bytes = absurd service
returned_is_due (Some outcome) ret service code values bytes =
    λ i. Some (record { service = service i; code = code i; val = values.val i; val2 = values.val2 i; val3 = values.val3 i; bytes = bytes i })

-- a fact about the outcome that is due
pub if_due : (due : Option Outcome) (outcome : Outcome) (fact : Outcome → Type 0) → due ≡ Some outcome → fact outcome → IfDue due fact
if_due due outcome fact is holds = subst (λ one. IfDue one fact) (sym is) holds

-- Where each piece that a record touches finds all its demands met, the record is lawful.

-- each configured partition that the record touches finds its demands met
abbrev PartitionsAgree : Configuration → State → ℕ → Body → Type 0
PartitionsAgree configuration state core body =
    (number : ℕ) → IsTrue (has_partition configuration number) → IsTrue (touched_by configuration body (OfPartition number))
    → AllHold (partition_demands configuration number state.cores (state.partitions number) core body)

-- each configured channel that the record touches finds its demands met
abbrev ChannelsAgree : Configuration → State → ℕ → Body → Type 0
ChannelsAgree configuration state core body =
    (number : ℕ) → IsTrue (has_channel configuration number) → IsTrue (touched_by configuration body (OfChannel number))
    → AllHold (channel_demands configuration (time_of state.cores core) number (state.channels number) body)

-- the choice, if the partition of the window has it and the window is of a configured partition
choice_of_all : (configuration : Configuration) (state : State) (core : ℕ) (who : Option Who) → WindowsAreConfigured configuration
    → InNoWindow (window_now configuration state.cores core) (who ≡ None)
    → ((number : ℕ) → IsTrue (has_partition configuration number)
    → InWindowOf number (window_now configuration state.cores core) (partition_choice number core (state.partitions number) ≡ who))
    → choice_of (window_now configuration state.cores core) state.partitions core ≡ who
choice_of_all configuration state core who windows idle own =
    joined_choice (window_now configuration state.cores core) state.partitions core who idle (λ number is. own number (windows core _ number is))

-- no missed deadline is left to report on a core, if the partition of its window has none left
joined_missed : (window : Option ℕ) (state : State) (core : ℕ)
    → ((number : ℕ) → window ≡ Some number → InWindowOf number window (NoneMissed state.cores core (state.partitions number))) → NoneMissedIn window state core
joined_missed None state core own = tt
joined_missed (Some number) state core own = own number refl refl

missed_of_all : (configuration : Configuration) (state : State) (core : ℕ) → WindowsAreConfigured configuration
    → ((number : ℕ) → IsTrue (has_partition configuration number)
    → InWindowOf number (window_now configuration state.cores core) (NoneMissed state.cores core (state.partitions number)))
    → MissesNone configuration state core
missed_of_all configuration state core windows own =
    joined_missed (window_now configuration state.cores core) state core (λ number is. own number (windows core _ number is))

-- a partition has no missed deadline left in its windows, if none is left on the core
own_missed : (window : Option ℕ) (state : State) (core number : ℕ) → NoneMissedIn window state core
    → InWindowOf number window (NoneMissed state.cores core (state.partitions number))
own_missed None state core number none = tt
own_missed (Some partition) state core number none = λ same. subst (λ of. NoneMissed state.cores core (state.partitions of)) same none

-- what a channel says of a call through it
says : (configuration : Configuration) (state : State) (core : ℕ) (call : CallRecord) (channel : ℕ) → call.claim.chan ≡ Some channel
    → AllHold (used_demands (is_channel channel call.claim.chan) configuration (time_of state.cores core) channel (state.channels channel) call)
    → ChannelSays (suits_use configuration channel call.who.part (use_of call.request) (state.channels channel)) (channel_answer configuration (time_of state.cores core) call.who.part call.request state.channels channel) call.claim
says configuration state core call channel is hold =
    let goes : is_channel channel call.claim.chan ≡ true = rw is (is_itself channel) in
    let of_channel = subst (λ one. AllHold (used_demands one configuration (time_of state.cores core) channel (state.channels channel) call)) goes hold in
    record { kind = of_channel.1.0; out = of_channel.1.1.0; values = of_channel.1.1.1.0; bytes = of_channel.1.1.1.1.0; woken = of_channel.1.1.1.1.1.0 }

-- a channel that a call claims is configured and touched
claimed_configured : (configuration : Configuration) (chan : Option ℕ) (channel : ℕ) → chan ≡ Some channel → ChannelConfigured configuration chan → IsTrue (has_channel configuration channel)
claimed_configured configuration None channel is names = never_found is
claimed_configured configuration (Some other) channel is names = subst (λ one. IsTrue (has_channel configuration one)) (one_item is) names

-- a call that the module, the caller's partition and the channel agree to
lawful_call : (configuration : Configuration) (state : State) (core : ℕ) (call : CallRecord)
    → AllHold (module_demands configuration state.cores core (Call call))
    → AllHold (own_call_demands configuration call.who.part state.cores (state.partitions call.who.part) core call)
    → ((channel : ℕ) → call.claim.chan ≡ Some channel
    → ChannelSays (suits_use configuration channel call.who.part (use_of call.request) (state.channels channel)) (channel_answer configuration (time_of state.cores core) call.who.part call.request state.channels channel) call.claim)
    → IsLawfulCall configuration state core call
lawful_call configuration state core call of_module own of_channel = record {
  names = of_module.0;
  deadlines = subst (λ window. NoneMissedIn window state core) (sym own.0) own.1.0;
  occupant = own.1.1.0.0;
  choice = choice_from (window_now configuration state.cores core) state.partitions core call.who own.0 own.1.1.0.1;
  due = own.1.1.1.0;
  profile = own.1.1.1.1.0;
  prio = own.1.1.1.1.1.0;
  outcome = has_outcome (conditions_of configuration (time_of state.cores core) call.who (state.partitions call.who.part) call.request)
      (channel_of (state.partitions call.who.part) call.request) call.who.part call.request
      (answer_of configuration state.cores core call.who (state.partitions call.who.part) call.request) _ _ call.claim own.1.1.1.1.1.1 of_channel;
}

-- a return that the module and the returner's partition agree to
lawful_return : (configuration : Configuration) (state : State) (core : ℕ) (ret : Return)
    → AllHold (module_demands configuration state.cores core (Ret ret))
    → AllHold (partition_demands configuration ret.who.part state.cores (state.partitions ret.who.part) core (Ret ret))
    → IsLawfulReturn configuration state core ret
lawful_return configuration state core ret of_module own = record {
  names = of_module.0;
  deadlines = subst (λ window. NoneMissedIn window state core) (sym own.0) own.1.0;
  occupant = own.1.1.0.0;
  choice = choice_from (window_now configuration state.cores core) state.partitions core ret.who own.0 own.1.1.0.1;
  due = returned_is_due (due_of (item_at (state.partitions ret.who.part).table ret.who.proc)) ret own.1.1.1.0 own.1.1.1.1.0 own.1.1.1.1.1.0 own.1.1.1.1.1.1.0;
}

-- what the channel that a record names finds of it
named_demands : (number : ℕ) (of_channel : List {1} Demand) → AllHold (where_named (nat_eq number number) of_channel) → AllHold of_channel
named_demands number of_channel hold = subst (λ one. AllHold (where_named one of_channel)) (is_itself number) hold

-- an arrival or a departure that the module and the channel agree to
lawful_arrival : (configuration : Configuration) (state : State) (core : ℕ) (crossing : Crossing) → AllHold (module_demands configuration state.cores core (Arrive crossing))
    → AllHold (arrival_demands configuration (time_of state.cores core) crossing.chan (state.channels crossing.chan) crossing) → IsLawfulArrival configuration state core crossing
lawful_arrival configuration state core crossing of_module of_channel = record { names = of_module.0; chan = of_channel.0; size = of_channel.1.0; woken = of_channel.1.1.0 }

lawful_departure : (configuration : Configuration) (state : State) (core : ℕ) (crossing : Crossing) → AllHold (module_demands configuration state.cores core (Depart crossing))
    → AllHold (departure_demands configuration (time_of state.cores core) crossing.chan (state.channels crossing.chan) crossing) → IsLawfulDeparture configuration state core crossing
lawful_departure configuration state core crossing of_module of_channel = record { names = of_module.0; chan = of_channel.0; message = of_channel.1.0; woken = of_channel.1.1.0 }

-- an error that the module and its partition agree to
lawful_error : (configuration : Configuration) (state : State) (core : ℕ) (report : ErrorReport) → AllHold (module_demands configuration state.cores core (Error report))
    → AllHold (error_demands configuration report.who.part state.cores (state.partitions report.who.part) core report) → IsLawfulError configuration state core report
lawful_error configuration state core report of_module own =
    record { names = of_module.0; window = own.0; process = can_have configuration state core report.who report.error own.0 own.1.0; restart = own.1.1.0 }

-- any record
lawful_body : (configuration : Configuration) (state : State) (core : ℕ) (body : Body) → WindowsAreConfigured configuration
    → AllHold (module_demands configuration state.cores core body) → PartitionsAgree configuration state core body
    → ChannelsAgree configuration state core body → IsLawfulBody configuration state core body
lawful_body configuration state core (Disp who) windows of_module agree channels = record {
  names = of_module.0;
  deadlines = missed_of_all configuration state core windows (λ number is. (agree number is refl).0);
  choice = choice_of_all configuration state core who windows of_module.1.0 (λ number is. (agree number is refl).1.0);
}
lawful_body configuration state core (Tick woken) windows of_module agree channels = record {
  names = of_module.0;
  skew = of_module.1.0;
  deadlines = missed_of_all configuration state core windows (λ number is. (agree number is refl).0);
  choice = choice_of_all configuration state core (occupant_of state.cores core) windows of_module.1.1.0 (λ number is. (agree number is refl).1.0);
  due = λ number is. (agree number is refl).1.1.0;
}
lawful_body configuration state core (Ret ret) windows of_module agree channels =
    lawful_return configuration state core ret of_module (agree ret.who.part of_module.0 (is_itself ret.who.part))
lawful_body configuration state core (Arrive crossing) windows of_module agree channels =
    lawful_arrival configuration state core crossing of_module (named_demands crossing.chan _ (channels crossing.chan of_module.0.1 (is_itself crossing.chan)))
lawful_body configuration state core (Depart crossing) windows of_module agree channels =
    lawful_departure configuration state core crossing of_module (named_demands crossing.chan _ (channels crossing.chan of_module.0.1 (is_itself crossing.chan)))
lawful_body configuration state core (Error report) windows of_module agree channels =
    lawful_error configuration state core report of_module (agree report.who.part of_module.0 (is_itself report.who.part))
lawful_body configuration state core (Call call) windows of_module agree channels =
    let own = agree call.who.part of_module.0.0 (first_holds _ _ (is_itself call.who.part)) in
    lawful_call configuration state core call of_module
    (subst (λ one. AllHold (call_demands one configuration call.who.part state.cores (state.partitions call.who.part) core call)) (is_itself call.who.part) own)
    (λ channel is. says configuration state core call channel is
    (channels channel (claimed_configured configuration call.claim.chan channel is of_module.0.2)
    (first_holds _ _ (ap (is_channel channel) is ∙ is_itself channel))))

-- a channel's demands, at the times that it holds
at_same_time : (configuration : Configuration) (state : State) (ordered : Ordered) (number : ℕ)
    → AllHold (demands configuration (part (OfChannel number) state) ordered)
    → AllHold (channel_demands configuration (time_of state.cores ordered.core) number (state.channels number) ordered.rec.body)
at_same_time configuration state ordered number hold =
    subst (λ now. AllHold (channel_demands configuration now number (state.channels number) ordered.rec.body)) (same_time state.cores ordered.core) hold

-- a record at the next place that all pieces agree to is lawful
pub lawful : (configuration : Configuration) (state : State) (ordered : Ordered) → WindowsAreConfigured configuration → ordered.pos ≡ state.count
    → ((piece : Piece) → IsTrue (is_configured configuration piece) → IsTrue (touches configuration piece ordered) → AllHold (demands configuration (part piece state) ordered))
    → IsLawful configuration state ordered
lawful configuration state ordered windows placed hold = record {
  placed = placed;
  claims = lawful_body configuration state ordered.core ordered.rec.body windows (hold Module refl refl)
      (λ number is touched. hold (OfPartition number) is touched)
      (λ number is touched. at_same_time configuration state ordered number (hold (OfChannel number) is touched));
}

-- Where a record is lawful, in a tied state, each piece that it touches finds all its demands met.

-- the module

-- a lawful record meets the demands of the module
pub module_demanded : (configuration : Configuration) (state : State) (core : ℕ) (body : Body) → IsLawfulBody configuration state core body
    → AllHold (module_demands configuration state.cores core body)
module_demanded configuration state core (Disp who) law =
    (law.names, (idle_choice (window_now configuration state.cores core) state.partitions core who law.choice, tt))
module_demanded configuration state core (Tick woken) law =
    (law.names, (law.skew, (idle_choice (window_now configuration state.cores core) state.partitions core (occupant_of state.cores core) law.choice, tt)))
module_demanded configuration state core (Call call) law =
    let chosen = choice_is (window_now configuration state.cores core) state.partitions core call.who law.choice in
    (law.names, (not_idle (window_now configuration state.cores core) state.partitions core call.who chosen, tt))
module_demanded configuration state core (Arrive crossing) law = (law.names, tt)
module_demanded configuration state core (Depart crossing) law = (law.names, tt)
module_demanded configuration state core (Error report) law = (law.names, tt)
module_demanded configuration state core (Ret ret) law =
    let chosen = choice_is (window_now configuration state.cores core) state.partitions core ret.who law.choice in
    (law.names, (not_idle (window_now configuration state.cores core) state.partitions core ret.who chosen, tt))

-- the processes that a call through a channel wakes

-- who is woken through a channel: by a send those who wait to receive, by a receive and when the channel is cleared those who wait to send
abbrev pub WaitsAcross : Request → (ℕ → Partition) → Configuration → ℕ → Who → Type 0
WaitsAcross (Request.QueuingPort port (QueuingOperation.Send length time_out message)) partitions configuration channel who = WaitsThere partitions configuration channel Receivers who
WaitsAcross (Request.QueuingPort port (QueuingOperation.Receive time_out)) partitions configuration channel who = WaitsThere partitions configuration channel Senders who
WaitsAcross (Request.QueuingPort port QueuingOperation.Clear) partitions configuration channel who = WaitsThere partitions configuration channel Senders who
WaitsAcross _ partitions configuration channel who = ⊥

pub across : (configuration : Configuration) (state : State) (now channel partition : ℕ) (asked : Request) → AreTied configuration state → IsTrue (suits_use configuration channel partition (use_of asked) (state.channels channel))
    → (who : Who) → is_named who (channel_answer configuration now partition asked state.channels channel).woken ≡ true → WaitsAcross asked state.partitions configuration channel who
across configuration state now channel partition (Request.QueuingPort port (QueuingOperation.Send length time_out message)) tied suited who named =
    use_wakes (WaitsAcross (Request.QueuingPort port (QueuingOperation.Send length time_out message)) state.partitions configuration channel) configuration now channel partition (Send message time_out)
    (state.channels channel) (state.channels channel).content
    (all_weaker (IsTied (λ home. IsTrue (is_receiver configuration channel home)) (channel_set channel Receivers) state.partitions) _ (λ entry tied. tied) (state.channels channel).receivers (tied.receivers channel)) who named
across configuration state now channel partition (Request.QueuingPort port (QueuingOperation.Receive time_out)) tied suited who named =
    use_wakes (WaitsAcross (Request.QueuingPort port (QueuingOperation.Receive time_out)) state.partitions configuration channel) configuration now channel partition (Receive time_out)
    (state.channels channel) (state.channels channel).content
    (all_weaker (IsTied (λ home. IsTrue (is_sender configuration channel home)) (channel_set channel Senders) state.partitions) _ (λ entry tied. tied) (state.channels channel).senders (tied.senders channel)) who named
across configuration state now channel partition (Request.QueuingPort port QueuingOperation.Clear) tied suited who named =
    use_wakes (WaitsAcross (Request.QueuingPort port QueuingOperation.Clear) state.partitions configuration channel) configuration now channel partition Clear
    (state.channels channel) (state.channels channel).content
    (all_weaker (IsTied (λ home. IsTrue (is_sender configuration channel home)) (channel_set channel Senders) state.partitions) _ (λ entry tied. tied) (state.channels channel).senders (tied.senders channel)) who named
across configuration state now channel partition (Request.SamplingPort port (SamplingOperation.Write length message)) tied suited who named =
    use_wakes (λ one. ⊥) configuration now channel partition (Write message) (state.channels channel) (state.channels channel).content tt who named
across configuration state now channel partition (Request.SamplingPort port SamplingOperation.Read) tied suited who named =
    use_wakes (λ one. ⊥) configuration now channel partition Read (state.channels channel) (state.channels channel).content tt who named
across configuration state now channel partition (Request.GetStatus kind.QueuingPort port) tied suited who named =
    use_wakes (λ one. ⊥) configuration now channel partition Ask (state.channels channel) (state.channels channel).content tt who named
across configuration state now channel partition _ tied suited who named = impossible suited

-- the two ends of a channel are of two partitions
other_end : (configuration : Configuration) (partitions : ℕ → Partition) (channel number : ℕ) (asked : Request) (who : Who) → EndsAreApart configuration
    → WaitsAtEnd asked configuration channel number → WaitsAcross asked partitions configuration channel who → who.part ≡ number → ⊥
other_end configuration partitions channel number (Request.QueuingPort port (QueuingOperation.Send length time_out message)) who ends is_member waits same =
    ends channel number is_member (subst (λ part. IsTrue (is_receiver configuration channel part)) same waits.0)
other_end configuration partitions channel number (Request.QueuingPort port (QueuingOperation.Receive time_out)) who ends is_member waits same =
    ends channel number (subst (λ part. IsTrue (is_sender configuration channel part)) same waits.0) is_member
other_end configuration partitions channel number (Request.QueuingPort port QueuingOperation.Clear) who ends is_member waits same =
    ends channel number (subst (λ part. IsTrue (is_sender configuration channel part)) same waits.0) is_member
other_end configuration partitions channel number _ who ends is_member waits same = waits

-- so a call through a channel wakes no process of its own partition
wakes_no_peer : (configuration : Configuration) (state : State) (now : ℕ) (who : Who) (asked : Request) (claim : Claim) (channel : ℕ) → EndsAreApart configuration
    → AreTied configuration state → conditions_of configuration now who (state.partitions who.part) asked ≡ [] → channel_of (state.partitions who.part) asked ≡ Some channel
    → IsThrough channel (suits_use configuration channel who.part (use_of asked) (state.channels channel)) (channel_answer configuration now who.part asked state.channels channel) claim
    → names_one_of who.part claim.woken ≡ false
wakes_no_peer configuration state now who asked claim channel ends tied none of through =
    cannot_hold (names_one_of who.part claim.woken) (λ names.
    let one = some_named who.part claim.woken names in
    other_end configuration state.partitions channel who.part asked one.0 ends
    (port_is_at_end configuration now who (state.partitions who.part) asked channel (tied.ports who.part) of none)
    (across configuration state now channel who.part asked tied through.kind one.0 (sym (through.woken one.0) ∙ one.1)) one.2)

-- the partitions

-- what a lawful call claims of its outcome meets the demands of the caller's partition
peers : (configuration : Configuration) (state : State) (core : ℕ) (call : CallRecord) → EndsAreApart configuration → AreTied configuration state
    → (conditions : List Condition) → conditions_of configuration (time_of state.cores core) call.who (state.partitions call.who.part) call.request ≡ conditions
    → (channel : Option ℕ) → channel_of (state.partitions call.who.part) call.request ≡ channel
    → ClaimsOutcome configuration state core call.who call.request call.claim conditions channel
    → AllHold (outcome_demands conditions channel call.who.part call.request
    (answer_of configuration state.cores core call.who (state.partitions call.who.part) call.request) call.claim)
peers configuration state core call ends tied (condition ∷ conditions) is channel of has =
    outcome_holds (condition ∷ conditions) channel call.who.part call.request (answer_of configuration state.cores core call.who (state.partitions call.who.part) call.request)
    (λ number. suits_use configuration number call.who.part (use_of call.request) (state.channels number)) (channel_answer configuration (time_of state.cores core) call.who.part call.request state.channels) call.claim
    (λ other suited. channel_can configuration (time_of state.cores core) other call.who.part call.request (state.channels other) suited)
    (λ other some through. (let nobody : call.claim.woken ≡ [] = has.woken in ap (names_one_of call.who.part) nobody)) has
peers configuration state core call ends tied [] is channel of has =
    outcome_holds [] channel call.who.part call.request (answer_of configuration state.cores core call.who (state.partitions call.who.part) call.request)
    (λ number. suits_use configuration number call.who.part (use_of call.request) (state.channels number)) (channel_answer configuration (time_of state.cores core) call.who.part call.request state.channels) call.claim
    (λ other suited. channel_can configuration (time_of state.cores core) other call.who.part call.request (state.channels other) suited)
    (λ other some through. wakes_no_peer configuration state (time_of state.cores core) call.who call.request call.claim other ends tied is (of ∙ some) through) has

-- the partition of the caller
own_call_demanded : (configuration : Configuration) (state : State) (core : ℕ) (call : CallRecord) → EndsAreApart configuration → AreTied configuration state
    → IsLawfulCall configuration state core call
    → AllHold (own_call_demands configuration call.who.part state.cores (state.partitions call.who.part) core call)
own_call_demanded configuration state core call ends tied law =
    let chosen = choice_is (window_now configuration state.cores core) state.partitions core call.who law.choice in (
      chosen.of,
      (
        subst (λ window. NoneMissedIn window state core) chosen.of law.deadlines,
        (
          (law.occupant, chosen.choice),
          (
            law.due,
            (
              law.profile,
              (
                law.prio,
                peers configuration state core call ends tied (conditions_of configuration (time_of state.cores core) call.who (state.partitions call.who.part) call.request) refl
                    (channel_of (state.partitions call.who.part) call.request) refl law.outcome,
              ),
            ),
          ),
        ),
      ),
    )

-- those of a list that are of this partition wait in the set
all_wait : (partitions : ℕ → Partition) (number : ℕ) (wanted : WaitingSet) (others : List Who)
    → ((who : Who) → is_named who others ≡ true → IsTrue (waits_at wanted (found partitions who))) → AllWaitAt wanted number (partitions number).table others
all_wait partitions number wanted [] wait = tt
all_wait partitions number wanted (who ∷ others) wait = (
  λ same. subst (λ part. IsTrue (waits_at wanted (item_at (partitions part).table who.proc))) same (wait who (first_holds _ _ (same_itself who))),
  all_wait partitions number wanted others (λ one named. wait one (later_holds _ _ named)),
)

-- a call through a channel that names one of these processes wakes it there
wakes_here : (partitions : ℕ → Partition) (configuration : Configuration) (asked : Request) (channel number : ℕ) (others : List Who) → names_one_of number others ≡ true
    → ((who : Who) → is_named who others ≡ true → WaitsAcross asked partitions configuration channel who)
    → WakesHere asked (Some channel) number (partitions number).table others
wakes_here partitions configuration (Request.QueuingPort port (QueuingOperation.Send length time_out message)) channel number others names wait =
    all_wait partitions number (channel_set channel Receivers) others (λ who named. (wait who named).1)
wakes_here partitions configuration (Request.QueuingPort port (QueuingOperation.Receive time_out)) channel number others names wait =
    all_wait partitions number (channel_set channel Senders) others (λ who named. (wait who named).1)
wakes_here partitions configuration (Request.QueuingPort port QueuingOperation.Clear) channel number others names wait =
    all_wait partitions number (channel_set channel Senders) others (λ who named. (wait who named).1)
wakes_here partitions configuration _ channel number others names wait = let one = some_named number others names in absurd (wait one.0 one.1)

-- a lawful call of another partition that names one of these processes goes through the channel at which it waits
foreign_wakes : (configuration : Configuration) (state : State) (core : ℕ) (call : CallRecord) (number : ℕ) → AreTied configuration state
    → nat_eq call.who.part number ≡ false → names_one_of number call.claim.woken ≡ true → (conditions : List Condition) (channel : Option ℕ)
    → ClaimsOutcome configuration state core call.who call.request call.claim conditions channel
    → WakesHere call.request call.claim.chan number (state.partitions number).table call.claim.woken
foreign_wakes configuration state core call number tied foreign names (condition ∷ conditions) channel has =
    absurd (true≢false (sym names ∙ ap (names_one_of number) has.woken))
foreign_wakes configuration state core call number tied foreign names [] None has =
    let one = some_named number call.claim.woken names in
    let by = woken configuration state core call.who call.request call.claim tied [] None has one.0 one.1 in
    absurd (true≢false (sym (eq-eqb call.who.part number (sym (by.own has.chan) ∙ one.2)) ∙ foreign))
foreign_wakes configuration state core call number tied foreign names [] (Some channel) has =
    subst (λ chan. WakesHere call.request chan number (state.partitions number).table call.claim.woken) (sym has.chan)
    (wakes_here state.partitions configuration call.request channel number call.claim.woken names
    (λ who named. across configuration state (time_of state.cores core) channel call.who.part call.request tied has.kind who (sym (has.woken who) ∙ named)))

-- in the windows of the caller's partition the window is no other's
foreign_window : (window : Option ℕ) (partitions : ℕ → Partition) (core : ℕ) (who : Who) (number : ℕ) (Demanded : Type 0) → IsChoice window partitions core who
    → nat_eq who.part number ≡ false → InWindowOf number window Demanded
foreign_window None partitions core who number Demanded chosen foreign = tt
foreign_window (Some partition) partitions core who number Demanded chosen foreign =
    λ same. (let own = one_item chosen.of in
    absurd (true≢false (sym (eq-eqb who.part number (sym own ∙ same)) ∙ foreign)))

-- each partition that a call touches
call_demanded : (configuration : Configuration) (state : State) (core : ℕ) (call : CallRecord) → EndsAreApart configuration → AreTied configuration state
    → IsLawfulCall configuration state core call
    → (number : ℕ) (own : Bool) → nat_eq call.who.part number ≡ own → (own || names_one_of number call.claim.woken) ≡ true
    → AllHold (call_demands own configuration number state.cores (state.partitions number) core call)
call_demanded configuration state core call ends tied law number true is touched =
    subst (λ of. AllHold (own_call_demands configuration of state.cores (state.partitions of) core call))
    (eqb-true call.who.part number is) (own_call_demanded configuration state core call ends tied law)
call_demanded configuration state core call ends tied law number false is touched = (
  own_missed (window_now configuration state.cores core) state core number law.deadlines,
  (
    foreign_window (window_now configuration state.cores core) state.partitions core call.who number
        (IsRunning number state.cores (state.partitions number) core call.who)
        (choice_is (window_now configuration state.cores core) state.partitions core call.who law.choice) is,
    (
      foreign_wakes configuration state core call number tied is touched
          (conditions_of configuration (time_of state.cores core) call.who (state.partitions call.who.part) call.request)
          (channel_of (state.partitions call.who.part) call.request) law.outcome,
      tt,
    ),
  ),
)

-- the partition of the returner
return_demanded : (configuration : Configuration) (state : State) (core : ℕ) (ret : Return) → IsLawfulReturn configuration state core ret
    → AllHold (partition_demands configuration ret.who.part state.cores (state.partitions ret.who.part) core (Ret ret))
return_demanded configuration state core ret law =
    let due = due_of (item_at (state.partitions ret.who.part).table ret.who.proc) in
    let chosen = choice_is (window_now configuration state.cores core) state.partitions core ret.who law.choice in (
      chosen.of,
      (
        subst (λ window. NoneMissedIn window state core) chosen.of law.deadlines,
        (
          (law.occupant, chosen.choice),
          (
            if_due due (outcome_returned ret) (λ outcome. outcome.service ≡ ret.service) law.due refl,
            (
              if_due due (outcome_returned ret) (λ outcome. outcome.code ≡ ret.code) law.due refl,
              (
                if_due due (outcome_returned ret) (λ outcome. ReturnsValues outcome ret) law.due (record { val = refl; val2 = refl; val3 = refl }),
                (if_due due (outcome_returned ret) (λ outcome. outcome.bytes ≡ ret.bytes) law.due refl, tt),
              ),
            ),
          ),
        ),
      ),
    )

-- a lawful record meets the demands of each partition that it touches
partition_demanded : (configuration : Configuration) (state : State) (core : ℕ) (body : Body) → EndsAreApart configuration → AreTied configuration state
    → IsLawfulBody configuration state core body
    → (number : ℕ) → IsTrue (has_partition configuration number) → IsTrue (touched_by configuration body (OfPartition number))
    → AllHold (partition_demands configuration number state.cores (state.partitions number) core body)
partition_demanded configuration state core (Disp who) ends tied law number is touched =
    (own_missed (window_now configuration state.cores core) state core number law.deadlines, (own_choice (window_now configuration state.cores core) state.partitions core who number law.choice, tt))
partition_demanded configuration state core (Tick woken) ends tied law number is touched = (
  own_missed (window_now configuration state.cores core) state core number law.deadlines,
  (own_choice (window_now configuration state.cores core) state.partitions core (occupant_of state.cores core) number law.choice, (law.due number is, tt)),
)
partition_demanded configuration state core (Call call) ends tied law number is touched =
    call_demanded configuration state core call ends tied law number (nat_eq call.who.part number) refl touched
partition_demanded configuration state core (Arrive crossing) ends tied law number is touched =
    (all_wait state.partitions number (channel_set crossing.chan Receivers) crossing.woken (λ who named. (arrival_wakes configuration state core crossing tied law who named).1), tt)
partition_demanded configuration state core (Depart crossing) ends tied law number is touched =
    (all_wait state.partitions number (channel_set crossing.chan Senders) crossing.woken (λ who named. (departure_wakes configuration state core crossing tied law who named).1), tt)
partition_demanded configuration state core (Error report) ends tied law number is touched =
    subst (λ of. AllHold (error_demands configuration of state.cores (state.partitions of) core report))
    (eqb-true report.who.part number touched) (law.window, (have_demanded configuration state core report.who report.error law.process, (law.restart, tt)))
partition_demanded configuration state core (Ret ret) ends tied law number is touched =
    subst (λ of. AllHold (partition_demands configuration of state.cores (state.partitions of) core (Ret ret)))
    (eqb-true ret.who.part number touched) (return_demanded configuration state core ret law)

-- the channels

-- the caller of a lawful call waits in no set
pub caller_in_no_set : (configuration : Configuration) (state : State) (core : ℕ) (call : CallRecord) → AreTied configuration state
    → IsLawfulCall configuration state core call → (Home : ℕ → Type 0) (wanted : WaitingSet) (entries : List Entry) → AllEntries (IsTied Home wanted state.partitions) entries
    → has_entry_in call.who entries ≡ false
caller_in_no_set configuration state core call tied law Home wanted entries all =
    let ready = chosen_exists (window_now configuration state.cores core) state.partitions core call.who (tied.distinct call.who.part) law.choice in
    member_not (λ who. Home who.part × IsTrue (waits_at wanted (found state.partitions who))) call.who
    (λ waits. ready_waits_not core (found state.partitions call.who) wanted ready waits.1) entries all

-- the channel of a test that holds
pub goes_to : (number : ℕ) (chan : Option ℕ) → is_channel number chan ≡ true → chan ≡ Some number
goes_to number None goes = impossible goes
goes_to number (Some channel) goes = ap Some (eqb-true channel number goes)

-- the channel that a call claims, and another
used_demanded : (configuration : Configuration) (state : State) (core : ℕ) (call : CallRecord) → AreTied configuration state
    → IsLawfulCall configuration state core call → (number : ℕ) (goes : Bool) → is_channel number call.claim.chan ≡ goes
    → AllHold (used_demands goes configuration (time_of state.cores core) number (state.channels number) call)
used_demanded configuration state core call tied law number false is = tt
used_demanded configuration state core call tied law number true is =
    let through = through_claimed _ _ _ _ _ call.claim number (goes_to number call.claim.chan is) law.outcome in (
      neither (has_entry_in call.who (state.channels number).senders) (has_entry_in call.who (state.channels number).receivers)
          (caller_in_no_set configuration state core call tied law (λ home. IsTrue (is_sender configuration number home)) (channel_set number Senders) (state.channels number).senders (tied.senders number))
          (caller_in_no_set configuration state core call tied law (λ home. IsTrue (is_receiver configuration number home)) (channel_set number Receivers) (state.channels number).receivers (tied.receivers number)),
      (through.kind, (through.out, (through.values, (through.bytes, (through.woken, tt))))),
    )

-- the channel that a record names, and another
named_demanded : (of : ℕ → List {1} Demand) (chan number : ℕ) → AllHold (of chan) → AllHold (where_named (nat_eq chan number) (of number))
named_demanded of chan number hold = by (nat_eq chan number) refl
  where
    by : (here : Bool) → nat_eq chan number ≡ here → AllHold (where_named here (of number))
    by true is = subst (λ one. AllHold (of one)) (eqb-true chan number is) hold
    by false is = tt

-- a lawful record meets the demands of each channel
channel_demanded : (configuration : Configuration) (state : State) (core : ℕ) (body : Body) → AreTied configuration state
    → IsLawfulBody configuration state core body → (number : ℕ)
    → AllHold (channel_demands configuration (time_of state.cores core) number (state.channels number) body)
channel_demanded configuration state core (Call call) tied law number = used_demanded configuration state core call tied law number (is_channel number call.claim.chan) refl
channel_demanded configuration state core (Arrive crossing) tied law number =
    named_demanded (λ one. arrival_demands configuration (time_of state.cores core) one (state.channels one) crossing) crossing.chan number (law.chan, (law.size, (law.woken, tt)))
channel_demanded configuration state core (Depart crossing) tied law number =
    named_demanded (λ one. departure_demands configuration (time_of state.cores core) one (state.channels one) crossing) crossing.chan number (law.chan, (law.message, (law.woken, tt)))
channel_demanded configuration state core (Disp who) tied law number = tt
channel_demanded configuration state core _ tied law number = tt

-- a lawful record meets the demands of each piece that it touches
pub demanded : (configuration : Configuration) (state : State) (ordered : Ordered) → EndsAreApart configuration → AreTied configuration state
    → IsLawful configuration state ordered
    → (piece : Piece) → IsTrue (is_configured configuration piece) → IsTrue (touches configuration piece ordered)
    → AllHold (demands configuration (part piece state) ordered)
demanded configuration state ordered ends tied law Module is touched = module_demanded configuration state ordered.core ordered.rec.body law.claims
demanded configuration state ordered ends tied law (OfPartition number) is touched =
    partition_demanded configuration state ordered.core ordered.rec.body ends tied law.claims number is touched
demanded configuration state ordered ends tied law (OfChannel number) is touched =
    subst (λ now. AllHold (channel_demands configuration now number (state.channels number) ordered.rec.body)) (sym (same_time state.cores ordered.core))
    (channel_demanded configuration state ordered.core ordered.rec.body tied law.claims number)

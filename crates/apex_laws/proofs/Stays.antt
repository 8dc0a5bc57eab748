-- A run's states stay tied, and their waiting sets in order.
use Rattle.std.proofs.Common.{◌≡◌, ℕ, List, [], ◌∷◌, true, false, nat_eq, Option, Some, None, IsTrue, refl, sym, ap, subst, ◌∙◌, true≢false, suc, ◌<◌, ◌++◌, Bool, arith}
use Rattle.std.proofs.lemmas.Bool.{eqb-true}
use Rattle.apex_types.specs.declared.object_kind.ObjectKind.TheVariants as kind
use Rattle.apex_laws.proofs.Common.{AllEntries, AllPairs, AllPorts, AreApart, AreTied, Body, Call, CallRecord, Condition, Configuration, CoreState, Disp, End, Entry, IsAtEnd, IsEarlier, IsInOrder, IsLawfulBody, IsLawfulCall, IsTied, Mode}
use Rattle.apex_laws.proofs.Common.{ObjectKind, Ordered, OrderIsApart, Partition, Receivers, Request, Ret, Run, Senders, SetsAreInOrder, State, StaysInOrder, StaysTied, Step, Tick, WaitingSet, WaitsIn, Who, channel_of}
use Rattle.apex_laws.proofs.Common.{channel_set, cold_state, conditions_of, ends_wait, enters, entries_at, entry_of, has_entry_in, is_named, is_of_channel, is_receiver, is_same, is_sender, objects_by, partition_by}
use Rattle.apex_laws.proofs.Common.{partition_called, set_after, without}
use Rattle.apex_laws.proofs.Common.{Arrive, Depart, End, StartCondition, enters_lock, lock_waiters_after, time_of, Error, first_core}
use Rattle.apex_laws.proofs.Wakes.{WaitsThere, arrival_wakes, departure_wakes, waits_nowhere_else}
use Rattle.apex_laws.proofs.Booleans.{by_test, cannot_hold, holds_if, neither_first, neither_later, never_found}
use Rattle.apex_laws.proofs.Demanded.{caller_in_no_set}
use Rattle.apex_laws.proofs.Dormant.{dormant_by, start_dormant}
use Rattle.apex_laws.proofs.ForeignCalls.{goes_on_here}
use Rattle.apex_laws.proofs.LockTies.{caller_in_no_lock, lock_tied}
use Rattle.apex_laws.proofs.Ends.{port_is_at_end, ports_after, WaitsAtEnd}
use Rattle.apex_laws.proofs.Distinct.{distinct_by, lawful_values}
use Rattle.apex_laws.proofs.Keeps.{calls_ready, each_entry, entered_waits, EntersWith, IsElsewhere, LeavesSets, keeps_waiting, leaves, lock_set_after, one_set_after, ready_call, error_ends_none}
use Rattle.apex_laws.proofs.Objects.{of_objects}
use Rattle.apex_laws.proofs.Restarts.{call_case, done_case, return_case, start_set, error_case}
use Rattle.apex_laws.proofs.SetNames.{off_channel}
use Rattle.apex_laws.proofs.Waiters.{all_push, all_weaker, all_without}
use Rattle.apex_laws.proofs.WaitersOf.{same_is, same_itself}
use Rattle.apex_laws.proofs.Wakes.{ClaimsOutcome, entering_is_the_sentence, found, woken}

-- A step keeps a state tied, and so does a run.

-- one law for every waiting set

-- the partitions after a record
abbrev Next : Configuration → State → ℕ → ℕ → Body → ℕ → Partition
Next configuration state place core body number = partition_by configuration state.cores place core number body (state.partitions number)

-- an entry whose wait goes on is tied afterwards
tied_after : (configuration : Configuration) (state : State) (place core : ℕ) (body : Body) → AreTied configuration state
    → IsLawfulBody configuration state core body → (Home : ℕ → Type 0) (wanted : WaitingSet) (entry : Entry) → leaves body entry.who ≡ false
    → IsTied Home wanted state.partitions entry → IsTied Home wanted (Next configuration state place core body) entry
tied_after configuration state place core body tied law Home wanted entry stays is = (
  is.0,
  keeps_waiting configuration state.cores place core body (state.partitions entry.who.part) entry.who wanted
      (calls_ready configuration state core body tied law entry.who.part) stays is.1,
)

-- a caller that enters is at home there
abbrev EntersAtHome : Body → (ℕ → Type 0) → WaitingSet → Type 0
EntersAtHome (Call call) Home wanted = enters call wanted ≡ true → Home call.who.part
EntersAtHome _ Home wanted = Unit {0}

-- it waits there
enters_tied : (configuration : Configuration) (state : State) (place core : ℕ) (body : Body) → AreTied configuration state
    → IsLawfulBody configuration state core body → (Home : ℕ → Type 0) (wanted : WaitingSet) → EntersAtHome body Home wanted
    → EntersWith place body wanted (IsTied Home wanted (Next configuration state place core body))
enters_tied configuration state place core (Call call) tied law Home wanted home =
    λ here. (home here, entered_waits configuration state.cores place core call (state.partitions call.who.part) (ready_call configuration state core call tied law) wanted here)
enters_tied configuration state place core _ tied law Home wanted home = tt

-- the entries in a set after a record are tied
set_tied : (configuration : Configuration) (state : State) (place core : ℕ) (body : Body) → AreTied configuration state
    → IsLawfulBody configuration state core body → (Home : ℕ → Type 0) (wanted : WaitingSet) → EntersAtHome body Home wanted
    → (entries : List Entry) → AllEntries (IsTied Home wanted state.partitions) entries
    → AllEntries (IsTied Home wanted (Next configuration state place core body)) (set_after place body wanted entries)
set_tied configuration state place core body tied law Home wanted home entries all =
    each_entry (IsTied Home wanted state.partitions) (IsTied Home wanted (Next configuration state place core body)) place body wanted
    (tied_after configuration state place core body tied law Home wanted) (enters_tied configuration state place core body tied law Home wanted home) entries all

-- a call of another partition ends no wait in a set of this one

-- an entry of a set of this partition stays
stays_here : (configuration : Configuration) (state : State) (core : ℕ) (call : CallRecord) → AreTied configuration state
    → IsLawfulCall configuration state core call → (number : ℕ) → nat_eq call.who.part number ≡ false
    → (wanted : WaitingSet) → is_of_channel wanted ≡ false
    → (entry : Entry) → IsTied (λ home. home ≡ number) wanted state.partitions entry → ends_wait call entry.who ≡ false
stays_here configuration state core call tied law number elsewhere wanted off entry is =
    goes_on_here configuration state core call tied law number elsewhere entry.who is.0
    (λ other of_channel also. true≢false (sym of_channel ∙ off_channel wanted other (found state.partitions entry.who) off is.1 also))

-- a record that ends waits at a channel alone ends none in a set of a partition
crossed_set : (configuration : Configuration) (state : State) (place core : ℕ) (body : Body) → AreTied configuration state
    → IsLawfulBody configuration state core body → (number : ℕ) (wanted : WaitingSet) (end : End) (channel : ℕ)
    → ((who : Who) → leaves body who ≡ true → WaitsThere state.partitions configuration channel end who)
    → AllEntries (IsTied (λ home. home ≡ number) wanted state.partitions) (entries_at (state.partitions number) wanted)
    → AllEntries (IsTied (λ home. home ≡ number) wanted (Next configuration state place core body)) (entries_at (state.partitions number) wanted)
crossed_set configuration state place core body tied law number wanted end channel waits all =
    of_objects (IsTied (λ home. home ≡ number) wanted (Next configuration state place core body)) (state.partitions number) wanted (λ off.
    all_weaker (IsTied (λ home. home ≡ number) wanted state.partitions) (IsTied (λ home. home ≡ number) wanted (Next configuration state place core body))
    (λ entry is. tied_after configuration state place core body tied law (λ home. home ≡ number) wanted entry
    (cannot_hold (leaves body entry.who) (λ named.
    true≢false (sym (ap is_of_channel (waits_nowhere_else state.partitions configuration channel end wanted entry.who (waits entry.who named) is.1)) ∙ off))) is)
    (entries_at (state.partitions number) wanted) all)

foreign_set : (configuration : Configuration) (state : State) (place core : ℕ) (body : Body) → AreTied configuration state
    → IsLawfulBody configuration state core body → (number : ℕ) → LeavesSets configuration number body → (wanted : WaitingSet)
    → AllEntries (IsTied (λ home. home ≡ number) wanted state.partitions) (entries_at (state.partitions number) wanted)
    → AllEntries (IsTied (λ home. home ≡ number) wanted (Next configuration state place core body)) (entries_at (state.partitions number) wanted)
foreign_set configuration state place core (Call call) tied law number elsewhere wanted all =
    let Then : Entry → Type 0 = IsTied (λ home. home ≡ number) wanted (Next configuration state place core (Call call)) in
    of_objects Then (state.partitions number) wanted (λ off.
    all_weaker (IsTied (λ home. home ≡ number) wanted state.partitions) Then
    (λ entry is. tied_after configuration state place core (Call call) tied law (λ home. home ≡ number) wanted entry
    (stays_here configuration state core call tied law number elsewhere wanted off entry is) is) (entries_at (state.partitions number) wanted) all)
foreign_set configuration state place core (Arrive crossing) tied law number elsewhere wanted all =
    crossed_set configuration state place core (Arrive crossing) tied law number wanted Receivers crossing.chan (arrival_wakes configuration state core crossing tied law) all
foreign_set configuration state place core (Depart crossing) tied law number elsewhere wanted all =
    crossed_set configuration state place core (Depart crossing) tied law number wanted Senders crossing.chan (departure_wakes configuration state core crossing tied law) all
foreign_set configuration state place core (Error report) tied law number elsewhere wanted all =
    let Then : Entry → Type 0 = IsTied (λ home. home ≡ number) wanted (Next configuration state place core (Error report)) in
    all_weaker (IsTied (λ home. home ≡ number) wanted state.partitions) Then
    (λ entry is. tied_after configuration state place core (Error report) tied law (λ home. home ≡ number) wanted entry (error_ends_none configuration core number report (state.partitions number) entry.who
    (calls_ready configuration state core (Error report) tied law number) elsewhere is.0) is) (entries_at (state.partitions number) wanted) all
foreign_set configuration state place core _ tied law number elsewhere wanted all = absurd elsewhere

-- a caller that enters a set of its partition is at home there
at_home : (body : Body) (number : ℕ) (wanted : WaitingSet) → (IsElsewhere number body → ⊥) → EntersAtHome body (λ home. home ≡ number) wanted
at_home (Call call) number wanted own = λ here. eqb-true call.who.part number (holds_if (nat_eq call.who.part number) own)
at_home _ number wanted own = tt

-- which processes have an entry in a set of a partition after a record
own_set : (configuration : Configuration) (state : State) (place core : ℕ) (body : Body) → AreTied configuration state
    → IsLawfulBody configuration state core body → (number : ℕ) (wanted : WaitingSet)
    → AllEntries (IsTied (λ home. home ≡ number) wanted (Next configuration state place core body)) (entries_at (Next configuration state place core body number) wanted)
own_set configuration state place core body tied law number wanted =
    one_set_after (AllEntries (IsTied (λ home. home ≡ number) wanted state.partitions)) (AllEntries (IsTied (λ home. home ≡ number) wanted (Next configuration state place core body)))
    configuration state.cores place core number body (state.partitions number) wanted tt
    (λ own entries all. set_tied configuration state place core body tied law (λ home. home ≡ number) wanted (at_home body number wanted own) entries all)
    (λ elsewhere all. foreign_set configuration state place core body tied law number elsewhere wanted all) (tied.objects number wanted)

-- the sets of a channel

-- the end at which a caller enters a channel's set
home_of : (configuration : Configuration) (state : State) (core : ℕ) (call : CallRecord) → AreTied configuration state
    → IsLawfulCall configuration state core call → (channel : ℕ) → call.claim.chan ≡ Some channel → WaitsAtEnd call.request configuration channel call.who.part
home_of configuration state core call tied law channel is =
    by (conditions_of configuration (time_of state.cores core) call.who (state.partitions call.who.part) call.request) refl (channel_of (state.partitions call.who.part) call.request) refl law.outcome
  where
    by : (conditions : List Condition) → conditions_of configuration (time_of state.cores core) call.who (state.partitions call.who.part) call.request ≡ conditions
        → (of : Option ℕ) → channel_of (state.partitions call.who.part) call.request ≡ of
        → ClaimsOutcome configuration state core call.who call.request call.claim conditions of
        → WaitsAtEnd call.request configuration channel call.who.part
    by (condition ∷ conditions) none of at has = never_found (sym has.chan ∙ is)
    by [] none None at has = never_found (sym has.chan ∙ is)
    by [] none (Some other) at has =
        port_is_at_end configuration (time_of state.cores core) call.who (state.partitions call.who.part) call.request channel (tied.ports call.who.part) (at ∙ sym has.chan ∙ is) none

-- the partition of a caller that enters a set of this kind at this end: that at the channel's end, if it is a channel's
abbrev IsHomeAt : ObjectKind → End → Configuration → ℕ → ℕ → Type 0
IsHomeAt kind.QueuingPort Senders configuration number partition = IsTrue (is_sender configuration number partition)
IsHomeAt kind.QueuingPort Receivers configuration number partition = IsTrue (is_receiver configuration number partition)
IsHomeAt _ _ configuration number partition = Unit {0}

-- the partition of a caller that enters a set
abbrev IsHomeOf : Configuration → WaitingSet → ℕ → Type 0
IsHomeOf configuration wanted partition = IsHomeAt wanted.kind wanted.end configuration wanted.number partition

-- who enters a channel's set does so by its service, through that channel
home_by : {asked : Request} {chan : Option ℕ} {wanted : WaitingSet} → WaitsIn asked chan wanted → (configuration : Configuration) (partition : ℕ)
    → ((channel : ℕ) → chan ≡ Some channel → WaitsAtEnd asked configuration channel partition) → IsHomeOf configuration wanted partition
home_by (WaitsIn.sends_through {channel = channel}) configuration partition is_member = is_member channel refl
home_by (WaitsIn.receives_through {channel = channel}) configuration partition is_member = is_member channel refl
home_by _ configuration partition is_member = tt

enters_at_end : (configuration : Configuration) (state : State) (core : ℕ) (body : Body) → AreTied configuration state → IsLawfulBody configuration state core body
    → (wanted : WaitingSet) → EntersAtHome body (IsHomeOf configuration wanted) wanted
enters_at_end configuration state core (Call call) tied law wanted = λ here.
    home_by ((entering_is_the_sentence call wanted).0 here).1 configuration call.who.part (λ channel is. home_of configuration state core call tied law channel is)
enters_at_end configuration state core _ tied law wanted = tt

-- the ports

called_ports : (configuration : Configuration) (state : State) (place core : ℕ) (call : CallRecord) (number : ℕ) → call.who.part ≡ number
    → AllPorts (λ port. IsAtEnd configuration number port.direction port.channel) (state.partitions number).queuing_ports
    → AllPorts (λ port. IsAtEnd configuration number port.direction port.channel) (partition_called configuration state.cores place core call (state.partitions number)).queuing_ports
called_ports configuration state place core call number here all =
    done_case (λ next. AllPorts (λ port. IsAtEnd configuration number port.direction port.channel) next.queuing_ports) configuration call (state.partitions number)
    (λ done. subst (λ one. AllPorts (λ port. IsAtEnd configuration one port.direction port.channel) (objects_by configuration call.who call.claim.val call.request (state.partitions number)).queuing_ports) here
    (ports_after configuration call.who call.claim.val call.request (state.partitions number)
    (subst (λ one. AllPorts (λ port. IsAtEnd configuration one port.direction port.channel) (state.partitions number).queuing_ports) (sym here) all))) all

ports_by : (configuration : Configuration) (state : State) (place core : ℕ) (body : Body) (number : ℕ)
    → AllPorts (λ port. IsAtEnd configuration number port.direction port.channel) (state.partitions number).queuing_ports
    → AllPorts (λ port. IsAtEnd configuration number port.direction port.channel) (Next configuration state place core body number).queuing_ports
ports_by configuration state place core (Disp who) number all = all
ports_by configuration state place core (Tick woken) number all = all
ports_by configuration state place core (Ret ret) number all =
    return_case (λ next. AllPorts (λ port. IsAtEnd configuration number port.direction port.channel) next.queuing_ports) configuration state.cores place core number ret (state.partitions number) all all
ports_by configuration state place core (Arrive crossing) number all = all
ports_by configuration state place core (Depart crossing) number all = all
ports_by configuration state place core (Error report) number all =
    error_case (λ next. AllPorts (λ port. IsAtEnd configuration number port.direction port.channel) next.queuing_ports) configuration state.cores place core number report (state.partitions number)
    (λ own none. all) (λ own restart is. tt) (λ elsewhere. all)
ports_by configuration state place core (Call call) number all =
    call_case (λ next. AllPorts (λ port. IsAtEnd configuration number port.direction port.channel) next.queuing_ports) configuration state.cores place core number call (state.partitions number)
    (λ own none. called_ports configuration state place core call number (eqb-true call.who.part number own) all) (λ own restart is. tt) (λ elsewhere. all)

-- the whole state

-- a step keeps a state tied
pub step_tied : (configuration : Configuration) (state : State) (ordered : Ordered) (next : State)
    → AreTied configuration state → Step configuration state ordered next → AreTied configuration next
step_tied configuration state ordered next tied step =
    let place = ordered.pos in
    let core = ordered.core in
    let body = ordered.rec.body in
    let law = step.0.claims in
    subst (AreTied configuration) (sym step.1) (record {
      distinct = λ number. distinct_by configuration state.cores place core number body (state.partitions number) (lawful_values configuration state core body law number) (tied.distinct number);
      objects = λ number wanted. own_set configuration state place core body tied law number wanted;
      locks = λ number. lock_tied configuration state place core body tied law number;
      senders = λ number. set_tied configuration state place core body tied law (λ home. IsTrue (is_sender configuration number home)) (channel_set number Senders)
          (enters_at_end configuration state core body tied law (channel_set number Senders)) (state.channels number).senders (tied.senders number);
      receivers = λ number. set_tied configuration state place core body tied law (λ home. IsTrue (is_receiver configuration number home)) (channel_set number Receivers)
          (enters_at_end configuration state core body tied law (channel_set number Receivers)) (state.channels number).receivers (tied.receivers number);
      ports = λ number. ports_by configuration state place core body number (tied.ports number);
      dormant = λ number. dormant_by configuration state.cores place core number body (state.partitions number) (calls_ready configuration state core body tied law number) (tied.dormant number);
    })

-- so does a run
pub run_tied : (configuration : Configuration) (records : List Ordered) (state final : State)
    → AreTied configuration state → Run configuration state records final → AreTied configuration final
run_tied configuration [] state final tied run = subst (AreTied configuration) (sym run) tied
run_tied configuration (ordered ∷ others) state final tied run =
    run_tied configuration others run.0 final (step_tied configuration state ordered run.0 tied run.1) run.2

-- a run from a tied state keeps what each step keeps
pub run_keeps : (Fact : State → Type 0)
    → ((configuration : Configuration) (state : State) (ordered : Ordered) (next : State) → AreTied configuration state → Fact state → Step configuration state ordered next → Fact next)
    → (configuration : Configuration) (records : List Ordered) (state final : State) → AreTied configuration state → Fact state → Run configuration state records final → Fact final
run_keeps Fact step configuration [] state final tied fact run = subst Fact (sym run) fact
run_keeps Fact step configuration (ordered ∷ others) state final tied fact run =
    run_keeps Fact step configuration others run.0 final (step_tied configuration state ordered run.0 tied run.1) (step configuration state ordered run.0 tied fact run.1) run.2

-- no entry is in a set of a cold partition
cold_sets : (configuration : Configuration) (number : ℕ) (wanted : WaitingSet) (Fact : Entry → Type 0) → AllEntries Fact (entries_at ((cold_state configuration).partitions number) wanted)
cold_sets configuration number wanted Fact = subst (AllEntries Fact) (sym (start_set StartCondition.NormalStart Mode.ColdStart configuration number 0 wanted)) tt

-- the cold state is tied
pub cold_tied : (configuration : Configuration) → AreTied configuration (cold_state configuration)
cold_tied configuration = record {
  distinct = λ number. refl;
  objects = λ number wanted. cold_sets configuration number wanted _;
  locks = λ number. tt;
  senders = λ number. tt;
  receivers = λ number. tt;
  ports = λ number. tt;
  dormant = λ number. start_dormant Mode.ColdStart (first_core configuration number) 0;
}

pub stays_tied : StaysTied
stays_tied = (cold_tied, step_tied, run_tied)

-- The entries of every waiting set stay in order.

-- one set

-- those who stay
pairs_without : (Fact : Entry → Entry → Type 0) (leaves : Who → Bool) (entries : List Entry) → AllPairs Fact entries → AllPairs Fact (without leaves entries)
pairs_without Fact leaves [] all = tt
pairs_without Fact leaves (entry ∷ entries) all =
    by_test (AllPairs Fact) (leaves entry.who) (without leaves entries) (entry ∷ without leaves entries)
    (λ goes. pairs_without Fact leaves entries all.1)
    (λ stays. (all_without (Fact entry) (Fact entry) leaves (λ other stays fact. fact) entries all.0, pairs_without Fact leaves entries all.1))

-- one more at the end
pairs_push : (Fact : Entry → Entry → Type 0) (entries : List Entry) (entry : Entry) → AllPairs Fact entries → AllEntries (λ other. Fact other entry) entries
    → AllPairs Fact (entries ++ entry ∷ [])
pairs_push Fact [] entry all last = (tt, tt)
pairs_push Fact (other ∷ entries) entry all last = (all_push (Fact other) entries entry all.0 last.0, pairs_push Fact entries entry all.1 last.1)

-- a process that has no entry is different from that of each entry
is_other : (who : Who) (other : Who) → is_same who other ≡ false → is_same other who ≡ false
is_other who other differs =
    cannot_hold (is_same other who) (λ same. true≢false (sym (subst (λ one. is_same who one ≡ true) (sym (same_is other who same)) (same_itself who)) ∙ differs))

others : (who : Who) (entries : List Entry) → has_entry_in who entries ≡ false → AllEntries (λ other. is_same other.who who ≡ false) entries
others who [] none = tt
others who (entry ∷ entries) none = (is_other who entry.who (neither_first _ _ none), others who entries (neither_later _ _ none))

-- each entry of a set is earlier than the next caller's
earlier : (count : ℕ) (entry : Entry) → entry.place ≡ count → (entries : List Entry) → AllEntries (λ other. other.place < count) entries
    → AllEntries (λ other. is_same other.who entry.who ≡ false) entries → AllEntries (λ other. IsEarlier other entry) entries
earlier count entry at [] below differ = tt
earlier count entry at (other ∷ entries) below differ =
    let first : other.place < count = below.0 in
    (record { place = omega (arith, first, at); differs = differ.0 }, earlier count entry at entries below.1 differ.1)

-- a set without those who leave
order_without : (count : ℕ) (leaves : Who → Bool) (entries : List Entry) → IsInOrder count entries → IsInOrder count (without leaves entries)
order_without count leaves entries order = record {
  pairs = pairs_without IsEarlier leaves entries order.pairs;
  below = all_without (λ entry. entry.place < count) (λ entry. entry.place < count) leaves (λ entry stays fact. fact) entries order.below;
}

-- one record later
pub order_later : (count : ℕ) (entries : List Entry) → IsInOrder count entries → IsInOrder (suc count) entries
order_later count entries order = record {
  pairs = order.pairs;
  below = all_weaker (λ entry. entry.place < count) (λ entry. entry.place < suc count) (λ entry below. omega (arith, below)) entries order.below;
}

-- the set with a caller that enters it
order_push : (count : ℕ) (entry : Entry) (entries : List Entry) → entry.place ≡ count → IsInOrder count entries
    → AllEntries (λ other. is_same other.who entry.who ≡ false) entries → IsInOrder (suc count) (entries ++ entry ∷ [])
order_push count entry entries at order differ = record {
  pairs = pairs_push IsEarlier entries entry order.pairs (earlier count entry at entries order.below differ);
  below = all_push (λ other. other.place < suc count) entries entry (order_later count entries order).below (omega (arith, at));
}

-- a caller that enters has no entry there yet
abbrev pub EntersNew : Body → List Entry → Type 0
EntersNew (Call call) entries = has_entry_in call.who entries ≡ false
EntersNew _ entries = Unit {0}

-- a set after a record
set_in_order : (count place : ℕ) (body : Body) (wanted : WaitingSet) (entries : List Entry) → place ≡ count → EntersNew body entries → IsInOrder count entries
    → IsInOrder (suc count) (set_after place body wanted entries)
set_in_order count place (Disp who) wanted entries at new order = order_later count entries order
set_in_order count place (Ret ret) wanted entries at new order = order_later count entries order
set_in_order count place (Tick woken) wanted entries at new order =
    order_later count (without (λ who. is_named who woken) entries) (order_without count (λ who. is_named who woken) entries order)
set_in_order count place (Arrive crossing) wanted entries at new order =
    order_later count (without (λ who. is_named who crossing.woken) entries) (order_without count (λ who. is_named who crossing.woken) entries order)
set_in_order count place (Depart crossing) wanted entries at new order =
    order_later count (without (λ who. is_named who crossing.woken) entries) (order_without count (λ who. is_named who crossing.woken) entries order)
set_in_order count place (Error report) wanted entries at new order =
    by_test (IsInOrder (suc count)) report.restarts (without (λ who. nat_eq who.part report.who.part) entries) entries
    (λ restarts. order_later count (without (λ who. nat_eq who.part report.who.part) entries) (order_without count (λ who. nat_eq who.part report.who.part) entries order))
    (λ goes_on. order_later count entries order)
set_in_order count place (Call call) wanted entries at new order =
    let rest = order_without count (ends_wait call) entries order in
    by_test (IsInOrder (suc count)) (enters call wanted) (without (ends_wait call) entries ++ entry_of place call ∷ []) (without (ends_wait call) entries)
    (λ here. order_push count (entry_of place call) (without (ends_wait call) entries) at rest
    (all_without (λ other. is_same other.who call.who ≡ false) (λ other. is_same other.who call.who ≡ false) (ends_wait call) (λ other stays fact. fact) entries (others call.who entries new)))
    (λ elsewhere. order_later count (without (ends_wait call) entries) rest)

-- the set of a lock after a record
lock_in_order : (count place : ℕ) (body : Body) (entries : List Entry) → place ≡ count → EntersNew body entries → IsInOrder count entries
    → IsInOrder (suc count) (lock_waiters_after place body entries)
lock_in_order count place (Disp who) entries at new order = order_later count entries order
lock_in_order count place (Ret ret) entries at new order = order_later count entries order
lock_in_order count place (Arrive crossing) entries at new order = order_later count entries order
lock_in_order count place (Depart crossing) entries at new order = order_later count entries order
lock_in_order count place (Error report) entries at new order = order_later count entries order
lock_in_order count place (Tick woken) entries at new order =
    order_later count (without (λ who. is_named who woken) entries) (order_without count (λ who. is_named who woken) entries order)
lock_in_order count place (Call call) entries at new order =
    let rest = order_without count (ends_wait call) entries order in
    by_test (IsInOrder (suc count)) (enters_lock call) (without (ends_wait call) entries ++ entry_of place call ∷ []) (without (ends_wait call) entries)
    (λ here. order_push count (entry_of place call) (without (ends_wait call) entries) at rest
    (all_without (λ other. is_same other.who call.who ≡ false) (λ other. is_same other.who call.who ≡ false) (ends_wait call) (λ other stays fact. fact) entries (others call.who entries new)))
    (λ elsewhere. order_later count (without (ends_wait call) entries) rest)

-- the empty set
pub none_in_order : (count : ℕ) → IsInOrder count []
none_in_order count = record { pairs = tt; below = tt }

-- every set

-- the caller of a lawful call has an entry in no set of a partition
new_here : (configuration : Configuration) (state : State) (core : ℕ) (body : Body) → AreTied configuration state
    → IsLawfulBody configuration state core body → (Home : ℕ → Type 0) (wanted : WaitingSet) (entries : List Entry)
    → AllEntries (IsTied Home wanted state.partitions) entries → EntersNew body entries
new_here configuration state core (Call call) tied law Home wanted entries all = caller_in_no_set configuration state core call tied law Home wanted entries all
new_here configuration state core (Disp who) tied law Home wanted entries all = tt
new_here configuration state core _ tied law Home wanted entries all = tt

-- a set of a partition after a record, if its own caller has no entry in it yet
pub set_stays_in_order : (configuration : Configuration) (cores : List CoreState) (count place core number : ℕ) (body : Body) (partition : Partition) (wanted : WaitingSet) → place ≡ count
    → ((IsElsewhere number body → ⊥) → EntersNew body (entries_at partition wanted)) → IsInOrder count (entries_at partition wanted)
    → IsInOrder (suc count) (entries_at (partition_by configuration cores place core number body partition) wanted)
set_stays_in_order configuration cores count place core number body partition wanted at new order =
    one_set_after (λ entries. IsInOrder count entries × ((IsElsewhere number body → ⊥) → EntersNew body entries)) (IsInOrder (suc count))
    configuration cores place core number body partition wanted (none_in_order (suc count))
    (λ own entries before. set_in_order count place body wanted entries at (before.1 own) before.0)
    (λ elsewhere before. order_later count (entries_at partition wanted) before.0) (order, new)

-- so it is with the set of its lock
pub lock_stays_in_order : (configuration : Configuration) (cores : List CoreState) (count place core number : ℕ) (body : Body) (partition : Partition) → place ≡ count
    → ((IsElsewhere number body → ⊥) → EntersNew body partition.lock.waiters) → IsInOrder count partition.lock.waiters
    → IsInOrder (suc count) (partition_by configuration cores place core number body partition).lock.waiters
lock_stays_in_order configuration cores count place core number body partition at new order =
    lock_set_after (λ entries. IsInOrder count entries) (IsInOrder (suc count))
    configuration cores place core number body partition (none_in_order (suc count))
    (λ own before. lock_in_order count place body partition.lock.waiters at (new own) before)
    (λ elsewhere before. order_later count partition.lock.waiters before) order

new_in_lock : (configuration : Configuration) (state : State) (core : ℕ) (body : Body) → AreTied configuration state
    → IsLawfulBody configuration state core body → (number : ℕ) → EntersNew body (state.partitions number).lock.waiters
new_in_lock configuration state core (Call call) tied law number = caller_in_no_lock configuration state core call tied law number
new_in_lock configuration state core (Disp who) tied law number = tt
new_in_lock configuration state core _ tied law number = tt

-- the whole state

pub step_in_order : (configuration : Configuration) (state : State) (ordered : Ordered) (next : State)
    → AreTied configuration state → SetsAreInOrder state → Step configuration state ordered next → SetsAreInOrder next
step_in_order configuration state ordered next tied order step =
    let place = ordered.pos in
    let core = ordered.core in
    let body = ordered.rec.body in
    let law = step.0.claims in
    let at = step.0.placed in
    subst SetsAreInOrder (sym step.1) (record {
      objects = λ number wanted. set_stays_in_order configuration state.cores state.count place core number body (state.partitions number) wanted at
          (λ own. new_here configuration state core body tied law (λ home. home ≡ number) wanted (entries_at (state.partitions number) wanted) (tied.objects number wanted))
          (order.objects number wanted);
      locks = λ number. lock_stays_in_order configuration state.cores state.count place core number body (state.partitions number) at
          (λ own. new_in_lock configuration state core body tied law number) (order.locks number);
      senders = λ number. set_in_order state.count place body (channel_set number Senders) (state.channels number).senders at
          (new_here configuration state core body tied law (λ home. IsTrue (is_sender configuration number home)) (channel_set number Senders) (state.channels number).senders (tied.senders number))
          (order.senders number);
      receivers = λ number. set_in_order state.count place body (channel_set number Receivers) (state.channels number).receivers at
          (new_here configuration state core body tied law (λ home. IsTrue (is_receiver configuration number home)) (channel_set number Receivers) (state.channels number).receivers (tied.receivers number))
          (order.receivers number);
    })

cold_in_order : (configuration : Configuration) (number : ℕ) (wanted : WaitingSet) → IsInOrder 0 (entries_at ((cold_state configuration).partitions number) wanted)
cold_in_order configuration number wanted = subst (IsInOrder 0) (sym (start_set StartCondition.NormalStart Mode.ColdStart configuration number 0 wanted)) (none_in_order 0)

pub stays_in_order : StaysInOrder
stays_in_order = (
  λ configuration. record { objects = cold_in_order configuration; locks = λ number. none_in_order 0; senders = λ number. none_in_order 0; receivers = λ number. none_in_order 0 },
  step_in_order,
  run_keeps SetsAreInOrder step_in_order,
)

-- sets in order are apart
apart_from : (entry : Entry) (entries : List Entry) → AllEntries (IsEarlier entry) entries → AllEntries (λ other. ¬ (entry.place ≡ other.place)) entries
apart_from entry entries all = all_weaker (IsEarlier entry) (λ other. ¬ (entry.place ≡ other.place)) (λ other earlier same. absurd (omega (arith, earlier.place, same))) entries all

pairs_apart : (entries : List Entry) → AllPairs IsEarlier entries → AreApart entries
pairs_apart [] all = tt
pairs_apart (entry ∷ entries) all = (apart_from entry entries all.0, pairs_apart entries all.1)

pub order_is_apart : OrderIsApart
order_is_apart count entries order = pairs_apart entries order.pairs

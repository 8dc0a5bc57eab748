-- A piece that a lawful record doesn't touch keeps its part.
use Rattle.std.proofs.Common.{◌≡◌, ℕ, List, [], ◌∷◌, Bool, true, false, nat_eq, ℤ, Option, Some, None, is_some, IsTrue, IsFalse, refl, sym, ap, subst, ◌∙◌, true≢false, ◌||◌, ◌&&◌}
use Rattle.std.proofs.lemmas.Bool.{and_from, eq-eqb, eqb-true}
use Rattle.apex_types.specs.declared.object_kind.ObjectKind.TheVariants as kind
use Rattle.apex_laws.proofs.Common.{AllEntries, AreTied, Body, Call, CallRecord, ChannelPart, Configuration, CoreState, Disp, Entry, IsLawful, IsLawfulBody, IsLawfulCall, IsTied, Module, ObjectKind, OfChannel, OfPartition, Ordered}
use Rattle.apex_laws.proofs.Common.{Partition, PartitionPart, Piece, Process, Receivers, Request, Ret, Senders, State, Table, Tick, WaitingSet, WaitsIn, Who, after, channel_of, channel_set, conditions_of, content_by, cores_by, each_item}
use Rattle.apex_laws.proofs.Common.{ends_wait, enters, is_at_end, is_channel, is_named, is_no_error, is_receiver, is_sender, is_target, part, partition_by, is_restart, samples, set_after, stop_of, stops_at_end, time_of, times_of, touched_by}
use Rattle.apex_laws.proofs.Common.{touches, woken_if_named}
use Rattle.apex_laws.proofs.Common.{Arrive, Depart, End, message_of, names_one_of, partition_woken, without, Error, ErrorReport}
use Rattle.apex_laws.proofs.Wakes.{WaitsThere, arrival_wakes, departure_wakes, waits_nowhere_else}
use Rattle.apex_laws.proofs.Booleans.{by_test, cannot_hold, is_itself, neither_first, neither_later, not_second}
use Rattle.apex_laws.proofs.Restarts.{goes_on}
use Rattle.apex_laws.proofs.Tables.{times_after}
use Rattle.apex_laws.proofs.Waiters.{none_leaves}
use Rattle.apex_laws.proofs.WaitersOf.{not_named}
use Rattle.apex_laws.proofs.Wakes.{entering_is_the_sentence, IsWokenBy, woken}

-- partitions

-- a table whose processes all stay
pub each_stays : (change : ℕ → Process → Process) (table : Table) → ((number : ℕ) (process : Process) → change number process ≡ process) → each_item change table ≡ table
each_stays change [] stays = refl
each_stays change (entry ∷ entries) stays = λ i. (entry.0, stays entry.0 entry.1 i) ∷ each_stays change entries stays i

-- a process that a record doesn't name stays
pub not_woken_if_named : (place : ℕ) (message : List ℕ) (woken : List Who) (who : Who) (process : Process) → is_named who woken ≡ false → woken_if_named place message woken who process ≡ process
not_woken_if_named place message woken who process not_named = rw not_named refl

-- so does a partition of whose processes it names none
none_woken : (place number : ℕ) (message : List ℕ) (woken : List Who) (partition : Partition) → names_one_of number woken ≡ false → partition_woken place number message woken partition ≡ partition
none_woken place number message woken partition none =
    ap (λ (table : Table). record partition { table = table }) (each_stays (λ other process. woken_if_named place message woken (record { part = number; proc = other }) process) partition.table
    (λ other process. not_woken_if_named place message woken (record { part = number; proc = other }) process (not_named (record { part = number; proc = other }) woken none)))

-- a record that doesn't touch a partition leaves it and the cores as they are
partition_untouched : (configuration : Configuration) (cores : List CoreState) (place core number : ℕ) (body : Body) (partition : Partition)
    → IsFalse (touched_by configuration body (OfPartition number))
    → (cores_by core body cores ≡ cores) × (partition_by configuration cores place core number body partition ≡ partition)
partition_untouched configuration cores place core number (Disp who) partition off = absurd (true≢false off)
partition_untouched configuration cores place core number (Tick woken) partition off = absurd (true≢false off)
partition_untouched configuration cores place core number (Ret ret) partition off = (refl, rw off refl)
partition_untouched configuration cores place core number (Error report) partition off = (refl, rw off refl)
partition_untouched configuration cores place core number (Call call) partition off =
    let elsewhere : nat_eq call.who.part number ≡ false = neither_first _ _ off in
    (refl, rw elsewhere (none_woken place number (message_of call.request) call.claim.woken partition (neither_later _ _ off)))
partition_untouched configuration cores place core number (Arrive crossing) partition off = (refl, none_woken place number crossing.message crossing.woken partition off)
partition_untouched configuration cores place core number (Depart crossing) partition off = (refl, none_woken place number [] crossing.woken partition off)

-- channels

-- a caller enters a set of a channel only by a call through it
abbrev GoesBy : ObjectKind → ℕ → Option ℕ → Type 0
GoesBy kind.QueuingPort number chan = is_channel number chan ≡ true
GoesBy _ number chan = Unit {0}

abbrev GoesThrough : WaitingSet → Option ℕ → Type 0
GoesThrough wanted chan = GoesBy wanted.kind wanted.number chan

goes_through : {asked : Request} {chan : Option ℕ} {wanted : WaitingSet} → WaitsIn asked chan wanted → GoesThrough wanted chan
goes_through (WaitsIn.sends_through {channel = channel}) = is_itself channel
goes_through (WaitsIn.receives_through {channel = channel}) = is_itself channel
goes_through _ = tt

-- a call from an end of a channel restarts no process there if it stops none
not_restarted_at : (restarted stopping end here : Bool) → (here ≡ true → end ≡ true) → ((restarted || stopping) && end) ≡ false → (restarted && here) ≡ false
not_restarted_at false stopping end here at off = refl
not_restarted_at true stopping end true at off = absurd (true≢false (sym (at refl) ∙ off))
not_restarted_at true stopping end false at off = refl

-- who is at an end of a channel isn't stopped by a call that doesn't touch the channel
not_stopped_at : (end none here : Bool) (stopping : Option ℤ) (number : ℕ) → (here ≡ true → end ≡ true) → ((is_some stopping && none) && end) ≡ false
    → (none && (here && is_target stopping number)) ≡ false
not_stopped_at end none here None number at off = not_second none (here && false) (not_second here false refl)
not_stopped_at end true true (Some target) number at off = absurd (true≢false (sym (at refl) ∙ off))
not_stopped_at end true false (Some target) number at off = refl
not_stopped_at end false here (Some target) number at off = refl

-- if one of two tests and a third do not both hold, the second and the third do not
later_fails : (one other third : Bool) → ((one || other) && third) ≡ false → (other && third) ≡ false
later_fails false other third off = off
later_fails true other third off = not_second other third off

-- an entry stays whose process is at an end of the channel and waits in a set of it
stays_there : (configuration : Configuration) (call : CallRecord) (number : ℕ) (who : Who) → is_at_end configuration number who.part ≡ true
    → stops_at_end configuration number call ≡ false → is_named who call.claim.woken ≡ false → ends_wait call who ≡ false
stays_there configuration call number who end off not_named =
    let at : nat_eq who.part call.who.part ≡ true → is_at_end configuration number call.who.part ≡ true =
    λ here. subst (λ part. is_at_end configuration number part ≡ true) (eqb-true who.part call.who.part here) end in
    let stopping : Bool = is_some (stop_of call.request) && is_no_error call.claim.out in
    goes_on call who (not_restarted_at (is_restart call) stopping (is_at_end configuration number call.who.part) (nat_eq who.part call.who.part) at off) not_named
    (not_stopped_at (is_at_end configuration number call.who.part) (is_no_error call.claim.out) (nat_eq who.part call.who.part) (stop_of call.request) who.proc at
    (later_fails (is_restart call) stopping (is_at_end configuration number call.who.part) off))

-- a sending or a receiving partition is at an end
sender_at_end : (configuration : Configuration) (number partition : ℕ) → is_sender configuration number partition ≡ true → is_at_end configuration number partition ≡ true
sender_at_end configuration number partition sends = rw sends refl

receiver_at_end : (configuration : Configuration) (number partition : ℕ) → is_receiver configuration number partition ≡ true → is_at_end configuration number partition ≡ true
receiver_at_end configuration number partition receives =
    elim (is_sender configuration number partition) as (λ sends. (sends || (is_receiver configuration number partition || samples configuration number partition)) ≡ true) [
      | true ↦ refl
      | false ↦ rw receives refl
    ]

-- who waits at another channel isn't named
not_woken : (configuration : Configuration) (state : State) (core : ℕ) (call : CallRecord) → AreTied configuration state
    → IsLawfulCall configuration state core call → (number : ℕ) → is_channel number call.claim.chan ≡ false → (who : Who)
    → (IsWokenBy state.partitions call.who.part call.claim.chan who → call.claim.chan ≡ Some number) → is_named who call.claim.woken ≡ false
not_woken configuration state core call tied law number off who through =
    cannot_hold (is_named who call.claim.woken) (λ named.
    (let by = woken configuration state core call.who call.request call.claim tied
    (conditions_of configuration (time_of state.cores core) call.who (state.partitions call.who.part) call.request) (channel_of (state.partitions call.who.part) call.request) law.outcome who named in
    true≢false (sym (ap (is_channel number) (through by) ∙ is_itself number) ∙ off)))

-- a set stays if a call does not enter it and ends no wait in it
pub set_stays : (Fact : Entry → Type 0) (place : ℕ) (call : CallRecord) (wanted : WaitingSet) (entries : List Entry) → AllEntries Fact entries
    → enters call wanted ≡ false → ((entry : Entry) → Fact entry → ends_wait call entry.who ≡ false) → set_after place (Call call) wanted entries ≡ entries
set_stays Fact place call wanted entries all off stays = rw off (none_leaves Fact (ends_wait call) stays entries all)

-- a lawful call that doesn't touch a channel leaves it
channel_untouched : (configuration : Configuration) (state : State) (place core : ℕ) (call : CallRecord) → AreTied configuration state
    → IsLawfulCall configuration state core call → (number : ℕ) → (is_channel number call.claim.chan || stops_at_end configuration number call) ≡ false
    → (content_by configuration (time_of state.cores core) number (Call call) (state.channels number) ≡ (state.channels number).content)
    × (set_after place (Call call) (channel_set number Senders) (state.channels number).senders ≡ (state.channels number).senders)
    × (set_after place (Call call) (channel_set number Receivers) (state.channels number).receivers ≡ (state.channels number).receivers)
channel_untouched configuration state place core call tied law number off =
    let away : is_channel number call.claim.chan ≡ false = neither_first _ _ off in
    let unstopped : stops_at_end configuration number call ≡ false = neither_later _ _ off in (
      rw away refl,
      set_stays (IsTied (λ home. IsTrue (is_sender configuration number home)) (channel_set number Senders) state.partitions) place call (channel_set number Senders)
          (state.channels number).senders (tied.senders number)
          (cannot_hold (enters call (channel_set number Senders)) (λ here. true≢false (sym (goes_through ((entering_is_the_sentence call (channel_set number Senders)).0 here).1) ∙ away)))
          (λ entry there. stays_there configuration call number entry.who (sender_at_end configuration number entry.who.part there.0) unstopped
          (not_woken configuration state core call tied law number away entry.who (λ by. by.sending number there.1))),
      set_stays (IsTied (λ home. IsTrue (is_receiver configuration number home)) (channel_set number Receivers) state.partitions) place call (channel_set number Receivers)
          (state.channels number).receivers (tied.receivers number)
          (cannot_hold (enters call (channel_set number Receivers)) (λ here. true≢false (sym (goes_through ((entering_is_the_sentence call (channel_set number Receivers)).0 here).1) ∙ away)))
          (λ entry there. stays_there configuration call number entry.who (receiver_at_end configuration number entry.who.part there.0) unstopped
          (not_woken configuration state core call tied law number away entry.who (λ by. by.receiving number there.1))),
    )

-- an arrival at another channel, or a departure from one, ends no wait at this one
stays_at : (configuration : Configuration) (state : State) (chan number : ℕ) (end own : End) (woken : List Who) (Home : ℕ → Type 0) → nat_eq chan number ≡ false
    → ((who : Who) → is_named who woken ≡ true → WaitsThere state.partitions configuration chan end who)
    → (entries : List Entry) → AllEntries (IsTied Home (channel_set number own) state.partitions) entries → without (λ who. is_named who woken) entries ≡ entries
stays_at configuration state chan number end own woken Home off waits entries all =
    none_leaves (IsTied Home (channel_set number own) state.partitions) (λ who. is_named who woken)
    (λ entry tied. cannot_hold (is_named entry.who woken) (λ named.
    (let same : number ≡ chan = ap (λ one. one.number) (waits_nowhere_else state.partitions configuration chan end (channel_set number own) entry.who (waits entry.who named) tied.1) in
    true≢false (sym (eq-eqb chan number (sym same)) ∙ off)))) entries all

-- so does an error that restarts no partition at an end of the channel
error_stays : (configuration : Configuration) (state : State) (place number : ℕ) (report : ErrorReport) → (report.restarts && is_at_end configuration number report.who.part) ≡ false
    → (Home : ℕ → Type 0) (wanted : WaitingSet) → ((part : ℕ) → Home part → is_at_end configuration number part ≡ true)
    → (entries : List Entry) → AllEntries (IsTied Home wanted state.partitions) entries → set_after place (Error report) wanted entries ≡ entries
error_stays configuration state place number report off Home wanted at_end entries all =
    by_test (λ kept. kept ≡ entries) report.restarts (without (λ who. nat_eq who.part report.who.part) entries) entries
    (λ restarts. none_leaves (IsTied Home wanted state.partitions) (λ who. nat_eq who.part report.who.part)
    (λ entry tied. cannot_hold (nat_eq entry.who.part report.who.part) (λ here. true≢false (sym (and_from _ _ restarts
    (subst (λ part. is_at_end configuration number part ≡ true) (eqb-true entry.who.part report.who.part here) (at_end entry.who.part tied.0))) ∙ off))) entries all)
    (λ stays. refl)

-- the channel's part after a record that doesn't touch it
channel_part : (configuration : Configuration) (state : State) (place core : ℕ) (body : Body) → AreTied configuration state
    → IsLawfulBody configuration state core body → (number : ℕ) → IsFalse (touched_by configuration body (OfChannel number))
    → (times_of (cores_by core body state.cores) ≡ times_of state.cores)
    × (content_by configuration (time_of state.cores core) number body (state.channels number) ≡ (state.channels number).content)
    × (set_after place body (channel_set number Senders) (state.channels number).senders ≡ (state.channels number).senders)
    × (set_after place body (channel_set number Receivers) (state.channels number).receivers ≡ (state.channels number).receivers)
channel_part configuration state place core (Disp who) tied law number off = (times_after core (Disp who) state.cores, refl, refl, refl)
channel_part configuration state place core (Ret ret) tied law number off = (refl, refl, refl, refl)
channel_part configuration state place core (Error report) tied law number off = (
  refl,
  refl,
  error_stays configuration state place number report off (λ home. IsTrue (is_sender configuration number home)) (channel_set number Senders)
      (sender_at_end configuration number) (state.channels number).senders (tied.senders number),
  error_stays configuration state place number report off (λ home. IsTrue (is_receiver configuration number home)) (channel_set number Receivers)
      (receiver_at_end configuration number) (state.channels number).receivers (tied.receivers number),
)
channel_part configuration state place core (Tick woken) tied law number off = absurd (true≢false off)
channel_part configuration state place core (Arrive crossing) tied law number off =
    let waits = arrival_wakes configuration state core crossing tied law in (
      refl,
      rw off refl,
      stays_at configuration state crossing.chan number Receivers Senders crossing.woken _ off waits (state.channels number).senders (tied.senders number),
      stays_at configuration state crossing.chan number Receivers Receivers crossing.woken _ off waits (state.channels number).receivers (tied.receivers number),
    )
channel_part configuration state place core (Depart crossing) tied law number off =
    let waits = departure_wakes configuration state core crossing tied law in (
      refl,
      rw off refl,
      stays_at configuration state crossing.chan number Senders Senders crossing.woken _ off waits (state.channels number).senders (tied.senders number),
      stays_at configuration state crossing.chan number Senders Receivers crossing.woken _ off waits (state.channels number).receivers (tied.receivers number),
    )
channel_part configuration state place core (Call call) tied law number off =
    let stays = channel_untouched configuration state place core call tied law number off in
    (refl, stays.0, stays.1, stays.2)

-- the part of a piece that a lawful record doesn't touch stays
pub untouched_part : (configuration : Configuration) (state : State) (ordered : Ordered) → AreTied configuration state
    → IsLawful configuration state ordered → (piece : Piece)
    → IsFalse (touches configuration piece ordered) → part piece (after configuration state ordered) ≡ part piece state
untouched_part configuration state ordered tied law Module off = absurd (true≢false off)
untouched_part configuration state ordered tied law (OfPartition number) off =
    let same = partition_untouched configuration state.cores ordered.pos ordered.core number ordered.rec.body (state.partitions number) off in
    λ i. PartitionPart number (same.0 i) (same.1 i)
untouched_part configuration state ordered tied law (OfChannel number) off =
    let same = channel_part configuration state ordered.pos ordered.core ordered.rec.body tied law.claims number off in
    λ i. ChannelPart number (same.0 i) (record { content = same.1 i; senders = same.2 i; receivers = same.3 i })

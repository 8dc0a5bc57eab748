-- What an arrival and a departure do to every process, channel and waiting set is what the sentences say.
use Rattle.std.proofs.Common.{◌≡◌, ℕ, List, [], true, Some, cond, refl, sym, ap, subst, ◌∙◌, true≢false, nat_eq}
use Rattle.std.proofs.lemmas.Bool.{and_parts, eqb-true}
use Rattle.apex_laws.proofs.Common.{Arrive, ArrivalIsTheSentence, Channel, Configuration, Content, Crossing, Depart, DepartureIsTheSentence, End, Entry, IsCrossingOf, KeepsOnly, NamesExactly, Partition, Receivers, Senders}
use Rattle.apex_laws.proofs.Common.{Process, State, WaitsForOther, Who, arrived, channel_set, departed, is_named, item_at, process_in, time_of, waits_at, without, woken_by, woken_if_named}
use Rattle.apex_laws.proofs.Booleans.{cannot_hold, is_itself}
use Rattle.apex_laws.proofs.ChannelContents.{outside_queued}
use Rattle.apex_laws.proofs.ObjectRules.{crossing_is_the_sentence}
use Rattle.apex_laws.proofs.ProcessRules.{waking_is_the_sentence}
use Rattle.apex_laws.proofs.Records.{keeps_only, lawful_body, next_channel, next_cores, next_partition}
use Rattle.apex_laws.proofs.Restarts.{woken_table}
use Rattle.apex_laws.proofs.Stays.{order_is_apart}
use Rattle.apex_laws.proofs.Tables.{stays_each, turns_each}
use Rattle.apex_laws.proofs.Wakes.{arrival_wakes, departure_wakes, found, WaitsThere}
use Rattle.apex_laws.proofs.WholeCalls.{in_waits}

-- what is known of a state after a record of others: its partitions, its channels and its cores
record IsAfter (place : ℕ) (crossing : Crossing) (message : List ℕ) (content : ℕ → Content) (state next : State) : Type 0 where
  partitions : (number : ℕ)
      → next.partitions number ≡ record (state.partitions number) { table = woken_table place number message crossing.woken (state.partitions number).table }
  channels : (number : ℕ) → next.channels number ≡ record {
    content = content number;
    senders = without (λ who. is_named who crossing.woken) (state.channels number).senders;
    receivers = without (λ who. is_named who crossing.woken) (state.channels number).receivers;
  }
  cores : next.cores ≡ state.cores

-- who waits at an end of a channel waits for another
there_waits : (partitions : ℕ → Partition) (configuration : Configuration) (channel : ℕ) (end : End) (who : Who) (old : Process)
    → WaitsThere partitions configuration channel end who → found partitions who ≡ Some old → WaitsForOther old.wait
there_waits partitions configuration channel Senders who old there at =
    in_waits (channel_set channel Senders) old.wait (and_parts old.alive _ (subst (λ one. waits_at (channel_set channel Senders) one ≡ true) at there.1)).1
there_waits partitions configuration channel Receivers who old there at =
    in_waits (channel_set channel Receivers) old.wait (and_parts old.alive _ (subst (λ one. waits_at (channel_set channel Receivers) one ≡ true) at there.1)).1

-- those that are named leave a set
named_leave : (woken : List Who) (entries : List Entry) → KeepsOnly (λ who. is_named who woken ≡ true) entries (without (λ who. is_named who woken) entries)
named_leave woken entries = keeps_only (λ who. is_named who woken ≡ true) (λ who. is_named who woken) (λ who named. named) (λ who stays named. true≢false (sym named ∙ stays)) entries

-- so the record is what the sentence says, if those that it names wait for another and the channel changes by its rule
crossing_says : (configuration : Configuration) (place : ℕ) (crossing : Crossing) (message : List ℕ) (content : ℕ → Content) (Changes : Channel → List Who → Content → Type 0) (state next : State)
    → IsAfter place crossing message content state next
    → ((who : Who) (old : Process) → process_in state who ≡ Some old → is_named who crossing.woken ≡ true → WaitsForOther old.wait)
    → (wakes : List Who) → NamesExactly wakes crossing.woken → Changes (state.channels crossing.chan) wakes (content crossing.chan)
    → ((number : ℕ) → ¬ (number ≡ crossing.chan) → content number ≡ (state.channels number).content)
    → IsCrossingOf place crossing message Changes state next
crossing_says configuration place crossing message content Changes state next after waits wakes named changes others =
    let change : ℕ → ℕ → Process → Process = λ number other process. woken_if_named place message crossing.woken (record { part = number; proc = other }) process in
    let table : (who : Who) → process_in next who ≡ item_at (woken_table place who.part message crossing.woken (state.partitions who.part).table) who.proc =
    λ who. ap (λ (one : Partition). item_at one.table who.proc) (after.partitions who.part) in
    record {
      woken = λ who old at is_one. record {
        old = old;
        new = woken_by place message old;
        before = at;
        after = table who ∙ turns_each (change who.part) (state.partitions who.part).table who.proc old at
            ∙ ap (λ test. Some (cond test (woken_by place message old) old)) is_one;
        change = (waking_is_the_sentence place message old (woken_by place message old) (waits who old at is_one)).0 refl;
      };
      others = λ who is_none. table who
          ∙ stays_each (change who.part) (state.partitions who.part).table who.proc (λ one at. ap (λ test. cond test (woken_by place message one) one) is_none);
      partitions = λ number. after.partitions number
          ∙ ap (λ (one : Partition). let back : Partition = record (state.partitions number) { table = one.table } in back) (sym (after.partitions number));
      wakes = wakes;
      named = named;
      channel = subst (Changes (state.channels crossing.chan) wakes) (sym (ap (λ (one : Channel). one.content) (after.channels crossing.chan))) changes;
      contents = λ number differs. ap (λ (one : Channel). one.content) (after.channels number) ∙ others number differs;
      senders = λ number. subst (KeepsOnly (λ who. is_named who crossing.woken ≡ true) (state.channels number).senders) (sym (ap (λ (one : Channel). one.senders) (after.channels number)))
          (named_leave crossing.woken (state.channels number).senders);
      receivers = λ number. subst (KeepsOnly (λ who. is_named who crossing.woken ≡ true) (state.channels number).receivers) (sym (ap (λ (one : Channel). one.receivers) (after.channels number)))
          (named_leave crossing.woken (state.channels number).receivers);
      cores = after.cores;
    }

pub arrival_is_the_sentence : ArrivalIsTheSentence
arrival_is_the_sentence configuration state ordered crossing next tied order step is =
    let now = time_of state.cores ordered.core in
    let chan = crossing.chan in
    let law = lawful_body configuration state ordered next (Arrive crossing) step is in
    let content : ℕ → Content = λ number. cond (nat_eq chan number) (arrived configuration now number crossing.message (state.channels number)).next (state.channels number).content in
    let effect = arrived configuration now chan crossing.message (state.channels chan) in
    let senders = order_is_apart state.count (state.channels chan).senders (order.senders chan) in
    let receivers = order_is_apart state.count (state.channels chan).receivers (order.receivers chan) in
    crossing_says configuration ordered.pos crossing crossing.message content _ state next
    (record {
      partitions = next_partition configuration state ordered next (Arrive crossing) step is;
      channels = next_channel configuration state ordered next (Arrive crossing) step is;
      cores = next_cores configuration state ordered next (Arrive crossing) step is;
    })
    (λ who old at named. there_waits state.partitions configuration chan Receivers who old (arrival_wakes configuration state ordered.core crossing tied law who named) at)
    effect.answer.woken law.woken
    ((crossing_is_the_sentence configuration now chan crossing.message (state.channels chan) effect.answer.woken (content chan) senders receivers).0.0
    (refl, ap (λ test. cond test effect.next (state.channels chan).content) (is_itself chan)))
    (λ number differs. ap (λ test. cond test (arrived configuration now number crossing.message (state.channels number)).next (state.channels number).content)
    (cannot_hold (nat_eq chan number) (λ same. differs (sym (eqb-true chan number same)))))

pub departure_is_the_sentence : DepartureIsTheSentence
departure_is_the_sentence configuration state ordered crossing next tied order kinds step is =
    let now = time_of state.cores ordered.core in
    let chan = crossing.chan in
    let law = lawful_body configuration state ordered next (Depart crossing) step is in
    let queued = outside_queued configuration state chan kinds law.chan in
    let content : ℕ → Content = λ number. cond (nat_eq chan number) (departed configuration now number (state.channels number)).next (state.channels number).content in
    let effect = departed configuration now chan (state.channels chan) in
    let senders = order_is_apart state.count (state.channels chan).senders (order.senders chan) in
    let receivers = order_is_apart state.count (state.channels chan).receivers (order.receivers chan) in
    crossing_says configuration ordered.pos crossing [] content _ state next
    (record {
      partitions = next_partition configuration state ordered next (Depart crossing) step is;
      channels = next_channel configuration state ordered next (Depart crossing) step is;
      cores = next_cores configuration state ordered next (Depart crossing) step is;
    })
    (λ who old at named. there_waits state.partitions configuration chan Senders who old (departure_wakes configuration state ordered.core crossing tied law who named) at)
    effect.answer.woken law.woken
    (((crossing_is_the_sentence configuration now chan crossing.message (state.channels chan) effect.answer.woken (content chan) senders receivers).1 queued.0 queued.1).0
    (law.message, refl, ap (λ test. cond test effect.next (state.channels chan).content) (is_itself chan)))
    (λ number differs. ap (λ test. cond test (departed configuration now number (state.channels number)).next (state.channels number).content)
    (cannot_hold (nat_eq chan number) (λ same. differs (sym (eqb-true chan number same)))))

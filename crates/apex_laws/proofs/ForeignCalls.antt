-- A call of another partition ends no wait of this one's processes, unless they wait at a channel.
use Rattle.std.proofs.Common.{◌≡◌, ℕ, List, [], ◌∷◌, true, false, nat_eq, Option, Some, None, refl, sym, ◌∙◌, true≢false, ◌&&◌}
use Rattle.std.proofs.lemmas.Bool.{eqb-true, eq-eqb}
use Rattle.apex_laws.proofs.Common.{AreTied, CallRecord, Condition, Configuration, IsLawfulCall, Partition, QueuingOperation, Receivers, Request, Senders, State, WaitingSet, Who, channel_of, channel_set, conditions_of, ends_wait}
use Rattle.apex_laws.proofs.Common.{is_named, is_no_error, is_of_channel, is_target, stop_of, time_of, waits_at}
use Rattle.apex_laws.proofs.Booleans.{cannot_hold, not_first, not_second}
use Rattle.apex_laws.proofs.Demanded.{across, WaitsAcross}
use Rattle.apex_laws.proofs.Restarts.{goes_on, restarts_other}
use Rattle.apex_laws.proofs.Wakes.{ClaimsOutcome, found, nobody, woken}

-- a process waits in no set of a channel
abbrev pub IsApart : (ℕ → Partition) → Who → Type 0
IsApart partitions who = (other : WaitingSet) → is_of_channel other ≡ true → waits_at other (found partitions who) ≡ true → ⊥

-- who is woken through a channel waits in a set of it
not_across : (asked : Request) (partitions : ℕ → Partition) (configuration : Configuration) (channel : ℕ) (who : Who) → IsApart partitions who
    → WaitsAcross asked partitions configuration channel who → ⊥
not_across (Request.QueuingPort port (QueuingOperation.Send length time_out message)) partitions configuration channel who apart across = apart (channel_set channel Receivers) refl across.1
not_across (Request.QueuingPort port (QueuingOperation.Receive time_out)) partitions configuration channel who apart across = apart (channel_set channel Senders) refl across.1
not_across (Request.QueuingPort port QueuingOperation.Clear) partitions configuration channel who apart across = apart (channel_set channel Senders) refl across.1
not_across _ partitions configuration channel who apart across = across

-- so a process of this partition isn't named
not_named_here : (configuration : Configuration) (state : State) (core : ℕ) (call : CallRecord) (number : ℕ) → AreTied configuration state → nat_eq call.who.part number ≡ false
    → (conditions : List Condition) (channel : Option ℕ) → ClaimsOutcome configuration state core call.who call.request call.claim conditions channel
    → (who : Who) → who.part ≡ number → IsApart state.partitions who → is_named who call.claim.woken ≡ true → ⊥
not_named_here configuration state core call number tied elsewhere (condition ∷ conditions) channel has who here apart named = nobody who call.claim.woken has.woken named
not_named_here configuration state core call number tied elsewhere [] None has who here apart named =
    let by = woken configuration state core call.who call.request call.claim tied [] None has who named in
    true≢false (sym (eq-eqb call.who.part number (sym (by.own has.chan) ∙ here)) ∙ elsewhere)
not_named_here configuration state core call number tied elsewhere [] (Some channel) has who here apart named =
    not_across call.request state.partitions configuration channel who apart
    (across configuration state (time_of state.cores core) channel call.who.part call.request tied has.kind who (sym (has.woken who) ∙ named))

-- and its wait goes on
pub goes_on_here : (configuration : Configuration) (state : State) (core : ℕ) (call : CallRecord) → AreTied configuration state
    → IsLawfulCall configuration state core call → (number : ℕ) → nat_eq call.who.part number ≡ false
    → (who : Who) → who.part ≡ number → IsApart state.partitions who → ends_wait call who ≡ false
goes_on_here configuration state core call tied law number elsewhere who here apart =
    let there : nat_eq who.part call.who.part ≡ false = cannot_hold (nat_eq who.part call.who.part) (λ same.
    true≢false (sym (eq-eqb call.who.part number (sym (eqb-true who.part call.who.part same) ∙ here)) ∙ elsewhere)) in
    goes_on call who (restarts_other call who.part there)
    (cannot_hold (is_named who call.claim.woken) (λ named.
    not_named_here configuration state core call number tied elsewhere
    (conditions_of configuration (time_of state.cores core) call.who (state.partitions call.who.part) call.request) (channel_of (state.partitions call.who.part) call.request) law.outcome
    who here apart named))
    (not_second (is_no_error call.claim.out) (nat_eq who.part call.who.part && is_target (stop_of call.request) who.proc)
    (not_first (nat_eq who.part call.who.part) (is_target (stop_of call.request) who.proc) there))

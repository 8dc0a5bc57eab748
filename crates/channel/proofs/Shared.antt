-- What calls through channels of both kinds have in common.
use Rattle.std.proofs.Common.{◌≡◌, ◌||◌, ℕ, List, [], ◌∷◌, ◌++◌, Bool, true, false, ◌&&◌, nat_eq, IfErr, OnOk, Ok, Err, Result, refl, sym, ap, subst, ◌∙◌, arith, inl, inr}
use Rattle.std.proofs.lemmas.Bool.{cases_Bool}
use Rattle.std.proofs.lemmas.Bool.Decides.{nat_tests}
use Rattle.std.proofs.lemmas.Result.{IfErr-weaker, on_ok_weaker}
use Rattle.apex_types.specs.declared.cause.Cause.TheVariants as cause
use Rattle.apex_types.specs.declared.record.Call.{Call as CallRecord}
use Rattle.apex_types.specs.declared.record.Who.{Who}
use Rattle.apex_machine.specs.declared.state.Entry.{Entry}
use Rattle.apex_machine.specs.Configuration.{Configuration}
use Rattle.apex_machine.specs.Demands.{AllHold, Demand, has_entry_in, through_demands}
use Rattle.apex_machine.specs.State.{Content}
use Rattle.apex_machine.specs.Waiting.{without}
use Rattle.channel.specs.Held.{Accepts, Held, IsConfigured, RefusesCall}
use Rattle.wait_set.specs.declared.object.ObjFault.{ObjFault}
use Rattle.wait_set.specs.declared.object.ObjFault.TheVariants.{Memory, Unlawful}
use Rattle.wait_set.specs.Actors.{Refuses}

-- a channel of what it holds and of those who wait
pub of_three : (held : Held) (content other : Content) (senders sends receivers receives : List Entry) → content ≡ other → senders ≡ sends
    → receivers ≡ receives
    → ◌≡◌ {A = Held} (record held { channel = record { content = content; senders = senders; receivers = receivers } })
    (record held { channel = record { content = other; senders = sends; receivers = receives } })
of_three held content other senders sends receivers receives same alike like =
    ap (λ (c : Content). record held { channel = record { content = c; senders = senders; receivers = receivers } }) same
    ∙ ap (λ (s : List Entry). record held { channel = record { content = other; senders = s; receivers = receivers } }) alike
    ∙ ap (λ (r : List Entry). record held { channel = record { content = other; senders = sends; receivers = r } }) like

-- a test and one that fails
pub and_false : (b : Bool) → (b && false) ≡ false
and_false true = refl
and_false false = refl

-- what holds holds if a result is Ok
pub on_any_ok : {X E Fact : Type 0} (result : Result X E) → Fact → OnOk result Fact
on_any_ok (Ok x) fact = fact
on_any_ok (Err e) fact = tt

-- a number is itself
pub same_number : (n : ℕ) → nat_eq n n ≡ true
same_number n = grind (arith, nat_tests)

-- who has left does not leave again
pub without-twice : (leaves : Who → Bool) (entries : List Entry) → without leaves (without leaves entries) ≡ without leaves entries
without-twice leaves [] = refl
without-twice leaves (entry ∷ entries) =
    elim (cases_Bool (leaves entry.who)) [
      | inl departed ↦ rw departed (without-twice leaves entries)
      | inr stays ↦ rw (stays, stays) (ap (λ rest. entry ∷ rest) (without-twice leaves entries))
    ]

-- the demand that the caller waits at neither end
abbrev pub apart : CallRecord → Held → Demand
apart call held = record { cause = cause.Choice; holds = (has_entry_in call.who held.channel.senders || has_entry_in call.who held.channel.receivers) ≡ false }

-- the demand that the channel suits the service, if it does
abbrev pub suited : Demand
suited = record { cause = cause.Chan; holds = true ≡ true }

-- demands hold after others that hold
all_hold : (first demands : List {1} Demand) → AllHold first → AllHold demands → AllHold (first ++ demands)
all_hold [] demands before holds = holds
all_hold (demand ∷ others) demands before holds = (before.0, all_hold others demands before.1 holds)

-- demands refuse after others that hold
pub still_refused : (first demands : List {1} Demand) (fault : ObjFault) → AllHold first → Refuses demands fault → Refuses (first ++ demands) fault
still_refused first demands Memory before holds = all_hold first demands before holds
still_refused [] demands (Unlawful cause) before refused = refused
still_refused (demand ∷ others) demands (Unlawful cause) before refused = inr (before.0, still_refused others demands (Unlawful cause) before.1 refused)

-- a call is accepted if the demands after those that hold do, whichever configuration the channel has
pub accepted : (result : Result (Unit {0}) ObjFault) (now : ℕ) (call : CallRecord) (held : Held) (first demands : List {1} Demand)
    → ((configuration : Configuration) → IsConfigured configuration held → through_demands configuration now held.number held.channel call ≡ first ++ demands)
    → AllHold first → OnOk result (AllHold demands) → OnOk result (Accepts now call held)
accepted result now call held first demands demanded before =
    on_ok_weaker result (λ holds configuration is. subst AllHold (sym (demanded configuration is)) (all_hold first demands before holds))

-- a call is refused as by the demands after those that hold, whichever configuration the channel has
pub refused : (result : Result (Unit {0}) ObjFault) (now : ℕ) (call : CallRecord) (held : Held) (first demands : List {1} Demand)
    → ((configuration : Configuration) → IsConfigured configuration held → through_demands configuration now held.number held.channel call ≡ first ++ demands)
    → AllHold first → IfErr result (Refuses demands) → IfErr result (RefusesCall now call held)
refused result now call held first demands demanded before =
    IfErr-weaker result _ _ (λ fault fails configuration is.
    subst (λ demands. Refuses demands fault) (sym (demanded configuration is)) (still_refused first demands fault before fails))

-- Figures that are equal are the same.
use Rattle.std.proofs.Common.{◌≡◌, ◌==◌, ◌&&◌, ℕ, true, false, Bool, rules, refl, ap}
use Rattle.std.proofs.lemmas.Bool.{false≢true}
use Rattle.std.proofs.lemmas.Bool.Decides.{Decides-eqb}
use denote.Enum.Bare.{same_true}
use Rattle.apex_types.specs.contracts.record.WhoPartialEq.TheImpl as whos
use Rattle.apex_types.specs.declared.record.Who.{Who}
use Rattle.run_numbers.specs.contracts.figure.Activity.{the_type}
use Rattle.run_numbers.specs.contracts.figure.ActivityPartialEq.TheImpl as activities
use Rattle.run_numbers.specs.contracts.figure.ThingPartialEq.TheImpl as things
use Rattle.run_numbers.specs.contracts.figure.WindowKeyPartialEq.TheImpl as windows
use Rattle.run_numbers.specs.declared.figure.Activity.{Activity}
use Rattle.run_numbers.specs.declared.figure.Figure.{Figure}
use Rattle.run_numbers.specs.declared.figure.Figure.TheVariants as figure
use Rattle.run_numbers.specs.declared.figure.Thing.{Thing}
use Rattle.run_numbers.specs.declared.figure.Thing.TheVariants as thing
use Rattle.run_numbers.specs.declared.figure.WindowKey.{WindowKey}
use Rattle.run_numbers.specs.Figures.{is_same_figure}

both : (one other : Bool) → one && other ≡ true → (one ≡ true) × (other ≡ true)
both true other holds = (refl, holds)
both false other holds = absurd (false≢true holds)

number : (a b : ℕ) → a == b ≡ true → a ≡ b
number a b = (Decides-eqb a b).0

same_who : (a b : Who) → whos.eq-value.it a b ≡ true → a ≡ b
same_who a b holds =
    let found = both (a.part == b.part) (a.proc == b.proc) holds in
    λ i. record { part = number a.part b.part found.0 i; proc = number a.proc b.proc found.1 i }

same_window : (a b : WindowKey) → windows.eq-value.it a b ≡ true → a ≡ b
same_window a b holds =
    let found = both (a.core == b.core) ((a.number == b.number) && (a.part == b.part)) holds in
    let others = both (a.number == b.number) (a.part == b.part) found.1 in
    λ i. record { core = number a.core b.core found.0 i; number = number a.number b.number others.0 i; part = number a.part b.part others.1 i }

same_activity : (a b : Activity) → activities.eq-value.it a b ≡ true → a ≡ b
same_activity a b holds = same_true the_type (search rules) a b holds

same_thing : (a b : Thing) → things.eq-value.it a b ≡ true → a ≡ b
same_thing (thing.Buffer a k) (thing.Buffer b l) holds =
    let found = both (a == b) (k == l) holds in
    λ i. thing.Buffer (number a b found.0 i) (number k l found.1 i)
same_thing (thing.Blackboard a k) (thing.Blackboard b l) holds =
    let found = both (a == b) (k == l) holds in
    λ i. thing.Blackboard (number a b found.0 i) (number k l found.1 i)
same_thing (thing.Semaphore a k) (thing.Semaphore b l) holds =
    let found = both (a == b) (k == l) holds in
    λ i. thing.Semaphore (number a b found.0 i) (number k l found.1 i)
same_thing (thing.Event a k) (thing.Event b l) holds =
    let found = both (a == b) (k == l) holds in
    λ i. thing.Event (number a b found.0 i) (number k l found.1 i)
same_thing (thing.Mutex a k) (thing.Mutex b l) holds =
    let found = both (a == b) (k == l) holds in
    λ i. thing.Mutex (number a b found.0 i) (number k l found.1 i)
same_thing (thing.Lock a) (thing.Lock b) holds = ap thing.Lock (number a b holds)
same_thing (thing.Channel a) (thing.Channel b) holds = ap thing.Channel (number a b holds)
same_thing a b holds = cc

-- figures that are equal are the same
pub same_figure : (a b : Figure) → is_same_figure a b ≡ true → a ≡ b
same_figure (figure.CoreTicks a) (figure.CoreTicks b) holds = ap figure.CoreTicks (number a b holds)
same_figure (figure.IdleTicks a) (figure.IdleTicks b) holds = ap figure.IdleTicks (number a b holds)
same_figure (figure.WindowTicks a) (figure.WindowTicks b) holds = ap figure.WindowTicks (same_window a b holds)
same_figure (figure.BusyTicks a) (figure.BusyTicks b) holds = ap figure.BusyTicks (same_window a b holds)
same_figure (figure.Spent a k) (figure.Spent b l) holds =
    let found = both (whos.eq-value.it a b) (activities.eq-value.it k l) holds in
    λ i. figure.Spent (same_who a b found.0 i) (same_activity k l found.1 i)
same_figure (figure.Releases a) (figure.Releases b) holds = ap figure.Releases (same_who a b holds)
same_figure (figure.Lateness a) (figure.Lateness b) holds = ap figure.Lateness (same_who a b holds)
same_figure (figure.Response a) (figure.Response b) holds = ap figure.Response (same_who a b holds)
same_figure (figure.Missed a) (figure.Missed b) holds = ap figure.Missed (same_who a b holds)
same_figure (figure.Slack a) (figure.Slack b) holds = ap figure.Slack (same_who a b holds)
same_figure (figure.Calls a k) (figure.Calls b l) holds =
    let found = both (whos.eq-value.it a b) (k == l) holds in
    λ i. figure.Calls (same_who a b found.0 i) (number k l found.1 i)
same_figure (figure.Waits a k) (figure.Waits b l) holds =
    let found = both (whos.eq-value.it a b) (k == l) holds in
    λ i. figure.Waits (same_who a b found.0 i) (number k l found.1 i)
same_figure (figure.Waited a k) (figure.Waited b l) holds =
    let found = both (whos.eq-value.it a b) (k == l) holds in
    λ i. figure.Waited (same_who a b found.0 i) (number k l found.1 i)
same_figure (figure.TimeOuts a k) (figure.TimeOuts b l) holds =
    let found = both (whos.eq-value.it a b) (k == l) holds in
    λ i. figure.TimeOuts (same_who a b found.0 i) (number k l found.1 i)
same_figure (figure.Waiters a) (figure.Waiters b) holds = ap figure.Waiters (same_thing a b holds)
same_figure (figure.Messages a) (figure.Messages b) holds = ap figure.Messages (same_thing a b holds)
same_figure (figure.Hold a) (figure.Hold b) holds = ap figure.Hold (same_thing a b holds)
same_figure (figure.Outranked a) (figure.Outranked b) holds = ap figure.Outranked (same_thing a b holds)
same_figure (figure.Writes a) (figure.Writes b) holds = ap figure.Writes (number a b holds)
same_figure (figure.Reads a) (figure.Reads b) holds = ap figure.Reads (number a b holds)
same_figure (figure.InvalidReads a) (figure.InvalidReads b) holds = ap figure.InvalidReads (number a b holds)
same_figure (figure.Ages a) (figure.Ages b) holds = ap figure.Ages (number a b holds)
same_figure a b holds = cc

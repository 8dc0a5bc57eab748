-- The rule of a channel. One pass at most may send, and it knows all that was sent; one at most may receive, and it knows all that was received.
use Rattle.std.specs.Prelude.{◌≡◌, ℕ, Bool, true, List, ◌++◌}
use mathlib.Core.Option.{some}
use lib.ListN.{get_elem?}
use Rattle.core_intake.specs.declared.rule.Log.{Log}
use Rattle.core_intake.specs.declared.batch.Batch.{Batch}

abbrev pub log : Bool → Bool → List Batch → List Batch → Log
log sends receives sent received = record { sends = sends; receives = receives; sent = sent; received = received }

-- a pass that may send is the sender's and knows what was sent; one that may receive is the receiver's and knows what was received
abbrev pub Knows : ℕ → ℕ → List Batch → List Batch → ℕ → Log → Type 0
Knows sender receiver sent received port pass =
    (pass.sends ≡ true → (port ≡ sender) × (pass.sent ≡ sent)) × (pass.receives ≡ true → (port ≡ receiver) × (pass.received ≡ received))

-- what was sent is what was received, and then what the channel holds
abbrev pub IsRelayed : List Batch → List Log → Type 0
IsRelayed held passes = (sender : ℕ) × (receiver : ℕ) × (sent : List Batch) × (received : List Batch) × (sent ≡ received ++ held)
    × ((port : ℕ) (pass : Log) → get_elem? passes port ≡ some pass → Knows sender receiver sent received port pass)

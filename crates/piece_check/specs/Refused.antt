-- What the refusal of a step says.
use Rattle.std.specs.Prelude.{◌≡◌, ℕ, List}
use Rattle.apex_machine.specs.Demands.{Demand, FirstFails}
use Rattle.piece_check.specs.declared.fault.PieceFault.{PieceFault}
use Rattle.piece_check.specs.declared.fault.PieceFault.TheVariants.{Rejected, Memory}

-- a rejection gives the record's place and the cause of the first demand that fails
abbrev pub IsRefused : List {1} Demand → ℕ → PieceFault → Type 0
IsRefused demands place (Rejected at cause) = (at ≡ place) × FirstFails demands cause
IsRefused demands place Memory = Unit {0}

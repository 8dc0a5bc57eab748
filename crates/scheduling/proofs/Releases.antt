-- The first release of a periodic process.
use Rattle.std.proofs.Common.{◌≡◌, ℕ, ◌+◌, ◌-◌, ◌*◌, ◌/◌, ◌%◌, arith}
use Rattle.std.proofs.Math.Nat.{mod-add-div'}

-- the next multiple of a period is the present one and the period
pub next_multiple : (period now : ℕ) → now - now % period + period ≡ (now / period + 1) * period
next_multiple period now = omega (arith, mod-add-div' now period)

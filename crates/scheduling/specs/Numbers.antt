-- The numbers of processes.
use Rattle.std.specs.List.{AllByRecursion}
use Rattle.std.specs.Map.{keys_of}
use Rattle.std.specs.Prelude.{ℕ, ◌<◌, ◌^◌, Option, Some, None, ℤ, pos, negsuc, nat_lt, if◌then◌else◌}
use Rattle.apex_machine.specs.State.{Table}

-- each number fits 32 bits
abbrev pub NumbersFit : Table → Type 0
NumbersFit table = AllByRecursion (λ number. number < 2 ^ 32) (keys_of table)

-- the process number that a caller's number gives, if it fits 32 bits
abbrev pub number_of : ℤ → Option ℕ
number_of (pos n) = if nat_lt n 4294967296 then Some n else None
number_of (negsuc n) = None

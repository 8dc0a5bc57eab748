use Rattle.std.proofs.Common.{◌≡◌, ℕ, List, length}
use Rattle.std.specs.Io.KnownBytes.{Consumes}
use Rattle.sha2.specs.Hashers.{Holds256}
use Rattle.json_report.proofs.digest.digest_of.Given as goal

-- the hasher holds the bytes that were read, and their number is counted
abbrev pub invariant-loop : goal.invariant-loop
invariant-loop g l = (done : List ℕ) × Holds256 l.hasher done × (length done ≡ l.bytes) × Consumes (g.R.Read.remaining l.initial.reader) (g.R.Read.remaining l.reader) done

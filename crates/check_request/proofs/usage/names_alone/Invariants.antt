use Rattle.std.proofs.Common.{◌≡◌, map, string_bytes, take}
use Rattle.check_request.proofs.usage.names_alone.Given as goal

abbrev pub invariant-loop-name : goal.invariant-loop-name
invariant-loop-name l = map string_bytes l.cores.items ≡ map string_bytes (take l.name-index l.names)

use Rattle.std.proofs.Common.{◌≡◌, length, take}
use Rattle.module_config.proofs.keys.short_bytes.Given as goal

abbrev pub invariant-loop-byte : goal.invariant-loop-byte
invariant-loop-byte l = record { same : l.copy.items ≡ take l.byte-index l.bytes; as_many : length l.copy.items ≡ l.byte-index }

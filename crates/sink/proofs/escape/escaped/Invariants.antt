use Rattle.std.proofs.Common.{◌≡◌, flat_map}
use Rattle.std.specs.Prelude.{string_bytes}
use Rattle.sink.specs.Escapes.{escaped_character}
use Rattle.sink.proofs.escape.escaped.Given as goal

abbrev pub invariant-loop-character : goal.invariant-loop-character
invariant-loop-character l = string_bytes l.markup ≡ flat_map escaped_character l.yielded

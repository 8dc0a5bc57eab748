use Rattle.std.proofs.Common.{◌≡◌, map, string_bytes, take}
use Rattle.check_result.specs.FileNames.{name_of}
use Rattle.check_result.proofs.source_root.joined.Given as goal

-- the name so far is that of the parts so far
abbrev pub invariant-loop-part : goal.invariant-loop-part
invariant-loop-part l = string_bytes l.name ≡ name_of (map (λ part. part.now) (take l.part-index l.place))

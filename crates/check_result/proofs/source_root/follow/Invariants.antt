use Rattle.std.proofs.Common.{◌≡◌, map, take}
use Rattle.check_result.specs.FileNames.{walk}
use Rattle.check_result.proofs.source_root.follow.Given as goal

-- the parts so far were followed
abbrev pub invariant-loop-part : goal.invariant-loop-part
invariant-loop-part l = map (λ part. part.now) l.place.items ≡ walk (map (λ part. part.now) l.initial.place.items) (map (λ part. part.now) (take l.part-index l.part-items))

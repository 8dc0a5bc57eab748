use Rattle.std.proofs.Common.{◌≡◌, ◌++◌, take, drop}
use Rattle.record_read.specs.Woken.{front_of, rest_of}
use Rattle.record_read.proofs.woken.split_once.Given as goal

abbrev pub invariant-loop-place : goal.invariant-loop-place
invariant-loop-place l =
    (front_of l.separator l.text ≡ take l.place l.text ++ front_of l.separator (drop l.place l.text))
    × (rest_of l.separator l.text ≡ rest_of l.separator (drop l.place l.text))

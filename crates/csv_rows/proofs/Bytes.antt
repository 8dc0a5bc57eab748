-- Bytes that are read ahead.
use Rattle.std.proofs.Common.{◌≡◌, ◌<◌, ◌≤◌, ◌+◌, ◌-◌, ℕ, List, [], ◌∷◌, ◌++◌, length, take, drop, Option, Some, None, refl, sym, ap, arith, ◌∙◌, append_assoc}
use Rattle.std.specs.List.{copy_within}
use lib.Seq.{paste}
use Rattle.std.specs.Io.KnownBytes.{Consumes, Keeps, prepend_known}
use Rattle.std.proofs.lemmas.List.{length-drop, take_all}
use Rattle.std.proofs.lemmas.List.Edits.{take-paste}

-- bytes that are moved to the front
pub moved : (bytes : List ℕ) (at n : ℕ) → at ≤ length bytes → n ≡ length bytes - at → take n (copy_within bytes at (length bytes) 0) ≡ drop at bytes
moved bytes at n within is =
    let rest : length (drop at bytes) ≡ n = omega (arith, length-drop at bytes) in
    let from : n ≡ 0 + n = omega arith in
    ap (λ k. take n (paste bytes 0 (drop at bytes) k)) (sym is) ∙ ap (λ k. take k (paste bytes 0 (drop at bytes) n)) from
    ∙ take-paste bytes 0 (drop at bytes) n (omega arith) (omega arith) ∙ take_all n (drop at bytes) (omega arith)

-- bytes that are read join those that were read ahead
pub joined : (front part : List ℕ) (old new : Option (List ℕ)) → Consumes old new part → Keeps (prepend_known front old) (prepend_known (front ++ part) new)
joined front part None new h = tt
joined front part (Some xs) None h = absurd h
joined front part (Some xs) (Some ys) h = append_assoc front part ys ∙ ap (λ rest. front ++ rest) (sym h)

pub keeps_same : (a : Option (List ℕ)) → Keeps a a
keeps_same None = tt
keeps_same (Some xs) = refl

pub keeps_through : (a b c : Option (List ℕ)) → Keeps a b → Keeps b c → Keeps a c
keeps_through None b c first second = tt
keeps_through (Some xs) None c first second = absurd first
keeps_through (Some xs) (Some ys) None first second = absurd second
keeps_through (Some xs) (Some ys) (Some zs) first second = second ∙ first

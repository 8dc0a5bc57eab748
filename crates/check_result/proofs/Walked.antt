-- Where names lead.
use Rattle.std.proofs.Common.{◌≡◌, ℕ, ◌+◌, ◌≤◌, List, [], ◌∷◌, ◌++◌, length, take, get_or, ◌<◌, sym, ap, ◌∙◌, map, refl, Bor}
use Rattle.std.proofs.lemmas.List.{take_all, take_more, map-append}
use Rattle.std.proofs.lemmas.Bool.{false_from_ne_true}
use Rattle.std.proofs.lemmas.Slice.Eq.{bytes_eq-Decides}
use Rattle.std.specs.Str.{bytes_eq}
use Rattle.check_result.specs.FileNames.{step, walk}

-- the parts of a name that follow others lead on from where those lead
pub walk-append : (place before after : List (List ℕ)) → walk place (before ++ after) ≡ walk (walk place before) after
walk-append place [] after = refl
walk-append place (part ∷ before) after = walk-append (step place part) before after

-- a further part leads on from where those before it lead
pub walk-next : (place : List (List ℕ)) (parts : List (Bor (List ℕ))) (i : ℕ) (default : Bor (List ℕ)) (here there : List (List ℕ)) → i < length parts
    → here ≡ walk place (map (λ part. part.now) (take i parts)) → there ≡ step here ((get_or parts i default).now)
    → there ≡ walk place (map (λ part. part.now) (take (i + 1) parts))
walk-next place parts i default here there within so_far on =
    on
    ∙ ap (λ at. step at ((get_or parts i default).now)) so_far
    ∙ sym (walk-append place (map (λ part. part.now) (take i parts)) ((get_or parts i default).now ∷ []))
    ∙ ap (walk place) (sym (map-append (λ part. part.now) (take i parts) (get_or parts i default ∷ [])))
    ∙ ap (λ found. walk place (map (λ part. part.now) found)) (sym (take_more parts i default within))

-- once all parts were followed, they lead where they lead together
pub walk-all : (place : List (List ℕ)) (parts : List (Bor (List ℕ))) (i : ℕ) (here all : List (List ℕ)) → length parts ≤ i
    → here ≡ walk place (map (λ part. part.now) (take i parts)) → map (λ part. part.now) parts ≡ all → here ≡ walk place all
walk-all place parts i here all ended so_far are = so_far ∙ ap (λ found. walk place (map (λ part. part.now) found)) (take_all i parts ended) ∙ ap (walk place) are

-- a part that is none of those that lead elsewhere is added
pub step-name : (place : List (List ℕ)) (part : List ℕ) → (part ≡ 46 ∷ [] → ⊥) → (part ≡ [] → ⊥) → (part ≡ 46 ∷ 46 ∷ [] → ⊥) → step place part ≡ place ++ part ∷ []
step-name place part dot empty dots =
    rw (
      false_from_ne_true (bytes_eq part []) (λ same. empty ((bytes_eq-Decides part []).0 same)),
      false_from_ne_true (bytes_eq part (46 ∷ [])) (λ same. dot ((bytes_eq-Decides part (46 ∷ [])).0 same)),
      false_from_ne_true (bytes_eq part (46 ∷ 46 ∷ [])) (λ same. dots ((bytes_eq-Decides part (46 ∷ 46 ∷ [])).0 same)),
    ) refl

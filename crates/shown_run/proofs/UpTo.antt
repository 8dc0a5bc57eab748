-- The first records of a run: those that are accepted, up to the last place that is asked for.
use Rattle.std.proofs.Common.{◌≡◌, ◌≢◌, ◌≤◌, ◌-◌, ◌+◌, ◌++◌, ◌∙◌, ℕ, zero, suc, List, [], ◌∷◌, Option, Some, None, length, min, take, refl, sym, ap, subst, arith}
use Rattle.std.proofs.lemmas.List.{length-append}
use Rattle.std.proofs.Math.Seq.{take-length}
use Rattle.apex_types.specs.declared.record.Ordered.{Ordered}
use Rattle.apex_machine.specs.Configuration.{Configuration}
use Rattle.verdict_merge.specs.declared.verdict.Verdict.{Verdict}
use Rattle.shown_run.specs.declared.gathering.Gathering.{Gathering}
use Rattle.shown_run.specs.Kept.{AreRecent}
use Rattle.shown_run.specs.Stretches.{IsGathered, KeepsSame, NoneIsAfter, ReachTheLast, asked_of, up_to, with_accepted}

-- as many of two lists as the first of them has at least
pub take_past : {A : Type 0} (front back : List A) (n : ℕ) → length front ≤ n → take n (front ++ back) ≡ front ++ take (n - length front) back
take_past [] back n many = let same : n ≡ n - 0 = omega arith in ap (λ count. take count back) same
take_past (one ∷ front) back zero many = absurd (omega (arith, many))
take_past (one ∷ front) back (suc n) many =
    let same : n - length front ≡ suc n - suc (length front) = omega arith in
    ap (λ rest. one ∷ rest) (take_past front back n (omega (arith, many)) ∙ ap (λ count. front ++ take count back) same)

-- as many of two lists as the first of them has at most
pub take_within : {A : Type 0} (front back : List A) (n : ℕ) → n ≤ length front → take n (front ++ back) ≡ take n front
take_within front back zero few = refl
take_within [] back (suc n) few = absurd (omega (arith, few))
take_within (one ∷ front) back (suc n) few = ap (λ rest. one ∷ rest) (take_within front back n (omega (arith, few)))

-- the first of the first ones
pub take_twice : {A : Type 0} (first second : ℕ) (items : List A) → take first (take second items) ≡ take (min first second) items
take_twice zero second items = let none : 0 ≡ min 0 second = omega arith in ap (λ count. take count items) none
take_twice (suc first) zero items = let none : 0 ≡ min (suc first) 0 = omega arith in ap (λ count. take count items) none
take_twice (suc first) (suc second) [] = let more : suc (min first second) ≡ min (suc first) (suc second) = omega arith in ap (λ count. take count []) more
take_twice (suc first) (suc second) (one ∷ items) =
    let more : suc (min first second) ≡ min (suc first) (suc second) = omega arith in
    ap (λ rest. one ∷ rest) (take_twice first second items) ∙ ap (λ count. take count (one ∷ items)) more

-- no more than there are
pub take_least : {A : Type 0} (count : ℕ) (items : List A) → take (min count (length items)) items ≡ take count items
take_least zero items = let none : min 0 (length items) ≡ 0 = omega arith in ap (λ number. take number items) none
take_least (suc count) [] = let none : min (suc count) 0 ≡ 0 = omega arith in ap (λ number. take number []) none
take_least (suc count) (one ∷ items) =
    let more : min (suc count) (length (one ∷ items)) ≡ suc (min count (length items)) = omega arith in
    ap (λ number. take number (one ∷ items)) more ∙ ap (λ rest. one ∷ rest) (take_least count items)

-- at most as many as there are
pub asked_least : (asked : Option ℕ) (first count : ℕ) → asked_of asked first count ≤ count
asked_least None first count = omega arith
asked_least (Some at) first count = omega arith

-- all of them if none is after the last place that is asked for
pub up_to_all : (asked : Option ℕ) (taken : List Ordered) → NoneIsAfter asked (length taken) → up_to asked taken ≡ taken
up_to_all None taken room = refl
up_to_all (Some at) taken room =
    let all : min (suc at) (length taken) ≡ length taken = omega (arith, room) in
    sym (take_least (suc at) taken) ∙ ap (λ count. take count taken) all ∙ take-length taken

-- where all of a round may be shown, none is after the last place that is asked for
pub none_after : (asked : Option ℕ) (taken records : List Ordered) → NoneIsAfter asked (length taken) → asked_of asked (length taken) (length records) ≡ length records
    → NoneIsAfter asked (length (taken ++ records))
none_after None taken records room all = tt
none_after (Some at) taken records room all = omega (arith, room, all, length-append taken records)

-- where not all of a round may be shown, it has the record at the last place that is asked for
pub reach_last : (asked : Option ℕ) (taken records : List Ordered) → asked_of asked (length taken) (length records) ≢ length records → ReachTheLast asked (length (taken ++ records))
reach_last None taken records some = absurd (some refl)
reach_last (Some at) taken records some = (at, refl, omega (arith, some, length-append taken records))

-- they still have it with more records
pub reach_on : (asked : Option ℕ) (taken more : List Ordered) → ReachTheLast asked (length taken) → ReachTheLast asked (length (taken ++ more))
reach_on asked taken more (at, is, many) = (at, is, omega (arith, many, length-append taken more))

-- the first of these records and of some that come after them, up to the last place that is asked for
pub up_to_both : (asked : Option ℕ) (taken records : List Ordered) (accepted : ℕ) → NoneIsAfter asked (length taken)
    → up_to asked (taken ++ take accepted records) ≡ taken ++ take (min accepted (asked_of asked (length taken) (length records))) records
up_to_both None taken records accepted room = ap (λ list. taken ++ list) (sym (take_least accepted records))
up_to_both (Some at) taken records accepted room =
    let front = length taken in
    let same : min (min (suc at - front) accepted) (length records) ≡ min accepted (min (length records) (suc at - front)) = omega arith in
    take_past taken (take accepted records) (suc at) room
    ∙ ap (λ list. taken ++ list) (take_twice (suc at - front) accepted records ∙ sym (take_least (min (suc at - front) accepted) records) ∙ ap (λ count. take count records) same)

-- nothing is added once they have the record at the last place
pub up_to_full : (asked : Option ℕ) (taken more : List Ordered) → ReachTheLast asked (length taken) → up_to asked (taken ++ more) ≡ up_to asked taken
up_to_full asked taken more (at, is, many) =
    ap (λ one. up_to one (taken ++ more)) is ∙ take_within taken more (suc at) many ∙ ap (λ one. up_to one taken) (sym is)

-- as many of these records and of those after them as are accepted
pub take_seam : (before records rest : List Ordered) (n within : ℕ) → length before ≤ n → n ≤ length before + length records → n - length before ≡ within
    → take n ((before ++ records) ++ rest) ≡ before ++ take within records
take_seam [] records rest n within low high is =
    let same : n ≡ within = omega (arith, is) in
    take_within records rest n (omega (arith, high)) ∙ ap (λ count. take count records) same
take_seam (one ∷ before) records rest zero within low high is = absurd (omega (arith, low))
take_seam (one ∷ before) records rest (suc n) within low high is =
    ap (λ list. one ∷ list) (take_seam before records rest n within (omega (arith, low)) (omega (arith, high)) (omega (arith, is)))

-- what is gathered stays so
pub gathered_same : (configuration : Configuration) (taken : List Ordered) (old new : Gathering) → KeepsSame old new → IsGathered configuration taken old → IsGathered configuration taken new
gathered_same configuration taken old new (recent, asked) are =
    rw (recent, asked) are

-- records that come after the last place that is asked for change nothing of what is gathered
pub gathered_full : (configuration : Configuration) (taken more : List Ordered) (gathering : Gathering) → ReachTheLast gathering.asked.at (length taken) → IsGathered configuration taken gathering
    → IsGathered configuration (taken ++ more) gathering
gathered_full configuration taken more gathering full are =
    subst (λ (list : List Ordered). AreRecent configuration list gathering.recent) (sym (up_to_full gathering.asked.at taken more full)) are

-- all records of a round are accepted in which nothing decides
pub with_all : (taken records : List Ordered) (verdict : Option Verdict) → verdict ≡ None → with_accepted taken records verdict ≡ taken ++ records
with_all taken records None none = ap (λ list. taken ++ list) (take-length records)
with_all taken records (Some verdict) none = absurd cc

-- Fewer of the records that the pieces run over.
use Rattle.std.proofs.Common.{◌≡◌, ◌≤◌, ◌++◌, ◌∙◌, ℕ, zero, suc, List, [], ◌∷◌, Option, Some, None, Bool, true, false, not, length, take, drop, refl, sym, ap, subst, arith, append_assoc}
use Rattle.std.proofs.lemmas.List.{take-append-drop}
use Rattle.std.proofs.Math.Seq.{take-length}
use Rattle.std.specs.Prelude.{is_some}
use Rattle.apex_types.specs.declared.record.Ordered.{Ordered}
use Rattle.apex_machine.specs.Configuration.{Configuration}
use Rattle.apex_machine.specs.Runs.{PieceRun}
use Rattle.piece_check.specs.Parts.{Holding, piece_at}
use Rattle.shown_run.specs.Walks.{EachRuns}
use Rattle.verdict_merge.proofs.Rounds.{runs_front}
use Rattle.verdict_merge.specs.declared.verdict.Verdict.{Verdict}
use Rattle.verdict_merge.specs.Rounds.{Runs, cold_parts, parts_in}
use Rattle.shown_run.specs.Stretches.{HaveTaken, accepted_by}

-- the first of the first records
fewer : {A : Type 0} (few many : ℕ) (items : List A) → few ≤ many → take few (take many items) ≡ take few items
fewer zero many items less = refl
fewer (suc few) zero items less = absurd (omega (arith, less))
fewer (suc few) (suc many) [] less = refl
fewer (suc few) (suc many) (item ∷ items) less = ap (λ rest. item ∷ rest) (fewer few many items (omega (arith, less)))

-- a run over more records is a run over fewer
fewer_run : (configuration : Configuration) (taken records : List Ordered) (few many : ℕ) → few ≤ many
    → EachRuns configuration (cold_parts configuration) (taken ++ take many records) → EachRuns configuration (cold_parts configuration) (taken ++ take few records)
fewer_run configuration taken records few many less runs = λ number within.
    let front = take few records in
    let back = drop few (take many records) in
    let split : taken ++ take many records ≡ (taken ++ front) ++ back =
    ap (λ (list : List Ordered). taken ++ list) (sym (take-append-drop few (take many records)) ∙ ap (λ (list : List Ordered). list ++ back) (fewer few many records less))
    ∙ sym (append_assoc taken front back) in
    runs_front configuration (cold_parts configuration) number (taken ++ front) back (subst (λ (list : List Ordered). Runs configuration (cold_parts configuration) number list) split (runs number within))

-- the pieces run over the records that are kept
pub run_over_kept : (configuration : Configuration) (taken records : List Ordered) (verdict : Option Verdict) (holdings : List Holding) (few : ℕ)
    → few ≤ accepted_by (length taken) (length records) verdict → HaveTaken configuration taken records verdict holdings
    → EachRuns configuration (cold_parts configuration) (taken ++ take few records)
run_over_kept configuration taken records None holdings few less (run, going) =
    fewer_run configuration taken records few (length records) less (λ number within.
    (parts_in holdings number, subst (λ (list : List Ordered). PieceRun configuration (piece_at configuration number) (cold_parts configuration number) (taken ++ list) (parts_in holdings number)) (sym (take-length records)) (run number within)))
run_over_kept configuration taken records (Some verdict) holdings few less runs =
    fewer_run configuration taken records few (accepted_by (length taken) (length records) (Some verdict)) less runs

-- what a test says of an option
pub none_of : {A : Type 0} (value : Option A) (test : Bool) → is_some value ≡ not test → test ≡ true → value ≡ None
none_of None test is holds = refl
none_of (Some value) test is holds = let e : true ≡ false = is ∙ ap not holds in cc

-- the same in the other direction
pub is_none_of : {A : Type 0} (value : Option A) (test : Bool) → is_some value ≡ not test → value ≡ None → test ≡ true
is_none_of None true is none = refl
is_none_of None false is none = let e : false ≡ true = is in cc
is_none_of (Some value) test is none = absurd cc

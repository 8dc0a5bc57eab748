-- The last records that were taken in are the last before the place of an answer.
use Rattle.std.proofs.Common.{◌≡◌, ◌≤◌, ◌+◌, ◌-◌, ◌∙◌, ℕ, suc, List, [], ◌∷◌, ◌++◌, Result, Ok, Err, length, map, take, drop, refl, sym, ap, subst, inl, inr, arith, append_assoc}
use Rattle.std.proofs.lemmas.Bool.{cases_lt}
use Rattle.std.proofs.lemmas.List.{drop-map, length-append, length-drop, length-map, map-append, take-append-le}
use Rattle.std.proofs.Math.Seq.{drop-append-add, take-append-add}
use Rattle.apex_types.specs.declared.record.Ordered.{Ordered}
use Rattle.apex_machine.specs.Configuration.{Configuration}
use Rattle.apex_machine.specs.Pieces.{Part}
use Rattle.apex_machine.specs.Runs.{ArePlaced}
use Rattle.circular_buffer.specs.Buffer.{keep_last}
use Rattle.user_rules.specs.Remembered.{Requirements}
use Rattle.verdict_merge.specs.declared.verdict.Verdict.{Verdict}
use Rattle.verdict_merge.specs.declared.verdict.Verdict.TheVariants.{Yes, No, Broken}
use Rattle.verdict_merge.specs.Verdicts.{IsVerdictFrom}
use Rattle.verdict_merge.proofs.Verdicts.{no_at}
use Rattle.placement.specs.declared.fault.InputFault.{InputFault}
use Rattle.report.specs.declared.fault.CheckFault.{CheckFault}
use Rattle.report.specs.declared.last.LastItem.{LastItem}
use Rattle.report.specs.Outcome.{answer_with}
use Rattle.report.specs.Last.{item_of, kept_after_answer, last_before, last_of, most_last}

-- the last of a list after another

-- of a short list all are kept
pub all_kept : {X : Type 0} (n : ℕ) (list : List X) → length list ≤ n → keep_last n list ≡ list
all_kept n list short = ap (λ k. drop k list) (let e : length list - n ≡ 0 = omega (arith, short) in e)

-- a list after another that is as long as what is kept hides the other
kept_alone : {X : Type 0} (n : ℕ) (front back : List X) → n ≤ length back → keep_last n (front ++ back) ≡ keep_last n back
kept_alone n front back long =
    ap (λ k. drop k (front ++ back)) (let e : length (front ++ back) - n ≡ length front + (length back - n) = omega (arith, long, length-append front back) in e)
    ∙ drop-append-add front back (length back - n)

-- the first of a long list is not kept
shed : {X : Type 0} (n : ℕ) (one : X) (list : List X) → n ≤ length list → keep_last n (one ∷ list) ≡ keep_last n list
shed n one list long = ap (λ k. drop k (one ∷ list)) (let e : suc (length list) - n ≡ suc (length list - n) = omega (arith, long) in e)

-- what was kept of the first list is enough
pub kept_on : {X : Type 0} (n : ℕ) (front back : List X) → keep_last n (keep_last n front ++ back) ≡ keep_last n (front ++ back)
kept_on n [] back = ap (λ list. keep_last n (list ++ back)) (all_kept n [] (omega arith))
kept_on n (one ∷ front) back = elim (cases_lt (length front) n) [
  | inl short ↦ ap (λ list. keep_last n (list ++ back)) (all_kept n (one ∷ front) (omega (arith, short)))
  | inr long ↦ ap (λ list. keep_last n (list ++ back)) (shed n one front long) ∙ kept_on n front back ∙ sym (shed n one (front ++ back) (omega (arith, long, length-append front back)))
]

-- and so is what is kept of the second
pub kept_after_on : {X : Type 0} (n : ℕ) (front back : List X) → keep_last n (front ++ keep_last n back) ≡ keep_last n (front ++ back)
kept_after_on n front back = elim (cases_lt n (length back)) [
  | inr short ↦ ap (λ list. keep_last n (front ++ list)) (all_kept n back short)
  | inl more ↦
      let size : length (keep_last n back) ≡ n = omega (arith, more, length-drop (length back - n) back) in
      kept_alone n front (keep_last n back) (omega (arith, size)) ∙ all_kept n (keep_last n back) (omega (arith, size)) ∙ sym (kept_alone n front back (omega (arith, more)))
]

-- what is kept of records is what is kept of the last of them
pub late_enough : (n : ℕ) (kept : List LastItem) (records : List Ordered)
    → keep_last n (kept ++ map item_of (drop (length records - n) records)) ≡ keep_last n (kept ++ map item_of records)
late_enough n kept records =
    ap (λ list. keep_last n (kept ++ list)) (sym (drop-map item_of (length records - n) records) ∙ ap (λ k. drop (k - n) (map item_of records)) (sym (length-map records item_of)))
    ∙ kept_after_on n kept (map item_of records)

-- the last before the place of an answer

-- the place of a No or of a broken rule is among this many records from the first of these places on
abbrev pub IsWithin : Result Verdict CheckFault → ℕ → List Ordered → Type 0
IsWithin (Ok (No pos piece cause)) first records = (first ≤ pos) × (pos - first ≤ length records)
IsWithin (Ok (Broken pos rule)) first records = (first ≤ pos) × (pos - first ≤ length records)
IsWithin _ first records = Unit {0}

kept_before : (first place : ℕ) (before records more : List Ordered) → first ≡ length before → first ≤ place → place - first ≤ length records
    → keep_last most_last (keep_last most_last (map item_of before) ++ map item_of (take (place - first) records)) ≡ last_before place ((before ++ records) ++ more)
kept_before first place before records more count least most =
    let front = take (place - first) records in
    let whole : take place ((before ++ records) ++ more) ≡ before ++ front =
    ap (λ list. take place list) (append_assoc before records more)
    ∙ ap (λ k. take k (before ++ (records ++ more))) (let e : place ≡ length before + (place - first) = omega (arith, count, least) in e)
    ∙ take-append-add before (records ++ more) (place - first) ∙ ap (λ list. before ++ list) (take-append-le (place - first) records more most) in
    kept_on most_last (map item_of before) (map item_of front) ∙ ap (keep_last most_last) (sym (ap (map item_of) whole ∙ map-append item_of before front))

-- what is kept after an answer is what is reported after it
pub kept_is_last : (answer : Result Verdict CheckFault) (first : ℕ) (before records more : List Ordered) → first ≡ length before → IsWithin answer first records
    → kept_after_answer answer first (keep_last most_last (map item_of before)) records ≡ last_of answer ((before ++ records) ++ more)
kept_is_last (Ok (No pos piece cause)) first before records more count (least, most) = kept_before first pos before records more count least most
kept_is_last (Ok (Broken pos rule)) first before records more count (least, most) = kept_before first pos before records more count least most
kept_is_last _ first before records more count within = refl

-- a verdict over records is at a place among them
pub verdict_within : (configuration : Configuration) (requirements : Requirements) (parts : ℕ → Part) (first : ℕ) (records : List Ordered) (verdict : Verdict) → ArePlaced first records
    → IsVerdictFrom configuration requirements parts first records verdict → IsWithin (Ok verdict) first records
verdict_within configuration requirements parts first records (Yes all) placed is = tt
verdict_within configuration requirements parts first records (No pos piece cause) placed (is_shown, meet) =
    let at = no_at configuration parts first records (record { pos = pos; piece = piece; cause = cause }) placed is_shown in
    let size = ap length is_shown.split ∙ length-append is_shown.before (is_shown.ordered ∷ is_shown.after) in
    (omega (arith, at), omega (arith, at, size))
verdict_within configuration requirements parts first records (Broken pos rule) placed is =
    let size = ap length is.split ∙ length-append is.through is.after in
    (omega (arith, is.place), omega (arith, is.place, is.last, size))

-- an answer over records is at a place among them
pub answer_within : (verdict : Verdict) (end : Result (Unit {0}) InputFault) (first : ℕ) (records : List Ordered) (answer : Result Verdict CheckFault) → answer ≡ answer_with verdict end
    → IsWithin (Ok verdict) first records → IsWithin answer first records
answer_within (Yes all) (Ok ended) first records answer is within = subst (λ one. IsWithin one first records) (sym is) tt
answer_within (Yes all) (Err fault) first records answer is within = subst (λ one. IsWithin one first records) (sym is) tt
answer_within (No pos piece cause) end first records answer is within = subst (λ one. IsWithin one first records) (sym is) within
answer_within (Broken pos rule) end first records answer is within = subst (λ one. IsWithin one first records) (sym is) within

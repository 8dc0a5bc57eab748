-- An order of records has one verdict, and it is that of what all pieces find.
use Rattle.std.proofs.Common.{◌≡◌, ◌⊎◌, ◌<◌, ◌≤◌, ◌+◌, ◌∙◌, ℕ, zero, suc, List, [], ◌∷◌, ◌++◌, Option, Some, None, length, refl, sym, ap, subst, inl, inr, arith, append_assoc}
use Rattle.std.specs.Prelude.{Contains, slice_index_or}
use Rattle.std.proofs.lemmas.Bool.{cases_lt, cases_order}
use Rattle.std.proofs.lemmas.List.{append-nil, length-append}
use Rattle.std.proofs.lemmas.Option.{none-some, same_Some}
use Rattle.apex_types.specs.declared.cause.Cause.{Cause}
use Rattle.apex_types.specs.declared.record.Ordered.{Ordered}
use Rattle.apex_machine.specs.Configuration.{Configuration}
use Rattle.apex_machine.specs.Pieces.{ModulePart, Part, Piece, part, pieces}
use Rattle.apex_machine.specs.Pieces.Piece.{Module}
use Rattle.apex_machine.specs.Runs.{ArePlaced, Finds, PieceRun, Refusal, Refuses}
use Rattle.apex_machine.specs.State.{cold_state}
use Rattle.apex_laws.proofs.Joins.{found_is_refused, nothing_found_is_a_run, refused_found, run_finds_nothing}
use Rattle.apex_laws.proofs.Refusals.{one_first_refusal}
use Rattle.piece_check.specs.Parts.{piece_at}
use Rattle.user_rules.specs.declared.broken.Broken.{Broken as BrokenView}
use Rattle.user_rules.specs.FirstBroken.{IsFirstAmong}
use Rattle.user_rules.specs.Meets.{Valued}
use Rattle.user_rules.specs.Remembered.{required_by, valued}
use Rattle.verdict_merge.specs.declared.finding.Refused.{Refused}
use Rattle.verdict_merge.specs.declared.verdict.Verdict.{Verdict}
use Rattle.verdict_merge.specs.declared.verdict.Verdict.TheVariants.{Yes, No, Broken}
use Rattle.verdict_merge.specs.Findings.{IsLeast, IsLesser, Precedes}
use Rattle.verdict_merge.specs.Rounds.{AllRun, IsNo, Runs, cold_parts}
use Rattle.verdict_merge.specs.Verdicts.{AllFind, Follows, IsVerdict, VerdictIsOfTheFindings, findings_of}
use Rattle.verdict_merge.proofs.Among.{contains_after, contains_cases, contains_here, contains_none}
use Rattle.verdict_merge.proofs.Least.{least_more, not_itself, through}
use Rattle.verdict_merge.proofs.Rounds.{HasBeen, least_is_no, refuses_in, runs_front}
use Rattle.verdict_merge.proofs.Splits.{begins_with, place_after}

-- what the pieces say of one order of records, whatever the rules
abbrev pub IsPiecesVerdict : Configuration → List Ordered → Verdict → Type 0
IsPiecesVerdict configuration records (Yes all) = (all ≡ length records + 0) × ((final : ℕ → Part) × AllRun configuration (cold_parts configuration) records final)
IsPiecesVerdict configuration records (No pos piece cause) = IsNo configuration (cold_parts configuration) records (record { pos = pos; piece = piece; cause = cause })
IsPiecesVerdict configuration records (Broken pos rule) = ⊥

-- one verdict

-- a piece that runs through a record does not refuse it
pub runs_and_refuses : (configuration : Configuration) (piece : Piece) (old : Part) (before : List Ordered) (ordered : Ordered) (cause : Cause) (final : Part)
    → PieceRun configuration piece old (before ++ ordered ∷ []) final → Refuses configuration piece old before ordered cause → ⊥
runs_and_refuses configuration piece old before ordered cause final run refuses =
    let refusal : Refusal = record { pos = ordered.pos; cause = cause } in
    none-some refusal (one_first_refusal configuration piece old (before ++ ordered ∷ []) None (Some refusal)
    (run_finds_nothing configuration piece old (before ++ ordered ∷ []) final run)
    (refused_found configuration piece old before ordered [] refusal refl refuses))

-- the record of a No is at its place
pub no_at : (configuration : Configuration) (parts : ℕ → Part) (first : ℕ) (records : List Ordered) (found : Refused) → ArePlaced first records
    → (is_shown : IsNo configuration parts records found) → found.pos ≡ first + length is_shown.before
no_at configuration parts first records found placed is_shown =
    is_shown.place ∙ place_after first is_shown.before is_shown.ordered is_shown.after (subst (ArePlaced first) is_shown.split placed)

-- each piece runs up to the record of a No
pub runs_up_to : (configuration : Configuration) (parts : ℕ → Part) (records : List Ordered) (found : Refused) (is_shown : IsNo configuration parts records found)
    → (number : ℕ) → number < length (pieces configuration) → Runs configuration parts number is_shown.before
runs_up_to configuration parts records found is_shown number within = elim (cases_order number found.piece) [
  | inr (inl less) ↦ runs_front configuration parts number is_shown.before (is_shown.ordered ∷ []) (is_shown.smaller number less)
  | inl same ↦ subst (λ one. Runs configuration parts one is_shown.before) (sym same) (is_shown.refused.0, is_shown.refused.1)
  | inr (inr more) ↦ is_shown.larger number more within
]

-- the piece of a No runs over no longer list of the same records
pub runs_no_longer : (configuration : Configuration) (parts : ℕ → Part) (records : List Ordered) (found : Refused) (is_shown : IsNo configuration parts records found)
    → (long rest : List Ordered) → records ≡ long ++ rest → length is_shown.before < length long → Runs configuration parts found.piece long → ⊥
runs_no_longer configuration parts records found is_shown long rest split less runs =
    let front = begins_with is_shown.before is_shown.ordered is_shown.after long rest (sym is_shown.split ∙ split) less in
    let run = runs_front configuration parts found.piece (is_shown.before ++ is_shown.ordered ∷ []) front.0 (subst (Runs configuration parts found.piece) front.1 runs) in
    runs_and_refuses configuration (piece_at configuration found.piece) (parts found.piece) is_shown.before is_shown.ordered found.cause run.0 run.1 is_shown.refused

-- of two Nos of the same records none precedes the other
no_sooner : (configuration : Configuration) (parts : ℕ → Part) (first : ℕ) (records : List Ordered) (one other : Refused) → ArePlaced first records
    → IsNo configuration parts records one → IsNo configuration parts records other → Precedes one other → ⊥
no_sooner configuration parts first records one other placed is_shown also (inl sooner) =
    runs_no_longer configuration parts records one is_shown also.before (also.ordered ∷ also.after) also.split
    (omega (arith, sooner, no_at configuration parts first records one placed is_shown, no_at configuration parts first records other placed also))
    (runs_up_to configuration parts records other also one.piece is_shown.piece)
no_sooner configuration parts first records one other placed is_shown also (inr (same, less)) =
    runs_no_longer configuration parts records one is_shown (also.before ++ also.ordered ∷ []) also.after (also.split ∙ sym (append_assoc also.before (also.ordered ∷ []) also.after))
    (omega (arith, same, length-append also.before (also.ordered ∷ []), no_at configuration parts first records one placed is_shown, no_at configuration parts first records other placed also))
    (also.smaller one.piece less)

no_less : (a b : ℕ) → ¬ (a < b) → ¬ (b < a) → a ≡ b
no_less a b not also = omega (arith, not, also)

-- what the piece of a No finds in all the records
no_finds : (configuration : Configuration) (parts : ℕ → Part) (records : List Ordered) (found : Refused) → IsNo configuration parts records found
    → Finds configuration (piece_at configuration found.piece) (parts found.piece) records (Some (record { pos = found.pos; cause = found.cause }))
no_finds configuration parts records found is_shown =
    subst (λ list. Finds configuration (piece_at configuration found.piece) (parts found.piece) list (Some (record { pos = found.pos; cause = found.cause }))) (sym is_shown.split)
    (refused_found configuration (piece_at configuration found.piece) (parts found.piece) is_shown.before is_shown.ordered is_shown.after (record { pos = found.pos; cause = found.cause })
    is_shown.place is_shown.refused)

one_no : (configuration : Configuration) (parts : ℕ → Part) (first : ℕ) (records : List Ordered) (pos piece : ℕ) (cause : Cause) (pos' piece' : ℕ) (cause' : Cause) → ArePlaced first records
    → IsNo configuration parts records (record { pos = pos; piece = piece; cause = cause }) → IsNo configuration parts records (record { pos = pos'; piece = piece'; cause = cause' })
    → ◌≡◌ {A = Verdict} (No pos piece cause) (No pos' piece' cause')
one_no configuration parts first records pos piece cause pos' piece' cause' placed is_shown also =
    let one : Refused = record { pos = pos; piece = piece; cause = cause } in
    let other : Refused = record { pos = pos'; piece = piece'; cause = cause' } in
    let not = no_sooner configuration parts first records one other placed is_shown also in
    let nor = no_sooner configuration parts first records other one placed also is_shown in
    let same : pos ≡ pos' = no_less pos pos' (λ less. not (inl less)) (λ less. nor (inl less)) in
    let alike : piece ≡ piece' = no_less piece piece' (λ less. not (inr (same, less))) (λ less. nor (inr (sym same, less))) in
    let finds = subst (λ number. Finds configuration (piece_at configuration number) (parts number) records (Some (record { pos = pos'; cause = cause' }))) (sym alike)
    (no_finds configuration parts records other also) in
    let refusals = same_Some {A = Refusal} (record { pos = pos; cause = cause }) (record { pos = pos'; cause = cause' })
    (one_first_refusal configuration (piece_at configuration piece) (parts piece) records (Some (record { pos = pos; cause = cause })) (Some (record { pos = pos'; cause = cause' }))
    (no_finds configuration parts records one is_shown) finds) in
    let caused : cause ≡ cause' = ap (λ refusal. refusal.cause) refusals in
    cc

-- if each piece runs over all the records, there is no No
no_yes : (configuration : Configuration) (records : List Ordered) (found : Refused) (final : ℕ → Part) → AllRun configuration (cold_parts configuration) records final
    → IsNo configuration (cold_parts configuration) records found → ⊥
no_yes configuration records found final all is_shown =
    runs_no_longer configuration (cold_parts configuration) records found is_shown records [] (sym (append-nil records))
    (omega (arith, ap length is_shown.split, length-append is_shown.before (is_shown.ordered ∷ is_shown.after))) (final found.piece, all found.piece is_shown.piece)

-- the pieces say one thing
pub one_pieces_verdict : (configuration : Configuration) (records : List Ordered) (one other : Verdict) → ArePlaced 0 records
    → IsPiecesVerdict configuration records one → IsPiecesVerdict configuration records other → one ≡ other
one_pieces_verdict configuration records (Yes count) (Yes count') placed (is, (final, all)) (also, (final', all')) = ap Yes (is ∙ sym also)
one_pieces_verdict configuration records (Yes count) (No pos piece cause) placed (is, (final, all)) is_shown =
    absurd (no_yes configuration records (record { pos = pos; piece = piece; cause = cause }) final all is_shown)
one_pieces_verdict configuration records (No pos piece cause) (Yes count) placed is_shown (is, (final, all)) =
    absurd (no_yes configuration records (record { pos = pos; piece = piece; cause = cause }) final all is_shown)
one_pieces_verdict configuration records (No pos piece cause) (No pos' piece' cause') placed is_shown also =
    one_no configuration (cold_parts configuration) 0 records pos piece cause pos' piece' cause' placed is_shown also
one_pieces_verdict configuration records (Broken pos rule) other placed is also = absurd is
one_pieces_verdict configuration records (Yes count) (Broken pos rule) placed is also = absurd also
one_pieces_verdict configuration records (No place piece cause) (Broken pos rule) placed is also = absurd also

-- lists of findings

contains_later : (number : ℕ) (found : Option Refusal) (later : List Refused) (one : Refused) → Contains later one → Contains (findings_of number found ++ later) one
contains_later number None later one there = there
contains_later number (Some refusal) later one there = contains_after (record { pos = refusal.pos; piece = number; cause = refusal.cause }) one later there

-- the finding of a piece's refusal
abbrev as_finding : ℕ → Refusal → Refused
as_finding number refusal = record { pos = refusal.pos; piece = number; cause = refusal.cause }

-- what a piece finds, and that it is among the findings
abbrev FoundAt : Configuration → List Ordered → List Refused → ℕ → Piece → Type 0
FoundAt configuration records findings number piece =
    (found : Option Refusal) × Finds configuration piece (part piece (cold_state configuration)) records found
    × ((refusal : Refusal) → found ≡ Some refusal → Contains findings (as_finding number refusal))

found_at : (configuration : Configuration) (number : ℕ) (others : List Piece) (records : List Ordered) (findings : List Refused) → AllFind configuration number others records findings
    → (index : ℕ) → index < length others → FoundAt configuration records findings (number + index) (slice_index_or others index Module)
found_at configuration number [] records findings all index within = absurd (omega (arith, within))
found_at configuration number (piece ∷ others) records findings (found, later, finds, rest, is) zero within = (
  found,
  finds,
  λ refusal some. subst (λ n. Contains findings (as_finding n refusal)) (let e : number ≡ number + 0 = omega arith in e)
      (subst (λ list. Contains list (as_finding number refusal)) (sym (is ∙ ap (λ one. findings_of number one ++ later) some)) (contains_here (as_finding number refusal) later)),
)
found_at configuration number (piece ∷ others) records findings (found, later, finds, rest, is) (suc index) within =
    let holds_before = found_at configuration (suc number) others records later rest index (omega (arith, within)) in (
      holds_before.0,
      holds_before.1,
      λ refusal some. subst (λ n. Contains findings (as_finding n refusal)) (let e : suc number + index ≡ number + suc index = omega arith in e)
          (subst (λ list. Contains list (as_finding (suc number + index) refusal)) (sym is) (contains_later number found later (as_finding (suc number + index) refusal) (holds_before.2 refusal some))),
    )

-- who found one of the findings
abbrev FoundBy : Configuration → ℕ → List Piece → List Ordered → Refused → Type 0
FoundBy configuration number others records one =
    (index : ℕ) × (index < length others) × (one.piece ≡ number + index)
    × Finds configuration (slice_index_or others index Module) (part (slice_index_or others index Module) (cold_state configuration)) records (Some (record { pos = one.pos; cause = one.cause }))

found_after : (configuration : Configuration) (number : ℕ) (piece : Piece) (others : List Piece) (records : List Ordered) (one : Refused)
    → FoundBy configuration (suc number) others records one → FoundBy configuration number (piece ∷ others) records one
found_after configuration number piece others records one (index, within, at, finds) = (suc index, omega (arith, within), omega (arith, at), finds)

found_by : (configuration : Configuration) (number : ℕ) (others : List Piece) (records : List Ordered) (findings : List Refused) → AllFind configuration number others records findings
    → (one : Refused) → Contains findings one → FoundBy configuration number others records one
found_by configuration number [] records findings all one there = absurd (contains_none one (subst (λ list. Contains list one) all there))
found_by configuration number (piece ∷ others) records findings (None, later, finds, rest, is) one there =
    found_after configuration number piece others records one (found_by configuration (suc number) others records later rest one (subst (λ list. Contains list one) is there))
found_by configuration number (piece ∷ others) records findings (Some refusal, later, finds, rest, is) one there =
    elim (contains_cases (as_finding number refusal) one later (subst (λ list. Contains list one) is there)) [
      | inl same ↦ (
        0,
        omega arith,
        (ap (λ found. found.piece) same ∙ omega arith),
        subst (λ found. Finds configuration piece (part piece (cold_state configuration)) records (Some (record { pos = found.pos; cause = found.cause }))) (sym same) finds,
      )
      | inr more ↦ found_after configuration number piece others records one (found_by configuration (suc number) others records later rest one more)
    ]

-- the least of a list

decided : (one other : Refused) → Precedes one other ⊎ ¬ Precedes one other
decided one other = elim (cases_order one.pos other.pos) [
  | inl same ↦ elim (cases_lt one.piece other.piece) [ inl less ↦ inl (inr (same, less)) | inr most ↦ inr (neither (omega (arith, same)) (λ _. most)) ]
  | inr (inl sooner) ↦ inl (inl sooner)
  | inr (inr later) ↦ inr (neither (omega (arith, later)) (λ same. absurd (omega (arith, same, later))))
]
  where
    neither : other.pos ≤ one.pos → (one.pos ≡ other.pos → other.piece ≤ one.piece) → ¬ Precedes one other
    neither late most (inl sooner) = absurd (omega (arith, late, sooner))
    neither late most (inr (same, less)) = let least = most same in absurd (omega (arith, least, less))

lesser_of : (least : Option Refused) (next : Refused) → (found : Refused) × IsLesser Precedes least next found
lesser_of None next = (next, refl)
lesser_of (Some least) next = elim (decided next least) [ inl sooner ↦ (next, inl (refl, sooner)) | inr not ↦ (least, inr (refl, not)) ]

-- the least of these and of others after them
least_of : (front others : List Refused) (least : Option Refused) → IsLeast Precedes front least → (found : Option Refused) × IsLeast Precedes (front ++ others) found
least_of front [] least is = (least, subst (λ list. IsLeast Precedes list least) (sym (append-nil front)) is)
least_of front (next ∷ others) least is =
    let lesser = lesser_of least next in
    subst (λ list. (found : Option Refused) × IsLeast Precedes list found) (append_assoc front (next ∷ []) others)
    (least_of (front ++ next ∷ []) others (Some lesser.0) (least_more Precedes not_itself through front least next lesser.0 is lesser.1))

-- the verdict of the findings

-- a part for each number, with a fact if a piece has it
part_where : (count : ℕ) (Fact : ℕ → Part → Type 0) → ((number : ℕ) → number < count → (final : Part) × Fact number final)
    → (number : ℕ) → (final : Part) × (number < count → Fact number final)
part_where count Fact found number = elim (cases_lt number count) [
  | inl within ↦ let one = found number within in (one.0, λ inside. one.1)
  | inr past ↦ (ModulePart [], λ inside. absurd (omega (arith, inside, past)))
]

-- what the piece of a number finds
found_zero : (configuration : Configuration) (records : List Ordered) (findings : List Refused) → AllFind configuration 0 (pieces configuration) records findings
    → (number : ℕ) → number < length (pieces configuration) → FoundAt configuration records findings number (piece_at configuration number)
found_zero configuration records findings all number within =
    subst (λ n. FoundAt configuration records findings n (piece_at configuration number)) (let e : 0 + number ≡ number = omega arith in e)
    (found_at configuration 0 (pieces configuration) records findings all number within)

no_findings : (configuration : Configuration) (records : List Ordered) (findings : List Refused) → AllFind configuration 0 (pieces configuration) records findings → findings ≡ []
    → (number : ℕ) → number < length (pieces configuration) → Runs configuration (cold_parts configuration) number records
no_findings configuration records findings all none number within = by (found_zero configuration records findings all number within)
  where
    by : FoundAt configuration records findings number (piece_at configuration number) → Runs configuration (cold_parts configuration) number records
    by (None, finds, tells) = (nothing_found_is_a_run configuration (piece_at configuration number) (cold_parts configuration number) records).0 finds
    by (Some refusal, finds, tells) = absurd (contains_none (as_finding number refusal) (subst (λ list. Contains list (as_finding number refusal)) none (tells refusal refl)))

-- what became of each piece beside the least of the findings
been_so : (configuration : Configuration) (records : List Ordered) (findings : List Refused) (least : Refused) → AllFind configuration 0 (pieces configuration) records findings
    → ((other : Refused) → Contains findings other → ¬ Precedes other least) → (number : ℕ) → number < length (pieces configuration)
    → (final : Part) × HasBeen configuration (cold_parts configuration) records (λ _. final) (Some least) number
been_so configuration records findings least all no_other number within = by (found_zero configuration records findings all number within)
  where
    by : FoundAt configuration records findings number (piece_at configuration number)
        → (final : Part) × HasBeen configuration (cold_parts configuration) records (λ _. final) (Some least) number
    by (None, finds, tells) =
        let run = (nothing_found_is_a_run configuration (piece_at configuration number) (cold_parts configuration number) records).0 finds in
        (run.0, inl run.1)
    by (Some refusal, finds, tells) =
        let piece = piece_at configuration number in
        let among = refuses_in configuration piece (cold_parts configuration number) records refusal.pos refusal.cause
        ((found_is_refused configuration piece (cold_parts configuration number) records refusal).0 finds) in
        (among.0, inr (as_finding number refusal, (refl, among.1), no_other (as_finding number refusal) (tells refusal refl)))

least_no : (configuration : Configuration) (records : List Ordered) (findings : List Refused) (least : Refused) → ArePlaced 0 records
    → AllFind configuration 0 (pieces configuration) records findings → IsLeast Precedes findings (Some least) → IsNo configuration (cold_parts configuration) records least
least_no configuration records findings least placed all (there, no_other) =
    let by = found_by configuration 0 (pieces configuration) records findings all least there in
    let at : least.piece ≡ by.0 = by.2 ∙ omega arith in
    let finds = subst (λ number. Finds configuration (piece_at configuration number) (cold_parts configuration number) records (Some (record { pos = least.pos; cause = least.cause }))) (sym at) by.3 in
    let been = part_where (length (pieces configuration))
    (λ number final. HasBeen configuration (cold_parts configuration) records (λ _. final) (Some least) number)
    (been_so configuration records findings least all no_other) in
    let piece = piece_at configuration least.piece in
    let among = refuses_in configuration piece (cold_parts configuration least.piece) records least.pos least.cause
    ((found_is_refused configuration piece (cold_parts configuration least.piece) records (record { pos = least.pos; cause = least.cause })).0 finds) in
    least_is_no configuration (cold_parts configuration) (λ number. (been number).0) records 0 least among.0 placed (omega (arith, at, by.1))
    (refl, among.1)
    (λ number within. (been number).1 within)

follows_is : (configuration : Configuration) (records : List Ordered) (findings : List Refused) (verdict : Verdict) → ArePlaced 0 records
    → AllFind configuration 0 (pieces configuration) records findings → Follows findings (length records) verdict → IsPiecesVerdict configuration records verdict
follows_is configuration records findings (Yes count) placed all (none, counted) =
    let runs = part_where (length (pieces configuration)) (λ number final. PieceRun configuration (piece_at configuration number) (cold_parts configuration number) records final)
    (no_findings configuration records findings all none) in
    (omega (arith, counted), ((λ number. (runs number).0), λ number within. (runs number).1 within))
follows_is configuration records findings (No pos piece cause) placed all least =
    least_no configuration records findings (record { pos = pos; piece = piece; cause = cause }) placed all least
follows_is configuration records findings (Broken pos rule) placed all follows = absurd follows

some_follows : (findings : List Refused) (count : ℕ) → (verdict : Verdict) × Follows findings count verdict
some_follows findings count = by (least_of [] findings None refl)
  where
    by : (found : Option Refused) × IsLeast Precedes findings found → (verdict : Verdict) × Follows findings count verdict
    by (None, none) = (Yes count, (none, refl))
    by (Some least, is) = (No least.pos least.piece least.cause, is)

-- without a rule no rule is broken
pub no_rule_broken : (views : List Valued) (broken : BrokenView) → ¬ IsFirstAmong [] views (Some broken)
no_rule_broken views broken is = nothing_split is.first.earlier is.first.relation is.first.later is.first.split
  where
    nothing_split : {A : Type 0} (earlier : List A) (one : A) (later : List A) → ◌≡◌ {A = List A} [] (earlier ++ one ∷ later) → ⊥
    nothing_split [] one later e = cc
    nothing_split (first ∷ earlier) one later e = cc

-- without a rule the verdict is that of the pieces
pieces_verdict : (configuration : Configuration) (records : List Ordered) (verdict : Verdict)
    → (IsVerdict configuration (required_by [] []) records verdict → IsPiecesVerdict configuration records verdict) × (IsPiecesVerdict configuration records verdict → IsVerdict configuration (required_by [] []) records verdict)
pieces_verdict configuration records (Yes all) = (λ is. (is.0, is.1), λ is. (is.0, is.1, tt))
pieces_verdict configuration records (No pos piece cause) = (λ is. is.0, λ is. (is, tt))
pieces_verdict configuration records (Broken pos rule) = (λ is. no_rule_broken (valued (required_by [] []) is.views) is.broken is.first, λ is. absurd is)

pub verdict_is_of_the_findings : VerdictIsOfTheFindings
verdict_is_of_the_findings configuration records findings verdict placed all = (
  λ is. let some = some_follows findings (length records) in
      subst (Follows findings (length records))
      (one_pieces_verdict configuration records some.0 verdict placed (follows_is configuration records findings some.0 placed all some.1) ((pieces_verdict configuration records verdict).0 is)) some.1,
  λ follows. (pieces_verdict configuration records verdict).1 (follows_is configuration records findings verdict placed all follows),
)

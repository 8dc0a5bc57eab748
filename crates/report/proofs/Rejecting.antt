-- The piece that a No names, as a round leaves it and as a witness is shown it.
use Rattle.std.proofs.Common.{◌≡◌, ◌<◌, ◌+◌, ◌-◌, ◌∙◌, ℕ, List, ◌∷◌, ◌++◌, Option, Some, None, Result, Ok, Err, length, get_or, refl, sym, ap, subst, arith}
use Rattle.std.specs.Prelude.{Contains, slice_get}
use Rattle.std.proofs.lemmas.List.{length-append}
use Rattle.std.proofs.lemmas.Option.{get_or_from_slice_get, slice_get_within}
use Rattle.std.proofs.Math.Seq.{get_or-append_seam}
use Rattle.apex_types.specs.declared.cause.Cause.{Cause}
use Rattle.apex_types.specs.declared.record.Ordered.{Ordered}
use Rattle.apex_machine.specs.Configuration.{Configuration}
use Rattle.apex_machine.specs.Pieces.{Part, Piece, part}
use Rattle.apex_machine.specs.Runs.{ArePlaced, PieceRun}
use Rattle.apex_machine.specs.State.{cold_state}
use Rattle.apex_laws.proofs.Joins.{runs_join}
use Rattle.placement.specs.declared.fault.InputFault.{InputFault}
use Rattle.piece_check.proofs.Reaching.{placed_at}
use Rattle.piece_check.proofs.Viewing.{IsPartOf_state}
use Rattle.piece_check.specs.Parts.{Holding, IsPartOf, holder, piece_at}
use Rattle.user_rules.specs.declared.broken.Broken.{Broken as BrokenView}
use Rattle.verdict_merge.specs.declared.finding.Refused.{Refused}
use Rattle.verdict_merge.specs.declared.verdict.Verdict.{Verdict}
use Rattle.verdict_merge.specs.declared.verdict.Verdict.TheVariants.{Yes, No, Broken}
use Rattle.verdict_merge.specs.Rounds.{AllRun, IsRound, Judging, Rejects, cold_parts, holding_at, parts_of}
use Rattle.verdict_merge.specs.Verdicts.{against, no_of}
use Rattle.verdict_merge.proofs.Giving.{part_of_run}
use Rattle.verdict_merge.proofs.Holdings.{holding_at-get}
use Rattle.report.specs.declared.fault.CheckFault.{CheckFault}
use Rattle.report.specs.Outcome.{answer_with}
use Rattle.report.specs.Rounds.{LeavesItsPiece}
use Rattle.report.specs.Shown.{IsReachedBefore, StillRejects}

-- as a round leaves it

-- the piece of a No that decides against a round
pub leaves_its_piece : (configuration : Configuration) (judging judged : Judging) (records : List Ordered) (found : Option Refused) (broken : Option BrokenView) (verdict : Verdict)
    → IsRound configuration judging records found judged → against judging.count found broken ≡ Some verdict → LeavesItsPiece configuration judging records (Ok verdict) judged
leaves_its_piece configuration judging judged records found (Some broken) verdict round is =
    let same : Broken (judging.count + broken.view) broken.rule ≡ verdict = cc in
    subst (λ one. LeavesItsPiece configuration judging records (Ok one) judged) same tt
leaves_its_piece configuration judging judged records (Some found) None verdict round is =
    let same : no_of found ≡ verdict = cc in
    subst (λ one. LeavesItsPiece configuration judging records (Ok one) judged) same round
leaves_its_piece configuration judging judged records None None verdict round is = let none : ◌≡◌ {A = Option Verdict} None (Some verdict) = is in cc

-- an answer after records against which nothing decides is no No
pub leaves_all : (configuration : Configuration) (judging judged : Judging) (records : List Ordered) (count : ℕ) (end : Result (Unit {0}) InputFault)
    → LeavesItsPiece configuration judging records (answer_with (Yes count) end) judged
leaves_all configuration judging judged records count (Ok done) = tt
leaves_all configuration judging judged records count (Err fault) = tt

-- as a witness is shown it

-- a record among others, and its place
pub contains_seam : (before : List Ordered) (ordered : Ordered) (after records : List Ordered) → records ≡ before ++ ordered ∷ after → Contains records ordered
contains_seam before ordered after records split =
    subst (λ list. Contains list ordered) (sym split)
    (length before, omega (arith, length-append before (ordered ∷ after)), get_or-append_seam before ordered after ordered)

pub place_of_seam : (first : ℕ) (before : List Ordered) (ordered : Ordered) (after records : List Ordered) → records ≡ before ++ ordered ∷ after → ArePlaced first records → ordered.pos ≡ first + length before
place_of_seam first before ordered after records split placed =
    let within : length before < length (before ++ ordered ∷ after) = omega (arith, length-append before (ordered ∷ after)) in
    sym (ap (λ one. one.pos) (get_or-append_seam before ordered after ordered))
    ∙ placed_at first (length before) ordered (before ++ ordered ∷ after) (subst (ArePlaced first) split placed) within

-- what leads the piece from the cold state up to the record that it rejects
pub still_rejects : (configuration : Configuration) (judging judged : Judging) (before records : List Ordered) (answer : Result Verdict CheckFault)
    → AllRun configuration (cold_parts configuration) before (parts_of judging) → judging.count ≡ length before → ArePlaced judging.count records
    → LeavesItsPiece configuration judging records answer judged → StillRejects configuration records answer judged
still_rejects configuration judging judged before records (Ok (No place number cause)) run count placed (is_shown, (front, ordered, after, split, there, onward, rejects)) =
    let piece = piece_at configuration number in
    let cold = cold_parts configuration number in
    let left = parts_of judged number in
    let whole : PieceRun configuration piece cold (before ++ front) left = (runs_join configuration piece cold before front left).1 (parts_of judging number, run number is_shown.piece, onward) in
    let whose : IsPartOf piece left = part_of_run configuration piece cold left (before ++ front) (IsPartOf_state piece (cold_state configuration)) whole in
    let at : ordered.pos ≡ judging.count + length front = place_of_seam judging.count front ordered after records split placed in
    let many : length (before ++ front) ≡ ordered.pos = omega (arith, at, count, length-append before front) in
    let reached : IsReachedBefore configuration left ordered =
    (before ++ front, many, subst (λ one. PieceRun configuration one (part one (cold_state configuration)) (before ++ front) left) (sym whose) whole) in
    (ordered, contains_seam front ordered after records split, sym there, reached, subst (λ one. Rejects configuration one left ordered cause) (sym whose) rejects)
still_rejects configuration judging judged before records (Ok (Yes count)) run counted placed leaves = tt
still_rejects configuration judging judged before records (Ok (Broken place rule)) run counted placed leaves = tt
still_rejects configuration judging judged before records (Err fault) run counted placed leaves = tt

-- the piece of the number and the record at the place
pub rejects_shown : (configuration : Configuration) (judging : Judging) (first : ℕ) (records : List Ordered) (place number : ℕ) (cause : Cause) (holding : Holding) (ordered : Ordered)
    → ArePlaced first records → StillRejects configuration records (Ok (No place number cause)) judging
    → slice_get judging.pieces number ≡ Some holding → slice_get records (place - first) ≡ Some ordered
    → IsReachedBefore configuration holding.part ordered × Rejects configuration (holder holding.part) holding.part ordered cause
rejects_shown configuration judging first records place number cause holding ordered placed (one, (index, within, is), there, reached, rejects) piece record_there =
    let at : place - first ≡ index = omega (arith, there, ap (λ one. one.pos) is, placed_at first index one records placed within) in
    let same : one ≡ ordered = sym is ∙ ap (λ n. get_or records n one) (sym at) ∙ get_or_from_slice_get records (place - first) ordered one record_there in
    let held : holding_at judging.pieces number ≡ holding =
    holding_at-get judging.pieces number holding (slice_get_within judging.pieces number holding piece) ∙ get_or_from_slice_get judging.pieces number holding holding piece in
    let shown : IsReachedBefore configuration holding.part one × Rejects configuration (holder holding.part) holding.part one cause =
    subst (λ held. IsReachedBefore configuration held.part one × Rejects configuration (holder held.part) held.part one cause) held (reached, rejects) in
    subst (λ one. IsReachedBefore configuration holding.part one × Rejects configuration (holder holding.part) holding.part one cause) same shown

-- What a piece gives over its run: it is the same piece all the time, and the views of the records that it judges are its.
use Rattle.std.proofs.Common.{◌≡◌, ◌<◌, ◌≤◌, ◌∙◌, ℕ, zero, suc, List, [], ◌∷◌, ◌++◌, Bool, true, false, Option, Some, None, length, refl, sym, ap, subst, arith}
use Rattle.std.specs.Prelude.{IsTrue}
use Rattle.apex_types.specs.declared.record.Body.{Body}
use Rattle.apex_types.specs.declared.record.Body.TheVariants.{Arrive, Call, Depart, Error, Ret, Disp, Tick}
use Rattle.apex_types.specs.declared.record.Ordered.{Ordered}
use Rattle.apex_types.specs.declared.view.View.{View}
use Rattle.apex_machine.specs.declared.state.CoreState.{CoreState}
use Rattle.apex_machine.specs.Configuration.{Configuration}
use Rattle.apex_machine.specs.Demands.{AllHold, module_demands}
use Rattle.apex_machine.specs.Pieces.{ChannelPart, Module, ModulePart, Part, PartitionPart, Piece, is_configured, pieces, touches}
use Rattle.apex_machine.specs.Runs.{ArePlaced, Goes, PieceRun}
use Rattle.apex_machine.specs.Views.{judge, judge_by}
use Rattle.apex_laws.proofs.Joins.{runs_join}
use Rattle.piece_check.proofs.Viewing.{IsPartOf_step, view_is_of_judge, view_of_judge}
use Rattle.piece_check.specs.Parts.{IsPartOf, piece_at}
use Rattle.verdict_merge.specs.declared.finding.Refused.{Refused}
use Rattle.verdict_merge.specs.Rounds.{IsNo, Runs}
use Rattle.verdict_merge.specs.Views.{up_to}
use Rattle.verdict_merge.proofs.Rounds.{runs_front}
use Rattle.verdict_merge.proofs.Silence.{numbered}
use Rattle.verdict_merge.proofs.Slotted.{slot_at}
use Rattle.verdict_merge.proofs.Splits.{begins_with}
use Rattle.verdict_merge.proofs.Verdicts.{runs_up_to}
use Rattle.verdict_merge.proofs.Viewing.{Gives, HasFilled, before_of, up_to_front}

part_of_next : (touched : Bool) (configuration : Configuration) (piece : Piece) (old next : Part) (ordered : Ordered) → IsPartOf piece old
    → Goes touched configuration old ordered next → IsPartOf piece next
part_of_next true configuration piece old next ordered whose step = IsPartOf_step configuration piece old next ordered whose step
part_of_next false configuration piece old next ordered whose same = subst (IsPartOf piece) (sym same) whose

-- a piece stays what it is over its run
pub part_of_run : (configuration : Configuration) (piece : Piece) (old final : Part) (records : List Ordered) → IsPartOf piece old
    → PieceRun configuration piece old records final → IsPartOf piece final
part_of_run configuration piece old final [] whose same = subst (IsPartOf piece) (sym same) whose
part_of_run configuration piece old final (ordered ∷ others) whose (next, goes, rest) =
    part_of_run configuration piece next final others (part_of_next (touches configuration piece ordered) configuration piece old next ordered whose goes) rest

-- its views are those of the records that it judges
pub gives : (configuration : Configuration) (parts : ℕ → Part) (number : ℕ) → IsPartOf (piece_at configuration number) (parts number) → Gives configuration parts number
gives configuration parts number whose = record {
  only = λ before ordered reached view run seen.
      view_is_of_judge (piece_at configuration number) reached ordered view (part_of_run configuration (piece_at configuration number) (parts number) reached before whose run) seen;
  always = λ before ordered reached run judges.
      view_of_judge reached ordered (subst (λ piece. IsPartOf piece reached) judges (part_of_run configuration (piece_at configuration number) (parts number) reached before whose run));
}

-- the module's part
module_part : (part : Part) → IsPartOf Module part → (cores : List CoreState) × (part ≡ ModulePart cores)
module_part (ModulePart cores) whose = (cores, refl)
module_part (PartitionPart number cores partition) whose = absurd cc
module_part (ChannelPart number times channel) whose = absurd cc

-- a record that the module accepts is judged by a configured piece
names_judge : (configuration : Configuration) (cores : List CoreState) (core : ℕ) (body : Body) → AllHold (module_demands configuration cores core body)
    → IsTrue (is_configured configuration (judge_by body))
names_judge configuration cores core (Call call) hold = hold.0.0
names_judge configuration cores core (Ret ret) hold = hold.0
names_judge configuration cores core (Disp who) hold = refl
names_judge configuration cores core (Tick woken) hold = refl
names_judge configuration cores core (Arrive crossing) hold = refl
names_judge configuration cores core (Depart crossing) hold = refl
names_judge configuration cores core (Error report) hold = refl

-- if the module runs through a record, one of the pieces judges it
pub judged_by : (configuration : Configuration) (parts : ℕ → Part) (before : List Ordered) (ordered : Ordered) → IsPartOf Module (parts 0)
    → Runs configuration parts 0 (before ++ ordered ∷ [])
    → (number : ℕ) × (number < length (pieces configuration)) × (piece_at configuration number ≡ judge ordered)
judged_by configuration parts before ordered whose (final, run) =
    let parted = (runs_join configuration Module (parts 0) before (ordered ∷ []) final).0 run in
    let cores = module_part parted.0 (part_of_run configuration Module (parts 0) parted.0 before whose parted.1) in
    let goes : Goes true configuration parted.0 ordered parted.2.0 = parted.2.1 in
    let hold = subst (λ part. Goes true configuration part ordered parted.2.0) cores.1 goes in
    numbered configuration (judge ordered) (names_judge configuration cores.0 ordered.core ordered.rec.body hold.0)

-- the record of an index
split_at : (records : List Ordered) (index : ℕ) → index < length records
    → (before : List Ordered) × (ordered : Ordered) × (after : List Ordered) × (records ≡ before ++ ordered ∷ after) × (length before ≡ index)
split_at [] index within = absurd (omega (arith, within))
split_at (ordered ∷ others) zero within = ([], ordered, others, refl, refl)
split_at (first ∷ others) (suc index) within =
    let rest = split_at others index (omega (arith, within)) in
    (first ∷ rest.0, rest.1, rest.2, ap (λ list. first ∷ list) rest.3, ap suc rest.4)

-- what became of all pieces: they ran over the records, or there is a No among them
abbrev pub HaveRun : Configuration → (ℕ → Part) → List Ordered → Option Refused → Type 0
HaveRun configuration parts records None = (number : ℕ) → number < length (pieces configuration) → Runs configuration parts number records
HaveRun configuration parts records (Some found) = IsNo configuration parts records found

-- the records before the one that is refused are those before the No
pub up_to_no : (configuration : Configuration) (parts : ℕ → Part) (first : ℕ) (records : List Ordered) (found : Refused) → ArePlaced first records
    → (is_shown : IsNo configuration parts records found) → up_to (Some found) records ≡ is_shown.before
up_to_no configuration parts first records found placed is_shown =
    ap (up_to (Some found)) is_shown.split ∙ before_of first is_shown.before is_shown.ordered is_shown.after found.pos (subst (ArePlaced first) is_shown.split placed) is_shown.place

-- all pieces run over the front of what is before a refusal
pub run_up_to : (configuration : Configuration) (parts : ℕ → Part) (first : ℕ) (records : List Ordered) (found : Option Refused) → ArePlaced first records → HaveRun configuration parts records found
    → (number : ℕ) → number < length (pieces configuration) → (front back : List Ordered) → up_to found records ≡ front ++ back → Runs configuration parts number front
run_up_to configuration parts first records None placed outcome number within front back split =
    runs_front configuration parts number front back (subst (Runs configuration parts number) split (outcome number within))
run_up_to configuration parts first records (Some found) placed is_shown number within front back split =
    runs_front configuration parts number front back
    (subst (Runs configuration parts number) (sym (up_to_no configuration parts first records found placed is_shown) ∙ split) (runs_up_to configuration parts records found is_shown number within))

-- each record before the one that is refused has its view in its slot
pub all_filled : (configuration : Configuration) (parts : ℕ → Part) (first : ℕ) (records : List Ordered) (found : Option Refused) (slots : List (Option View)) → ArePlaced first records
    → IsPartOf Module (parts 0) → 0 < length (pieces configuration) → HaveRun configuration parts records found
    → ((number : ℕ) → number < length (pieces configuration) → HasFilled configuration parts records slots number)
    → length (up_to found records) ≤ length records
    → (index : ℕ) → index < length (up_to found records) → (view : View) × (slot_at slots index ≡ Some view)
all_filled configuration parts first records found slots placed whose some outcome filled most index within =
    let split = split_at records index (omega (arith, within, most)) in
    let less : length split.0 < length (up_to found records) = omega (arith, within, split.4) in
    let front = up_to_front records found in
    let middle = begins_with split.0 split.1 split.2 (up_to found records) front.0 (sym split.3 ∙ front.1) less in
    let runs : (number : ℕ) → number < length (pieces configuration) → Runs configuration parts number (split.0 ++ split.1 ∷ []) = λ number inside.
    run_up_to configuration parts first records found placed outcome number inside (split.0 ++ split.1 ∷ []) middle.0 middle.1 in
    let by = judged_by configuration parts split.0 split.1 whose (runs 0 some) in
    let there = filled by.0 by.1 split.0 split.1 split.2 split.3 by.2 (runs by.0 by.1) in
    (there.0, ap (slot_at slots) (sym split.4) ∙ there.1)

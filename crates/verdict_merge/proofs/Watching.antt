-- The views of a round, up to the record that is refused.
use Rattle.std.proofs.Common.{get_or, ◌≡◌, ◌<◌, ◌≤◌, ◌+◌, ◌-◌, ◌∙◌, ℕ, suc, List, [], ◌∷◌, Option, Some, None, length, map, take, refl, sym, ap, subst, arith}
use Rattle.std.specs.Prelude.{IfSome, slice_get}
use Rattle.std.proofs.lemmas.List.{get_or-map, get_or-take, length-append, length-map, length-take, length-take-le}
use Rattle.std.proofs.lemmas.Option.{get_or_from_slice_get, slice_get_within}
use Rattle.apex_types.specs.declared.record.Ordered.{Ordered}
use Rattle.apex_types.specs.declared.view.View.{View}
use Rattle.apex_machine.specs.Configuration.{Configuration}
use Rattle.apex_machine.specs.Pieces.{Module, Part, pieces}
use Rattle.apex_machine.specs.Runs.{ArePlaced}
use Rattle.piece_check.specs.Parts.{Holding, IsPartOf}
use Rattle.verdict_merge.specs.declared.finding.Refused.{Refused}
use Rattle.verdict_merge.specs.Rounds.{parts_in}
use Rattle.verdict_merge.specs.Rounds as rounds
use Rattle.verdict_merge.specs.Views.{AreViews, count_before, up_to}
use Rattle.verdict_merge.proofs.Giving.{HaveRun, all_filled, up_to_no}
use Rattle.verdict_merge.proofs.Rounds.{HasBeen, IsFound, least_is_no, none_ran}
use Rattle.verdict_merge.proofs.Slotted.{slot_at}
use Rattle.verdict_merge.proofs.Splits.{place_after}
use Rattle.verdict_merge.proofs.Verdicts.{no_at}
use Rattle.verdict_merge.proofs.Viewing.{AreSound, HasFilled, up_to_front, views_of_slots}

-- the place of the least refusal is one of the records'
pub refused_within : (configuration : Configuration) (old new : ℕ → Part) (records : List Ordered) (first count : ℕ) (least : Option Refused) → ArePlaced first records
    → IsFound configuration old new records count least → IfSome least (λ refused. (first ≤ refused.pos) × (refused.pos - first ≤ length records))
refused_within configuration old new records first count None placed found = tt
refused_within configuration old new records first count (Some least) placed (within, (of, (before, ordered, after, split, place, run, rejects))) =
    let at = place_after first before ordered after (subst (ArePlaced first) split placed) in
    let whole : length records ≡ length before + suc (length after) = ap length split ∙ length-append before (ordered ∷ after) in
    (omega (arith, place, at), omega (arith, place, at, whole))

-- this many records come before the one that is rejected
pub counted_are : (configuration : Configuration) (parts : ℕ → Part) (first : ℕ) (records : List Ordered) (found : Option Refused) → ArePlaced first records → HaveRun configuration parts records found
    → count_before first records found ≡ length (up_to found records)
counted_are configuration parts first records None placed outcome = refl
counted_are configuration parts first records (Some found) placed is_shown =
    let same = up_to_no configuration parts first records found placed is_shown in
    omega (arith, ap length same, no_at configuration parts first records found placed is_shown)

up_to_most : (records : List Ordered) (found : Option Refused) → length (up_to found records) ≤ length records
up_to_most records found = let front = up_to_front records found in omega (arith, ap length front.1, length-append (up_to found records) front.0)

pub wanted_within : (configuration : Configuration) (parts : ℕ → Part) (first : ℕ) (records : List Ordered) (found : Option Refused) (slots : List (Option View))
    → ArePlaced first records → HaveRun configuration parts records found → length slots ≡ length records → count_before first records found ≤ length slots
wanted_within configuration parts first records found slots placed outcome whole =
    omega (arith, whole, counted_are configuration parts first records found placed outcome, up_to_most records found)

pub wanted_filled : (configuration : Configuration) (parts : ℕ → Part) (first : ℕ) (records : List Ordered) (found : Option Refused) (slots : List (Option View))
    → ArePlaced first records → IsPartOf Module (parts 0) → 0 < length (pieces configuration) → HaveRun configuration parts records found
    → ((number : ℕ) → number < length (pieces configuration) → HasFilled configuration parts records slots number)
    → (index : ℕ) → index < count_before first records found → (view : View) × (slot_at slots index ≡ Some view)
wanted_filled configuration parts first records found slots placed whose some outcome filled index within =
    all_filled configuration parts first records found slots placed whose some outcome filled (up_to_most records found) index
    (omega (arith, within, counted_are configuration parts first records found placed outcome))

-- a view of those in the first slots is in its slot
pub held_at : (views : List View) (count : ℕ) (slots : List (Option View)) → map Some views ≡ take count slots → (index : ℕ) (view : View) → slice_get views index ≡ Some view
    → slot_at slots index ≡ Some view
held_at views count slots same index view is =
    let within = slice_get_within views index view is in
    let below : index < count = omega (arith, within, ap length same, length-map views Some, length-take count slots) in
    sym (get_or-take count slots index None below) ∙ ap (λ (list : List (Option View)). get_or list index None) (sym same) ∙ get_or-map Some views index view None within
    ∙ ap Some (get_or_from_slice_get views index view view is)

pub length_held : (views : List View) (count : ℕ) (slots : List (Option View)) → map Some views ≡ take count slots → count ≤ length slots → length views ≡ count
length_held views count slots same within = sym (length-map views Some) ∙ ap length same ∙ length-take-le count slots within

-- the views in the first slots are those of the records before the one that is rejected
pub views_are_wanted : (configuration : Configuration) (parts : ℕ → Part) (first : ℕ) (records : List Ordered) (found : Option Refused) (slots : List (Option View)) (views : List View)
    → ArePlaced first records → HaveRun configuration parts records found → length slots ≡ length records
    → AreSound configuration parts records slots → map Some views ≡ take (count_before first records found) slots
    → AreViews configuration parts (up_to found records) views
views_are_wanted configuration parts first records found slots views placed outcome whole sound same =
    let front = up_to_front records found in
    let wanted = count_before first records found in
    let counted : length views ≡ wanted = length_held views wanted slots same (wanted_within configuration parts first records found slots placed outcome whole) in
    views_of_slots configuration parts records slots sound [] (up_to found records) front.0 views front.1
    (omega (arith, counted, counted_are configuration parts first records found placed outcome))
    (λ index view is. subst (λ n. slot_at slots n ≡ Some view) (let e : index ≡ 0 + index = omega arith in e) (held_at views wanted slots same index view is))

-- what became of all pieces, as a survey has it
pub outcome_of_piece : (configuration : Configuration) (old new : List Holding) (records : List Ordered) (first : ℕ) (least : Option Refused) → ArePlaced first records
    → ((number : ℕ) → number < length (pieces configuration) → HasBeen configuration (parts_in old) records (parts_in new) least number)
    → IsFound configuration (parts_in old) (parts_in new) records (length (pieces configuration)) least → rounds.HaveRunOver configuration old records least new
outcome_of_piece configuration old new records first None placed been found = none_ran configuration (parts_in old) (parts_in new) records been
outcome_of_piece configuration old new records first (Some least) placed been (within, outcome) =
    (least_is_no configuration (parts_in old) (parts_in new) records first least (parts_in new least.piece) placed within outcome been, outcome.1)

-- so each piece ran over the records, or a No is among them
pub have_run_over : (configuration : Configuration) (old new : List Holding) (records : List Ordered) (least : Option Refused) → rounds.HaveRunOver configuration old records least new
    → HaveRun configuration (parts_in old) records least
have_run_over configuration old new records None all = λ number within. (parts_in new number, all number within)
have_run_over configuration old new records (Some least) ends = ends.0

-- The views of a record and of a run, and the numbers that they use.
use Rattle.std.proofs.Common.{◌≡◌, ℕ, false, nat_eq, Option, Some, None, refl, sym, ap, ◌∙◌, List, [], ◌∷◌, IsTrue, ◌-◌, ◌≤◌, pos, arith}
use Rattle.std.proofs.lemmas.Bool.{eqb-true}
use Rattle.std.proofs.lemmas.Option.{same_Some}
use Rattle.std.specs.List.{slice_get}
use Rattle.apex_laws.specs.ViewLaws.{AreJudged, AreOfItsRecords, piece_views, ViewsAreOfTheRun}
use Rattle.apex_laws.specs.ViewNumbers.{kind_number, NumbersTell, outcomes_by_number, services_by_number}
use Rattle.apex_machine.specs.Views.{judge_by, module_view, partition_view, run_views, view_by, view_in}
use Rattle.apex_types.specs.Numbers.{out_number}
use Rattle.apex_types.specs.Services.{service_number}
use Rattle.apex_types.specs.declared.service.Service.{Service}
use Rattle.apex_types.specs.declared.view.View.{View}
use Rattle.apex_types.specs.declared.service.Service.TheVariants as service
use Rattle.apex_laws.proofs.Common.{AreTied, Body, Call, Code, Configuration, Disp, Goes, IsLawfulBody, Module, OfChannel, OfPartition, Ordered, Out, Part, Piece, PieceRun, Ret, Run, State, Step, Tick, ViewIsOfTheRun, is_configured, part}
use Rattle.apex_laws.proofs.Common.{part_after, touches}
use Rattle.apex_laws.proofs.Common.{Arrive, Depart, Error}
use Rattle.apex_laws.proofs.Booleans.{cannot_hold, either_way, is_itself}
use Rattle.apex_laws.proofs.Runs.{goes_by_step, goes_nowhere, one_run}
use Rattle.apex_laws.proofs.Stays.{step_tied}
use Rattle.apex_laws.proofs.Tables.{part_of_after}
use Rattle.apex_laws.proofs.Untouched.{untouched_part}

-- The piece that judges a record gives the view that the record has in the machine's run, and no other piece gives one.

-- the view of a piece, by the body of a record
abbrev ViewOf : State → ℕ → Body → Piece → Option View
ViewOf state core body Module = module_view state.cores core body
ViewOf state core body (OfPartition number) = partition_view number state.cores (state.partitions number).table core body
ViewOf state core body (OfChannel number) = None

same_view : (state : State) (ordered : Ordered) (piece : Piece) → view_in (part piece state) ordered ≡ ViewOf state ordered.core ordered.rec.body piece
same_view state ordered Module = refl
same_view state ordered _ = refl

-- the judge's
judged_view : (state : State) (core : ℕ) (body : Body) → ViewOf state core body (judge_by body) ≡ Some (view_by state core body)
judged_view state core (Call call) = rw (is_itself call.who.part) refl
judged_view state core (Ret ret) = rw (is_itself ret.who.part) refl
judged_view state core (Disp who) = refl
judged_view state core (Tick woken) = refl
judged_view state core (Arrive crossing) = refl
judged_view state core (Depart crossing) = refl
judged_view state core (Error report) = refl

-- another piece's
not_the_part : (part number : ℕ) → ¬ (OfPartition number ≡ OfPartition part) → nat_eq part number ≡ false
not_the_part part number other = cannot_hold (nat_eq part number) (λ same. other (ap OfPartition (sym (eqb-true part number same))))

other_view : (state : State) (core : ℕ) (body : Body) (piece : Piece) → ¬ (piece ≡ judge_by body) → ViewOf state core body piece ≡ None
other_view state core body (OfChannel number) other = refl
other_view state core (Call call) Module other = refl
other_view state core (Ret ret) Module other = refl
other_view state core (Disp who) Module other = absurd (other refl)
other_view state core (Tick woken) Module other = absurd (other refl)
other_view state core (Arrive crossing) Module other = absurd (other refl)
other_view state core (Depart crossing) Module other = absurd (other refl)
other_view state core (Error report) Module other = absurd (other refl)
other_view state core (Call call) (OfPartition number) other = rw (not_the_part call.who.part number other) refl
other_view state core (Ret ret) (OfPartition number) other = rw (not_the_part ret.who.part number other) refl
other_view state core (Disp who) (OfPartition number) other = refl
other_view state core (Tick woken) (OfPartition number) other = refl
other_view state core (Arrive crossing) (OfPartition number) other = refl
other_view state core (Depart crossing) (OfPartition number) other = refl
other_view state core (Error report) (OfPartition number) other = refl

pub view_is_of_the_run : ViewIsOfTheRun
view_is_of_the_run state ordered piece = (
  λ judges. same_view state ordered piece ∙ ap (ViewOf state ordered.core ordered.rec.body) judges ∙ judged_view state ordered.core ordered.rec.body,
  λ other. same_view state ordered piece ∙ other_view state ordered.core ordered.rec.body piece other,
)

-- The views that the judging pieces give over a recording are those of the machine's run.

-- a piece that held the part of a state holds the part of the next one
next_part : (configuration : Configuration) (state : State) (ordered : Ordered) (next : State) (piece : Piece) (old new : Part)
    → AreTied configuration state → Step configuration state ordered next → old ≡ part piece state
    → Goes (touches configuration piece ordered) configuration old ordered new → new ≡ part piece next
next_part configuration state ordered next piece old new tied step same goes =
    either_way (touches configuration piece ordered)
    (λ touched. (goes_by_step (touches configuration piece ordered) configuration old ordered new touched goes).1 ∙ ap (λ one. part_after configuration one ordered) same
    ∙ sym (part_of_after configuration state ordered piece) ∙ sym (ap (part piece) step.1))
    (λ off. goes_nowhere (touches configuration piece ordered) configuration old ordered new off goes ∙ same
    ∙ sym (untouched_part configuration state ordered tied step.0 piece off) ∙ sym (ap (part piece) step.1))

-- the views of one piece over a run
of_its_records : (configuration : Configuration) (piece : Piece) (state : State) (records : List Ordered) (final : State) (old reached : Part)
    → AreTied configuration state → old ≡ part piece state → (run : Run configuration state records final) → (own : PieceRun configuration piece old records reached)
    → AreOfItsRecords piece records (run_views configuration state records final run) (piece_views configuration piece old records reached own)
of_its_records configuration piece state [] final old reached tied same run own = tt
of_its_records configuration piece state (ordered ∷ others) final old reached tied same run own =
    let view = view_is_of_the_run state ordered piece in (
      λ judges. ap (λ one. view_in one ordered) same ∙ view.0 judges,
      λ other. ap (λ one. view_in one ordered) same ∙ view.1 other,
      of_its_records configuration piece run.0 others final own.0 reached (step_tied configuration state ordered run.0 tied run.1)
          (next_part configuration state ordered run.0 piece old own.0 tied run.1 same own.1) run.2 own.2,
    )

-- the judge of a lawful record is configured
judge_is_configured : (configuration : Configuration) (state : State) (ordered : Ordered) (body : Body)
    → IsLawfulBody configuration state ordered.core body → IsTrue (is_configured configuration (judge_by body))
judge_is_configured configuration state ordered (Call call) law = law.names.0
judge_is_configured configuration state ordered (Ret ret) law = law.names
judge_is_configured configuration state ordered (Disp who) law = refl
judge_is_configured configuration state ordered (Tick woken) law = refl
judge_is_configured configuration state ordered (Arrive crossing) law = refl
judge_is_configured configuration state ordered (Depart crossing) law = refl
judge_is_configured configuration state ordered (Error report) law = refl

are_judged : (configuration : Configuration) (state : State) (records : List Ordered) (final : State)
    → Run configuration state records final → AreJudged configuration records
are_judged configuration state [] final run = tt
are_judged configuration state (ordered ∷ others) final run =
    (judge_is_configured configuration state ordered ordered.rec.body run.1.0.claims, are_judged configuration run.0 others final run.2)

pub views_are_of_the_run : ViewsAreOfTheRun
views_are_of_the_run configuration state records reached windows tied placed runs =
    let one = one_run configuration state records reached windows tied placed runs in (
      one.0,
      one.1,
      one.2,
      are_judged configuration state records one.0 one.1,
      λ piece is. of_its_records configuration piece state records one.0 (part piece state) (reached piece) tied refl one.1 (runs piece is),
    )

-- The numbers in a view's fields.

service_place : (service : Service) → slice_get services_by_number (service_number service - 1) ≡ Some service
unfolding service_number
service_place service.CreateProcess = refl
service_place _ = refl

service_least : (service : Service) → 1 ≤ service_number service
unfolding service_number
service_least service.CreateProcess = omega arith
service_least _ = omega arith

services_differ : (one other : Service) → service_number one ≡ service_number other → one ≡ other
services_differ one other same =
    same_Some one other (sym (service_place one) ∙ ap (λ number. slice_get services_by_number (number - 1)) same ∙ service_place other)

outcome_place : (given : Out) → slice_get outcomes_by_number (out_number given) ≡ Some given
outcome_place (Out.Answer Code.NoError) = refl
outcome_place _ = refl

outcomes_differ : (one other : Out) → out_number one ≡ out_number other → one ≡ other
outcomes_differ one other same = same_Some one other (sym (outcome_place one) ∙ ap (slice_get outcomes_by_number) same ∙ outcome_place other)

kind_is : (state : State) (core : ℕ) (body : Body) → (view_by state core body).kind ≡ pos (kind_number body)
kind_is state core (Call call) = refl
kind_is state core _ = refl

pub numbers_tell : NumbersTell
numbers_tell = record {
  service_place = service_place;
  service_least = service_least;
  services_differ = services_differ;
  outcome_place = outcome_place;
  outcomes_differ = outcomes_differ;
  kind = kind_is;
}

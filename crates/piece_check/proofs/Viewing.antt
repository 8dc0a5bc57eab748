-- Which piece gives the view of a record: its judge, and no other.
use Rattle.std.proofs.Common.{◌≡◌, ◌∙◌, ℕ, Some, None, Bool, true, false, ◌||◌, if◌then◌else◌, nat_eq, refl, ap, sym, arith}
use Rattle.std.proofs.lemmas.Bool.Decides.{nat_tests}
use Rattle.apex_types.specs.declared.record.Body.{Body}
use Rattle.apex_types.specs.declared.record.Body.TheVariants.{Arrive, Call, Depart, Ret, Disp, Tick, Error}
use Rattle.apex_types.specs.declared.record.Ordered.{Ordered}
use Rattle.apex_types.specs.declared.view.View.{View}
use Rattle.apex_machine.specs.Configuration.{Configuration}
use Rattle.apex_machine.specs.Demands.{LocalStep}
use Rattle.apex_machine.specs.Pieces.{ChannelPart, Module, ModulePart, OfChannel, OfPartition, Part, PartitionPart, Piece, part, part_after, touched_by, touches}
use Rattle.apex_machine.specs.State.{State}
use Rattle.apex_machine.specs.Views.{judge, judge_by, module_view, partition_view, view_in}
use Rattle.apex_laws.proofs.Booleans.{is_itself}
use Rattle.piece_check.specs.Parts.{IsPartOf, holder}

-- whose part a part is

-- what a piece holds of a state is its part
pub IsPartOf_state : (piece : Piece) (state : State) → IsPartOf piece (part piece state)
IsPartOf_state Module state = refl
IsPartOf_state (OfPartition number) state = refl
IsPartOf_state (OfChannel number) state = refl

-- a record leaves whose part it is
pub holder_after : (configuration : Configuration) (old : Part) (ordered : Ordered) → holder (part_after configuration old ordered) ≡ holder old
holder_after configuration (ModulePart cores) ordered = refl
holder_after configuration (PartitionPart number cores partition) ordered = refl
holder_after configuration (ChannelPart number times channel) ordered = refl

-- so does a local step
pub IsPartOf_step : (configuration : Configuration) (piece : Piece) (old new : Part) (ordered : Ordered) → IsPartOf piece old
    → LocalStep configuration old ordered new → IsPartOf piece new
IsPartOf_step configuration piece old new ordered of step = ap holder step.1 ∙ holder_after configuration old ordered ∙ of

-- who gives the view of a record

own : (number other : ℕ) (view : View) → other ≡ number → (if nat_eq number other then Some view else None) ≡ Some view
own number other view same = rw (same, is_itself number) refl

-- a view that a partition gives of a number is its own
whose : (number other : ℕ) (view given : View) → (if nat_eq number other then Some view else None) ≡ Some given → OfPartition number ≡ OfPartition other
whose number other view given gives =
    elim (nat_eq number other) as (λ b. nat_eq number other ≡ b → (if b then Some view else None) ≡ Some given → OfPartition number ≡ OfPartition other) [
      | true ↦ λ same some. ap (λ n. OfPartition n) (grind (arith, nat_tests))
      | false ↦ λ other some. cc
    ] refl gives

not_own : (same names : Bool) (view : View) → (same || names) ≡ false → (if same then Some view else None) ≡ None
not_own true names view none = cc
not_own false names view none = refl

no_view : (configuration : Configuration) (part : Part) (ordered : Ordered) → touches configuration (holder part) ordered ≡ false → view_in part ordered ≡ None
no_view configuration (ModulePart cores) ordered untouched = cc
no_view configuration (PartitionPart number cores partition) ordered untouched = by_body ordered.rec.body untouched
  where
    by_body : (body : Body) → touched_by configuration body (OfPartition number) ≡ false → partition_view number cores partition.table ordered.core body ≡ None
    by_body (Call call) untouched = not_own (nat_eq call.who.part number) _ _ untouched
    by_body (Ret ret) untouched = rw untouched refl
    by_body (Disp who) untouched = refl
    by_body (Tick woken) untouched = refl
    by_body (Arrive crossing) untouched = refl
    by_body (Depart crossing) untouched = refl
    by_body (Error report) untouched = refl
no_view configuration (ChannelPart number times channel) ordered untouched = refl

-- a record that does not touch a piece has no view from it
pub view_of_untouched : (configuration : Configuration) (piece : Piece) (part : Part) (ordered : Ordered) → IsPartOf piece part
    → touches configuration piece ordered ≡ false → view_in part ordered ≡ None
view_of_untouched configuration piece part ordered of untouched = no_view configuration part ordered (rw of untouched)

judge_gives : (part : Part) (ordered : Ordered) → holder part ≡ judge ordered → (view : View) × view_in part ordered ≡ Some view
judge_gives (ModulePart cores) ordered of = by_body ordered.rec.body of
  where
    by_body : (body : Body) → Module ≡ judge_by body → (view : View) × module_view cores ordered.core body ≡ Some view
    by_body (Call call) of = cc
    by_body (Ret ret) of = cc
    by_body (Disp who) of = (_, refl)
    by_body (Tick woken) of = (_, refl)
    by_body (Arrive crossing) of = (_, refl)
    by_body (Depart crossing) of = (_, refl)
    by_body (Error report) of = (_, refl)
judge_gives (PartitionPart number cores partition) ordered of = by_body ordered.rec.body of
  where
    by_body : (body : Body) → OfPartition number ≡ judge_by body → (view : View) × partition_view number cores partition.table ordered.core body ≡ Some view
    by_body (Call call) of = (_, own call.who.part number _ cc)
    by_body (Ret ret) of = (_, own ret.who.part number _ cc)
    by_body (Disp who) of = cc
    by_body (Tick woken) of = cc
    by_body (Arrive crossing) of = cc
    by_body (Depart crossing) of = cc
    by_body (Error report) of = cc
judge_gives (ChannelPart number times channel) ordered of = by_body ordered.rec.body of
  where
    by_body : (body : Body) → OfChannel number ≡ judge_by body → (view : View) × view_in (ChannelPart number times channel) ordered ≡ Some view
    by_body (Call call) of = cc
    by_body (Ret ret) of = cc
    by_body (Disp who) of = cc
    by_body (Tick woken) of = cc
    by_body (Arrive crossing) of = cc
    by_body (Depart crossing) of = cc
    by_body (Error report) of = cc

-- the judge of a record gives its view
pub view_of_judge : (part : Part) (ordered : Ordered) → IsPartOf (judge ordered) part → (view : View) × view_in part ordered ≡ Some view
view_of_judge part ordered of = judge_gives part ordered of

giver : (part : Part) (ordered : Ordered) (view : View) → view_in part ordered ≡ Some view → holder part ≡ judge ordered
giver (ModulePart cores) ordered view gives = by_body ordered.rec.body gives
  where
    by_body : (body : Body) → module_view cores ordered.core body ≡ Some view → Module ≡ judge_by body
    by_body (Call call) gives = cc
    by_body (Ret ret) gives = cc
    by_body (Disp who) gives = refl
    by_body (Tick woken) gives = refl
    by_body (Arrive crossing) gives = refl
    by_body (Depart crossing) gives = refl
    by_body (Error report) gives = refl
giver (PartitionPart number cores partition) ordered view gives = by_body ordered.rec.body gives
  where
    by_body : (body : Body) → partition_view number cores partition.table ordered.core body ≡ Some view → OfPartition number ≡ judge_by body
    by_body (Call call) gives = sym (whose call.who.part number _ view gives)
    by_body (Ret ret) gives = sym (whose ret.who.part number _ view gives)
    by_body (Disp who) gives = cc
    by_body (Tick woken) gives = cc
    by_body (Arrive crossing) gives = cc
    by_body (Depart crossing) gives = cc
    by_body (Error report) gives = cc
giver (ChannelPart number times channel) ordered view gives = cc

-- only the judge of a record gives a view of it
pub view_is_of_judge : (piece : Piece) (part : Part) (ordered : Ordered) (view : View) → IsPartOf piece part → view_in part ordered ≡ Some view → piece ≡ judge ordered
view_is_of_judge piece part ordered view of gives = sym of ∙ giver part ordered view gives

-- What all pieces make of the next records.
use Rattle.std.specs.Prelude.{◌≡◌, ◌<◌, ◌+◌, Bool, true, false, ℕ, zero, suc, List, [], ◌∷◌, ◌++◌, IfSome, IsTrue, Option, Some, None, length, map, slice_get, slice_index_or}
use Rattle.apex_types.specs.declared.cause.Cause.{Cause}
use Rattle.apex_types.specs.declared.record.Ordered.{Ordered}
use Rattle.apex_machine.specs.Configuration.{Configuration}
use Rattle.apex_machine.specs.Demands.{FirstFails, LocalStep, demands}
use Rattle.apex_machine.specs.Pieces.{ModulePart, Part, Piece, part, pieces, touches}
use Rattle.apex_machine.specs.Runs.{AreOfCores, ArePlaced, PieceRun, Refuses}
use Rattle.apex_machine.specs.State.{cold_state}
use Rattle.piece_check.specs.declared.fault.PieceFault.{PieceFault}
use Rattle.piece_check.specs.Parts.{Holding, HoldsBefore, IsOf, IsPartOf, piece_at}
use Rattle.apex_types.specs.declared.view.View.{View}
use Rattle.user_rules.specs.declared.memory.Cell.{Cell}
use Rattle.user_rules.specs.declared.relation.Relation.{Relation}
use Rattle.user_rules.specs.FirstBroken.{IsFirstAmong, IsFirstBroken}
use Rattle.user_rules.specs.Meets.{alone}
use Rattle.user_rules.specs.Passed.{passed}
use Rattle.user_rules.specs.Remembered.{Requirements, kept_after}
use Rattle.verdict_merge.specs.declared.breach.Breach.{Breach}
use Rattle.verdict_merge.specs.declared.breach.Seen.{Seen}
use Rattle.verdict_merge.specs.declared.finding.Refused.{Refused}
use Rattle.verdict_merge.specs.declared.outcome.PieceOutcome.{PieceOutcome}
use Rattle.verdict_merge.specs.Findings.{refusal_of}
use Rattle.verdict_merge.specs.declared.survey.Survey.{Survey}
use Rattle.verdict_merge.specs.declared.judged.Judged.{Judged}
use Rattle.verdict_merge.specs.declared.kept.Kept.{Kept}
use Rattle.verdict_merge.specs.Keeping.{seen_in}
use Rattle.verdict_merge.specs.Views.{AreSeen, AreViews, IsFirstBreach, broken_of, up_to}

-- the parts of all pieces by their numbers, as they are before the first record
abbrev pub cold_parts : Configuration → ℕ → Part
cold_parts configuration number = part (piece_at configuration number) (cold_state configuration)

-- the piece of this number has a run over the records from its part
abbrev pub Runs : Configuration → (ℕ → Part) → ℕ → List Ordered → Type 0
Runs configuration parts number records = (final : Part) × PieceRun configuration (piece_at configuration number) (parts number) records final

-- each piece runs over the records, from its old part to its new one
abbrev pub AllRun : Configuration → (ℕ → Part) → List Ordered → (ℕ → Part) → Type 0
AllRun configuration old records new =
    (number : ℕ) → number < length (pieces configuration) → PieceRun configuration (piece_at configuration number) (old number) records (new number)

-- a No among records: the piece runs up to the record at that place and rejects it for that cause; the lower-numbered pieces run
-- through it, and all others run up to it; nothing is said of the records after it
pub record IsNo (configuration : Configuration) (parts : ℕ → Part) (records : List Ordered) (found : Refused) : Type 0 where
  pub before : List Ordered
  pub ordered : Ordered
  pub after : List Ordered
  pub split : records ≡ before ++ ordered ∷ after
  pub place : found.pos ≡ ordered.pos
  pub piece : found.piece < length (pieces configuration)
  pub refused : Refuses configuration (piece_at configuration found.piece) (parts found.piece) before ordered found.cause
  pub smaller : (number : ℕ) → number < found.piece → Runs configuration parts number (before ++ ordered ∷ [])
  pub larger : (number : ℕ) → found.piece < number → number < length (pieces configuration) → Runs configuration parts number before

-- one piece among them

-- with this part a piece rejects a record for a cause: the record touches the piece, and the first demand that fails has the cause
abbrev pub Rejects : Configuration → Piece → Part → Ordered → Cause → Type 0
Rejects configuration piece part ordered cause = IsTrue (touches configuration piece ordered) × FirstFails (demands configuration part ordered) cause

-- a piece rejects one of these records, at this place and for this cause: it runs over the records before it to its new part, with which
-- it rejects that record
abbrev pub RefusesAmong : Configuration → Piece → Part → List Ordered → ℕ → Cause → Part → Type 0
RefusesAmong configuration piece old records place cause new =
    (before : List Ordered) × (ordered : Ordered) × (after : List Ordered) × (records ≡ before ++ ordered ∷ after) × (place ≡ ordered.pos)
    × PieceRun configuration piece old before new × Rejects configuration piece new ordered cause

-- the outcome of the piece of this number: it ran over the records, or rejected one of them
abbrev pub HasRunOver : Configuration → ℕ → Part → List Ordered → Option Refused → Part → Type 0
HasRunOver configuration number old records None new = PieceRun configuration (piece_at configuration number) old records new
HasRunOver configuration number old records (Some found) new =
    (found.piece ≡ number) × RefusesAmong configuration (piece_at configuration number) old records found.pos found.cause new

-- the piece of this number may judge records from this place on: it is of this module, and holds before the place
pub record IsGoing (configuration : Configuration) (number place : ℕ) (holding : Holding) : Type 0 where
  pub of_module : IsOf configuration holding
  pub whose : IsPartOf (piece_at configuration number) holding.part
  pub holds_before : HoldsBefore place holding.part

-- the piece of this number may judge these records, the first of which is at this place
pub record MayGoOver (configuration : Configuration) (number first : ℕ) (records : List Ordered) (holding : Holding) : Type 0 where
  pub piece : number < length (pieces configuration)
  pub going : IsGoing configuration number first holding
  pub placed : ArePlaced first records
  pub cores : AreOfCores configuration.cores records

-- a piece of this module may judge this record next
pub record MayStep (configuration : Configuration) (holding : Holding) (ordered : Ordered) : Type 0 where
  pub core : ordered.core < configuration.cores
  pub of_module : IsOf configuration holding
  pub holds_before : HoldsBefore ordered.pos holding.part

-- how the piece of this number judged a record that touches it: it made its step, or rejected the record for the first demand that
-- fails and kept its part
abbrev pub HasJudged : Configuration → ℕ → Ordered → Holding → Option Refused → Holding → Type 0
HasJudged configuration number ordered old None new = LocalStep configuration old.part ordered new.part × HoldsBefore (ordered.pos + 1) new.part
HasJudged configuration number ordered old (Some refused) new =
    (refused.pos ≡ ordered.pos) × (refused.piece ≡ number) × FirstFails (demands configuration old.part ordered) refused.cause × (new.part ≡ old.part)

-- the refusal that a fault of the piece of this number means
abbrev pub IsRefusal : PieceFault → ℕ → Option Refused → Type 0
IsRefusal fault number None = ⊥
IsRefusal fault number (Some refused) = refusal_of fault number ≡ Some refused

-- the piece of this number judged records from this place on: its outcome, the views that it saw up to its refusal, and the first of
-- them that breaks a rule; it may judge the records after these
pub record IsJudgedOver (configuration : Configuration) (number first : ℕ) (records : List Ordered) (relations : List Relation) (old : Holding) (outcome : PieceOutcome) (new : Holding) : Type 0 where
  pub found : HasRunOver configuration number old.part records outcome.found new.part
  pub seen : List Seen
  pub are : AreSeen configuration (piece_at configuration number) old.part 0 (up_to outcome.found records) seen
  pub breach : IsFirstBreach relations seen outcome.breach
  pub going : IsGoing configuration number (first + length records) new

-- a piece keeps the views that it saw, if it must; a list of kept views has the index of each record beside its view
abbrev pub AreKeptFor : Bool → List Seen → Option Kept → Type 0
AreKeptFor false seen kept = Unit {0}
AreKeptFor true seen None = ⊥
AreKeptFor true seen (Some kept) = seen_in kept.indices.items kept.views.items ≡ seen

-- the piece of this number judged records from this place on, and kept its views if it must
pub record IsPieceJudged (configuration : Configuration) (number first : ℕ) (records : List Ordered) (relations : List Relation) (keeps : Bool) (old : Holding) (judged : Judged) : Type 0 where
  pub over : IsJudgedOver configuration number first records relations old judged.outcome judged.piece
  pub kept : AreKeptFor keeps over.seen judged.kept

-- all pieces together

-- what callers see of the pieces: the number of records that they have judged, the pieces in the order of their numbers, the breach of a
-- rule in the last round, and what memories have kept of the views
pub record Judging : Type 0 where
  pub count : ℕ
  pub pieces : List Holding
  pub breach : Option Breach
  pub kept : List (List Cell)

-- a piece by its number
abbrev pub holding_at : List Holding → ℕ → Holding
holding_at [] number = record { part = ModulePart []; settings = None; exhausted = false }
holding_at (holding ∷ others) zero = holding
holding_at (holding ∷ others) (suc number) = holding_at others number

-- the parts of pieces by their numbers
abbrev pub parts_in : List Holding → ℕ → Part
parts_in holdings number = (holding_at holdings number).part

-- the parts of the pieces by their numbers
abbrev pub parts_of : Judging → ℕ → Part
parts_of judging number = parts_in judging.pieces number

-- all pieces are there, and may judge records from this place on
pub record AreGoing (configuration : Configuration) (place : ℕ) (holdings : List Holding) : Type 0 where
  pub whole : length holdings ≡ length (pieces configuration)
  pub each : (number : ℕ) → number < length (pieces configuration) → IsGoing configuration number place (holding_at holdings number)

-- a No among records; the piece that rejects the record at its place is left as it was before that record, and so still rejects it
abbrev pub EndsInNo : Configuration → (ℕ → Part) → List Ordered → Refused → (ℕ → Part) → Type 0
EndsInNo configuration old records found new =
    IsNo configuration old records found
    × RefusesAmong configuration (piece_at configuration found.piece) (old found.piece) records found.pos found.cause (new found.piece)

-- the outcome of all pieces: each ran over the records, or one has the least refusal among them
abbrev pub HaveRunOver : Configuration → List Holding → List Ordered → Option Refused → List Holding → Type 0
HaveRunOver configuration old records None new = AllRun configuration (parts_in old) records (parts_in new)
HaveRunOver configuration old records (Some found) new = EndsInNo configuration (parts_in old) records found (parts_in new)

-- each of these pieces judged records from this place on; there is one answer for each, at its number
pub record AreJudgedOver (configuration : Configuration) (first : ℕ) (records : List Ordered) (relations : List Relation) (keeps : Bool) (old : List Holding) (judged : List Judged) : Type 0 where
  pub whole : length judged ≡ length old
  pub each : (number : ℕ) → number < length old → (one : Judged) → one ≡ slice_index_or judged number one
      → IsPieceJudged configuration number first records relations keeps (holding_at old number) one

-- the pieces after the round
abbrev pub pieces_in : List Judged → List Holding
pieces_in judged = map (λ one. one.piece) judged

-- the views of the records before the rejected one are tested by relations alone: the first of them that breaks a rule is this one, and the
-- breach reports it
pub record IsTestedAlone (configuration : Configuration) (relations : List Relation) (parts : ℕ → Part) (records : List Ordered) (found : Option Refused) (breach : Option Breach) : Type 0 where
  pub views : List View
  pub viewed : AreViews configuration parts (up_to found records) views
  pub first : IsFirstAmong relations (map alone views) (broken_of breach)
  pub reported : IfSome breach (λ one. slice_get views one.seen.index ≡ Some one.seen.view)

-- among the views of the records before the rejected one, with the values of memories at them, the first that breaks a rule is this one, and
-- the breach reports it; the memories have then kept the views before it
pub record IsTested (configuration : Configuration) (requirements : Requirements) (parts : ℕ → Part) (records : List Ordered) (found : Option Refused) (breach : Option Breach) (kept : List (List Cell)) : Type 0 where
  pub views : List View
  pub viewed : AreViews configuration parts (up_to found records) views
  pub first : IsFirstBroken requirements views (broken_of breach)
  pub reported : IfSome breach (λ one. slice_get views one.seen.index ≡ Some one.seen.view)
  pub remembered : kept ≡ kept_after requirements.memories requirements.kept (passed (broken_of breach) views)

-- all pieces judged records from this place on: their outcome, and the first view that breaks a rule where there are no memories; they may
-- judge the records after these
pub record IsSurveyed (configuration : Configuration) (first : ℕ) (records : List Ordered) (relations : List Relation) (old : List Holding) (survey : Survey) : Type 0 where
  pub outcome : HaveRunOver configuration old records survey.found survey.pieces.items
  pub tested : IsTestedAlone configuration relations (parts_in old) records survey.found survey.breach
  pub going : AreGoing configuration (first + length records) survey.pieces.items

-- all pieces are there, and may judge the records after those that they have judged
abbrev pub IsReady : Configuration → Judging → Type 0
IsReady configuration judging = AreGoing configuration judging.count judging.pieces

-- a round: without a refusal each piece ran over the records, and may go on; with one it ends in a No among them
abbrev pub IsRound : Configuration → Judging → List Ordered → Option Refused → Judging → Type 0
IsRound configuration old records None new =
    AllRun configuration (parts_of old) records (parts_of new) × (new.count ≡ old.count + length records) × IsReady configuration new
IsRound configuration old records (Some found) new = EndsInNo configuration (parts_of old) records found (parts_of new)

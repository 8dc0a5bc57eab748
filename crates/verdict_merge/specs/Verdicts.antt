-- The verdict over one order of records.
use Rattle.std.specs.Prelude.{◌≡◌, ◌↔◌, ◌<◌, ◌+◌, ℕ, suc, List, [], ◌∷◌, ◌++◌, Option, Some, None, length}
use Rattle.apex_types.specs.declared.record.Ordered.{Ordered}
use Rattle.apex_types.specs.declared.view.View.{View}
use Rattle.apex_machine.specs.Configuration.{Configuration}
use Rattle.apex_machine.specs.Pieces.{Part, Piece, part, pieces}
use Rattle.apex_machine.specs.Runs.{ArePlaced, Finds, Refusal}
use Rattle.apex_machine.specs.State.{State, cold_state}
use Rattle.apex_machine.specs.Step.{Run}
use Rattle.apex_machine.specs.Views.{run_views}
use Rattle.user_rules.specs.declared.broken.Broken.{Broken as BrokenView}
use Rattle.user_rules.specs.declared.memory.Cell.{Cell}
use Rattle.user_rules.specs.declared.memory.RuleMemory.{RuleMemory}
use Rattle.user_rules.specs.declared.relation.Relation.{Relation}
use Rattle.user_rules.specs.FirstBroken.{AllMeet, IsFirstBroken}
use Rattle.user_rules.specs.Remembered.{Requirements, after, required_by}
use Rattle.verdict_merge.specs.declared.finding.Refused.{Refused}
use Rattle.verdict_merge.specs.declared.verdict.Verdict.{Verdict}
use Rattle.verdict_merge.specs.declared.verdict.Verdict.TheVariants.{Yes, No, Broken}
use Rattle.verdict_merge.specs.Findings.{IsLeast, Precedes}
use Rattle.verdict_merge.specs.Rounds.{AllRun, IsNo, Runs, cold_parts}
use Rattle.verdict_merge.specs.Views.{AreViews}

-- the No that a refusal gives
abbrev pub no_of : Refused → Verdict
no_of found = No found.pos found.piece found.cause

-- the views of these records, with the values of memories at them, meet every relation; without relations this says nothing
abbrev pub MeetUnder : Configuration → List RuleMemory → List (List Cell) → List Relation → (ℕ → Part) → List Ordered → Type 0
MeetUnder configuration memories kept [] parts records = Unit {0}
MeetUnder configuration memories kept (relation ∷ relations) parts records =
    (views : List View) × AreViews configuration parts records views
    × AllMeet (record { memories = memories; kept = kept; relations = relation ∷ relations }) views

abbrev pub ViewsMeet : Configuration → Requirements → (ℕ → Part) → List Ordered → Type 0
ViewsMeet configuration requirements parts records = MeetUnder configuration requirements.memories requirements.kept requirements.relations parts records

-- the same, and what is required of the records after these; without relations that is nothing again
abbrev pub MeetAndLead : Configuration → List RuleMemory → List (List Cell) → List Relation → (ℕ → Part) → List Ordered → Requirements → Type 0
MeetAndLead configuration memories kept [] parts records later = later.relations ≡ []
MeetAndLead configuration memories kept (relation ∷ relations) parts records later =
    (views : List View) × AreViews configuration parts records views
    × AllMeet (record { memories = memories; kept = kept; relations = relation ∷ relations }) views
    × (later ≡ after (record { memories = memories; kept = kept; relations = relation ∷ relations }) views)

abbrev pub ViewsLead : Configuration → Requirements → (ℕ → Part) → List Ordered → Requirements → Type 0
ViewsLead configuration requirements parts records later =
    MeetAndLead configuration requirements.memories requirements.kept requirements.relations parts records later

-- a broken rule among records, after the number of records that the pieces have judged: all pieces run through the record at that
-- place, the views before it meet every relation, and its own view is the first that does not, by this rule; nothing is said of the
-- records after it
pub record IsBroken (configuration : Configuration) (requirements : Requirements) (parts : ℕ → Part) (count : ℕ) (records : List Ordered) (pos rule : ℕ) : Type 0 where
  pub through : List Ordered
  pub after : List Ordered
  pub split : records ≡ through ++ after
  pub runs : (number : ℕ) → number < length (pieces configuration) → Runs configuration parts number through
  pub views : List View
  pub viewed : AreViews configuration parts through views
  pub broken : BrokenView
  pub first : IsFirstBroken requirements views (Some broken)
  pub last : length through ≡ suc broken.view
  pub place : pos ≡ count + broken.view
  pub number : rule ≡ broken.rule

-- the verdict over records, after the number of records that the pieces have judged, from these parts: Yes with the number of all
-- records, if each piece has a run over them and each view meets every relation; a No, if the views before its place meet every
-- relation; or the first rule that is broken
abbrev pub IsVerdictFrom : Configuration → Requirements → (ℕ → Part) → ℕ → List Ordered → Verdict → Type 0
IsVerdictFrom configuration requirements parts count records (Yes all) =
    (all ≡ length records + count) × ((final : ℕ → Part) × AllRun configuration parts records final) × ViewsMeet configuration requirements parts records
IsVerdictFrom configuration requirements parts count records (No pos piece cause) =
    (is_shown : IsNo configuration parts records (record { pos = pos; piece = piece; cause = cause })) × ViewsMeet configuration requirements parts is_shown.before
IsVerdictFrom configuration requirements parts count records (Broken pos rule) = IsBroken configuration requirements parts count records pos rule

-- the verdict over one order of records, from the cold state on
abbrev pub IsVerdict : Configuration → Requirements → List Ordered → Verdict → Type 0
IsVerdict configuration requirements records verdict = IsVerdictFrom configuration requirements (cold_parts configuration) 0 records verdict

-- what a Yes means: the records are a run of the machine from the cold state, in which each view meets every relation
abbrev pub IsRunWhereYes : Configuration → Requirements → List Ordered → Verdict → Type 0
IsRunWhereYes configuration requirements records (Yes count) =
    (final : State) × (run : Run configuration (cold_state configuration) records final)
    × AllMeet requirements (run_views configuration (cold_state configuration) records final run) × (count ≡ length records)
IsRunWhereYes configuration requirements records (No pos piece cause) = Unit {0}
IsRunWhereYes configuration requirements records (Broken pos rule) = Unit {0}

-- what decides against a recording in a round whose first record is at this place: the rule that is broken, else the refusal
abbrev pub against : ℕ → Option Refused → Option BrokenView → Option Verdict
against first found (Some broken) = Some (Broken (first + broken.view) broken.rule)
against first (Some refused) None = Some (no_of refused)
against first None None = None

-- the verdict without rules, from what each piece finds in all the records

-- a refusal of the piece of this number, as a list of refusals
abbrev pub findings_of : ℕ → Option Refusal → List Refused
findings_of piece None = []
findings_of piece (Some refusal) = record { pos = refusal.pos; piece = piece; cause = refusal.cause } ∷ []

-- the findings of these pieces, whose numbers begin here: the first refusal of each, from the cold state on
abbrev pub AllFind : Configuration → ℕ → List Piece → List Ordered → List Refused → Type 0
AllFind configuration number [] records findings = findings ≡ []
AllFind configuration number (piece ∷ others) records findings =
    (found : Option Refusal) × (later : List Refused)
    × Finds configuration piece (part piece (cold_state configuration)) records found
    × AllFind configuration (suc number) others records later
    × (findings ≡ findings_of number found ++ later)

-- what follows from these findings: Yes with the number of records if there are none, else No with the least
abbrev pub Follows : List Refused → ℕ → Verdict → Type 0
Follows findings count (Yes records) = (findings ≡ []) × (records ≡ count)
Follows findings count (No pos piece cause) = IsLeast Precedes findings (Some (record { pos = pos; piece = piece; cause = cause }))
Follows findings count (Broken pos rule) = ⊥

-- the laws

-- an order of records has at most one verdict
abbrev pub OneVerdict : Type 0
OneVerdict =
    (configuration : Configuration) (requirements : Requirements) (records : List Ordered) (one other : Verdict) → ArePlaced 0 records
    → IsVerdict configuration requirements records one → IsVerdict configuration requirements records other → one ≡ other

-- without rules, the verdict is exactly what follows from what each piece finds in all the records
abbrev pub VerdictIsOfTheFindings : Type 0
VerdictIsOfTheFindings =
    (configuration : Configuration) (records : List Ordered) (findings : List Refused) (verdict : Verdict) → ArePlaced 0 records
    → AllFind configuration 0 (pieces configuration) records findings
    → IsVerdict configuration (required_by [] []) records verdict ↔ Follows findings (length records) verdict

-- A run under way: what it has put, judged and written so far.
use Rattle.std.specs.Prelude.{◌≡◌, ◌≤◌, ◌+◌, ℕ, List, [], ◌∷◌, ◌++◌, Option, Some, None, Result, Ok, Err, length, map}
use Rattle.apex_machine.specs.Configuration.{Configuration}
use Rattle.apex_machine.specs.Runs.{ArePlaced, AreOfCores}
use Rattle.apex_types.specs.declared.limits.TheConstants.{PLACE_COUNT}
use Rattle.apex_types.specs.declared.record.Ordered.{Ordered}
use Rattle.apex_types.specs.declared.record.Pair.{Pair}
use Rattle.apex_types.specs.declared.record.Record.{Record}
use Rattle.order_cert.specs.Kept.{Follows, Kept, none_taken, place_of, taken_of}
use Rattle.order_cert.specs.Order.{IsPrefixOfLawful}
use Rattle.order_cert.specs.Row.{Item as CertItem}
use Rattle.placement.specs.Scan.{led_by, scan}
use Rattle.record_read.specs.Row.{Item}
use Rattle.sink.specs.Taken.{with_more}
use Rattle.sink.specs.Written.{IsCut}
use Rattle.user_rules.specs.declared.memory.Cell.{Cell}
use Rattle.user_rules.specs.Remembered.{Requirements, required_by, with_kept}
use Rattle.verdict_merge.specs.declared.breach.Breach.{Breach}
use Rattle.verdict_merge.specs.declared.finding.Refused.{Refused}
use Rattle.verdict_merge.specs.declared.verdict.Verdict.TheVariants.{Broken}
use Rattle.verdict_merge.specs.Rounds.{AllRun, IsReady, Judging, cold_parts, parts_of}
use Rattle.verdict_merge.specs.Verdicts.{IsVerdict, ViewsLead, no_of}
use Rattle.order_run.specs.declared.proposal.BrokenRule.{BrokenRule}
use Rattle.order_run.specs.declared.proposal.ProposalFault.{ProposalFault}
use Rattle.order_run.specs.declared.run.Run.{Run}
use Rattle.order_run.specs.Left.{Lefts, left_at}
use Rattle.order_run.specs.Proposal.{ListsFirst}
use Rattle.order_run.specs.Rows.{rows_of}

-- the pieces have run over these records from the cold state; or a piece has refused one of them, and the verdict is that No, whichever
-- records follow
abbrev pub HaveJudged : Configuration → List Ordered → Option Refused → Judging → Type 0
HaveJudged configuration before None judging =
    IsReady configuration judging × AllRun configuration (cold_parts configuration) before (parts_of judging) × (judging.count ≡ length before)
HaveJudged configuration before (Some refused) judging = (later : List Ordered) → IsVerdict configuration (required_by [] []) (before ++ later) (no_of refused)

-- the first rule that is broken: the one so far, or else that of the breach in a round whose first record is at this place
abbrev pub first_broken : Option BrokenRule → ℕ → Option Breach → Option BrokenRule
first_broken (Some broken) first breach = Some broken
first_broken None first (Some breach) = Some (record { pos = first + breach.seen.index; rule = breach.rule })
first_broken None first None = None

-- the verdict over these records under what is required is that of the broken rule, whichever records follow; or a piece has refused one of
-- them, and the verdict is that No; or each of their views meets every relation, and the memories have kept this of them
abbrev pub HaveTested : Configuration → Requirements → List Ordered → Option Refused → Option BrokenRule → List (List Cell) → Type 0
HaveTested configuration requirements before refused (Some broken) kept = (later : List Ordered) → IsVerdict configuration requirements (before ++ later) (Broken broken.pos broken.rule)
HaveTested configuration requirements before (Some refused) None kept = (later : List Ordered) → IsVerdict configuration requirements (before ++ later) (no_of refused)
HaveTested configuration requirements before None None kept = ViewsLead configuration requirements (cold_parts configuration) before (with_kept requirements kept)

-- each core and each number fits into a row
abbrev pub AllFit : List Pair → Type 0
AllFit [] = Unit {0}
AllFit (pair ∷ pairs) = (pair.core ≤ 0xFFFFFFFF) × (pair.seq ≤ 0xFFFFFFFF) × AllFit pairs

-- under what is required the run has put these pairs: the settled ones, whose records are judged and whose rows are written, and then the
-- waiting ones, whose records are in the round
pub record HasPut (configuration : Configuration) (requirements : Requirements) (run : Run) (settled waiting : List Pair) (before : List Ordered) : Type 0 where
  pub cores : run.keeper.cores ≡ configuration.cores
  pub follows : Follows run.keeper (settled ++ waiting)
  pub few : length (settled ++ waiting) ≤ PLACE_COUNT
  pub fit : AllFit (settled ++ waiting)
  pub text : run.text.items ≡ rows_of waiting
  pub place : place_of run.keeper ≡ length before + length run.round.items
  pub placed : ArePlaced 0 (before ++ run.round.items)
  pub of_cores : AreOfCores configuration.cores run.round.items
  pub judged : HaveJudged configuration before run.refused run.base
  pub tested : HaveTested configuration requirements before run.refused run.broken run.base.kept

-- the items taken of each core so far are records, as many as the keeper counts; and a scan of the recordings by these pairs gives these
-- records, and goes on with the items that are left, whichever pairs follow
pub record Leads (cores : ℕ) (items : ℕ → List Item) (kept : Kept) (lefts : Lefts) (pairs : List Pair) (records : List Ordered) : Type 0 where
  pub left : ℕ → List Item
  pub taken : ℕ → List Record
  pub known : (core : ℕ) → left_at lefts core ≡ Some (left core)
  pub split : (core : ℕ) → items core ≡ map Ok (taken core) ++ left core
  pub counts : (core : ℕ) → length (taken core) ≡ taken_of kept core
  pub scans : (more : List CertItem)
      → scan cores none_taken 0 items (map Ok pairs ++ more) ≡ led_by records (scan cores (taken_of kept) (place_of kept) left more)

-- a run that began with these recordings and after these bytes of the output: the rows of its settled pairs are written, and its pairs
-- lead through the recordings, where their items were known at first
pub record IsUnderWay (configuration : Configuration) (requirements : Requirements) (bytes : Option (List ℕ)) (start : Lefts) (run : Run) (lefts : Lefts) (now : Option (List ℕ)) : Type 0 where
  pub settled : List Pair
  pub waiting : List Pair
  pub before : List Ordered
  pub so_far : HasPut configuration requirements run settled waiting before
  pub written : now ≡ with_more bytes (rows_of settled)
  pub cores : length lefts ≡ configuration.cores
  pub leads : (items : ℕ → List Item) → ((core : ℕ) → left_at start core ≡ Some (items core))
      → Leads configuration.cores items run.keeper lefts (settled ++ waiting) (before ++ run.round.items)

-- the first bytes of the rows of a prefix of a lawful order are written, whose pairs list the first records of the recordings
abbrev pub HasBegun : Configuration → Option (List ℕ) → Lefts → Option (List ℕ) → Type 0
HasBegun configuration bytes start now =
    (pairs : List Pair) × IsPrefixOfLawful configuration.cores pairs × ListsFirst configuration.cores start pairs × IsCut bytes (rows_of pairs) now

-- without a fault the run is under way; after a fault the rows that were written are those of a prefix of a lawful order, or their first
-- bytes
abbrev pub GoesOn : {A : Type 0} → Configuration → Requirements → Option (List ℕ) → Lefts → Result A ProposalFault → Run → Lefts → Option (List ℕ) → Type 0
GoesOn configuration requirements bytes start (Ok value) run lefts now = IsUnderWay configuration requirements bytes start run lefts now
GoesOn configuration requirements bytes start (Err fault) run lefts now = HasBegun configuration bytes start now

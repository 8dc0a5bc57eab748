-- What a proposed order means.
use Rattle.std.specs.Prelude.{◌≡◌, ◌<◌, ◌++◌, ℕ, List, [], Option, Some, None, Result, Ok, Err, length, map}
use Rattle.apex_machine.specs.Configuration.{Configuration}
use Rattle.apex_types.specs.declared.record.Ordered.{Ordered}
use Rattle.apex_types.specs.declared.record.Pair.{Pair}
use Rattle.apex_types.specs.declared.record.Record.{Record}
use Rattle.order_cert.specs.Kept.{none_taken}
use Rattle.order_cert.specs.Order.{IsLawfulOrder}
use Rattle.order_cert.specs.Row.{pairs_of}
use Rattle.placement.specs.Scan.{scan}
use Rattle.record_read.specs.Row.{Item}
use Rattle.sink.specs.Written.{IsCut, IsWritten}
use Rattle.user_rules.specs.Remembered.{Requirements, required_by}
use Rattle.verdict_merge.specs.declared.verdict.Verdict.{Verdict}
use Rattle.verdict_merge.specs.declared.verdict.Verdict.TheVariants.{Yes, Broken}
use Rattle.verdict_merge.specs.Refusals.{IsRunUpToNo}
use Rattle.verdict_merge.specs.Verdicts.{IsRunWhereYes, IsVerdict, no_of}
use Rattle.order_run.specs.Left.{Lefts, items_at, left_at}
use Rattle.order_run.specs.declared.proposal.Proposal.{Proposal}
use Rattle.order_run.specs.declared.proposal.Proposal.TheVariants.{Found, NotFound}
use Rattle.order_run.specs.declared.proposal.ProposalFault.{ProposalFault}

-- the verdict under the rules that a proposal means: the first rule that is broken, if one is; else Yes with the number of records where
-- an order was found, and No where none was
abbrev pub verdict_of : Proposal → Verdict
verdict_of (Found records None) = Yes records
verdict_of (Found records (Some one)) = Broken one.pos one.rule
verdict_of (NotFound refused None) = no_of refused
verdict_of (NotFound refused (Some one)) = Broken one.pos one.rule

-- the verdict without rules that it means: Yes with the number of records where an order was found, else No
abbrev pub order_verdict_of : Proposal → Verdict
order_verdict_of (Found records broken) = Yes records
order_verdict_of (NotFound refused broken) = no_of refused

-- a proposal for the recordings with these texts under these memories and relations, by the certificate that was written
pub record IsProposed (configuration : Configuration) (requirements : Requirements) (texts : List (List ℕ)) (certificate : List ℕ) (proposal : Proposal) : Type 0 where
  -- the certificate lists each record of each core once, and those of a core in its own order
  pub pairs : List Pair
  pub listed : pairs_of certificate ≡ map Ok pairs
  pub recordings : ℕ → List Record
  pub recorded : (core : ℕ) → core < configuration.cores → items_at texts core ≡ map Ok (recordings core)
  pub lawful : IsLawfulOrder configuration.cores (λ core. length (recordings core)) pairs
  -- the records at their places in that order
  pub records : List Ordered
  pub placed : scan configuration.cores none_taken 0 (items_at texts) (pairs_of certificate) ≡ record { placed = records; end = Ok tt }
  -- the verdict over them, under what is required, is that of the proposal
  pub verdict : IsVerdict configuration requirements records (verdict_of proposal)
  -- found, and no rule is broken: the records are a run of the machine from the cold state, in which each view meets every relation
  pub yes : IsRunWhereYes configuration requirements records (verdict_of proposal)
  -- a rule is broken: up to its place the records are such a run, and the view there is the first that does not meet every relation, by
  -- the rule of that number; not found: the records before the place are such a run, and the machine has no step that takes the record there
  pub no : IsRunUpToNo configuration requirements records (verdict_of proposal)
  -- whatever the rules are, the verdict without them says whether an order was found
  pub order : IsVerdict configuration (required_by [] []) records (order_verdict_of proposal)
  -- found: the records are a run of the machine from the cold state
  pub found : IsRunWhereYes configuration (required_by [] []) records (order_verdict_of proposal)
  -- not found: the records before the place are such a run, and the machine has no step that takes the record at the place
  pub not_found : IsRunUpToNo configuration (required_by [] []) records (order_verdict_of proposal)

-- the pairs list the first records of each recording, each once and those of a core in its own order, where the items that the recordings
-- have left are known
abbrev pub ListsFirst : ℕ → Lefts → List Pair → Type 0
ListsFirst cores lefts pairs =
    (items : ℕ → List Item) → ((core : ℕ) → left_at lefts core ≡ Some (items core))
    → (recordings : ℕ → List Record) × ((core : ℕ) → (rest : List Item) × (items core ≡ map Ok (recordings core) ++ rest))
    × IsLawfulOrder cores (λ core. length (recordings core)) pairs

-- with a proposal these rows are written whole; with a fault, their first bytes and no others
abbrev pub HaveGoneOut : Option (List ℕ) → List ℕ → Result Proposal ProposalFault → Option (List ℕ) → Type 0
HaveGoneOut before rows (Ok proposal) after = IsWritten before rows after
HaveGoneOut before rows (Err fault) after = IsCut before rows after

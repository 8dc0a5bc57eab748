-- What was put, and written, is a proposal.
use Rattle.std.proofs.Common.{◌≡◌, ◌<◌, ◌∙◌, ℕ, zero, suc, List, [], ◌∷◌, length, map, Some, Ok, refl, ap}
use Rattle.apex_machine.specs.Channels.{EndsAreApart}
use Rattle.apex_machine.specs.Configuration.{Configuration, WindowsAreConfigured}
use Rattle.apex_machine.specs.Runs.{ArePlaced}
use Rattle.apex_types.specs.declared.record.Ordered.{Ordered}
use Rattle.apex_types.specs.declared.record.Pair.{Pair}
use Rattle.apex_types.specs.declared.record.Record.{Record}
use Rattle.order_cert.specs.Kept.{none_taken}
use Rattle.order_cert.specs.Order.{IsLawfulOrder}
use Rattle.order_cert.specs.Row.{pairs_of}
use Rattle.placement.specs.Scan.{scan}
use Rattle.record_read.specs.Row.{records_of}
use Rattle.user_rules.specs.Remembered.{Requirements, required_by}
use Rattle.verdict_merge.specs.Verdicts.{IsVerdict}
use Rattle.verdict_merge.proofs.Refusing.{run_up_to_no}
use Rattle.verdict_merge.proofs.Ruled.{run_where_yes}
use Rattle.order_run.specs.declared.proposal.Proposal.{Proposal}
use Rattle.order_run.specs.Left.{items_at, left_at}
use Rattle.order_run.specs.Proposal.{IsProposed, order_verdict_of, verdict_of}

-- recordings of these texts have all of them left at first
pub all_left : (texts : List (List ℕ)) (core : ℕ) → left_at (map (λ text. Some (records_of text)) texts) core ≡ Some (items_at texts core)
all_left [] core = refl
all_left (text ∷ texts) zero = refl
all_left (text ∷ texts) (suc core) = all_left texts core

pub proposed : (configuration : Configuration) (requirements : Requirements) (texts : List (List ℕ)) (certificate : List ℕ) (proposal : Proposal) (pairs : List Pair) (recordings : ℕ → List Record) (records : List Ordered)
    → WindowsAreConfigured configuration → EndsAreApart configuration → pairs_of certificate ≡ map Ok pairs
    → ((core : ℕ) → core < configuration.cores → items_at texts core ≡ map Ok (recordings core))
    → IsLawfulOrder configuration.cores (λ core. length (recordings core)) pairs
    → scan configuration.cores none_taken 0 (items_at texts) (map Ok pairs) ≡ record { placed = records; end = Ok tt } → ArePlaced 0 records
    → IsVerdict configuration requirements records (verdict_of proposal) → IsVerdict configuration (required_by [] []) records (order_verdict_of proposal)
    → IsProposed configuration requirements texts certificate proposal
proposed configuration requirements texts certificate proposal pairs recordings records windows ends listed recorded lawful scanned placed verdict order = record {
  pairs = pairs;
  listed = listed;
  recordings = recordings;
  recorded = recorded;
  lawful = lawful;
  records = records;
  placed = ap (scan configuration.cores none_taken 0 (items_at texts)) listed ∙ scanned;
  verdict = verdict;
  yes = run_where_yes configuration requirements records (verdict_of proposal) windows ends placed verdict;
  no = run_up_to_no configuration requirements records (verdict_of proposal) windows ends placed verdict;
  order = order;
  found = run_where_yes configuration (required_by [] []) records (order_verdict_of proposal) windows ends placed order;
  not_found = run_up_to_no configuration (required_by [] []) records (order_verdict_of proposal) windows ends placed order;
}

-- How a run of the program ends.
use Rattle.std.specs.Prelude.{◌≡◌, ◌≢◌, ◌⊎◌, ℕ, List, [], Option, Some, None, Result, Ok, Err}
use Rattle.apex_machine.specs.Configuration.{Configuration}
use Rattle.apex_types.specs.declared.record.Pair.{Pair}
use Rattle.module_config.specs.declared.fault.ConfigFault.{ConfigFault}
use Rattle.order_cert.specs.Order.{IsPrefixOfLawful}
use Rattle.program_ends.specs.declared.ending.Ending.{Ending}
use Rattle.program_ends.specs.declared.ending.Ending.TheVariants.{Own}
use Rattle.program_ends.specs.Endings.{out_of_memory}
use Rattle.sink.specs.Written.{IsCut, IsWritten}
use Rattle.user_rules.specs.Remembered.{Requirements}
use Rattle.order_run.specs.declared.proposal.Proposal.TheVariants.{Found, NotFound}
use Rattle.order_run.specs.declared.proposal.ProposalFault.{ProposalFault}
use Rattle.order_run.specs.declared.proposal.ProposalFault.TheVariants as no_proposal
use Rattle.order_run.specs.Left.{Lefts}
use Rattle.order_run.specs.Proposal.{IsProposed, ListsFirst}
use Rattle.order_run.specs.Rows.{rows_of}
use Rattle.report.specs.declared.fault.ArgumentFault.TheVariants.{ReaderCount}
use Rattle.report.specs.declared.fault.CheckFault.{CheckFault}
use Rattle.report.specs.declared.fault.CheckFault.TheVariants as fault
use Rattle.report.specs.Text.{outcome_status_of, report_of}
use Rattle.apexorder.specs.declared.ending.OrderEnd.{OrderEnd}
use Rattle.apexorder.specs.declared.ending.OrderEnd.TheVariants.{Proposed, Refused, Unwritten, Version, Help}

-- the end by a refusal of an input, or by a lack of memory
abbrev pub refusing : CheckFault → OrderEnd
refusing fault = Refused fault

-- 0 for an order in which no rule is broken, the version and the help, 1 if a rule is broken or no order was found, 4 if the output failed;
-- 3 if memory is refused, and 2 for every other refusal, as after a check
abbrev pub own_status_of : OrderEnd → ℕ
own_status_of (Proposed (Found records None)) = 0
own_status_of (Proposed (Found records (Some broken))) = 1
own_status_of (Proposed (NotFound refused broken)) = 1
own_status_of (Refused which) = outcome_status_of (Err which)
own_status_of Unwritten = 4
own_status_of Version = 0
own_status_of Help = 0

-- the line of a refusal, as a check prints it
abbrev pub own_text_of : OrderEnd → List ℕ
own_text_of (Refused which) = report_of (Err which)
own_text_of _ = []

-- the end where there is no proposal
abbrev pub ending_of : ProposalFault → Ending OrderEnd
ending_of (no_proposal.Input input) = Own (Refused (fault.Input input))
ending_of no_proposal.Memory = out_of_memory refusing
ending_of no_proposal.Output = Own Unwritten

-- the end of a search over so many recordings under this configuration: by their number, unless it is that of the cores; else by a
-- proposal, by a fault of a recording, or by an output that failed
abbrev pub EndsUnder : Configuration → ℕ → Ending OrderEnd → Type 0
EndsUnder configuration recordings (Own (Refused (fault.Arguments which))) = (recordings ≢ configuration.cores) × (which ≡ ReaderCount)
EndsUnder configuration recordings (Own (Refused (fault.Input which))) = recordings ≡ configuration.cores
EndsUnder configuration recordings (Own (Proposed proposal)) = recordings ≡ configuration.cores
EndsUnder configuration recordings (Own Unwritten) = recordings ≡ configuration.cores
EndsUnder configuration recordings _ = ⊥

-- the end of a search over so many recordings, by what the text of the configuration is; a lack of memory outranks it
abbrev pub EndsSearch : Result Configuration ConfigFault → ℕ → Ending OrderEnd → Type 0
EndsSearch (Err which) recordings end = (end ≡ out_of_memory refusing) ⊎ (end ≡ Own (Refused (fault.Config which)))
EndsSearch (Ok configuration) recordings end = (end ≡ out_of_memory refusing) ⊎ EndsUnder configuration recordings end

-- the output received the first bytes of rows that begin a lawful order of the records of so many cores, and that list the first records of
-- the recordings with these items
pub record HasReceivedRows (cores : ℕ) (lefts : Lefts) (before after : Option (List ℕ)) : Type 0 where
  pub pairs : List Pair
  pub lawful : IsPrefixOfLawful cores pairs
  pub listed : ListsFirst cores lefts pairs
  pub cut : IsCut before (rows_of pairs) after

-- for a configuration that was read, the output received rows that begin a lawful order of its cores; for a text that is none, nothing
abbrev pub HasReceived : Result Configuration ConfigFault → Lefts → Option (List ℕ) → Option (List ℕ) → Type 0
HasReceived (Ok configuration) lefts before after = HasReceivedRows configuration.cores lefts before after
HasReceived (Err fault) lefts before after = after ≡ before

-- if the end is a proposal, the output received its certificate, and the proposal says of what is required and of the recordings with these
-- texts what it means
abbrev pub IsCertifiedBy : Configuration → Requirements → List (List ℕ) → Option (List ℕ) → Option (List ℕ) → Ending OrderEnd → Type 0
IsCertifiedBy configuration requirements texts before after (Own (Proposed proposal)) =
    (certificate : List ℕ) × IsWritten before certificate after × IsProposed configuration requirements texts certificate proposal
IsCertifiedBy configuration requirements texts before after _ = Unit {0}

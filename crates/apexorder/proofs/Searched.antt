-- How a search ends, by what the text of the configuration is.
use Rattle.std.proofs.Common.{◌≡◌, ◌≢◌, ℕ, Result, Ok, Err, refl, sym, subst, inl, inr}
use Rattle.apex_machine.specs.Configuration.{Configuration}
use Rattle.module_config.specs.declared.fault.ConfigFault.{ConfigFault}
use Rattle.order_run.specs.declared.proposal.Proposal.{Proposal}
use Rattle.order_run.specs.declared.proposal.ProposalFault.{ProposalFault}
use Rattle.order_run.specs.declared.proposal.ProposalFault.TheVariants.{Input, Memory, Output}
use Rattle.program_ends.specs.declared.ending.Ending.{Ending}
use Rattle.program_ends.specs.declared.ending.Ending.TheVariants.{Own}
use Rattle.program_ends.specs.Endings.{out_of_memory}
use Rattle.report.specs.declared.fault.ArgumentFault.TheVariants.{ReaderCount}
use Rattle.report.specs.declared.fault.CheckFault.TheVariants as fault
use Rattle.apexorder.specs.declared.ending.OrderEnd.{OrderEnd}
use Rattle.apexorder.specs.declared.ending.OrderEnd.TheVariants.{Proposed, Refused, Unwritten}
use Rattle.apexorder.specs.Endings.{EndsSearch, EndsUnder, ending_of, refusing}

pub memory_ends : (reading : Result Configuration ConfigFault) (recordings : ℕ) (end : Ending OrderEnd) → end ≡ out_of_memory refusing → EndsSearch reading recordings end
memory_ends (Ok configuration) recordings end is = inl is
memory_ends (Err which) recordings end is = inl is

pub configuration_ends : (reading : Result Configuration ConfigFault) (recordings : ℕ) (which : ConfigFault) → reading ≡ Err which → EndsSearch reading recordings (Own (Refused (fault.Config which)))
configuration_ends reading recordings which read = subst (λ found. EndsSearch found recordings (Own (Refused (fault.Config which)))) (sym read) (inr refl)

-- under the configuration that was read
search_ends : (reading : Result Configuration ConfigFault) (configuration : Configuration) (recordings : ℕ) (end : Ending OrderEnd) → reading ≡ Ok configuration → EndsUnder configuration recordings end
    → EndsSearch reading recordings end
search_ends reading configuration recordings end read ends = subst (λ found. EndsSearch found recordings end) (sym read) (inr ends)

pub count_ends : (reading : Result Configuration ConfigFault) (configuration : Configuration) (recordings : ℕ) → reading ≡ Ok configuration → recordings ≢ configuration.cores
    → EndsSearch reading recordings (Own (Refused (fault.Arguments ReaderCount)))
count_ends reading configuration recordings read differ = search_ends reading configuration recordings (Own (Refused (fault.Arguments ReaderCount))) read (differ, refl)

pub proposal_ends : (reading : Result Configuration ConfigFault) (configuration : Configuration) (recordings : ℕ) (proposal : Proposal) → reading ≡ Ok configuration → recordings ≡ configuration.cores
    → EndsSearch reading recordings (Own (Proposed proposal))
proposal_ends reading configuration recordings proposal read same = search_ends reading configuration recordings (Own (Proposed proposal)) read same

pub output_ends : (reading : Result Configuration ConfigFault) (configuration : Configuration) (recordings : ℕ) → reading ≡ Ok configuration → recordings ≡ configuration.cores
    → EndsSearch reading recordings (Own Unwritten)
output_ends reading configuration recordings read same = search_ends reading configuration recordings (Own Unwritten) read same

pub fault_ends : (reading : Result Configuration ConfigFault) (configuration : Configuration) (recordings : ℕ) (which : ProposalFault) (end : Ending OrderEnd) → reading ≡ Ok configuration
    → recordings ≡ configuration.cores → end ≡ ending_of which → EndsSearch reading recordings end
fault_ends reading configuration recordings which end read same is = subst (EndsSearch reading recordings) (sym is) (by which)
  where
    by : (which : ProposalFault) → EndsSearch reading recordings (ending_of which)
    by (Input input) = search_ends reading configuration recordings (Own (Refused (fault.Input input))) read same
    by Memory = memory_ends reading recordings (out_of_memory refusing) refl
    by Output = output_ends reading configuration recordings read same

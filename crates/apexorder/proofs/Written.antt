-- What the output received, and what an end says of it.
use Rattle.std.proofs.Common.{◌≡◌, ℕ, List, [], Option, Result, Ok, Err, refl, sym, subst, append-nil}
use Rattle.apex_machine.specs.Configuration.{Configuration}
use Rattle.apex_types.specs.declared.record.Pair.{Pair}
use Rattle.module_config.specs.declared.fault.ConfigFault.{ConfigFault}
use Rattle.order_cert.specs.Order.{IsPrefixOfLawful}
use Rattle.program_ends.specs.declared.ending.Ending.TheVariants.{Own}
use Rattle.sink.specs.Written.{IsCut, IsWritten}
use Rattle.user_rules.specs.Remembered.{Requirements}
use Rattle.order_run.specs.declared.proposal.Proposal.{Proposal}
use Rattle.order_run.specs.declared.proposal.ProposalFault.{ProposalFault}
use Rattle.order_run.specs.declared.proposal.ProposalFault.TheVariants.{Input, Memory, Output}
use Rattle.order_run.specs.Left.{Lefts}
use Rattle.order_run.specs.Proposal.{HaveGoneOut, IsProposed, ListsFirst}
use Rattle.order_run.specs.Rows.{rows_of}
use Rattle.order_tip.proofs.Opened.{nothing_gone}
use Rattle.apexorder.specs.declared.ending.OrderEnd.TheVariants.{Proposed}
use Rattle.apexorder.specs.Endings.{HasReceived, IsCertifiedBy, ending_of}

-- before the first row
pub none_received : (reading : Result Configuration ConfigFault) (lefts : Lefts) (bytes : Option (List ℕ)) → HasReceived reading lefts bytes bytes
none_received (Ok configuration) lefts bytes =
    let none = nothing_gone configuration.cores lefts bytes in
    record { pairs = none.0; lawful = none.1; listed = none.2; cut = none.3 }
none_received (Err fault) lefts bytes = refl

-- what went out of the rows, whole or not
gone_is_cut : (before : Option (List ℕ)) (rows : List ℕ) (result : Result Proposal ProposalFault) (after : Option (List ℕ))
    → HaveGoneOut before rows result after → IsCut before rows after
gone_is_cut before rows (Ok proposal) after is = (rows, [], sym (append-nil rows), is)
gone_is_cut before rows (Err fault) after is = is

pub received : (reading : Result Configuration ConfigFault) (configuration : Configuration) (lefts : Lefts) (before middle after : Option (List ℕ)) (result : Result Proposal ProposalFault)
    → reading ≡ Ok configuration → after ≡ middle → ((pairs : List Pair) × IsPrefixOfLawful configuration.cores pairs × ListsFirst configuration.cores lefts pairs × HaveGoneOut before (rows_of pairs) result middle)
    → HasReceived reading lefts before after
received reading configuration lefts before middle after result read same (pairs, lawful, listed, gone) = subst (λ found. HasReceived found lefts before after) (sym read) (record {
  pairs = pairs;
  lawful = lawful;
  listed = listed;
  cut = subst (IsCut before (rows_of pairs)) (sym same) (gone_is_cut before (rows_of pairs) result middle gone);
})

-- a proposal for the configuration that was read
pub certified : (reading : Result Configuration ConfigFault) (configuration given : Configuration) (requirements : Requirements) (texts : List (List ℕ)) (before middle after : Option (List ℕ)) (proposal : Proposal)
    → reading ≡ Ok given → reading ≡ Ok configuration → after ≡ middle
    → ((certificate : List ℕ) × IsWritten before certificate middle × IsProposed given requirements texts certificate proposal) → IsCertifiedBy configuration requirements texts before after (Own (Proposed proposal))
certified reading configuration given requirements texts before middle after proposal read is same (certificate, written, proposed) =
    let one : given ≡ configuration = cc in (
      certificate,
      subst (IsWritten before certificate) (sym same) written,
      subst (λ found. IsProposed found requirements texts certificate proposal) one proposed,
    )

-- where there is no proposal, nothing is certified
pub none_is_certified : (configuration : Configuration) (requirements : Requirements) (texts : List (List ℕ)) (before after : Option (List ℕ)) (fault : ProposalFault)
    → IsCertifiedBy configuration requirements texts before after (ending_of fault)
none_is_certified configuration requirements texts before after (Input input) = tt
none_is_certified configuration requirements texts before after Memory = tt
none_is_certified configuration requirements texts before after Output = tt

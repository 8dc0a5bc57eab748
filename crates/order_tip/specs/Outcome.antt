-- A proposal and the outcome of a check.
use Rattle.std.specs.Prelude.{◌≡◌, Ok, None, length}
use Rattle.apex_machine.specs.Configuration.{Configuration}
use Rattle.module_config.specs.Reading.{configuration_of}
use Rattle.report.specs.declared.settings.Settings.{Settings}
use Rattle.report.specs.Inputs.{Texts, whole}
use Rattle.report.specs.Outcome.{IsOutcome, argument_fault_of}
use Rattle.report.specs.No.{NoMeansRefusal}
use Rattle.report.specs.Yes.{YesMeansRun}
use Rattle.user_rules.specs.Remembered.{Requirements}
use Rattle.order_run.specs.declared.proposal.Proposal.{Proposal}
use Rattle.order_run.specs.Proposal.{IsProposed, verdict_of}

-- what is proposed under rules for a configuration, recordings and the certificate that was written is what a check of these texts under
-- these rules answers, whatever its settings if they are not refused, where no reader fails and no memory is refused: the first rule that is
-- broken at its place; else Yes of all records where an order was found, and No at the place that is reported where none was. Such a Yes
-- means that the recordings are a lawful run in the order of the certificate, in which every rule holds; a No and a broken rule mean what
-- they mean after a check
abbrev pub ProposalIsTheOutcome : Type 0
ProposalIsTheOutcome =
    (settings : Settings) (configuration : Configuration) (requirements : Requirements) (texts : Texts) (proposal : Proposal) → argument_fault_of settings ≡ None
    → configuration_of texts.config ≡ Ok configuration → length texts.recordings ≡ configuration.cores
    → IsProposed configuration requirements texts.recordings texts.certificate proposal
    → IsOutcome settings texts whole requirements (Ok (verdict_of proposal)) × YesMeansRun texts requirements (Ok (verdict_of proposal))
    × NoMeansRefusal texts requirements (Ok (verdict_of proposal))

-- What a No and a broken rule mean.
use Rattle.std.specs.Prelude.{◌≡◌, ◌<◌, ℕ, List, Result, Ok, map, length, take}
use Rattle.apex_machine.specs.Configuration.{Configuration}
use Rattle.apex_types.specs.declared.record.Ordered.{Ordered}
use Rattle.apex_types.specs.declared.record.Pair.{Pair}
use Rattle.apex_types.specs.declared.record.Record.{Record}
use Rattle.module_config.specs.Reading.{configuration_of}
use Rattle.order_cert.specs.Order.{IsLawfulOrder}
use Rattle.order_cert.specs.Row.{pairs_of}
use Rattle.user_rules.specs.Remembered.{Requirements}
use Rattle.verdict_merge.specs.declared.verdict.Verdict.{Verdict}
use Rattle.verdict_merge.specs.declared.verdict.Verdict.TheVariants.{No, Broken}
use Rattle.verdict_merge.specs.Refusals.{IsBrokenAt, IsRefusedAt}
use Rattle.report.specs.declared.fault.CheckFault.{CheckFault}
use Rattle.report.specs.Inputs.{Texts, items_at}
use Rattle.report.specs.Yes.{AreInOrder}

-- the texts are a configuration, with one recording for each core, and a certificate whose first pairs are a lawful order of the
-- first records of the recordings; and of the records in that order this fact holds under the configuration. After them
-- the texts are whatever they are
pub record IsLawfulUpTo (texts : Texts) (Fact : Configuration → List Ordered → Type 0) : Type 0 where
  pub configuration : Configuration
  pub configured : configuration_of texts.config ≡ Ok configuration
  pub readers : length texts.recordings ≡ configuration.cores
  pub pairs : List Pair
  pub proposed : take (length pairs) (pairs_of texts.certificate) ≡ map Ok pairs
  pub recordings : ℕ → List Record
  pub recorded : (core : ℕ) → core < configuration.cores → take (length (recordings core)) (items_at texts.recordings core) ≡ map Ok (recordings core)
  pub lawful : IsLawfulOrder configuration.cores (λ core. length (recordings core)) pairs
  pub records : List Ordered
  pub ordered : AreInOrder configuration.cores 0 pairs recordings records
  pub holds : Fact configuration records

-- if the answer is No, the records before its place are a run of the machine, which has no step for the record at the place; if a rule is
-- broken, the records up to its place are a run, and the view there is the first that breaks a rule
abbrev pub NoMeansRefusal : Texts → Requirements → Result Verdict CheckFault → Type 0
NoMeansRefusal texts requirements (Ok (No pos piece cause)) =
    IsLawfulUpTo texts (λ configuration records. IsRefusedAt configuration requirements records pos)
NoMeansRefusal texts requirements (Ok (Broken pos rule)) =
    IsLawfulUpTo texts (λ configuration records. IsBrokenAt configuration requirements records pos rule)
NoMeansRefusal texts requirements _ = Unit {0}

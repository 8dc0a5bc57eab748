-- What a Yes means.
use Rattle.std.specs.Prelude.{◌≡◌, ◌<◌, ℕ, suc, List, [], ◌∷◌, Result, Ok, map, length}
use Rattle.apex_machine.specs.Configuration.{Configuration}
use Rattle.apex_machine.specs.State.{State, cold_state}
use Rattle.apex_machine.specs.Step.{Run}
use Rattle.apex_machine.specs.Views.{run_views}
use Rattle.apex_types.specs.declared.record.Ordered.{Ordered}
use Rattle.apex_types.specs.declared.record.Pair.{Pair}
use Rattle.apex_types.specs.declared.record.Record.{Record}
use Rattle.module_config.specs.Reading.{configuration_of}
use Rattle.order_cert.specs.Kept.{put}
use Rattle.order_cert.specs.Order.{IsLawfulOrder}
use Rattle.order_cert.specs.Row.{pairs_of}
use Rattle.placement.specs.Scan.{placed_at}
use Rattle.user_rules.specs.Remembered.{Requirements}
use Rattle.user_rules.specs.FirstBroken.{AllMeet}
use Rattle.verdict_merge.specs.declared.verdict.Verdict.{Verdict}
use Rattle.verdict_merge.specs.declared.verdict.Verdict.TheVariants.{Yes}
use Rattle.report.specs.declared.fault.CheckFault.{CheckFault}
use Rattle.report.specs.Inputs.{Texts, items_at}

-- from this place on the records are those that the pairs name, each the next of its core's recording, and none is left
abbrev pub AreInOrder : ℕ → ℕ → List Pair → (ℕ → List Record) → List Ordered → Type 0
AreInOrder cores place [] rest records = (records ≡ []) × ((core : ℕ) → core < cores → rest core ≡ [])
AreInOrder cores place (pair ∷ pairs) rest records =
    (rec : Record) × (more : List Record) × (later : List Ordered)
    × (rest pair.core ≡ rec ∷ more) × (records ≡ placed_at place pair.core rec ∷ later)
    × AreInOrder cores (suc place) pairs (put rest pair.core more) later

-- the texts are a configuration, recordings and a certificate without a fault; the certificate's pairs are a lawful order
-- of the recordings' records; and in that order the records are a run of the configured machine from the cold state, in which the
-- view of each record, with the values of the memories at it, meets every relation
pub record IsLawfulRun (texts : Texts) (requirements : Requirements) (count : ℕ) : Type 0 where
  pub configuration : Configuration
  pub configured : configuration_of texts.config ≡ Ok configuration
  pub readers : length texts.recordings ≡ configuration.cores
  pub pairs : List Pair
  pub proposed : pairs_of texts.certificate ≡ map Ok pairs
  pub recordings : ℕ → List Record
  pub recorded : (core : ℕ) → core < configuration.cores → items_at texts.recordings core ≡ map Ok (recordings core)
  pub lawful : IsLawfulOrder configuration.cores (λ core. length (recordings core)) pairs
  pub records : List Ordered
  pub ordered : AreInOrder configuration.cores 0 pairs recordings records
  pub final : State
  pub run : Run configuration (cold_state configuration) records final
  pub meets : AllMeet requirements (run_views configuration (cold_state configuration) records final run)
  pub counted : count ≡ length records

-- if the answer is Yes, the recordings are lawful in the order of the certificate, and every relation holds in their run
abbrev pub YesMeansRun : Texts → Requirements → Result Verdict CheckFault → Type 0
YesMeansRun texts requirements (Ok (Yes records)) = IsLawfulRun texts requirements records
YesMeansRun texts requirements _ = Unit {0}

-- A result and a run by their parts.
use Rattle.std.proofs.Common.{◌≡◌, List, codes}
use Rattle.serde_json.specs.Data.{Data, string}
use Rattle.sarif_report.specs.Log.{all_earlier, fingerprints_data, only, place_data, result_data, result_members, root_data, run_data, run_members, worded}
use Rattle.sarif_report.specs.declared.finding.Earlier.{Earlier}
use Rattle.sarif_report.specs.declared.finding.Finding.{Finding}
use Rattle.sarif_report.specs.declared.finding.LoggedRun.{LoggedRun}

-- the result, by where it is, its message, what stays the same of it, and the earlier records
pub result_is : (finding : Finding) (earlier : List Earlier) (place found message fingerprints : Data) (related : List Data) → place ≡ place_data finding.location
    → found ≡ only (codes "physicalLocation") place → message ≡ worded finding.message.now → fingerprints ≡ fingerprints_data finding.fingerprint.now
    → related ≡ all_earlier 0 earlier → result_members found message fingerprints related finding.rule.id.now ≡ result_data finding earlier
unfolding result_data
result_is finding earlier place found message fingerprints related placed shown told same before = cc

-- the run, by what distinguishes it from others, where files are named from, and its tool
pub run_is : (run : LoggedRun) (details invocation root folders driver tool : Data) (results : List Data) → details ≡ only (codes "id") (string run.id.now)
    → root ≡ root_data run.root → folders ≡ only (codes "SRCROOT") root → tool ≡ only (codes "driver") driver
    → run_members details invocation folders results tool ≡ run_data run invocation results driver
unfolding run_data
run_is run details invocation root folders driver tool results detailed based named driven = cc

-- The log as a value of JSON. The members of an object are in the order of their names.
use Rattle.std.specs.Prelude.{◌≡◌, ℕ, ◌+◌, List, [], ◌∷◌, ◌++◌, Option, Some, None, codes, decimal, nat_eq, nat_le, if◌then◌else◌}
use Rattle.std.specs.List.{starts_with}
use Rattle.std.specs.Borrow.{Bor}
use Rattle.json.specs.Lex.{tokens}
use Rattle.json.specs.Layout.{pretty}
use Rattle.serde_json.specs.Data.{Data, boolean, number, unsigned, string, array, object, no_items, item, no_members, member}
use Rattle.serde_json.specs.View.{items_of}
use Rattle.serde_json.specs.Written.{IsInOrder}
use Rattle.sarif_report.specs.Reference.{reference_of}
use Rattle.sarif_report.specs.declared.finding.Earlier.{Earlier}
use Rattle.sarif_report.specs.declared.finding.Finding.{Finding}
use Rattle.sarif_report.specs.declared.finding.Location.{Location}
use Rattle.sarif_report.specs.declared.finding.LoggedRun.{LoggedRun}
use Rattle.sarif_report.specs.declared.finding.ResultRule.{ResultRule}
use Rattle.sarif_report.specs.declared.log.TheConstants.{SCHEMA, UNKNOWN_ROOT}

-- an object with one member
abbrev pub only : List ℕ → Data → Data
only name value = object (member name value no_members)

-- a text as an object
abbrev pub worded : List ℕ → Data
worded text = only (codes "text") (string text)

-- an artifact, and the line in it if that is known
abbrev pub place_at : Data → Option ℕ → Data
place_at artifact None = only (codes "artifactLocation") artifact
place_at artifact (Some line) =
    object (member (codes "artifactLocation") artifact (member (codes "region") (only (codes "startLine") (number (unsigned line))) no_members))

-- the folder from which a file of this name is named: the root of the run, unless the name is absolute
abbrev pub base_of : List ℕ → Option (List ℕ)
base_of file = if starts_with nat_eq file (codes "/") then None else Some (codes "SRCROOT")

-- a file by its reference and the folder from which it is named
abbrev pub artifact_from : List ℕ → Option (List ℕ) → Data
artifact_from uri None = only (codes "uri") (string uri)
artifact_from uri (Some base) = object (member (codes "uri") (string uri) (member (codes "uriBaseId") (string base) no_members))

-- a file by the reference of its name
abbrev pub artifact_data : List ℕ → Data
artifact_data file = artifact_from (reference_of file) (base_of file)

-- a place in a file: the reference of the file, and the line
abbrev pub place_data : Location → Data
place_data location = place_at (artifact_data location.file.now) location.line

-- what a rule demands, and where the documents describe it
abbrev pub help_text : ResultRule → List ℕ
help_text rule = rule.help.now ++ (codes " See " ++ (rule.section.now ++ codes "."))

-- the rule of a result: its description, its help, its identifier, its section of the documents, and what it demands
abbrev pub rule_data : ResultRule → Data
rule_data rule =
    object
    (member (codes "fullDescription") (worded (help_text rule))
    (member (codes "help") (worded (help_text rule))
    (member (codes "id") (string rule.id.now)
    (member (codes "properties") (only (codes "section") (string rule.section.now))
    (member (codes "shortDescription") (worded rule.help.now) no_members)))))

-- an earlier record in words: its place, its number in its recording, its core and its kind
abbrev pub earlier_text : Earlier → List ℕ
earlier_text earlier =
    codes "place " ++ (decimal earlier.place
    ++ (codes ": record " ++ (decimal earlier.seq
    ++ (codes " of core " ++ (decimal earlier.core ++ (codes " (" ++ (earlier.kind.now ++ codes ")")))))))

-- an earlier record, with its number among those of the result
abbrev pub earlier_data : ℕ → Earlier → Data
earlier_data id earlier =
    object
    (member (codes "id") (number (unsigned id))
    (member (codes "message") (worded (earlier_text earlier))
    (member (codes "physicalLocation") (place_data earlier.location) no_members)))

-- earlier records, numbered from this number on
abbrev pub all_earlier : ℕ → List Earlier → List Data
all_earlier id [] = []
all_earlier id (earlier ∷ rest) = earlier_data id earlier ∷ all_earlier (id + 1) rest

-- what stays the same of a result, under a name of the program and under the one that servers know
abbrev pub fingerprints_data : List ℕ → Data
fingerprints_data fingerprint =
    object (member (codes "apexcheckRow/v1") (string fingerprint) (member (codes "primaryLocationLineHash") (string fingerprint) no_members))

-- a result by its parts: where it is, its message, what stays the same of it, the earlier records and its rule
abbrev pub result_members : Data → Data → Data → List Data → List ℕ → Data
result_members found message fingerprints related rule =
    object
    (member (codes "kind") (string (codes "fail"))
    (member (codes "level") (string (codes "error"))
    (member (codes "locations") (array (item found no_items))
    (member (codes "message") message
    (member (codes "partialFingerprints") fingerprints
    (member (codes "relatedLocations") (array (items_of related))
    (member (codes "ruleId") (string rule)
    (member (codes "ruleIndex") (number (unsigned 0)) no_members))))))))

-- the result, with the earlier records
unfoldable pub result_data : Finding → List Earlier → Data
result_data finding earlier =
    result_members
    (only (codes "physicalLocation") (place_data finding.location))
    (worded finding.message.now)
    (fingerprints_data finding.fingerprint.now)
    (all_earlier 0 earlier)
    finding.rule.id.now

abbrev pub rules_data : Option (Bor Finding) → List Data
rules_data None = []
rules_data (Some finding) = rule_data finding.now.rule ∷ []

abbrev pub results_data : Option (Bor Finding) → List Earlier → List Data
results_data None earlier = []
results_data (Some finding) earlier = result_data finding.now earlier ∷ []

abbrev pub notices_data : Option (Bor (List ℕ)) → List Data
notices_data None = []
notices_data (Some text) = object (member (codes "level") (string (codes "error")) (member (codes "message") (worded text.now) no_members)) ∷ []

-- how the program ended: it succeeded if it judged the records
abbrev pub invocation_data : ℕ → Option (Bor (List ℕ)) → Data
invocation_data status notice =
    object
    (member (codes "executionSuccessful") (boolean (nat_le status 1))
    (member (codes "exitCode") (number (unsigned status))
    (member (codes "toolExecutionNotifications") (array (items_of (notices_data notice))) no_members)))

-- the program of this version, with the rules of its results
abbrev pub driver_data : List ℕ → List Data → Data
driver_data version rules =
    object
    (member (codes "name") (string (codes "apexcheck"))
    (member (codes "rules") (array (items_of rules))
    (member (codes "version") (string version) no_members)))

-- the folder from which files are named: its reference, or what it is
abbrev pub root_data : Option (Bor (List ℕ)) → Data
root_data None = only (codes "description") (worded UNKNOWN_ROOT.now)
root_data (Some root) = only (codes "uri") (string (reference_of root.now))

-- a run by its parts: what distinguishes it from others, how it ended, where files are named from, its results and its tool
abbrev pub run_members : Data → Data → Data → List Data → Data → Data
run_members details invocation folders results tool =
    object
    (member (codes "automationDetails") details
    (member (codes "invocations") (array (item invocation no_items))
    (member (codes "originalUriBaseIds") folders
    (member (codes "results") (array (items_of results))
    (member (codes "tool") tool no_members)))))

-- the one run of a log
unfoldable pub run_data : LoggedRun → Data → List Data → Data → Data
run_data run invocation results driver =
    run_members
    (only (codes "id") (string run.id.now))
    invocation
    (only (codes "SRCROOT") (root_data run.root))
    results
    (only (codes "driver") driver)

abbrev pub log_data : LoggedRun → Option (Bor Finding) → List Earlier → Option (Bor (List ℕ)) → Data
log_data run finding earlier notice =
    object
    (member (codes "$schema") (string SCHEMA.now)
    (member (codes "runs")
    (array (item (run_data run (invocation_data run.status notice) (results_data finding earlier) (driver_data run.version.now (rules_data finding))) no_items))
    (member (codes "version") (string (codes "2.1.0")) no_members)))

-- the text of a log: JSON in serde_json's layout whose tokens are those of this value, each once and in order, and a line feed
pub record IsLog (text : List ℕ) (log : Data) : Type 0 where
  pub json : List ℕ
  pub ends : text ≡ json ++ 10 ∷ []
  pub is_laid_out : json ≡ pretty (tokens json)
  pub is_value : IsInOrder json log

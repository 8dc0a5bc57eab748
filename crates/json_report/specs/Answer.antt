-- The answer as a value of JSON. The members of an object are in the order of their names.
use Rattle.std.specs.Prelude.{ℕ, List, ◌++◌, map, Option, Some, None, String, string_bytes, codes}
use Rattle.std.specs.declared.alloc.Global.{Global}
use Rattle.std.specs.Borrow.{Bor}
use Rattle.hex.specs.Hex.{encode_lower}
use Rattle.sha2.specs.Sha256.{sha256}
use Rattle.serde_json.specs.Data.{Data, null, number, unsigned, string, array, object, no_members, member}
use Rattle.serde_json.specs.View.{items_of}
use Rattle.json_report.specs.declared.answer.Answer.{Answer}
use Rattle.json_report.specs.declared.answer.Digest.{Digest}
use Rattle.json_report.specs.declared.answer.Input.{Input}
use Rattle.json_report.specs.declared.answer.LastRecord.{LastRecord}
use Rattle.json_report.specs.declared.answer.NamedPlace.{NamedPlace}
use Rattle.json_report.specs.declared.answer.Options.{Options}
use Rattle.json_report.specs.declared.answer.Row.{Row}
use Rattle.json_report.specs.declared.answer.Sentence.{Sentence}
use Rattle.json_report.specs.declared.answer.Site.{Site}
use Rattle.json_report.specs.declared.text.TheConstants.{FORM}

-- a number, or null
abbrev pub number_or_null : Option ℕ → Data
number_or_null None = null
number_or_null (Some n) = number (unsigned n)

-- a text, or null
abbrev pub text_or_null : Option (Bor (List ℕ)) → Data
text_or_null None = null
text_or_null (Some text) = string text.now

-- a text
abbrev pub text_data : String Global → Data
text_data text = string (string_bytes text)

-- the SHA-256 of a text, in hexadecimal digits
abbrev pub sha256_digits : List ℕ → List ℕ
sha256_digits text = encode_lower (sha256 text)

-- a row: the texts of its fields, and its number
abbrev pub row_data : Row → Data
row_data row =
    object
    (member (codes "fields") (array (items_of (map text_data row.fields.items)))
    (member (codes "number") (number (unsigned row.number)) no_members))

abbrev pub row_or_null : Option Row → Data
row_or_null None = null
row_or_null (Some row) = row_data row

-- a place in a file: the file, the line and the row
abbrev pub site_data : Site → Data
site_data site =
    object
    (member (codes "file") (string site.file.now)
    (member (codes "line") (number_or_null site.line)
    (member (codes "row") (row_or_null site.row) no_members)))

abbrev pub site_or_null : Option (Bor Site) → Data
site_or_null None = null
site_or_null (Some site) = site_data site.now

-- a place of the proposed order, with the file and the line of its record
abbrev pub place_data : NamedPlace → Data
place_data place =
    object
    (member (codes "file") (string place.file.now)
    (member (codes "line") (number_or_null place.line)
    (member (codes "place") (number (unsigned place.place)) no_members)))

-- a sentence: the places that it names, and its text
abbrev pub sentence_data : Sentence → Data
sentence_data sentence =
    object
    (member (codes "places") (array (items_of (map place_data sentence.places.items)))
    (member (codes "text") (text_data sentence.text) no_members))

-- a record before the place of the answer
abbrev pub record_data : LastRecord → Data
record_data before =
    object
    (member (codes "core") (number (unsigned before.core))
    (member (codes "file") (string before.file.now)
    (member (codes "kind") (string before.kind.now)
    (member (codes "line") (number_or_null before.line)
    (member (codes "place") (number (unsigned before.place))
    (member (codes "seq") (number (unsigned before.seq)) no_members))))))

abbrev pub input_members : Input → Data → Data → Data
input_members input bytes digest =
    object
    (member (codes "bytes") bytes
    (member (codes "name") (string input.name.now)
    (member (codes "role") (string input.role.now)
    (member (codes "sha256") digest no_members))))

abbrev pub input_with : Input → Option Digest → Data
input_with input None = input_members input null null
input_with input (Some content) = input_members input (number (unsigned content.bytes)) (text_data content.sha256)

-- an input: its role, its name, and how many bytes it holds with their SHA-256, or null if it was not read again
abbrev pub input_data : Input → Data
input_data input = input_with input input.content

-- the options on which the answer depends
abbrev pub options_data : Options → Data
options_data options =
    object
    (member (codes "at_least") (number_or_null options.at_least)
    (member (codes "rules") (array (items_of (map text_data options.rules.now))) no_members))

-- what the line says: the line with a digest, the exit status, what the answer rests on and its name, and the other parts of the summary
abbrev pub said_members : Answer → List ℕ → Data → Data → Data
said_members answer digest id cause =
    object
    (member (codes "cause") cause
    (member (codes "id") id
    (member (codes "line") (string answer.line.now)
    (member (codes "outcome") (string answer.summary.outcome.now)
    (member (codes "piece") (number_or_null answer.summary.piece)
    (member (codes "place") (number_or_null answer.summary.place)
    (member (codes "records") (number_or_null answer.summary.records)
    (member (codes "rule") (number_or_null answer.summary.rule)
    (member (codes "sha256") (string digest)
    (member (codes "status") (number (unsigned answer.status)) no_members))))))))))

-- what the line says, with the digest of its bytes and of a line feed
unfoldable pub said_data : Answer → Data
said_data answer =
    said_members answer (sha256_digits (answer.line.now ++ codes "\n")) (text_or_null answer.summary.id) (text_or_null answer.summary.cause)

-- the program of this version
abbrev pub program_data : List ℕ → Data
program_data version = object (member (codes "name") (string (codes "apexcheck")) (member (codes "version") (string version) no_members))

-- the answer by its parts: what its line says, where it is, its explanation, the last records, the inputs and the options
abbrev pub answer_members : List ℕ → Data → Data → Data → Data → Data → Data → Data
answer_members version said location explanation last inputs options =
    object
    (member (codes "answer") said
    (member (codes "explanation") explanation
    (member (codes "form") (number (unsigned FORM))
    (member (codes "inputs") inputs
    (member (codes "last") last
    (member (codes "location") location
    (member (codes "options") options
    (member (codes "program") (program_data version) no_members))))))))

-- the answer: each part once, and each list in its order
unfoldable pub answer_data : Answer → Data
answer_data answer =
    answer_members
    answer.version.now
    (said_data answer)
    (site_or_null answer.site)
    (array (items_of (map sentence_data answer.explanation.now)))
    (array (items_of (map record_data answer.last.now)))
    (array (items_of (map input_data answer.inputs.now)))
    (options_data answer.options)

-- An answer by its parts.
use Rattle.std.proofs.Common.{◌≡◌, ℕ, List, ◌++◌, ◌∙◌, ap, codes, map}
use Rattle.serde_json.specs.Data.{Members, array, no_members, number, object, put, unsigned}
use Rattle.serde_json.specs.View.{items_of}
use Rattle.json_report.specs.Answer.{answer_data, input_data, options_data, program_data, record_data, said_data, said_members, sentence_data, sha256_digits, site_or_null, text_or_null}
use Rattle.json_report.specs.declared.answer.Answer.{Answer}
use Rattle.json_report.specs.declared.text.TheConstants.{FORM}

-- what the line says, by its digest
pub said_is : (answer : Answer) (digest : List ℕ) → digest ≡ sha256_digits (answer.line.now ++ codes "\n")
    → said_members answer digest (text_or_null answer.summary.id) (text_or_null answer.summary.cause) ≡ said_data answer
unfolding said_data
said_is answer digest digested = cc

-- the form and the program
abbrev head_members : Answer → Members
head_members answer = put (codes "form") (number (unsigned FORM)) (put (codes "program") (program_data answer.version.now) no_members)

-- what an answer says, added to these members
abbrev told_members : Answer → Members → Members
told_members answer head =
    put (codes "explanation") (array (items_of (map sentence_data answer.explanation.now))) (put (codes "location") (site_or_null answer.site) (put (codes "answer") (said_data answer) head))

-- what an answer rests on, added to these members
abbrev basis_members : Answer → Members → Members
basis_members answer told =
    put (codes "inputs") (array (items_of (map input_data answer.inputs.now))) (put (codes "options") (options_data answer.options) (put (codes "last") (array (items_of (map record_data answer.last.now))) told))

-- the answer by its parts
pub answer_is : (answer : Answer) (head told whole : Members) → head ≡ head_members answer → told ≡ told_members answer head → whole ≡ basis_members answer told
    → object whole ≡ answer_data answer
unfolding answer_data
answer_is answer head told whole heads tells rests = ap object (rests ∙ ap (basis_members answer) (tells ∙ ap (told_members answer) heads))

use Rattle.std.proofs.Common.{◌≡◌, Err, ap, ◌∙◌, arith}
use Rattle.toml.specs.Errors.{IsMemory}
use Rattle.toml.specs.View.{table_view}
use Rattle.module_config.specs.Misfits.{unexplained}
use Rattle.module_config.specs.Places.{nowhere}
use Rattle.module_config.specs.Reading.{judged, walk_of}
use Rattle.module_config.proofs.Explained.{explained_on}
use Rattle.module_config.proofs.Texts.{table_text, no_table}
use Rattle.module_config.proofs.config.Config.read_explained.Goals as goal

pub returns-in-Ok-clause-value : goal.returns-in-Ok-clause-value
returns-in-Ok-clause-value c =
    let same = table_text c.args.text.now (table_view c.in-Ok.keys) (omega arith) c.in-Ok.ensures.ok.0 c.in-Ok.ensures.ok.1 in
    rw (ap judged same) c.from_table.ensures.value

pub returns-in-Ok-clause-explained : goal.returns-in-Ok-clause-explained
returns-in-Ok-clause-explained c =
    let same = table_text c.args.text.now (table_view c.in-Ok.keys) (omega arith) c.in-Ok.ensures.ok.0 c.in-Ok.ensures.ok.1 in
    rw same c.from_table.ensures.explained

pub returns-in-Err-clause-value : goal.returns-in-Err-clause-value
returns-in-Err-clause-value c = λ other.
    let made : c.from-in-Err.result ≡ unexplained (nowhere c.text_fault.result) = c.from-in-Err.ensures ∙ ap unexplained c.nowhere-in-Err.ensures in
    let not_memory = λ (is : IsMemory c.in-Err.fault). other (ap (λ explained. explained.refusal.fault) made ∙ c.text_fault.ensures.memory.1 is) in
    let none = no_table c.args.text.now (omega arith) (c.in-Err.ensures.refused not_memory) in
    rw (made, c.text_fault.ensures.not_toml.1 not_memory) (ap judged none)

pub returns-in-Err-clause-explained : goal.returns-in-Err-clause-explained
returns-in-Err-clause-explained c =
    let made : c.from-in-Err.result ≡ unexplained (nowhere c.text_fault.result) = c.from-in-Err.ensures ∙ ap unexplained c.nowhere-in-Err.ensures in
    explained_on {A = Unit {0}} (walk_of c.args.text.now) (nowhere c.text_fault.result) (Err c.from-in-Err.result) made (λ other.
    let not_memory = λ (is : IsMemory c.in-Err.fault). other (c.text_fault.ensures.memory.1 is) in
    rw (c.text_fault.ensures.not_toml.1 not_memory) (no_table c.args.text.now (omega arith) (c.in-Err.ensures.refused not_memory)))

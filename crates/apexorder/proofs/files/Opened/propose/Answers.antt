use Rattle.std.proofs.Common.{◌∙◌, ap, sym}
use Rattle.asked_rules.specs.Reading.{said_file, without_key}
use Rattle.asked_rules.specs.Asked.{rules_given, walk_given}
use Rattle.apexorder.proofs.Ended.{memory_ended, refused_ended, search_ended}
use Rattle.apexorder.proofs.files.Opened.propose.Goals as goal

pub returns-in_default : goal.returns-in_default
returns-in_default g c = memory_ended (λ source. g.S.TextSource.remaining source) c.args.self c.args.asked.now c.args.output.now.bytes c.out_of_memory.result c.out_of_memory.ensures

pub returns-in-Err : goal.returns-in-Err
returns-in-Err g c =
    refused_ended (λ source. g.S.TextSource.remaining source) c.args.self c.args.asked.now c.args.output.now.bytes c.refused_rules.result c.in-Err.refusal
    (λ other. ap walk_given (sym c.as_deref-rules_text.ensures.value) ∙ c.in-Err.ensures other) c.refused_rules.ensures

pub returns : goal.returns
returns g c =
    search_ended (λ source. g.S.TextSource.remaining source) c.args.self c.args.asked.now c.args.output.now.bytes c.propose_ruled-ending.new.output.bytes c.propose_ruled-ending.result
    (said_file c.in-Ok-read_rules.file) c.in-Ok.options.items
    (ap rules_given (sym c.as_deref-rules_text.ensures.value) ∙ ap (λ walked. without_key walked) c.in-Ok-read_rules.ensures) c.in-Ok.ensures
    (rw c.deref-2.ensures.value at c.propose_ruled-ending.ensures.rows)
    (rw c.deref-2.ensures.value at c.propose_ruled-ending.ensures.ended)
    (rw (c.deref-2.ensures.value, c.deref-3.ensures.value) at c.propose_ruled-ending.ensures.certified)

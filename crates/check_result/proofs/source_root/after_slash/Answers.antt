use Rattle.std.proofs.Common.{lit<, sym, ◌∙◌}
use Rattle.std.proofs.lemmas.Str.Pattern.{strip_prefix_char}
use Rattle.std.specs.Prelude.{None}
use Rattle.check_result.proofs.Below.{slash-no}
use Rattle.check_result.proofs.source_root.after_slash.Goals as goal

pub returns-in-None-2 : goal.returns-in-None-2
returns-in-None-2 c =
    slash-no c.args.whole.now c.args.rest.now (strip_prefix_char 47 c.args.rest.now None c.in-None-2.ensures.cases (lit< tt)) (sym c.is_empty.ensures ∙ c.if-is_empty.false)

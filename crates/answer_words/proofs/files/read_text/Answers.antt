use Rattle.std.proofs.Common.{◌+◌}
use Rattle.apex_types.specs.declared.limits.TheConstants.{LONGEST_CONFIGURATION}
use Rattle.answer_words.proofs.Longest.{first_read, same_configuration, same_rules}
use Rattle.answer_words.proofs.files.read_text.Goals as goal

pub returns-clause-first : goal.returns-clause-first
returns-clause-first g c =
    first_read (g.R.Read.remaining c.args.reader) (LONGEST_CONFIGURATION + 1) c.new-text.result.items c.read_to_end.new.buf.items c.new-text.ensures.items
    (rw (c.take.ensures.inner, c.take.ensures.limit) at c.in_ok-read_to_end.ensures.bytes)

pub returns-clause-configures : goal.returns-clause-configures
returns-clause-configures g c =
    same_configuration (g.R.Read.remaining c.args.reader) c.read_to_end.new.buf.items (returns-clause-first g c)

pub returns-clause-rules : goal.returns-clause-rules
returns-clause-rules g c =
    same_rules (g.R.Read.remaining c.args.reader) c.read_to_end.new.buf.items (returns-clause-first g c)

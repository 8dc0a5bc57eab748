use Rattle.std.proofs.Common.{◌∙◌, drop, ap}
use Rattle.std.specs.Prelude.{option_map}
use Rattle.std.specs.Fmt.{option_append}
use Rattle.csv.specs.Reading.{source_of, strip_bom}
use Rattle.csv.specs.declared.parser.State.TheVariants as st
use Rattle.csv_rows.specs.Stream.{rows_from}
use Rattle.csv_rows.specs.Text.{rest_of}
use Rattle.csv_rows.proofs.Texts.{gap_first, gap_rows}
use Rattle.csv_rows.proofs.text.reader_of.Goals as goal

pub returns-clause-left : goal.returns-clause-left
returns-clause-left g c =
    let known = g.R.TextSource.remaining c.args.ahead.source in
    let bytes = c.args.ahead.bytes in
    let at = c.args.ahead.at in
    let gap = gap_first c.new-2.result c.set_position.new.self bytes at c.new-2.ensures.inner c.new-2.ensures.position
    (c.set_position.ensures.inner ∙ c.new-unread.ensures.inner) c.set_position.ensures.position in
    let rest = c.chain-2.ensures.bytes ∙ ap (λ first. option_append first known) (c.chain.ensures.bytes ∙ gap) in
    ap (λ state. option_map (rows_from state) (source_of (rest_of g.R.TextSource.remaining) c.from_reader.result)) c.from_reader.ensures.state
    ∙ ap (option_map (rows_from st.StartRecord)) (c.from_reader.ensures.source ∙ ap (option_map strip_bom) rest)
    ∙ gap_rows (drop at bytes.items) known

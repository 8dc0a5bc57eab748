use Rattle.std.proofs.Common.{◌∙◌, length, sym, ap}
use Rattle.std.specs.Prelude.{◌==◌}
use Rattle.csv_rows.specs.Text.{rows_left, unread_of}
use Rattle.csv_rows.proofs.Texts.{nothing_takes, rest_takes}
use Rattle.csv_rows.proofs.ahead.Ahead.take_last.Goals as goal

pub returns-then-is_empty-clause-takes : goal.returns-then-is_empty-clause-takes
returns-then-is_empty-clause-takes g c =
    nothing_takes _ (g.R.TextSource.remaining c.args.self.now.source) c.args.fields.now (rows_left (unread_of g.R.TextSource.remaining c.args.self.now))
    (ap (λ text. length text == 0) (sym c.unread.ensures) ∙ sym c.is_empty.ensures ∙ c.if-is_empty.true) c.requires.last.1

pub returns-clause-takes : goal.returns-clause-takes
returns-clause-takes g c =
    rest_takes c.args.self.now.bytes.items c.args.self.now.at c.len-self.result (g.R.TextSource.remaining c.args.self.now.source) c.args.fields.now
    c.requires.last.0 (ap (λ text. length text == 0) (sym c.unread.ensures) ∙ sym c.is_empty.ensures ∙ c.if-is_empty.false) c.requires.last.1
    (c.len-self.ensures ∙ c.args.self.now.bytes.ok.0) c.requires.fields

use Rattle.csv_rows.proofs.Texts.{first_takes}
use Rattle.csv_rows.proofs.ahead.Ahead.take_first.Goals as goal

pub returns-clause-takes : goal.returns-clause-takes
returns-clause-takes g c =
    first_takes c.args.self.now.bytes.items c.args.self.now.at c.args.line.length c.args.line.taken (g.R.TextSource.remaining c.args.self.now.source)
    c.args.fields.now c.requires.line c.requires.filled c.requires.fields

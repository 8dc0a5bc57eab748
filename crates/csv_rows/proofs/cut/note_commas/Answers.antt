use Rattle.csv_rows.proofs.Seen.{seen_none}
use Rattle.csv_rows.proofs.cut.note_commas.Goals as goal

pub runs-init : goal.runs-init
runs-init c = seen_none c.args.text.now c.args.ends.now.items c.requires

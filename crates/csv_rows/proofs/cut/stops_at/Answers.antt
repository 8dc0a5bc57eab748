use Rattle.std.proofs.Common.{◌≡◌, ◌∙◌, get_or, sym, refl, ap}
use Rattle.std.proofs.lemmas.Bool.{ne_eqb}
use Rattle.csv_rows.specs.Line.{is_special}
use Rattle.csv_rows.proofs.Seen.{looked_at, seen_comma}
use Rattle.csv_rows.proofs.cut.stops_at.Goals as goal

pub returns-then-byte-eq44 : goal.returns-then-byte-eq44
returns-then-byte-eq44 c =
    seen_comma c.args.text.now c.args.ends.now.items _ c.args.place c.in_ok-push.ensures.items c.requires.within c.if-byte-eq44.true c.requires.seen

pub returns : goal.returns
returns c =
    looked_at c.args.text.now c.args.ends.now.items c.args.place c.requires.within (ne_eqb _ _ c.if-byte-eq44.false) c.requires.seen _ (sym c.is_special.ensures)

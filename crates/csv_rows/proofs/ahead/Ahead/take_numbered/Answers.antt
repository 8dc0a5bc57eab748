use Rattle.std.proofs.Common.{◌+◌, drop}
use Rattle.std.specs.Prelude.{option_map}
use Rattle.std.specs.Io.KnownBytes.{prepend_known}
use Rattle.csv.specs.Reading.{strip_bom}
use Rattle.csv_rows.specs.Numbered.{IsNumbered}
use Rattle.csv_rows.proofs.Numbers.{begun_taken}
use Rattle.csv_rows.proofs.ahead.Ahead.take_numbered.Goals as goal

pub returns-clause-takes : goal.returns-clause-takes
returns-clause-takes g c =
    let old = c.args.self.now in
    let taken = c.in-Some.taken in
    let known = g.R.TextSource.remaining old.source in
    let before = option_map strip_bom (prepend_known (drop old.at old.bytes.items) known) in
    let after = option_map strip_bom (prepend_known (drop (old.at + taken) old.bytes.items) known) in
    λ found. begun_taken (IsNumbered c.args.number c.args.line.now) old.is_begun c.unread.result.now old.bytes.items old.at taken known before after c.if-not-self.false c.unread.ensures
    c.in-Some.ensures

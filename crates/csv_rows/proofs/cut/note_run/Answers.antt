use Rattle.std.proofs.Common.{◌≡◌, ◌≤◌, ◌+◌, subst, arith}
use Rattle.csv_rows.specs.Pieces.{IsSeen}
use Rattle.csv_rows.proofs.Masks.{commas_after, plain_places}
use Rattle.csv_rows.proofs.Seen.{seen_comma, seen_stops, seen_to_end, seen_to_mark}
use Rattle.csv_rows.proofs.cut.note_run.Goals as goal

pub marks-preserved : goal.marks-preserved
marks-preserved c =
    let held = c.marks.invariant in
    let text = c.args.text.now in
    let front = c.plain_count-plain.ensures in
    let stop = c.args.at + c.plain_count-plain.result in
    let first = c.lowest-passed.result in
    let found = c.lowest-passed.ensures in
    let comma = (held.commas first).0 found.set in
    let within : stop ≤ c.args.at + 32 = omega (arith, front.most) in
    let seen = seen_to_mark text c.marks.ends.items c.args.at c.marks.place stop c.marks.left first (omega (arith, within, c.requires.room))
    (plain_places text c.args.at c.plain_count-plain.result front.plain) held.low held.commas found.set found.below held.seen in
    record {
      low = omega (arith, held.low);
      within = omega (arith, comma.0);
      seen = seen_comma text c.marks.ends.items c.push_reserved.new.self.items (c.marks.place + first) c.push_reserved.ensures.items
          (omega (arith, comma.0, within, c.requires.room)) comma.1 seen;
      commas = commas_after text c.marks.place stop c.marks.left first c.shifted_down-left.result held.commas c.shifted_down-left.ensures;
      room = omega (arith, held.room, c.push_reserved.ensures.len, c.push_reserved.ensures.capacity);
    }

pub returns-then-plain-lt-RUN-clause-seen : goal.returns-then-plain-lt-RUN-clause-seen
returns-then-plain-lt-RUN-clause-seen c =
    let held = c.marks.invariant in
    let text = c.args.text.now in
    let front = c.plain_count-plain.ensures in
    seen_to_end text c.marks.ends.items c.args.at c.marks.place (c.args.at + c.plain_count-plain.result) c.marks.left held.within
    (omega (arith, front.most, c.requires.room)) (plain_places text c.args.at c.plain_count-plain.result front.plain) held.low held.commas c.marks-test.false held.seen

pub returns-then-plain-lt-RUN-clause-stops : goal.returns-then-plain-lt-RUN-clause-stops
returns-then-plain-lt-RUN-clause-stops c =
    seen_stops c.args.text.now c.marks.ends.items (c.args.at + c.plain_count-plain.result) (c.plain_count-plain.ensures.special c.if-plain-lt-RUN.true)
    (returns-then-plain-lt-RUN-clause-seen c)

pub returns-clause-passed : goal.returns-clause-passed
returns-clause-passed c =
    let held = c.marks.invariant in
    let text = c.args.text.now in
    let front = c.plain_count-plain.ensures in
    let all : c.args.at + c.plain_count-plain.result ≡ c.args.at + 32 = omega (arith, front.most, c.if-plain-lt-RUN.false) in
    λ none. subst (IsSeen text c.marks.ends.items) all
    (seen_to_end text c.marks.ends.items c.args.at c.marks.place (c.args.at + c.plain_count-plain.result) c.marks.left held.within
    (omega (arith, front.most, c.requires.room)) (plain_places text c.args.at c.plain_count-plain.result front.plain) held.low held.commas c.marks-test.false held.seen)

use Rattle.std.proofs.Common.{◌≡◌, ◌≤◌, ◌<◌, ◌∙◌, Bool, length, get_or, sym, ap, arith}
use Rattle.std.specs.Prelude.{if◌then◌else◌}
use Rattle.std.proofs.lemmas.List.{get_or_read}
use Rattle.csv.specs.Records.{field_at, fields_of}
use Rattle.csv_rows.specs.Pieces.{pieces_from, start_at}
use Rattle.csv_rows.proofs.Pieces.{piece_at, piece_past, piece_within}
use Rattle.csv_rows.proofs.fields.RowFields.get.Goals as goal

pub returns-then-place-len : goal.returns-then-place-len
returns-then-place-len c =
    let ends = c.self.inside.ends.items in
    let line = c.self.inside.line.items in
    let size = c.len.ensures ∙ c.self.inside.ends.ok.0 in
    let fields : pieces_from 0 ends line ≡ c.args.self.now =
    ap (λ (other : Bool). if other then fields_of c.self.inside.other else pieces_from 0 ends line) (sym c.if-self.false) ∙ c.self.view_is in
    sym (piece_past 0 ends line c.args.place (omega (arith, size, c.if-place-len.true))) ∙ ap (λ all. field_at all c.args.place) fields

pub slice_bounds-result-count : goal.slice_bounds-result-count
slice_bounds-result-count c =
    let ends = c.self.inside.ends.items in
    let size = c.len.ensures ∙ c.self.inside.ends.ok.0 in
    let within : c.args.place < length ends = omega (arith, size, c.if-place-len.false) in
    let end : c.index.result.now ≡ get_or ends c.args.place 0 = get_or_read ends c.args.place c.index.result.now within c.index.ensures 0 in
    omega (arith, end, c.start_of-start.ensures, (piece_within 0 ends (length c.self.inside.line.items) c.args.place c.self.invariant within).0)

pub slice_bounds-result-start : goal.slice_bounds-result-start
slice_bounds-result-start c =
    let ends = c.self.inside.ends.items in
    let size = c.len.ensures ∙ c.self.inside.ends.ok.0 in
    let within : c.args.place < length ends = omega (arith, size, c.if-place-len.false) in
    let end : c.index.result.now ≡ get_or ends c.args.place 0 = get_or_read ends c.args.place c.index.result.now within c.index.ensures 0 in
    let bounds = piece_within 0 ends (length c.self.inside.line.items) c.args.place c.self.invariant within in
    omega (arith, end, c.start_of-start.ensures, bounds.0, bounds.1, ap length c.as_slice-line.ensures.value)

pub slice_bounds-result-end : goal.slice_bounds-result-end
slice_bounds-result-end c =
    let ends = c.self.inside.ends.items in
    let size = c.len.ensures ∙ c.self.inside.ends.ok.0 in
    let within : c.args.place < length ends = omega (arith, size, c.if-place-len.false) in
    let end : c.index.result.now ≡ get_or ends c.args.place 0 = get_or_read ends c.args.place c.index.result.now within c.index.ensures 0 in
    let bounds = piece_within 0 ends (length c.self.inside.line.items) c.args.place c.self.invariant within in
    omega (arith, end, c.start_of-start.ensures, bounds.0, bounds.1, ap length c.as_slice-line.ensures.value)

pub returns : goal.returns
returns c =
    let ends = c.self.inside.ends.items in
    let line = c.self.inside.line.items in
    let size = c.len.ensures ∙ c.self.inside.ends.ok.0 in
    let within : c.args.place < length ends = omega (arith, size, c.if-place-len.false) in
    let end : c.index.result.now ≡ get_or ends c.args.place 0 = get_or_read ends c.args.place c.index.result.now within c.index.ensures 0 in
    let fields : pieces_from 0 ends line ≡ c.args.self.now =
    ap (λ (other : Bool). if other then fields_of c.self.inside.other else pieces_from 0 ends line) (sym c.if-self.false) ∙ c.self.view_is in
    rw (c.as_slice-line.ensures.value, c.start_of-start.ensures, end) (sym (piece_at 0 ends line c.args.place within) ∙ ap (λ all. field_at all c.args.place) fields)

use Rattle.std.proofs.Common.{◌≡◌, ◌≤◌, ◌++◌, ◌-◌, ◌∙◌, List, ap, sym, drop, length, map, take, arith}
use Rattle.std.proofs.lemmas.List.{append-nil, length-drop, take_all}
use Rattle.apex_types.specs.declared.record.Ordered.{Ordered}
use Rattle.circular_buffer.specs.Buffer.{buffer, keep_last}
use Rattle.report.specs.Last.{item_of, most_last}
use Rattle.report.proofs.LastOnes.{all_kept, late_enough}
use Rattle.report.proofs.last.Last.keep.Goals as goal

pub late-init : goal.late-init
late-init c =
    let items = c.self.inside.items.items in
    let same = ap (keep_last most_last) (append-nil c.args.self.now ∙ sym c.self.view_is) ∙ all_kept most_last items c.self.invariant.1 in
    sym (ap (λ list. buffer list most_last) same ∙ ap (buffer items) (sym c.self.invariant.0))

pub returns : goal.returns
returns c =
    let records : List Ordered = c.args.records.now in
    let from = c.saturating_sub.result in
    let late : List Ordered = take (length records - from) (drop from records) in
    let all : take c.late.ordered-index late ≡ late = take_all c.late.ordered-index late c.late-test.false in
    let rest : late ≡ drop from records = take_all (length records - from) (drop from records) (let e : length (drop from records) ≤ length records - from = omega (arith, length-drop from records) in e) in
    ap (λ ring. ring.items) c.late.invariant ∙ ap (λ list. keep_last most_last (c.args.self.now ++ map item_of list)) (all ∙ rest ∙ ap (λ k. drop k records) c.saturating_sub.ensures)
    ∙ late_enough most_last c.args.self.now records

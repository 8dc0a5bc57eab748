use Rattle.std.proofs.Common.{◌<◌, ◌≤◌, ◌+◌, ◌∙◌, ◌++◌, ◌∷◌, [], length, drop, get_or, ap, arith, rules, sym}
use Rattle.std.proofs.lemmas.List.{append-nil, append_assoc}
use Rattle.std.proofs.lemmas.Int.{to_z-of_z}
use mir.Syntax.{w64}
use mir.Val.{SFits}
use Rattle.user_rules.specs.Memories.{value_at, values_at}
use Rattle.user_rules.proofs.Keeping.{values_end, values_more, values_whole}
use Rattle.user_rules.proofs.recollection.read_all.Goals as goal

pub returns-then-number-tracks : goal.returns-then-number-tracks
returns-then-number-tracks c =
    let past : length c.args.tracks.now ≤ c.loop-number.number = omega arith in
    let none = values_end c.args.memories.now c.args.view.now c.args.tracks.now c.loop-number.number past in
    sym (append-nil c.loop-number.values.items) ∙ ap (λ rest. c.loop-number.values.items ++ rest) (sym none) ∙ c.loop-number.invariant.0

pub loop-number-preserved : goal.loop-number-preserved
loop-number-preserved c =
    let memories = c.args.memories.now in
    let kept = c.args.tracks.now in
    let view = c.args.view.now in
    let number = c.loop-number.number in
    let values = c.loop-number.values.items in
    let rest = values_at (drop (number + 1) memories) (drop (number + 1) kept) view in
    let memory = c.index-memories-number.result in
    let track = c.index-tracks-number.result in
    let there : number < length kept = omega arith in
    let more = values_more memories view kept number memory track c.loop-number-test.true there in
    let one = c.value.ensures ∙ ap (λ one. value_at one track view) c.index-memories-number.is
    ∙ ap (λ cells. value_at (get_or memories number memory) cells view) c.index-tracks-number.is in
    let fits : SFits w64 c.value.result = search rules in
    let pushed = simp to_z-of_z at c.push_reserved.ensures.items in (
      ap (λ list. list ++ rest) pushed ∙ append_assoc values (c.value.result ∷ []) rest
          ∙ ap (λ list. values ++ list) (ap (λ value. value ∷ rest) one ∙ sym more) ∙ c.loop-number.invariant.0,
      omega (arith, c.loop-number.invariant.1, c.push_reserved.ensures.len, c.push_reserved.ensures.capacity),
    )

pub returns : goal.returns
returns c =
    let none = values_whole c.args.memories.now c.args.view.now c.args.tracks.now c.loop-number.number c.loop-number-test.false in
    sym (append-nil c.loop-number.values.items) ∙ ap (λ rest. c.loop-number.values.items ++ rest) (sym none) ∙ c.loop-number.invariant.0

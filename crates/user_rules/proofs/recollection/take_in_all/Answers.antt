use Rattle.std.proofs.Common.{◌∙◌, get_or, ap, arith, sym}
use Rattle.user_rules.specs.Meets.{with_values}
use Rattle.user_rules.specs.Memories.{cells_after, holder_of}
use Rattle.user_rules.proofs.Keeping.{kept_end, kept_more, kept_whole}
use Rattle.user_rules.proofs.recollection.take_in_all.Goals as goal

pub returns-then-number-len : goal.returns-then-number-len
returns-then-number-len c =
    let valued = with_values c.args.view.now c.args.values.now in
    sym (kept_end c.args.memories.now valued c.loop-number.tracks.items c.loop-number.number
    (omega (arith, c.if-number-len.true, c.len.ensures, c.loop-number.tracks.ok))) ∙ c.loop-number.invariant

pub loop-number-preserved : goal.loop-number-preserved
loop-number-preserved c =
    let memories = c.args.memories.now in
    let view = c.args.view.now in
    let valued = with_values view c.args.values.now in
    let number = c.loop-number.number in
    let kept = c.loop-number.tracks.items in
    let memory = c.index-memories-number.result in
    let cells = c.index_mut.result.now in
    let is = c.in_ok-take_in.ensures
    ∙ ap (λ one. cells_after one.keeps cells (holder_of one.per view) valued) c.index-memories-number.is
    ∙ ap (λ cells. cells_after (get_or memories number memory).keeps cells (holder_of (get_or memories number memory).per view) valued) c.index_mut.ensures.value in
    kept_more memories valued kept number memory cells c.take_in.new.self c.loop-number-test.true
    (omega (arith, c.if-number-len.false, c.len.ensures, c.loop-number.tracks.ok)) is ∙ c.loop-number.invariant

pub returns : goal.returns
returns c =
    let valued = with_values c.args.view.now c.args.values.now in
    sym (kept_whole c.args.memories.now valued c.loop-number.tracks.items c.loop-number.number c.loop-number-test.false) ∙ c.loop-number.invariant

use Rattle.std.proofs.Common.{◌≡◌, ◌+◌, ◌∙◌, ◌++◌, ◌∷◌, [], suc, take, ap, arith, rules, sym}
use Rattle.user_rules.specs.Memories.{nothing}
use Rattle.user_rules.proofs.Keeping.{nothing_more}
use Rattle.user_rules.proofs.recollection.Recollection.start.Goals as goal

pub loop-memory-preserved : goal.loop-memory-preserved
loop-memory-preserved c =
    let memories = c.args.memories.now in
    let index = c.loop-memory.memory-index in
    let pushed : c.push.new.self.items ≡ c.loop-memory.tracks.items ++ [] ∷ [] = search rules in
    let next : suc index ≡ index + 1 = omega arith in
    pushed ∙ ap (λ list. list ++ [] ∷ []) c.loop-memory.invariant ∙ sym (nothing_more memories index c.loop-memory-test.true)
    ∙ ap (λ count. nothing (take count memories)) next

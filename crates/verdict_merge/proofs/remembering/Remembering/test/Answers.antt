use Rattle.std.proofs.Common.{◌∷◌, [], IfOk, subst}
use Rattle.user_rules.specs.FirstBroken.{IsFirstBroken}
use Rattle.user_rules.specs.Rules.{requirements_of}
use Rattle.verdict_merge.specs.Views.{broken_of}
use Rattle.verdict_merge.proofs.remembering.Remembering.test.Goals as goal

pub returns-clause-broken : goal.returns-clause-broken
returns-clause-broken g c =
    let first = rw c.from_ref.ensures.value at c.first_breach.ensures.broken in
    subst (λ kept. IfOk c.first_breach.result (λ breach. IsFirstBroken (requirements_of c.args.memories.now kept c.args.rules.now) (c.args.view.now ∷ []) (broken_of breach)))
    c.self.view_is first

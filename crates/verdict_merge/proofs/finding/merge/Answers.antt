use Rattle.std.proofs.Common.{◌≡◌, ◌++◌, ◌∷◌, [], ◌∙◌, ap, sym, subst, take, Some, ◌+◌}
use Rattle.std.proofs.lemmas.List.{take_more}
use Rattle.verdict_merge.specs.Findings.{ComesBefore, IsLeast}
use Rattle.verdict_merge.proofs.Least.{comes_not_before_itself, comes_through, least_more}
use Rattle.verdict_merge.proofs.finding.merge.Goals as goal

pub loop-finding-preserved : goal.loop-finding-preserved
loop-finding-preserved c =
    let items = c.args.findings.now in
    let index = c.loop-finding.finding-index in
    let item = c.finding-item.result in
    let grown : take (index + 1) items ≡ take index items ++ item ∷ [] =
    take_more items index item c.loop-finding-test.true ∙ ap (λ x. take index items ++ x ∷ []) (sym c.finding-item.is) in
    subst (λ l. IsLeast ComesBefore l (Some c.first_of.result)) (sym grown)
    (least_more ComesBefore comes_not_before_itself comes_through (take index items) c.loop-finding.first item c.first_of.result c.loop-finding.invariant c.first_of.ensures)

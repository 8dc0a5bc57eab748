use Rattle.std.proofs.Common.{◌≡◌, ◌∙◌, [], ◌∷◌, ◌++◌, ap, append_assoc, sym}
use Rattle.rows_check.proofs.Progress.{IsFoundKnown, zip_longer}
use Rattle.rows_check.proofs.found.find_in_each.Goals as goal

pub loop-source-preserved : goal.loop-source-preserved
loop-source-preserved g c =
    let before = c.loop-source.invariant in
    let yielded = c.loop-source.yielded in
    let rest = c.next.new.self.rest.items in
    let step : c.loop-source.source-iterator.rest.items ≡ c.in-Some.source ∷ rest = c.in-Some.ensures.steps.0 in
    record {
      given = append_assoc yielded (c.in-Some.source ∷ []) rest ∙ ap (λ list. yielded ++ list) (sym step) ∙ before.given;
      found = rw c.in_ok-push.ensures.items
          (zip_longer (λ source one. IsFoundKnown g.R.TextSource.can_fail (g.R.TextSource.remaining source) one) yielded c.loop-source.found.items c.in-Some.source c.in_ok-find_in.field-0
          before.found c.in_ok-find_in.ensures);
    }

use Rattle.std.proofs.Common.{◌≡◌, ◌∙◌, ap, rules}
use Rattle.rayon.proofs.ToStd.{first_true-position, slice-AllZip}
use Rattle.user_rules.specs.Meets.{alone}
use Rattle.user_rules.specs.Rules.{relations_of}
use Rattle.user_rules.specs.Search.{breaks_one}
use Rattle.user_rules.proofs.FirstBroken.{view_found}
use Rattle.user_rules.proofs.broken.first_view.Goals as goal

pub returns : goal.returns
returns g c =
    let relations = relations_of c.args.rules.now in
    let views = c.args.views.now in
    let looked = c.position_first.ensures in
    let slice = ap (λ iterator. iterator.slice.now) c.with_min_len.ensures.base ∙ c.par_iter.ensures in
    let answers = slice-AllZip looked.0 views (looked.2 ∙ slice) (λ view answer. answer ≡ breaks_one relations (alone view)) looked.1 looked.3 in
    view_found relations views c.position_first.result
    (looked.4 ∙ first_true-position (λ view. breaks_one relations (alone view)) views looked.1 answers (search rules))

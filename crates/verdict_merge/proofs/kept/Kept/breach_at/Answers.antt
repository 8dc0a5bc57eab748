use Rattle.std.proofs.Common.{arith, map, subst, sym}
use Rattle.user_rules.specs.FirstBroken.{IsFirstAmong}
use Rattle.user_rules.specs.Meets.{alone}
use Rattle.user_rules.specs.Rules.{relations_of}
use Rattle.verdict_merge.specs.Keeping.{seen_in}
use Rattle.verdict_merge.specs.Views.{IsFirstBreach}
use Rattle.verdict_merge.proofs.Keeping.{broken_within, first_kept, none_kept}
use Rattle.verdict_merge.proofs.kept.Kept.breach_at.Goals as goal

pub index-index-requires : goal.index-index-requires
index-index-requires g c =
    let kept = c.args.self.now in
    let first = subst (IsFirstAmong (relations_of c.args.rules.now) (map alone kept.views.items)) c.in_ok-broken.was c.requires.first in
    let within = broken_within (relations_of c.args.rules.now) kept.views.items c.in_ok-broken.broken first in
    omega (arith, within, kept.even, kept.indices.ok)

pub index-view-requires : goal.index-view-requires
index-view-requires g c =
    let kept = c.args.self.now in
    let first = subst (IsFirstAmong (relations_of c.args.rules.now) (map alone kept.views.items)) c.in_ok-broken.was c.requires.first in
    let within = broken_within (relations_of c.args.rules.now) kept.views.items c.in_ok-broken.broken first in
    omega (arith, within, kept.views.ok)

pub returns-in_err-broken : goal.returns-in_err-broken
returns-in_err-broken g c =
    let relations = relations_of c.args.rules.now in
    let kept = c.args.self.now in
    let none = subst (IsFirstAmong relations (map alone kept.views.items)) c.in_err-broken.was c.requires.first in
    subst (IsFirstBreach relations (seen_in kept.indices.items kept.views.items)) (sym c.from_residual.ensures) (none_kept relations kept.indices.items kept.views.items none)

pub returns : goal.returns
returns g c =
    let relations = relations_of c.args.rules.now in
    let kept = c.args.self.now in
    let broken = c.in_ok-broken.broken in
    let first = subst (IsFirstAmong relations (map alone kept.views.items)) c.in_ok-broken.was c.requires.first in
    first_kept relations kept.indices.items kept.views.items broken c.index-index.result.now c.index-view.result.now kept.even c.requires.rising first
    c.index-index.ensures c.index-view.ensures

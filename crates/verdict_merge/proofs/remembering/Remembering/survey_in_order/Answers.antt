use Rattle.std.proofs.Common.{◌≤◌, length, take, true, ap, arith, subst, sym}
use Rattle.std.proofs.lemmas.List.{length-take-le}
use Rattle.user_rules.specs.Rules.{requirements_of}
use Rattle.verdict_merge.specs.declared.survey.Survey.{Survey}
use Rattle.verdict_merge.specs.Memories.{IsSurveyedUnder}
use Rattle.verdict_merge.specs.Rounds.{AreJudgedOver, parts_in}
use Rattle.verdict_merge.specs.Views.{AreViews, count_before, up_to}
use Rattle.verdict_merge.proofs.Surveying.{refused_inside, surveyed_in_order, views_there}
use Rattle.verdict_merge.proofs.remembering.Remembering.survey_in_order.Goals as goal

pub records_before-tested-requires : goal.records_before-tested-requires
records_before-tested-requires g c =
    let lent = c.args.lent.now in
    let old = c.requires.outcome.1 in
    let survey = c.in_ok-gathered.gathered in
    let surveyed = c.in_ok-gathered.ensures c.requires.outcome.0 old c.requires.outcome.2 c.requires.outcome.3 in
    refused_inside lent.config.now old survey.pieces.items lent.records.now lent.first survey.found c.requires.placed surveyed.outcome

pub slice_bounds-first_breach-end : goal.slice_bounds-first_breach-end
slice_bounds-first_breach-end g c =
    let lent = c.args.lent.now in
    let relations = c.requires.outcome.0 in
    let old = c.requires.outcome.1 in
    let going = c.requires.outcome.2 in
    let survey = c.in_ok-gathered.gathered in
    let surveyed = c.in_ok-gathered.ensures relations old going c.requires.outcome.3 in
    let keeping = subst (λ keeps. AreJudgedOver lent.config.now lent.first lent.records.now relations keeps old c.args.judged.items) c.requires.keeps c.requires.outcome.3 in
    let over = subst (AreJudgedOver lent.config.now lent.first lent.records.now relations true old) (sym c.deref.ensures.value) keeping in
    let viewed = c.order_views.ensures relations old survey.pieces.items survey.found going over surveyed.outcome in
    let within : count_before lent.first lent.records.now survey.found ≤ length c.order_views.new.views.items =
    views_there lent.config.now old survey.pieces.items lent.first lent.records.now survey.found c.order_views.new.views.items c.requires.placed surveyed.outcome viewed in
    let inside : c.records_before-tested.result ≤ length c.deref-2.result.now = omega (arith, within, c.records_before-tested.ensures, ap length c.deref-2.ensures.value) in
    omega (arith, inside, length-take-le c.records_before-tested.result c.deref-2.result.now inside)

pub returns : goal.returns
returns g c = λ relations old going judged.
    let lent = c.args.lent.now in
    let survey = c.in_ok-gathered.gathered in
    let breach = c.in_ok-breach.breach in
    let kept = c.first_breach.new.recollection in
    let there : Survey = record { found = survey.found; breach = breach; pieces = survey.pieces } in
    let surveyed = c.in_ok-gathered.ensures relations old going judged in
    let keeping = subst (λ keeps. AreJudgedOver lent.config.now lent.first lent.records.now relations keeps old c.args.judged.items) c.requires.keeps judged in
    let over = subst (AreJudgedOver lent.config.now lent.first lent.records.now relations true old) (sym c.deref.ensures.value) keeping in
    let before = subst (λ count. AreViews lent.config.now (parts_in old) (up_to survey.found lent.records.now) (take count c.order_views.new.views.items))
    (sym c.records_before-tested.ensures) (c.order_views.ensures relations old survey.pieces.items survey.found going over surveyed.outcome) in
    let viewed = subst (λ list. AreViews lent.config.now (parts_in old) (up_to survey.found lent.records.now) (take c.records_before-tested.result list)) (sym c.deref-2.ensures.value) before in
    subst (λ before. IsSurveyedUnder lent.config.now lent.first lent.records.now (requirements_of c.args.memories.now before c.args.rules.now) old there kept) c.self.view_is
    (surveyed_in_order lent.config.now lent.first lent.records.now (requirements_of c.args.memories.now c.self.inside.recollection c.args.rules.now) relations old survey breach
    (take c.records_before-tested.result c.deref-2.result.now) kept surveyed viewed c.in_ok-breach.ensures.broken c.in_ok-breach.ensures.reported c.in_ok-breach.ensures.kept)

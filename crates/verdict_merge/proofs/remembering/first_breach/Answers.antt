use Rattle.std.proofs.Common.{rules}
use Rattle.std.proofs.lemmas.Option.{slice_get-get_or}
use Rattle.user_rules.specs.Rules.{requirements_of}
use Rattle.verdict_merge.proofs.Surveying.{broken_inside}
use Rattle.verdict_merge.proofs.remembering.first_breach.Goals as goal

pub bounds-views-broken : goal.bounds-views-broken
bounds-views-broken g c =
    let first = rw c.in-Ok-Some.field-0-is at c.in-Ok-Some.ensures.broken in
    broken_inside (requirements_of c.args.memories.now c.args.recollection.now c.args.rules.now) c.args.views.now c.in-Ok-Some.broken first

pub offset_bounds-views-broken : goal.offset_bounds-views-broken
offset_bounds-views-broken g c = let within = bounds-views-broken g c in search rules

pub returns-in-Ok-Some-clause-reported : goal.returns-in-Ok-Some-clause-reported
returns-in-Ok-Some-clause-reported g c =
    let first = rw c.in-Ok-Some.field-0-is at c.in-Ok-Some.ensures.broken in
    let within = broken_inside (requirements_of c.args.memories.now c.args.recollection.now c.args.rules.now) c.args.views.now c.in-Ok-Some.broken first in
    slice_get-get_or c.args.views.now c.in-Ok-Some.broken.view _ within

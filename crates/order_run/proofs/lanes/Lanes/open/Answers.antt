use Rattle.std.proofs.Common.{◌∙◌, ap, map, map-id, sym, arith}
use Rattle.std.specs.Option.{option_map}
use Rattle.std.proofs.lemmas.Iterator.Adapters.{YieldsList-from_vec}
use Rattle.std.proofs.lemmas.Iterator.Consumers.{YieldsList-end}
use Rattle.record_read.specs.Row.{records_of}
use Rattle.order_run.proofs.lanes.Lanes.open.Goals as goal

pub returns : goal.returns
returns g c =
    let from = c.into_iter-source-iterator.ensures.into_iter_gives in
    let listed = YieldsList-from_vec c.args.sources.items from.0 (omega (arith, from.1, c.args.sources.ok)) in
    let end = YieldsList-end listed c.loop-source.yielded c.loop-source.source-iterator c.loop-source.yielded_by c.next.result c.next.new.self c.in-None.is c.next.ensures.steps in
    c.loop-source.invariant ∙ ap (map (λ source. option_map records_of (g.R.TextSource.remaining source))) (sym (map-id c.loop-source.yielded) ∙ end.0)

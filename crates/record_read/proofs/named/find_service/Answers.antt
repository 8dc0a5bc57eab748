use Rattle.std.proofs.Common.{◌∙◌}
use Rattle.record_read.specs.Named.{service_among, service_named}
use Rattle.record_read.proofs.Lengths.{not_earlier}
use Rattle.record_read.proofs.named.find_service.Goals as goal

pub returns : goal.returns
unfolding service_among service_named
returns c = c.service_from.ensures ∙ not_earlier (λ name. name.now) _ c.first_of_length.result c.args.text.now c.first_of_length.ensures.earlier

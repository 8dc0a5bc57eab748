use Rattle.std.proofs.Common.{rules, take, tests, sym, ◌∙◌}
use Rattle.std.proofs.lemmas.Iterator.{YieldsList-from_take}
use Rattle.std.proofs.lemmas.Iterator.Consumers.{YieldsList-from_rest}
use Rattle.std.proofs.lemmas.Iterator.Search.{any_from_yields_List}
use Rattle.std.specs.Map.{values_of}
use Rattle.wait_set.specs.Kept.{is_rank}
use Rattle.wait_set.proofs.FirstRanks.{first_ranks_of, unranked_unnamed}
use Rattle.wait_set.proofs.Leaving.{rank_swap}
use Rattle.wait_set.proofs.Maps.{any-same}
use Rattle.wait_set.proofs.set.WaitSet.has_among_first.Goals as goal

pub returns-in_default : goal.returns-in_default
returns-in_default c =
    unranked_unnamed c.args.self.now.discipline c.args.count c.args.who c.args.self.now.entries c.rank_of.result c.rank_of.ensures c.in_default.not-Some

pub returns : goal.returns
returns c =
    rw (← c.self.view_is)
    (any_from_yields_List (λ other. is_rank other c.in-Some.rank) _ _ _ c.any.ensures.ran
    (YieldsList-from_take c.args.count (YieldsList-from_rest _ (c.take.ensures.source ∙ c.iter.ensures.rest)) c.take.ensures.count) (λ x b q k. search (rules, tests))
    ∙ any-same (λ other. is_rank other c.in-Some.rank) (is_rank c.in-Some.rank) (λ other. rank_swap other c.in-Some.rank) (take c.args.count c.self.inside.ranks.keys)
    ∙ first_ranks_of c.self.inside.discipline c.args.count c.self.inside.ranks.keys (values_of c.self.inside.entries.entries) c.iter.ensures.ordered c.self.invariant.ranked
    c.self.invariant.rising c.self.invariant.once c.args.who c.in-Some.rank (sym (rw (← c.self.view_is) at c.rank_of.ensures) ∙ c.in-Some.is))

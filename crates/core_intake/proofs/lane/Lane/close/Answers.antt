use Rattle.std.proofs.Common.{rules, ◌≡◌, ◌++◌, option_map, sym, ap, ◌∙◌}
use Rattle.crossbeam_channel.specs.Claims.{view}
use Rattle.record_read.specs.Row.{records_of}
use Rattle.core_intake.proofs.Relays.{merges}
use Rattle.core_intake.proofs.Chains.{given_answers}
use Rattle.core_intake.proofs.lane.Lane.close.Goals as goal

pub absorb-requires-clause-rule : goal.absorb-requires-clause-rule
absorb-requires-clause-rule g c = merges _ _ _ _ (search rules) (search rules)

pub returns : goal.returns
returns g c =
    let both = c.absorb.ensures.rule in
    let held = c.learn_as.ensures.rule.0 in
    let sent : (view c.join-sender.result.side).sent ≡ (view c.self.inside.side).received ++ held =
    sym (ap (λ pass. pass.sent) both) ∙ c.learn_as.ensures.rule.1 ∙ ap (λ pass. pass.received ++ held) both in
    let left = option_map records_of (g.R.TextSource.remaining c.self.inside.reader.promise.reader.value) in
    record {
      honest = rw (← c.self.view_is) (given_answers g.R.TextSource.can_fail left (view c.join-sender.result.side).sent (view c.self.inside.side).received held c.self.inside.hand sent c.self.invariant.3 c.join-sender.ensures.2);
    }

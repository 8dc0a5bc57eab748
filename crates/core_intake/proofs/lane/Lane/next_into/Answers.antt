use Rattle.std.proofs.Common.{◌≡◌, rules, ap, option_map, refl, sym, true, Ok, None, true≢false, ◌∙◌}
use Rattle.record_read.specs.Row.{records_of}
use Rattle.core_intake.specs.Answered.{Answered, answered, has_ended}
use Rattle.core_intake.proofs.Chains.{ends_on, put_last, splits_on, takes_first, takes_one}
use Rattle.core_intake.proofs.lane.Lane.next_into.Goals as goal

pub invariant_of-self : goal.invariant_of-self
invariant_of-self g c =
    let put = c.next_into-put.ensures.puts in
    let taken = takes_first _ _ _ _ _ (c.receive.ensures.kept _ c.self.invariant.3) put.1 in (
      c.self.invariant.0,
      c.receive.ensures.seat,
      search rules,
      splits_on _ _ _ _ taken,
      ends_on _ _ _ _ _ _ taken c.self.invariant.4 c.if-self.false (c.ends_with-self-inside.ensures ∙ put_last _ _ put.0 _ _ _ put.2),
    )

pub returns-then-self : goal.returns-then-self
returns-then-self g c =
    let ended : has_ended c.args.self.now.given ≡ true = ap (λ (seen : Answered). has_ended seen.given) (sym c.self.view_is) ∙ sym c.self.invariant.4 ∙ c.if-self.true in (
      Ok None,
      (refl, refl),
      record {
        gives = λ going. absurd (true≢false (sym ended ∙ going));
        ended = λ passed. refl;
        stays = λ passed. refl;
      },
    )

pub returns : goal.returns
returns g c =
    let put = c.next_into-put.ensures.puts in
    let taken = takes_first _ _ _ _ _ (c.receive.ensures.kept _ c.self.invariant.3) put.1 in (
      put.0,
      put.2,
      record {
        gives = λ going. rw (← c.self.view_is) (ap (answered (option_map records_of (g.R.TextSource.remaining c.self.inside.reader.promise.reader.value))) (takes_one _ _ _ _ taken));
        ended = λ ended. absurd (true≢false (search rules));
        stays = λ ended. absurd (true≢false (search rules));
      },
    )

-- The pieces take the first record again, and the others are still kept.
use Rattle.std.proofs.Common.{◌≡◌, ◌∷◌, List, length, ap, arith, subst}
use Rattle.apex_types.specs.declared.record.Ordered.{Ordered}
use Rattle.shown_run.specs.Kept.{IsKept}
use Rattle.shown_run.proofs.Kept.{first_core, first_going, first_taken, kept_on}
use Rattle.shown_run.proofs.span.Span.shorten.Goals as goal

pub give_up-requires : goal.give_up-requires
give_up-requires c =
    let configuration = c.args.config.now in
    let taken = c.requires.0 in
    let before = c.records.self.before in
    let kept : IsKept configuration taken before (c.in-Some.first ∷ c.pop_front.new.self.items) =
    subst (λ (kept : List Ordered). IsKept configuration taken before kept) c.in-Some.ensures.items (c.records.invariant.kept taken c.requires.1) in
    record {
      going = first_going configuration taken before c.in-Some.first c.pop_front.new.self.items kept;
      core = first_core configuration taken before c.in-Some.first c.pop_front.new.self.items kept;
      accepted = first_taken configuration taken before c.in-Some.first c.pop_front.new.self.items kept;
    }

pub records-preserved : goal.records-preserved
records-preserved c = record {
  kept = λ taken is.
      kept_on c.args.config.now taken c.records.self.before c.give_up.new.pieces c.in-Some.first c.pop_front.new.self.items
      (subst (λ (kept : List Ordered). IsKept c.args.config.now taken c.records.self.before kept) c.in-Some.ensures.items (c.records.invariant.kept taken is))
      c.in_ok-give_up.ensures.going c.in_ok-give_up.ensures.taken;
  many = λ enough. omega (arith, c.records-test.true, c.len.ensures, ap (λ (list : List Ordered). length list) c.in-Some.ensures.items);
}

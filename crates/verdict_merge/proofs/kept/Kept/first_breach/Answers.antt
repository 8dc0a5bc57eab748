use Rattle.std.proofs.Common.{map, subst}
use Rattle.user_rules.specs.FirstBroken.{IsFirstAmong}
use Rattle.user_rules.specs.Meets.{alone}
use Rattle.user_rules.specs.Rules.{relations_of}
use Rattle.verdict_merge.proofs.kept.Kept.first_breach.Goals as goal

pub breach_at-requires-clause-first : goal.breach_at-requires-clause-first
breach_at-requires-clause-first g c =
    subst (λ views. IsFirstAmong (relations_of c.args.rules.now) (map alone views) c.first_broken.result) c.deref.ensures.value c.first_broken.ensures

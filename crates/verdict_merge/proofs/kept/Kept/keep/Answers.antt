use Rattle.std.proofs.Common.{rules}
use Rattle.verdict_merge.proofs.Keeping.{has_kept}
use Rattle.verdict_merge.proofs.kept.Kept.keep.Goals as goal

pub returns-in-Some-clause-kept : goal.returns-in-Some-clause-kept
returns-in-Some-clause-kept c =
    has_kept c.args.view c.args.index c.in-Some.one c.args.self.now _ _ (search rules) c.push_reserved.ensures.items c.push_reserved-in-Some.ensures.items

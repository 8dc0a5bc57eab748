use Rattle.std.proofs.Common.{ap, ◌∙◌, refl}
use Rattle.std.specs.Option.{is_some}
use Rattle.wait_set.proofs.Entries.{found-is_member}
use Rattle.wait_set.proofs.Keeping.{asked-place}
use Rattle.wait_set.proofs.set.WaitSet.has.Goals as goal

pub returns : goal.returns
returns c =
    rw (← c.self.view_is)
    (c.contains_key.ensures ∙ ap is_some (asked-place _ c.self.inside.entries.entries _ _ c.args.who _ c.self.invariant refl)
    ∙ found-is_member c.args.who _)

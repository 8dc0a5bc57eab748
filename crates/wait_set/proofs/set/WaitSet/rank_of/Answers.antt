use Rattle.std.proofs.Common.{◌≡◌, ap, sym, ◌∙◌, None, Some, option_map}
use Rattle.std.specs.Map.{values_of}
use Rattle.std.specs.Option.{option_copied}
use Rattle.wait_set.specs.Kept.{place_of}
use Rattle.wait_set.specs.Ranks.{rank_of}
use Rattle.wait_set.proofs.Keeping.{asked-entry, asked-place}
use Rattle.wait_set.proofs.Leaving.{entry_of-absent}
use Rattle.wait_set.proofs.set.WaitSet.rank_of.Goals as goal

pub returns-in_err-place : goal.returns-in_err-place
returns-in_err-place c =
    let absent : place_of c.args.who (values_of c.self.inside.entries.entries) ≡ None =
    sym (asked-place _ _ _ _ c.args.who _ c.self.invariant c.get.ensures.value) ∙ ap option_copied c.in_err-place.was in
    rw (← c.self.view_is) (c.from_residual.ensures ∙ sym (ap (option_map (rank_of c.self.inside.discipline)) (entry_of-absent c.args.who _ absent)))

pub returns-in_err-entry : goal.returns-in_err-entry
returns-in_err-entry c =
    let at : place_of c.args.who (values_of c.self.inside.entries.entries) ≡ Some c.in_ok-place.place.now =
    sym (asked-place _ _ _ _ c.args.who _ c.self.invariant c.get.ensures.value) ∙ ap option_copied c.in_ok-place.was in
    let found = asked-entry _ _ _ _ c.args.who c.in_ok-place.place.now _ c.self.invariant at c.get-2.ensures.value in
    rw (← c.self.view_is) (c.from_residual-in_err-entry.ensures ∙ sym (ap (option_map (rank_of c.self.inside.discipline)) (sym found ∙ ap option_copied c.in_err-entry.was)))

pub returns : goal.returns
returns c =
    let at : place_of c.args.who (values_of c.self.inside.entries.entries) ≡ Some c.in_ok-place.place.now =
    sym (asked-place _ _ _ _ c.args.who _ c.self.invariant c.get.ensures.value) ∙ ap option_copied c.in_ok-place.was in
    let found = asked-entry _ _ _ _ c.args.who c.in_ok-place.place.now _ c.self.invariant at c.get-2.ensures.value in
    rw (← c.self.view_is) (ap Some c.new.ensures ∙ ap (option_map (rank_of c.self.inside.discipline)) (sym (ap option_copied c.in_ok-entry.was) ∙ found))

use Rattle.std.proofs.Common.{refl, sym, ◌∙◌}
use Rattle.wait_set.proofs.Keeping.{Entered, entered-kept, put_back-kept, taken_back-kept}
use Rattle.wait_set.proofs.Results.{on_err, on_ok}
use Rattle.wait_set.proofs.set.WaitSet.enter.Goals as goal

entered_after : (c : goal.Joined-insert-2) → Entered c.self.inside.discipline c.args.entry c.self.inside.entries.entries c.insert-3.new.self.entries
    c.insert.new.self.entries c.insert-2.new.self.keys
entered_after c =
    let new = rw (← c.self.view_is) at c.requires.new in
    let placed = on_ok c.insert.result _ (sym c.is_err.ensures.value ∙ c.if-is_err.false) c.insert.ensures.updates in
    let ranked = on_ok c.insert-2.result _ (sym c.is_err-2.ensures.value ∙ c.if-is_err-2.false) c.insert-2.ensures.updates in
    entered-kept c.self.inside.discipline c.args.entry c.self.inside.entries.entries c.insert-3.new.self.entries c.self.inside.places c.insert.new.self
    c.self.inside.ranks c.insert-2.new.self c.self.invariant new c.in-Ok.ensures.entries placed (rw c.new-rank.ensures at ranked)

pub invariant_of-self-then-is_err-2 : goal.invariant_of-self-then-is_err-2
invariant_of-self-then-is_err-2 c =
    let new = rw (← c.self.view_is) at c.requires.new in
    let put = on_ok c.insert.result _ (sym c.is_err.ensures.value ∙ c.if-is_err.false) c.insert.ensures.updates in
    let same = on_err c.insert-2.result _ (sym c.is_err-2.ensures.value ∙ c.if-is_err-2.true) c.insert-2.ensures.err in
    put_back-kept c.self.inside.discipline c.args.entry c.self.inside.entries.entries c.self.inside.places c.insert.new.self c.remove.new.self
    c.self.inside.ranks.keys c.insert-2.new.self.keys c.self.invariant new put c.remove.ensures.updates same

pub invariant_of-self-in-Ok : goal.invariant_of-self-in-Ok
invariant_of-self-in-Ok c = (entered_after c).kept

pub returns-in-Ok-clause-ok : goal.returns-in-Ok-clause-ok
returns-in-Ok-clause-ok c = rw ((entered_after c).values, ← c.self.view_is) refl

pub invariant_of-self-in-Err : goal.invariant_of-self-in-Err
invariant_of-self-in-Err c =
    let new = rw (← c.self.view_is) at c.requires.new in
    let put = on_ok c.insert.result _ (sym c.is_err.ensures.value ∙ c.if-is_err.false) c.insert.ensures.updates in
    let ranked = on_ok c.insert-2.result _ (sym c.is_err-2.ensures.value ∙ c.if-is_err-2.false) c.insert-2.ensures.updates in
    rw (c.in-Err.ensures.err)
    (taken_back-kept c.self.inside.discipline c.args.entry c.self.inside.entries.entries c.self.inside.places c.insert.new.self c.remove-in-Err.new.self
    c.self.inside.ranks c.insert-2.new.self c.remove-in-Err-2.new.self c.self.invariant new put c.remove-in-Err.ensures.updates
    (rw c.new-rank.ensures at ranked) (rw c.new-rank.ensures at c.remove-in-Err-2.ensures.updates))

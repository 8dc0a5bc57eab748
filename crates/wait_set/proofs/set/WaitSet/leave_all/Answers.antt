use Rattle.std.proofs.Common.{nat_eq, ap, ◌∙◌}
use Rattle.std.proofs.lemmas.Bool.{eq-eqb}
use Rattle.wait_set.proofs.Members.{shorter, without-one_of}
use Rattle.wait_set.proofs.set.WaitSet.leave_all.Goals as goal

pub members-smaller : goal.members-smaller
members-smaller c = rw (c.leave.ensures.left) (shorter c.in-Some.who c.members.self.entries c.in-Some.ensures.is_member.1)

pub members-preserved : goal.members-preserved
members-preserved c = record {
  discipline = ap (λ set. set.discipline) c.leave.ensures.left ∙ c.members.invariant.discipline;
  entries = rw (c.leave.ensures.left) (without-one_of (λ who. nat_eq who.part c.args.part) c.in-Some.who c.members.self.entries
      (eq-eqb c.in-Some.who.part c.args.part c.in-Some.ensures.is_member.0)
      ∙ c.members.invariant.entries);
}

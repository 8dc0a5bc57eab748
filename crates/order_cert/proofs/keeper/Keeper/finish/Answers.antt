use Rattle.std.proofs.Common.{true≢false, sym, ap, arith, refl, get_or}
use Rattle.order_cert.proofs.Lawful.{whole_is_lawful}
use Rattle.order_cert.proofs.keeper.Keeper.finish.Goals as goal

pub returns-then-taken-lens-clause-lawful : goal.returns-then-taken-lens-clause-lawful
returns-then-taken-lens-clause-lawful c pairs f =
    let whole = whole_is_lawful c.args.self.now pairs (λ core. get_or c.args.lens.now core 0) f in
    (λ e. absurd (true≢false (sym e)), λ h. absurd (omega (arith, whole.1 h c.loop-core.core (omega (arith, c.loop-core-test.true, ap (λ k. k.cores) c.self.view_is)), c.if-taken-lens.true, c.taken.ensures)))

pub returns-clause-lawful : goal.returns-clause-lawful
returns-clause-lawful c pairs f =
    let whole = whole_is_lawful c.args.self.now pairs (λ core. get_or c.args.lens.now core 0) f in
    let cores = ap (λ k. k.cores) c.self.view_is in (
      λ e. whole.0 (λ core b. omega (arith, c.requires.enough core b, c.loop-core.invariant core (omega (arith, b, cores, c.loop-core-test.false)))),
      λ h. refl,
    )

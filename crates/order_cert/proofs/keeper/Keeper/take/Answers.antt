use Rattle.std.proofs.Common.{◌≡◌, ◌∙◌, ◌*◌, ◌+◌, set, ap, arith, length, sum, refl}
use Rattle.apex_types.specs.declared.limits.TheConstants.{MOST_RECORDS, PLACE_COUNT}
use Rattle.order_cert.specs.Order.{pair_of}
use Rattle.order_cert.specs.Kept.{taken_of}
use Rattle.order_cert.proofs.Counts.{sum_below}
use Rattle.order_cert.proofs.Lawful.{next_from_prefix, follows_taken, place_is}
use Rattle.order_cert.proofs.keeper.Keeper.take.Goals as goal
use Rattle.order_cert.proofs.keeper.Keeper.take.Goals.{then-seq-taken-2-via-then-seq-taken-2, then-seq-taken-2-via-else-seq-taken-2+then-taken}

pub returns-then-core-self-clause-unlawful : goal.returns-then-core-self-clause-unlawful
returns-then-core-self-clause-unlawful c pairs f h =
    let n = next_from_prefix _ pairs (pair_of c.args.core c.args.seq) f h in
    absurd (omega (arith, n.known, ap (λ k. k.cores) c.self.view_is, c.if-core-self.true))

pub returns-then-seq-taken-clause-unlawful : goal.returns-then-seq-taken-clause-unlawful
returns-then-seq-taken-clause-unlawful c pairs f h =
    let n = next_from_prefix _ pairs (pair_of c.args.core c.args.seq) f h in
    absurd (omega (arith, n.seq, ap (λ k. taken_of k c.args.core) c.self.view_is, c.if-seq-taken.true))

pub returns-then-seq-taken-2-clause-unlawful : goal.returns-then-seq-taken-2-clause-unlawful
returns-then-seq-taken-2-clause-unlawful c pairs f h =
    let n = next_from_prefix _ pairs (pair_of c.args.core c.args.seq) f h in
    let taken = ap (λ k. taken_of k c.args.core) c.self.view_is in
    elim c.then-seq-taken-2.branch [
      | then-seq-taken-2-via-then-seq-taken-2 w ↦ absurd (omega (arith, n.seq, taken, w.if-seq-taken-2.true))
      | then-seq-taken-2-via-else-seq-taken-2+then-taken w ↦ absurd (omega (arith, n.seq, n.below, taken, w.if-taken.true))
    ]

pub new-place-requires : goal.new-place-requires
new-place-requires c =
    let i = c.self.invariant in
    let below = sum_below MOST_RECORDS c.self.inside.counts c.args.core i.2 (omega (arith, c.self.told, i.0, c.if-core-self.false)) (omega (arith, i.2 c.args.core, c.if-taken.false)) in
    let long : length c.self.inside.counts * MOST_RECORDS ≡ PLACE_COUNT = rw c.self.told refl in
    omega (arith, below, long, i.1)

pub returns-clause-follows : goal.returns-clause-follows
returns-clause-follows c pairs f =
    let v = c.self.view_is in
    let i = c.self.invariant in
    let cores = ap (λ k. k.cores) v in
    let long = ap (λ k. length k.counts) v in
    let taken = ap (λ k. taken_of k c.args.core) v in (
      c.new-place.ensures ∙ i.1 ∙ ap (λ k. sum k.counts) v ∙ place_is c.args.self.now pairs (omega (arith, long, cores, c.self.told, i.0)) f,
      follows_taken c.args.self.now _ pairs (pair_of c.args.core c.args.seq) cores (ap (λ k. set k.counts c.args.core (taken_of k c.args.core + 1)) v)
          (omega (arith, long, c.self.told, i.0, c.if-core-self.false))
          (omega (arith, cores, c.if-core-self.false))
          (omega (arith, taken, c.if-seq-taken.false, c.if-seq-taken-2.false))
          (omega (arith, c.if-seq-taken-2.false, i.2 c.args.core, c.if-taken.false)) f,
    )

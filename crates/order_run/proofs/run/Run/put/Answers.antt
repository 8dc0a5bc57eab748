use Rattle.std.proofs.Common.{◌≡◌, ◌∙◌, refl, arith}
use Rattle.order_run.proofs.Onward.{put_on}
use Rattle.order_run.proofs.run.Run.put.Goals as goal
use Rattle.order_run.proofs.run.Run.put.Goals.{in-Ok-push, in-Err-push}

pub returns-clause-so_far : goal.returns-clause-so_far
returns-clause-so_far c = elim c.match-push.branch [
  | in-Ok-push w ↦ rw w.result-is (λ configuration requirements settled waiting before put.
      let number : c.from-number.result ≡ c.args.core = c.from-number.ensures ∙ c.number.ensures in
      let taken = rw (c.taken-seq.ensures, number) at c.in-Ok.ensures in
      put_on configuration requirements c.args.self.now _ settled waiting before c.args.core c.args.rec put taken.cores taken.within (omega arith) taken.fits
      (λ pairs follows. let at = (taken.follows pairs follows).0 in omega (arith, at, c.number-place.ensures.number, c.number-place.ensures.bound))
      taken.next (λ pairs follows. (taken.follows pairs follows).1)
      (rw (c.taken-seq.ensures, number) at c.in_ok-add_row.ensures) (rw taken.place at w.in-Ok-push.ensures.items) refl refl refl)
  | in-Err-push w ↦ rw w.result-is tt
]

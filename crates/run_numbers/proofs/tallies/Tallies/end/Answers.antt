-- The time of the figure has ended; if it had begun, the figure has one value more.
use Rattle.std.proofs.Common.{◌∙◌, refl, sym}
use Rattle.run_numbers.proofs.Added.{on_ok_both}
use Rattle.run_numbers.proofs.Tallying.{end_taken, no_end_taken}
use Rattle.run_numbers.proofs.tallies.Tallies.end.Goals as goal

pub returns-in_default : goal.returns-in_default
returns-in_default c = λ run are.
    no_end_taken run c.args.self.now _ c.args.figure.now c.args.time c.args.place (sym c.in_default.ensures.value) (λ other. refl) c.swap_remove.ensures.updates.0 are

pub returns : goal.returns
returns c =
    on_ok_both c.add.result
    (λ values times run are. end_taken run c.args.self.now c.add.new.self c.args.figure.now c.args.time c.args.place c.in-Some.begun c.saturating_sub-value.result
    (sym c.in-Some.ensures.value) c.saturating_sub-value.ensures values (λ other. times other ∙ c.swap_remove.ensures.updates.0 other) are) c.add.ensures.values c.add.ensures.times

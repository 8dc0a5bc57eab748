-- One process after another enters NORMAL.
use Rattle.std.proofs.Common.{◌≡◌, ℕ, ◌≤◌, true, false, nat_eq, Some, slice_get, subst, sym, ◌∙◌, ap, refl, rules, length, arith}
use Rattle.apex_machine.specs.declared.state.Process.{Process}
use Rattle.apex_machine.specs.State.{time_of}
use Rattle.apex_machine.specs.Processes.{after_normal}
use Rattle.std.specs.List.{IsDistinct}
use Rattle.std.specs.Map.{keys_of}
use Rattle.scheduling.specs.Changes.{only, with_each}
use Rattle.scheduling.specs.Processes.{Processes}
use Rattle.scheduling.proofs.Below.{all_entered, each_below-none, each_below-only, length-each_below}
use Rattle.scheduling.proofs.table.ProcTable.normal.Goals as goal
use Rattle.scheduling.proofs.table.ProcTable.normal.Goals.{in-Some, in_default}

pub loop-index-init : goal.loop-index-init
loop-index-init c =
    let change : ℕ → Process → Process = λ number process. after_normal c.args.moment.now.place c.args.period (time_of c.args.moment.now.cores.now process.affinity) process in
    record { mode = refl; table = rw (← c.self.view_is) (sym (each_below-none change c.self.inside.processes.entries)) }

pub loop-index-preserved : goal.loop-index-preserved
loop-index-preserved c =
    let change : ℕ → Process → Process = λ number process. after_normal c.args.moment.now.place c.args.period (time_of c.args.moment.now.cores.now process.affinity) process in
    let before = c.loop-index.self in
    let distinct = subst (λ (p : Processes). IsDistinct nat_eq (keys_of p.table)) c.self.view_is c.len-index-end.ensures.unique in
    let start : length c.self.inside.processes.entries ≡ length c.args.self.now.table = ap (λ (p : Processes). length p.table) c.self.view_is in
    let seen : length c.self-in-loop-index.inside.processes.entries ≡ length before.table = ap (λ (p : Processes). length p.table) c.self-in-loop-index.view_is in
    let long : length before.table ≡ length c.args.self.now.table
    = ap length c.loop-index.invariant.table ∙ length-each_below change c.loop-index.index c.args.self.now.table in
    elim c.match-get_index.branch [
      | in-Some w ↦
          let number = w.in-Some.number.now in
          let process = w.in-Some.field-0-1.now in
          let found : slice_get before.table c.loop-index.index ≡ Some (number, process)
          = subst (λ (p : Processes). slice_get p.table c.loop-index.index ≡ Some (number, process)) c.self-in-loop-index.view_is (sym w.in-Some.ensures.entry) in
          let changed : c.match-get_index.self ≡ with_each (only number (change number)) before
          = w.self-is ∙ w.change.ensures (change number) (λ old new ran. search rules) in
          record {
            mode = ap (λ (p : Processes). p.mode) changed ∙ c.loop-index.invariant.mode;
            table = ap (λ (p : Processes). p.table) changed
                ∙ each_below-only change c.loop-index.index c.args.self.now.table before.table (number, process) distinct c.loop-index.invariant.table found;
          }
      | in_default w ↦
          let none = rw w.in_default.is at c.get_index.ensures.found in
          let contrary : false ≡ true = none.1 (omega (arith, start, seen, long, c.len-index-end.ensures.len, c.loop-index-test.true)) in
          absurd (cc contrary)
    ]

pub returns : goal.returns
returns c =
    let change : ℕ → Process → Process = λ number process. after_normal c.args.moment.now.place c.args.period (time_of c.args.moment.now.cores.now process.affinity) process in
    let start : length c.self.inside.processes.entries ≡ length c.args.self.now.table = ap (λ (p : Processes). length p.table) c.self.view_is in
    let past : length c.args.self.now.table ≤ c.loop-index.index = omega (arith, start, c.len-index-end.ensures.len, c.loop-index-test.false) in
    all_entered change c.loop-index.index c.args.self.now c.loop-index.self c.loop-index.invariant.mode c.loop-index.invariant.table past

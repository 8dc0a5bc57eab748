-- The objects stay but for the port of a read, and the processes are those after the call.
use Rattle.std.proofs.Common.{◌<◌, ap, refl, sym, ◌∙◌, arith}
use Rattle.apex_types.specs.declared.limits.TheConstants.{PLACE_COUNT}
use Rattle.apex_laws.specs.PartLaws.{IsOwnCall}
use Rattle.scheduling.specs.Processes.{processes_of}
use Rattle.partition_state.specs.Calls.{objects_noted}
use Rattle.partition_state.proofs.Clear.{port_found}
use Rattle.partition_state.proofs.Served.{is_called, noted_with, reads_with}
use Rattle.partition_state.proofs.Served.{no_restart}
use Rattle.partition_state.proofs.Uses.{leaves_all, noted_faults, noted_goes_on, noted_no_more, noted_transfer, sound_noted}
use Rattle.partition_state.proofs.state.PartitionState.note.Goals as goal

pub call-requires-clause-sound : goal.call-requires-clause-sound
call-requires-clause-sound c =
    let a = c.args in
    let below : a.moment.now.place < PLACE_COUNT = omega (arith, c.number-place.ensures.number, c.number-place.ensures.bound) in
    let bounded = rw (← c.self.view_is) at c.requires.bounded in
    sound_noted a.moment.now.place _ a.call.now bounded c.requires.leaves below

pub note_read-requires : goal.note_read-requires
note_read-requires c =
    let a = c.args in
    let call = a.call.now in
    let own : IsOwnCall a.config.now call.who.part a.moment.now.place a.moment.now.core a.moment.now.cores.now a.self.now call =
    record { sound = c.requires.sound; own = refl; demands = c.requires.lawful } in
    let found = port_found a.config.now call.who.part a.moment.now.place a.moment.now.core a.moment.now.cores.now a.self.now call own in
    record { port = reads_with c.call.new.self call call.request _ (rw (← c.self.view_is) at found) }

pub returns-clause-ok : goal.returns-clause-ok
returns-clause-ok c =
    let a = c.args in
    let config = a.config.now in
    let cores = a.moment.now.cores.now in
    let place = a.moment.now.place in
    let core = a.moment.now.core in
    let call = a.call.now in
    let own : IsOwnCall config call.who.part place core cores a.self.now call = record { sound = c.requires.sound; own = refl; demands = c.requires.lawful } in
    let leaves = leaves_all config call.who.part place core cores a.self.now call own c.requires.leaves in
    let processes = c.in_ok-call.ensures.ok config a.self.now (sym c.first_core-first_core.ensures.value) (sym c.period-period.ensures.value)
    (sym (ap processes_of c.self.view_is)) (λ done. noted_transfer a.self.now call _ c.requires.leaves done)
    (λ done. noted_faults a.self.now call c.requires.leaves done) (noted_no_more config call.who.part place core cores a.self.now call own c.requires.leaves) in
    rw (no_restart config call (noted_goes_on call c.requires.leaves))
    (c.note_read.ensures
    ∙ noted_with c.call.new.self call call.request _
    ∙ is_called config cores place core call a.self.now _ c.call.new.self (ap (objects_noted call call.request) c.self.view_is ∙ sym leaves) processes)

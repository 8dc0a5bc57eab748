-- The one process of the number is changed in place, and its rank, its due time and its deadline with it.
use Rattle.std.proofs.Common.{refl, rules}
use Rattle.scheduling.specs.Ranks.{deadline_time_of, due_before, due_laws, due_time_of, rank_before, rank_laws, rank_of}
use Rattle.scheduling.proofs.Kept.{IsKept-written, found_there, room_left, is_member}
use Rattle.scheduling.proofs.Tables.{processes-kept, processes-written}
use Rattle.scheduling.proofs.table.ProcTable.change.Goals as goal

pub replace-requires-clause-is_member : goal.replace-requires-clause-is_member
replace-requires-clause-is_member g c =
    let entries = c.self.inside.processes.entries in
    let found = found_there c.args.number c.in-Some.process.now entries c.in-Some.ensures.value in
    rw c.of-old_rank.ensures (is_member rank_before rank_laws rank_of c.args.number c.in-Some.process.now entries _ found c.self.invariant.ranks)

pub replace-requires-clause-room : goal.replace-requires-clause-room
replace-requires-clause-room g c =
    let entries = c.self.inside.processes.entries in
    let found = found_there c.args.number c.in-Some.process.now entries c.in-Some.ensures.value in
    rw c.of-old_rank.ensures (room_left rank_before rank_laws rank_of c.args.number c.in-Some.process.now entries _ _ found c.self.invariant.ranks c.self.invariant.ready_room)

pub replace-requires-in-Some-clause-is_member : goal.replace-requires-in-Some-clause-is_member
replace-requires-in-Some-clause-is_member g c =
    let entries = c.self.inside.processes.entries in
    let found = found_there c.args.number c.in-Some.process.now entries c.in-Some.ensures.value in
    rw c.of-old_due.ensures (is_member due_before due_laws due_time_of c.args.number c.in-Some.process.now entries _ found c.self.invariant.due_times)

pub replace-requires-in-Some-clause-room : goal.replace-requires-in-Some-clause-room
replace-requires-in-Some-clause-room g c =
    let entries = c.self.inside.processes.entries in
    let found = found_there c.args.number c.in-Some.process.now entries c.in-Some.ensures.value in
    rw c.of-old_due.ensures (room_left due_before due_laws due_time_of c.args.number c.in-Some.process.now entries _ _ found c.self.invariant.due_times c.self.invariant.due_room)

pub replace-requires-in-Some-2-clause-is_member : goal.replace-requires-in-Some-2-clause-is_member
replace-requires-in-Some-2-clause-is_member g c =
    let entries = c.self.inside.processes.entries in
    let found = found_there c.args.number c.in-Some.process.now entries c.in-Some.ensures.value in
    rw c.of_deadline-old_deadline.ensures (is_member due_before due_laws deadline_time_of c.args.number c.in-Some.process.now entries _ found c.self.invariant.deadline_times)

pub replace-requires-in-Some-2-clause-room : goal.replace-requires-in-Some-2-clause-room
replace-requires-in-Some-2-clause-room g c =
    let entries = c.self.inside.processes.entries in
    let found = found_there c.args.number c.in-Some.process.now entries c.in-Some.ensures.value in
    rw c.of_deadline-old_deadline.ensures (room_left due_before due_laws deadline_time_of c.args.number c.in-Some.process.now entries _ _ found c.self.invariant.deadline_times c.self.invariant.deadline_room)

pub invariant_of-self : goal.invariant_of-self
invariant_of-self g c =
    IsKept-written c.args.number c.in-Some.process.now c.change.new.arg2 _ _ _ _ _ _ _ _ _ _ c.self.invariant c.in-Some.ensures.value (c.get_mut.follows.holds c.change.new.arg2).0
    (rw (c.of-rank.ensures, c.of-old_rank.ensures) at c.replace.ensures.keys) c.replace.ensures.grows
    (rw (c.of-due.ensures, c.of-old_due.ensures) at c.replace-in-Some.ensures.keys) c.replace-in-Some.ensures.grows
    (rw (c.of_deadline-deadline.ensures, c.of_deadline-old_deadline.ensures) at c.replace-in-Some-2.ensures.keys) c.replace-in-Some-2.ensures.grows

pub returns-in-Some : goal.returns-in-Some
returns-in-Some g c = λ becomes agrees.
    rw (← c.self.view_is)
    (processes-written _ c.args.number becomes _ _ _ _ c.get_mut.ensures.unique c.in-Some.ensures.value (agrees _ _ (search rules)) (c.get_mut.follows.holds c.change.new.arg2).0)

pub returns-in_default : goal.returns-in_default
returns-in_default g c = λ becomes agrees.
    rw (← c.self.view_is)
    (processes-kept _ c.args.number becomes _ _ (rw c.in_default.is at c.get_mut.ensures.value) (rw c.get_mut.follows.holds-at-none refl))

-- One more of those named leaves its set, while numbers are distinct and each process with an entry waits.
use Rattle.std.proofs.Common.{sym, ap, ◌∙◌, take, length, ◌<◌}
use Rattle.std.proofs.lemmas.List.{take_all, take_more}
use Rattle.apex_laws.specs.PartSets.{named_left}
use Rattle.apex_laws.proofs.PartSets.{each_named_leaves}
use Rattle.partition_state.proofs.Leavers.{named_distinct, named_where, next_leaves, next_stays}
use Rattle.partition_state.proofs.state.PartitionState.leave_named.Goals as goal
use Rattle.partition_state.proofs.state.PartitionState.leave_named.Goals.{then-eq, else-eq}

pub leave-requires-clause-objects : goal.leave-requires-clause-objects
leave-requires-clause-objects c =
    let sound = c.requires.sound in
    rw c.loop-who.invariant (named_distinct c.args.part c.args.place (take c.loop-who.who-index c.as_slice-named.result.now) c.args.self.now sound)

pub leave-requires-clause-alone : goal.leave-requires-clause-alone
leave-requires-clause-alone c =
    let sound = c.requires.sound in
    rw c.loop-who.invariant
    (named_where c.args.part c.args.place (take c.loop-who.who-index c.as_slice-named.result.now) c.args.self.now c.who-item.result sound)

pub loop-who-preserved : goal.loop-who-preserved
loop-who-preserved c =
    let a = c.args in
    let sound = c.requires.sound in
    let who = c.who-item.result in
    let woken = c.as_slice-named.result.now in
    let within : c.loop-who.who-index < length woken = c.loop-who-test.true in
    let more = take_more woken c.loop-who.who-index who within in
    let named = take c.loop-who.who-index woken in
    elim c.if-eq.branch [
      | then-eq w ↦ rw (w.self-is, w.leave.ensures, c.loop-who.invariant, more, ← c.who-item.is)
          (next_leaves a.part a.place named a.self.now who sound (sym c.eq.ensures ∙ w.if-eq.true))
      | else-eq w ↦ rw (w.self-is, c.loop-who.invariant, more, ← c.who-item.is)
          (next_stays a.part named a.self.now who (sym c.eq.ensures ∙ w.if-eq.false))
    ]

pub returns : goal.returns
returns c =
    let a = c.args in
    let woken = c.as_slice-named.result.now in
    c.loop-who.invariant
    ∙ ap (λ named. named_left a.part a.self.now.table named a.self.now) (take_all c.loop-who.who-index woken c.loop-who-test.false ∙ c.as_slice-named.ensures.list)
    ∙ each_named_leaves a.part a.place a.self.now a.woken.now c.requires.sound

-- The partition between, then its caller, then its caller's peers.
use Rattle.std.proofs.Common.{◌≡◌, sym, ◌∙◌}
use Rattle.apex_machine.specs.Errors.{handles_more}
use Rattle.apex_machine.specs.State.{time_of}
use Rattle.scheduling.proofs.Called.{adjusted-done, adjusted-not, after_caller, between, called-whole, caller-absent, caller-settled, caller-is_member, looked}
use Rattle.scheduling.proofs.table.ProcTable.call.Goals as goal
use Rattle.scheduling.proofs.table.ProcTable.call.Goals.{then-is_done+in_ok-carry_out, else-is_done, then-is_member, else-is_member}

pub returns-clause-ok : goal.returns-clause-ok
returns-clause-ok c = λ configuration partition first_is period_is seen tied changes more_is.
    let a = c.args in
    let m = a.moment.now in
    let call = a.call.now in
    let more : c.handles_more-handles_more.result ≡ handles_more partition call.who.proc call.request = c.handles_more-handles_more.ensures ∙ sym more_is in
    let middle : c.if-is_done.self ≡ between m.place a.period a.first_core m.cores.now call partition a.self.now =
    elim c.if-is_done.branch [
      | then-is_done+in_ok-carry_out w ↦
          let done = sym c.is_done.ensures ∙ w.if-is_done.true in
          rw w.self-is (adjusted-done m.place a.period a.first_core m.cores.now call partition a.self.now _ done (w.in_ok-carry_out.ensures.ok partition seen (tied done) (changes done)))
      | else-is_done w ↦ rw w.self-is (adjusted-not m.place a.period a.first_core m.cores.now call partition a.self.now (sym c.is_done.ensures ∙ w.if-is_done.false))
    ] in
    let settles : c.if-is_member.self ≡ after_caller m.place (time_of m.cores.now m.core) (handles_more partition call.who.proc call.request) a.period a.first_core m.cores.now call partition a.self.now =
    elim c.if-is_member.branch [
      | then-is_member w ↦
          caller-is_member m.place _ _ a.period a.first_core m.cores.now call partition a.self.now c.if-is_done.self c.if-is_member.self middle c.requires.sound.asks
          (looked c.proc.result _ _ c.proc.ensures (sym c.is_some-is_member.ensures ∙ w.if-is_member.true))
          (rw (c.time_at-now.ensures.value, more) at (caller-settled m.place c.time_at-now.result c.handles_more-handles_more.result a.period a.first_core m.cores.now call partition a.self.now c.if-is_done.self c.if-is_member.self
          c.next_release-next.result _ middle c.next_release-next.ensures.distinct c.settling_of-settling.ensures c.next_release-next.ensures.value (w.self-is ∙ w.settle.ensures)))
      | else-is_member w ↦
          caller-absent m.place _ _ a.period a.first_core m.cores.now call partition a.self.now c.if-is_done.self c.if-is_member.self middle
          (looked c.proc.result _ _ c.proc.ensures (sym c.is_some-is_member.ensures ∙ w.if-is_member.false)) w.self-is
    ] in
    called-whole configuration m.place m.core a.period a.first_core m.cores.now call partition a.self.now c.if-is_member.self _ _ seen first_is period_is
    c.requires.sound.asks settles c.stop_peer.ensures c.wake_peers.ensures

-- Those who wait to send at the buffer, if there is one.
use Rattle.std.proofs.Common.{◌∙◌, length, ap}
use Rattle.apex_types.specs.declared.object_kind.ObjectKind.TheVariants as kind
use Rattle.apex_types.specs.declared.shape.End.TheVariants.{Senders}
use Rattle.apex_machine.specs.State.{Buffer, is_same_kind, item_at}
use Rattle.run_numbers.proofs.Joined.{at_buffer, none_wait, some_wait}
use Rattle.run_numbers.proofs.Outs.{holds_by_not}
use Rattle.run_numbers.proofs.objects.senders_at.Goals as goal

pub returns-in-Some : goal.returns-in-Some
returns-in-Some c =
    let state = c.args.state.now in
    at_buffer state c.args.kind c.args.number c.len.result Senders (holds_by_not (is_same_kind c.args.kind kind.Buffer) c.ne.result c.ne.ensures c.if-ne.false)
    (some_wait (λ (buffer : Buffer). buffer.senders) (item_at state.buffers c.args.number) c.in-Some.buffer.now c.len.result (rw c.buffers.ensures at c.in-Some.ensures)
    (c.len.ensures.len ∙ ap (λ set. length set.entries) c.senders.ensures ∙ ap (λ (buffer : Buffer). length buffer.senders) c.queue.ensures.queue))

pub returns-in-None : goal.returns-in-None
returns-in-None c =
    let state = c.args.state.now in
    at_buffer state c.args.kind c.args.number 0 Senders (holds_by_not (is_same_kind c.args.kind kind.Buffer) c.ne.result c.ne.ensures c.if-ne.false)
    (none_wait (λ (buffer : Buffer). buffer.senders) (item_at state.buffers c.args.number) (rw c.buffers.ensures at c.in-None.ensures))

use Rattle.std.proofs.Common.{sym, inl, inr}
use Rattle.record_read.specs.Payload.{hex_bytes}
use Rattle.record_read.specs.Row.{call_in}
use Rattle.record_read.proofs.Memory.{request_needs}
use Rattle.record_read.proofs.call.read_call.Goals as goal

pub returns-in_default-clause-refused : goal.returns-in_default-clause-refused
unfolding call_in
returns-in_default-clause-refused c =
    let given = c.in_ok-request.request in
    rw (sym c.in_ok-who.ensures.value, c.in_ok-request.ensures.value, c.in_ok-claim.ensures.value)
    (inr (
      c.of_no_field.ensures,
      inl (request_needs given.service given.n1 given.n2 given.n3 given.name.now (hex_bytes given.message.now) c.in_ok-request.ensures.name
          c.in_ok-request.ensures.message c.in_default.ensures.memory),
    ))

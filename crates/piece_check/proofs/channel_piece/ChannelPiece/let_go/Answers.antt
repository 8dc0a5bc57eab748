-- The processes that the call names leave, and those that it stops or restarts with its partition.
use Rattle.std.proofs.Common.{Some, refl, sym, ◌∙◌}
use Rattle.piece_check.proofs.Through.{after_letting_go, left_alone, left_with_part, left_with_target}
use Rattle.piece_check.proofs.channel_piece.ChannelPiece.let_go.Goals as goal

pub returns-then-is_restart-clause-after : goal.returns-then-is_restart-clause-after
returns-then-is_restart-clause-after c = λ configuration now ordered at body.
    let held = c.args.self.now.channel in
    let call = c.args.call.now in
    let restarts = sym c.is_restart.ensures ∙ c.if-is_restart.true in
    rw (
      c.leave_all.ensures,
      c.release.ensures,
      c.as_slice.ensures.list,
      after_letting_go configuration now c.args.place held.number call held.channel ordered _ c.requires.apart body c.requires.holds_before
          (λ entries all. left_with_part call restarts entries),
    )
    refl

pub returns-in-Some-clause-after : goal.returns-in-Some-clause-after
returns-in-Some-clause-after c = λ configuration now ordered at body.
    let held = c.args.self.now.channel in
    let call = c.args.call.now in
    let goes_on = sym c.is_restart.ensures ∙ c.if-is_restart.false in
    rw (
      c.leave.ensures.left,
      c.release.ensures,
      c.as_slice.ensures.list,
      after_letting_go configuration now c.args.place held.number call held.channel ordered _ c.requires.apart body c.requires.holds_before
          (left_with_target call (Some c.in-Some.target) c.args.place goes_on (rw c.in-Some.is at c.stopped_by.ensures)),
    )
    refl

pub returns-in_default-clause-after : goal.returns-in_default-clause-after
returns-in_default-clause-after c = λ configuration now ordered at body.
    let held = c.args.self.now.channel in
    let call = c.args.call.now in
    let goes_on = sym c.is_restart.ensures ∙ c.if-is_restart.false in
    rw (
      c.release.ensures,
      c.as_slice.ensures.list,
      after_letting_go configuration now c.args.place held.number call held.channel ordered _ c.requires.apart body c.requires.holds_before
          (left_alone call c.args.place goes_on (rw c.in_default.is at c.stopped_by.ensures)),
    )
    refl

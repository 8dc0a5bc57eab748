-- The piece is seen as it is, and the others as before.
use Rattle.std.proofs.Common.{◌∙◌, sym}
use Rattle.std.proofs.lemmas.Result.{on_ok_weaker}
use Rattle.std.specs.Option.{option_copied}
use Rattle.run_view.proofs.Looks.{one_is_found, one_is_seen, others_are_seen}
use Rattle.run_view.proofs.last_seen.LastSeen.look_if_touched.Goals as goal

pub returns-clause-seen : goal.returns-clause-seen
returns-clause-seen c =
    one_is_seen c.args.config.now c.args.piece.now.part (option_copied c.args.ordered) c.args.self.now.pieces.items c.args.number c.look_at.new.self c.look_at.result c.requires
    (sym c.looks_at.ensures ∙ c.if-not-looks_at.false) c.look_at.ensures.seen

pub returns-clause-changes : goal.returns-clause-changes
returns-clause-changes c =
    one_is_found c.args.config.now c.args.piece.now.part (option_copied c.args.ordered) c.args.self.now.pieces.items c.args.number c.index_mut-seen.result.now c.look_at.new.self
    c.look_at.result c.args.changes.now.items c.look_at.new.changes.items c.requires c.index_mut-seen.ensures.value (sym c.looks_at.ensures ∙ c.if-not-looks_at.false)
    c.look_at.ensures.changes

pub returns-clause-others : goal.returns-clause-others
returns-clause-others c =
    on_ok_weaker c.look_at.result (λ _ other not. others_are_seen c.args.self.now.pieces.items c.args.number other c.look_at.new.self not) c.look_at.ensures.seen

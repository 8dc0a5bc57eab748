use Rattle.std.proofs.Common.{◌≡◌, ◌<◌, ◌≤◌, ◌++◌, ℕ, length, vec_len, vec_capacity}
use Rattle.user_rules.specs.Rules.{relations_of}
use Rattle.verdict_merge.proofs.Working.{HasJudgedOver}
use Rattle.verdict_merge.proofs.judged.judge_in_turn.Given as goal

abbrev pub invariant-pieces : goal.invariant-pieces
invariant-pieces g l = (l.yielded ++ l.piece-iterator.rest.items ≡ l.fn.pieces.items)
    × (vec_len l.judged ≡ length l.yielded) × (length l.fn.pieces.items ≤ vec_capacity l.judged)
    × ((number : ℕ) → number < length l.yielded → HasJudgedOver l.lent.config.now l.lent.first l.lent.records.now (relations_of l.rules) l.lent.keeps l.fn.pieces.items l.judged.items number)

use Rattle.std.proofs.Common.{◌≡◌, ◌≤◌, ◌++◌, length, vec_len, vec_capacity}
use Rattle.verdict_merge.specs.Rounds.{pieces_in}
use Rattle.verdict_merge.proofs.survey.pieces_left.Given as goal

abbrev pub invariant-judged : goal.invariant-judged
invariant-judged l = (l.left.items ≡ pieces_in l.yielded) × (l.yielded ++ l.one-iterator.rest.items ≡ l.fn.judged.items)
    × (vec_len l.left ≡ length l.yielded) × (length l.fn.judged.items ≤ vec_capacity l.left)

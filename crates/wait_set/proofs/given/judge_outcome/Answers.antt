use Rattle.std.proofs.Common.{◌≡◌, ◌↔◌, None, IsTrue, rules}
use Rattle.apex_machine.specs.Answer.{Nothing}
use Rattle.wait_set.proofs.given.judge_outcome.Goals as goal

pub returns : goal.returns
returns c =
    let is : IsTrue c.is_none.result ↔ (c.args.claim.now.val ≡ None) = search rules in
    c.judge_alone.ensures Nothing is

use Rattle.std.proofs.Common.{[], ◌∙◌, Some, None, length, sym}
use Rattle.user_rules.specs.Rules.{relations_of, required_of}
use Rattle.verdict_merge.specs.declared.verdict.Verdict.TheVariants.{Yes}
use Rattle.verdict_merge.specs.Rounds.{parts_in}
use Rattle.verdict_merge.proofs.Ruled.{breach_within, plain_verdict, run_where_yes, tested_alone}
use Rattle.verdict_merge.proofs.Refusing.{run_up_to_no}
use Rattle.verdict_merge.proofs.plain.check_plain.Goals as goal

pub against-requires : goal.against-requires
against-requires g c =
    let pieces = c.in_ok-pieces.pieces.items in
    let relations = relations_of c.args.rules.now in
    let survey = c.in_ok-surveyed.surveyed in
    let surveyed = rw (c.new-lent.ensures.config, c.new-lent.ensures.first, c.new-lent.ensures.records) at
    (c.in_ok-surveyed.ensures relations pieces (rw (c.new-lent.ensures.config, c.new-lent.ensures.first) c.in_ok-pieces.ensures.going) c.in_ok-judged.ensures) in
    breach_within c.args.config.now (required_of [] c.args.rules.now) (parts_in pieces) c.args.records.now survey.found survey.breach []
    (tested_alone c.args.config.now relations [] (parts_in pieces) c.args.records.now survey.found survey.breach surveyed.tested)

pub returns-in-Some-clause-verdict : goal.returns-in-Some-clause-verdict
returns-in-Some-clause-verdict g c =
    let pieces = c.in_ok-pieces.pieces.items in
    let surveyed = rw (c.new-lent.ensures.config, c.new-lent.ensures.first, c.new-lent.ensures.records) at
    (c.in_ok-surveyed.ensures (relations_of c.args.rules.now) pieces (rw (c.new-lent.ensures.config, c.new-lent.ensures.first) c.in_ok-pieces.ensures.going) c.in_ok-judged.ensures) in
    plain_verdict c.args.config.now (relations_of c.args.rules.now) c.args.records.now pieces c.in_ok-surveyed.surveyed (Some c.in-Some.verdict) c.requires.placed c.in_ok-pieces.ensures.cold surveyed
    (sym (c.in-Some.ensures 0 c.requires.placed))

pub returns-in-Some-clause-run : goal.returns-in-Some-clause-run
returns-in-Some-clause-run g c =
    run_where_yes c.args.config.now (required_of [] c.args.rules.now) c.args.records.now c.in-Some.verdict c.keeps_limits.ensures.windows c.keeps_limits.ensures.ends c.requires.placed
    (returns-in-Some-clause-verdict g c)

pub returns-in-Some-clause-no : goal.returns-in-Some-clause-no
returns-in-Some-clause-no g c =
    run_up_to_no c.args.config.now (required_of [] c.args.rules.now) c.args.records.now c.in-Some.verdict c.keeps_limits.ensures.windows c.keeps_limits.ensures.ends c.requires.placed
    (returns-in-Some-clause-verdict g c)

pub returns-clause-verdict : goal.returns-clause-verdict
returns-clause-verdict g c =
    let pieces = c.in_ok-pieces.pieces.items in
    let surveyed = rw (c.new-lent.ensures.config, c.new-lent.ensures.first, c.new-lent.ensures.records) at
    (c.in_ok-surveyed.ensures (relations_of c.args.rules.now) pieces (rw (c.new-lent.ensures.config, c.new-lent.ensures.first) c.in_ok-pieces.ensures.going) c.in_ok-judged.ensures) in
    plain_verdict c.args.config.now (relations_of c.args.rules.now) c.args.records.now pieces c.in_ok-surveyed.surveyed None c.requires.placed c.in_ok-pieces.ensures.cold surveyed
    (sym (c.against.ensures 0 c.requires.placed) ∙ c.in-None.is)

pub returns-clause-run : goal.returns-clause-run
returns-clause-run g c =
    run_where_yes c.args.config.now (required_of [] c.args.rules.now) c.args.records.now (Yes (length c.args.records.now)) c.keeps_limits.ensures.windows c.keeps_limits.ensures.ends c.requires.placed
    (returns-clause-verdict g c)

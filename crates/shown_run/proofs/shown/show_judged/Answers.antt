use Rattle.std.proofs.Common.{◌≡◌, ◌∙◌, arith, length}
use Rattle.placement.specs.Reading.{CanFail}
use Rattle.user_rules.specs.Rules.{required_of}
use Rattle.shown_run.proofs.Answering.{configuration_of_texts, count_of_texts, end_of_texts, memory_ends}
use Rattle.shown_run.proofs.shown.show_judged.Goals as goal

pub returns-in-Err : goal.returns-in-Err
returns-in-Err g c = λ settings none.
    let can_fail : CanFail = record { recordings = g.R.TextSource.can_fail; certificate = g.C.TextSource.can_fail } in
    rw c.refused_configuration.ensures (configuration_of_texts (λ reader. g.R.TextSource.remaining reader) c.args.judged.recordings.items (g.C.TextSource.remaining c.args.judged.order) can_fail
    c.args.judged.config.now (required_of c.args.memories.now c.args.rules.now) settings c.in-Err.fault none c.in-Err.ensures.value)

pub returns-then-len-cores : goal.returns-then-len-cores
returns-then-len-cores g c = λ settings none.
    let can_fail : CanFail = record { recordings = g.R.TextSource.can_fail; certificate = g.C.TextSource.can_fail } in
    count_of_texts (λ reader. g.R.TextSource.remaining reader) c.args.judged.recordings.items (g.C.TextSource.remaining c.args.judged.order) can_fail
    c.args.judged.config.now (required_of c.args.memories.now c.args.rules.now) settings c.in-Ok.config none c.in-Ok.ensures.value
    (λ same. omega (arith, same, c.if-len-cores.true, c.len.ensures, c.cores.ensures.value, c.args.judged.recordings.ok))

pub returns-in_default : goal.returns-in_default
returns-in_default g c = λ settings none. memory_ends _ (required_of c.args.memories.now c.args.rules.now) settings c.out_of_memory.result c.out_of_memory.ensures

pub returns : goal.returns
returns g c = λ settings none.
    let can_fail : CanFail = record { recordings = g.R.TextSource.can_fail; certificate = g.C.TextSource.can_fail } in
    let readers : length c.args.judged.recordings.items ≡ c.in-Ok.config.cores = omega (arith, c.if-len-cores.false, c.len.ensures, c.cores.ensures.value, c.args.judged.recordings.ok) in
    end_of_texts (λ reader. g.R.TextSource.remaining reader) c.args.judged.recordings.items (g.C.TextSource.remaining c.args.judged.order) can_fail
    c.args.judged.config.now (required_of c.args.memories.now c.args.rules.now) settings c.in-Ok.config c.new-placer.result c.show-ending.result none c.in-Ok.ensures.value readers
    (c.new-placer.ensures.lanes ∙ c.in-Ok-open.ensures.open) (c.new-placer.ensures.pairs ∙ c.new.ensures.left) c.new-placer.ensures.taken c.new-placer.ensures.place
    c.keeps_limits.ensures.windows c.keeps_limits.ensures.ends (c.show-ending.ensures c.close.ensures.honest)

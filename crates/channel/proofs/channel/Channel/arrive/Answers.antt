use Rattle.std.proofs.Common.{◌≡◌, IfErr, IsErr, IsOk, rules}
use Rattle.std.proofs.lemmas.Result.{IfErr-weaker, err_from_is_err_and, on_ok_weaker}
use Rattle.channel.specs.Held.{AcceptsArrival}
use Rattle.channel.proofs.Arrivals.{accepted, lacks_memory, named, queuing_after, refused, sampling_after}
use Rattle.channel.proofs.Shared.{on_any_ok}
use Rattle.channel.proofs.channel.Channel.arrive.Goals as goal
use Rattle.channel.proofs.channel.Channel.arrive.Goals.{in-Sampling, in-Queuing}
use Rattle.wait_set.specs.declared.object.ObjFault.TheVariants.{Memory, Unlawful}

pub returns-in_err-map_err-clause-refused : goal.returns-in_err-map_err-clause-refused
returns-in_err-map_err-clause-refused c =
    let p = err_from_is_err_and c.from_residual.result c.from_residual.ensures.1 in
    let same : IfErr c.judge_arrival.result (λ cause. c.in_err-map_err.field-0.0 ≡ Unlawful cause) = search rules in
    let is : IsErr c.judge_arrival.result = search rules in
    rw (p.1, p.2) (refused c.judge_arrival.result c.in_err-map_err.field-0.0 c.args.crossing.now c.args.self.now is same c.judge_arrival.ensures)

pub arrive-arrived-requires : goal.arrive-arrived-requires
arrive-arrived-requires c =
    let is : IsOk c.judge_arrival.result = search rules in
    let accepts = accepted c.judge_arrival.result c.args.crossing.now c.args.self.now is c.judge_arrival.ensures in
    record { given = named _ c.in-Queuing.channel c.args.crossing.now c.args.self.now (rw c.in-Queuing.is at c.self.view_is) accepts }

pub returns-clause-ok : goal.returns-clause-ok
returns-clause-ok c =
    let is : IsOk c.judge_arrival.result = search rules in
    on_any_ok c.map_err-2.result (accepted c.judge_arrival.result c.args.crossing.now c.args.self.now is c.judge_arrival.ensures)

pub returns-clause-after : goal.returns-clause-after
returns-clause-after c =
    elim c.match-self.branch [
      | in-Sampling w ↦
          let after = on_ok_weaker w.write-arrived.result (λ is. sampling_after c.args.now c.self.inside.number w.in-Sampling.channel w.write-arrived.new.self
          c.args.crossing.now c.args.self.now (rw w.in-Sampling.is at c.self.view_is) is) w.write-arrived.ensures.ok in
          rw w.self-inside-is (search (rules, after, w.arrived-is))
      | in-Queuing w ↦
          let after = on_ok_weaker w.arrive-arrived.result (λ is. queuing_after c.args.now c.self.inside.number w.in-Queuing.channel w.arrive-arrived.new.self
          c.args.crossing.now c.args.self.now (rw w.in-Queuing.is at c.self.view_is) is) w.arrive-arrived.ensures.after in
          rw w.self-inside-is (search (rules, after, w.arrived-is))
    ]

pub returns-clause-refused : goal.returns-clause-refused
returns-clause-refused c =
    let is : IsOk c.judge_arrival.result = search rules in
    let accepts : AcceptsArrival c.args.crossing.now c.args.self.now =
    accepted c.judge_arrival.result c.args.crossing.now c.args.self.now is c.judge_arrival.ensures in
    let lacking : IfErr c.map_err-2.result (λ fault. fault ≡ Memory) = search rules in
    IfErr-weaker c.map_err-2.result _ _ (λ fault is. lacks_memory fault c.args.crossing.now c.args.self.now is accepts) lacking

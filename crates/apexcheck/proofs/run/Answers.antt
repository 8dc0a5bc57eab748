use Rattle.apexcheck.proofs.run.Goals as goal

pub returns : goal.returns
returns g c = (
  c.request_of-asked.result,
  c.carry_out-ending.result,
  c.request_of-asked.ensures,
  c.carry_out-ending.ensures,
  record {
    status_is = c.conclude-status.ensures.status;
    whole = c.conclude-status.ensures.whole;
    same = c.conclude-status.ensures.same;
    cut = c.conclude-status.ensures.cut;
    failed = c.conclude-status.ensures.failed;
  },
)

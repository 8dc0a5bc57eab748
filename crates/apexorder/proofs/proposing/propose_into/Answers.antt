use Rattle.module_config.specs.Reading.{configuration_of}
use Rattle.apexorder.proofs.Written.{received}
use Rattle.apexorder.proofs.proposing.propose_into.Goals as goal

pub returns-in-Ok-flush-clause-rows : goal.returns-in-Ok-flush-clause-rows
returns-in-Ok-flush-clause-rows g c =
    received (configuration_of c.args.text.now) c.in-Ok.config _ c.args.output.now.bytes c.propose.new.out.bytes c.flush.new.self.bytes c.propose.result
    c.in-Ok.ensures.value c.flush.ensures.bytes c.propose.ensures.prefix

pub returns-in-Ok-propose-clause-rows : goal.returns-in-Ok-propose-clause-rows
returns-in-Ok-propose-clause-rows g c =
    received (configuration_of c.args.text.now) c.in-Ok.config _ c.args.output.now.bytes c.propose.new.out.bytes c.flush.new.self.bytes c.propose.result
    c.in-Ok.ensures.value c.flush.ensures.bytes c.propose.ensures.prefix

use Rattle.std.proofs.Common.{inl, inr, length, refl}
use Rattle.module_config.specs.Reading.{configuration_of}
use Rattle.user_rules.specs.Remembered.{required_by}
use Rattle.apexorder.proofs.Searched.{memory_ends}
use Rattle.apexorder.proofs.Written.{none_received}
use Rattle.apexorder.proofs.ruled.propose_ruled.Goals as goal

pub returns-in-Ok-clause-certified : goal.returns-in-Ok-clause-certified
returns-in-Ok-clause-certified g c = λ configuration texts read known.
    let memories = c.args.file.now.memories.items in
    let relations = c.in-Ok.relations.items in
    inr (
      required_by memories relations,
      record { memories = memories; relations = relations; required = refl; remember = refl; say = rw c.deref.ensures.value at c.in-Ok.ensures },
      rw c.deref-in-Ok.ensures.value at c.propose_under.ensures.certified configuration texts read known,
    )

pub returns-in-Err : goal.returns-in-Err
returns-in-Err g c = record {
  rows = none_received (configuration_of c.args.text.now) _ c.args.output.now.bytes;
  ended = memory_ends (configuration_of c.args.text.now) (length c.args.cores.items) c.out_of_memory.result c.out_of_memory.ensures;
  certified = λ configuration texts read known. inl c.out_of_memory.ensures;
}

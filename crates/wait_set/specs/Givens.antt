-- What an operation gives its caller, as the definitions' answer.
use Rattle.std.specs.Prelude.{List, [], ◌∷◌, option_map}
use Rattle.apex_types.specs.declared.record.Who.{Who}
use Rattle.apex_machine.specs.Answer.{Answer, waiters_of}
use Rattle.apex_machine.specs.Waiting.{first_waiters}
use Rattle.wait_set.specs.declared.ended.Ended.{Ended}
use Rattle.wait_set.specs.declared.ended.Ended.TheVariants.{Nobody, One, All, First}
use Rattle.wait_set.specs.declared.given.Given.{Given}
use Rattle.wait_set.specs.Actors.{value_of}
use Rattle.wait_set.specs.GivenNumbers.{value_given}

-- the processes whose waits end
abbrev pub listed : Ended → List Who
listed Nobody = []
listed (One who) = who ∷ []
listed (All set) = waiters_of set.now.entries
listed (First set count) = waiters_of (first_waiters set.now.discipline count set.now.entries)

-- what an operation gives its caller
abbrev pub answer_given : Given → Answer
answer_given given = record {
  out = given.out;
  val = value_of (option_map value_given given.val);
  val2 = option_map value_given given.val2;
  val3 = option_map value_given given.val3;
  bytes = given.bytes.now;
  woken = listed given.woken;
}

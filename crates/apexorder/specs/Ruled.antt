-- The rules of options and of a rules file, and what an end says of them.
use Rattle.std.specs.Prelude.{◌≡◌, ◌⊎◌, ℕ, List, Option}
use Rattle.apex_machine.specs.Configuration.{Configuration}
use Rattle.asked_rules.specs.Asked.{AreRequired}
use Rattle.program_ends.specs.declared.ending.Ending.{Ending}
use Rattle.program_ends.specs.Endings.{out_of_memory}
use Rattle.asked_rules.specs.declared.option.RuleOption.{RuleOption}
use Rattle.asked_rules.specs.Reading.{SaidFile}
use Rattle.user_rules.specs.Remembered.{Requirements}
use Rattle.apexorder.specs.declared.ending.OrderEnd.{OrderEnd}
use Rattle.apexorder.specs.Endings.{IsCertifiedBy, refusing}

-- if the end is a proposal, it says what it means under the memories of the file and under relations that say what the options request,
-- followed by what the rules of the file say, in their order; a lack of memory outranks it
abbrev pub IsCertified : Configuration → List RuleOption → SaidFile → List (List ℕ) → Option (List ℕ) → Option (List ℕ) → Ending OrderEnd → Type 0
IsCertified configuration options file texts before after ending =
    (ending ≡ out_of_memory refusing)
    ⊎ ((requirements : Requirements) × AreRequired options file requirements × IsCertifiedBy configuration requirements texts before after ending)

-- The readings of the two lists of a file, one after the other.
use Rattle.std.proofs.Common.{◌≡◌, ◌∙◌, Bor, List, Vec, Global, Some, None, Ok, Err, ap, map, refl, subst, sym}
use Rattle.std.specs.Prelude.{IfErr, IfOk, IsOk, Option, Result}
use Rattle.std.specs.Result.{IsErrAnd}
use Rattle.toml.specs.Data.{Items}
use Rattle.toml.specs.View.{items_view}
use Rattle.toml.specs.declared.value.Value.{Value}
use Rattle.user_rules.specs.declared.memory.RuleMemory.{RuleMemory}
use Rattle.asked_rules.specs.declared.fault.RulesFault.TheVariants.{File, Memory}
use Rattle.asked_rules.specs.declared.refusal.RuleRefusal.{RuleRefusal}
use Rattle.asked_rules.specs.declared.refusal.RulesRefusal.{RulesRefusal}
use Rattle.asked_rules.specs.declared.rule.NamedRule.{NamedRule}
use Rattle.asked_rules.specs.declared.rules_file.RulesFile.{RulesFile}
use Rattle.asked_rules.specs.Keys.{◌>>=◌, Builds, Reads}
use Rattle.asked_rules.specs.Memories.{SaidMemory, said_memory}
use Rattle.asked_rules.specs.Reading.{GivesPlaced, SaidFile, SaidRule, memories_from, of_file, rules_from, said, said_file}

-- what a list of values is
abbrev pub seen : Bor (List Value) → Items
seen items = items_view items.now

-- a list of the file is read as the call found it
pub list_read : (found : Result (Bor (List Value)) RuleRefusal) (reading : Result Items RuleRefusal) (list : Bor (List Value)) → Reads seen found reading → Ok list ≡ of_file found
    → of_file reading ≡ Ok (seen list)
list_read (Ok given) reading list is same =
    let one : given ≡ list = cc in
    ap of_file is ∙ ap (λ (list : Bor (List Value)). Ok (seen list)) one
list_read (Err refusal) reading list is same = cc

-- or refused so
pub list_refused : (found : Result (Bor (List Value)) RuleRefusal) (reading : Result Items RuleRefusal) (fault : RulesRefusal) → Reads seen found reading → Err fault ≡ of_file found
    → of_file reading ≡ Err fault
list_refused (Ok given) reading fault is same = cc
list_refused (Err refusal) reading fault is same =
    let one : fault ≡ record { fault = File refusal.fault; key = refusal.key } = cc in
    ap of_file is ∙ ap (λ fault. Err fault) (sym one)

-- what was built is no refusal
pub is_read : {A B : Type 0} (view : A → B) (found : Option A) (reading : Result B RulesRefusal) → Builds view (Ok found) reading → IsOk reading
is_read view (Some one) reading is = rw is refl
is_read view None reading is = is

-- the memories and the rules, one after the other
abbrev pub said_both : Result (List SaidMemory) RulesRefusal → Result (List SaidRule) RulesRefusal → Result SaidFile RulesRefusal
said_both memories rules = memories >>= (λ remembered. rules >>= (λ required. Ok (record { memories = remembered; rules = required })))

-- the file of two lists
abbrev pub file_by : Result Items RulesRefusal → Result Items RulesRefusal → Result SaidFile RulesRefusal
file_by listed remembered = listed >>= (λ items. remembered >>= (λ above. said_both (memories_from above) (rules_from above items)))

pub first_refused : (listed remembered : Result Items RulesRefusal) (fault : RulesRefusal) → listed ≡ Err fault → file_by listed remembered ≡ Err fault
first_refused listed remembered fault is = rw is refl

pub second_refused : (listed remembered : Result Items RulesRefusal) (items : Items) (fault : RulesRefusal) → listed ≡ Ok items → remembered ≡ Err fault
    → file_by listed remembered ≡ Err fault
second_refused listed remembered items fault is refused = rw (is, refused) refl

pub both_listed : (listed remembered : Result Items RulesRefusal) (items above : Items) → listed ≡ Ok items → remembered ≡ Ok above
    → file_by listed remembered ≡ said_both (memories_from above) (rules_from above items)
both_listed listed remembered items above is same = rw (is, same) refl

pub memory_refused : (memories : Result (List SaidMemory) RulesRefusal) (rules : Result (List SaidRule) RulesRefusal) (fault : RulesRefusal) → memories ≡ Err fault
    → said_both memories rules ≡ Err fault
memory_refused memories rules fault is = rw is refl

pub rule_refused : (memories : Result (List SaidMemory) RulesRefusal) (rules : Result (List SaidRule) RulesRefusal) (fault : RulesRefusal) → IsOk memories → rules ≡ Err fault
    → said_both memories rules ≡ Err fault
rule_refused (Ok remembered) rules fault read is = rw is refl
rule_refused (Err found) rules fault read is = cc

-- the file is what was built of both
pub file_read : (memories : Option (Vec RuleMemory Global)) (rules : Option (Vec NamedRule Global)) (first : Result (List SaidMemory) RulesRefusal) (second : Result (List SaidRule) RulesRefusal)
    → Builds (λ built. map said_memory built.items) (Ok memories) first → Builds (λ built. map said built.items) (Ok rules) second
    → (result : Result RulesFile RulesRefusal) → IfOk result (λ file. (memories ≡ Some file.memories) × (rules ≡ Some file.rules)) → IfErr result (λ refusal. refusal.fault ≡ Memory)
    → GivesPlaced said_file result (said_both first second)
file_read memories rules first second one two (Ok file) (remembered, required) lacking =
    let first_is : first ≡ Ok (map said_memory file.memories.items) =
    subst (λ found. Builds (λ (built : Vec RuleMemory Global). map said_memory built.items) (Ok found) first) remembered one in
    let second_is : second ≡ Ok (map said file.rules.items) =
    subst (λ found. Builds (λ (built : Vec NamedRule Global). map said built.items) (Ok found) second) required two in
    rw (first_is, second_is) refl
file_read memories rules first second one two (Err refusal) built lacking = λ other. absurd (other lacking)

-- what was built of a list is the reading, and if the reading is a refusal, it is the answer
pub built_so : {A B : Type 0} (view : A → B) (found : Result (Option A) RulesRefusal) (reading : Result B RulesRefusal) → Builds view found reading
    → IfErr reading (λ refusal. found ≡ Err refusal)
built_so view (Ok (Some one)) reading is = rw is tt
built_so view (Ok None) (Ok value) is = tt
built_so view (Ok None) (Err refusal) is = cc
built_so view (Err refusal) reading is = rw is refl

-- a file that is read is no refusal
pub read_so : (memories : Result (List SaidMemory) RulesRefusal) (rules : Result (List SaidRule) RulesRefusal) (result : Result RulesFile RulesRefusal) → IsOk memories → IsOk rules
    → IfErr (said_both memories rules) (λ refusal. result ≡ Err refusal)
read_so (Ok remembered) (Ok required) result read both = tt
read_so (Ok remembered) (Err refusal) result read both = cc
read_so (Err refusal) rules result read both = cc

-- the refusal where the walk stops is the answer
pub stops_so : (result : Result RulesFile RulesRefusal) (reading : Result SaidFile RulesRefusal) (fault : RulesRefusal) → IsErrAnd result (λ given. given ≡ fault) → reading ≡ Err fault
    → IfErr reading (λ refusal. result ≡ Err refusal)
stops_so (Ok file) reading fault same is = absurd same
stops_so (Err given) reading fault same is = rw (is, same) refl

-- where the walk stops
pub stops : (result : Result RulesFile RulesRefusal) (reading : Result SaidFile RulesRefusal) (fault : RulesRefusal) → IsErrAnd result (λ given. given ≡ fault) → reading ≡ Err fault
    → GivesPlaced said_file result reading
stops (Ok file) reading fault same is = absurd same
stops (Err given) reading fault same is = λ other. is ∙ ap (λ fault. Err fault) (sym same)

-- How a run of a program ends: its exit status and its text.
use Rattle.std.specs.Prelude.{ℕ, List, ◌++◌, codes, decimal}
use Rattle.report.specs.declared.fault.CheckFault.{CheckFault}
use Rattle.report.specs.declared.fault.CheckFault.TheVariants as fault
use Rattle.asked_rules.specs.declared.fault.RuleFault.{RuleFault}
use Rattle.asked_rules.specs.declared.fault.RuleFault.TheVariants as rule
use Rattle.asked_rules.specs.declared.fault.RulesFault.{RulesFault}
use Rattle.asked_rules.specs.declared.fault.RulesFault.TheVariants as rules
use Rattle.program_ends.specs.declared.ending.Ending.{Ending}
use Rattle.program_ends.specs.declared.ending.Ending.TheVariants.{Own, BadUsage, Unopened, BadRules, BadMemory, BadRule}
use Rattle.program_ends.specs.declared.refused.UsageFault.{UsageFault}
use Rattle.program_ends.specs.declared.refused.UsageFault.TheVariants as usage

-- the status of the program's own end, and 2 for what kept the run from it
abbrev pub exit_status_of : {End : Type 0} → (End → ℕ) → Ending End → ℕ
exit_status_of status_of (Own end) = status_of end
exit_status_of status_of _ = 2

-- the name of a fault of a memory, of a rule, or of a rules file
abbrev pub rule_fault_name : RuleFault → List ℕ
rule_fault_name rule.NotToml = codes "NotToml"
rule_fault_name rule.TooMany = codes "TooMany"
rule_fault_name rule.UnknownKey = codes "UnknownKey"
rule_fault_name rule.Missing = codes "Missing"
rule_fault_name rule.WrongType = codes "WrongType"
rule_fault_name rule.BadName = codes "BadName"
rule_fault_name rule.UnknownField = codes "UnknownField"
rule_fault_name rule.UnknownName = codes "UnknownName"
rule_fault_name rule.UnknownMemory = codes "UnknownMemory"
rule_fault_name rule.SameName = codes "SameName"
rule_fault_name rule.UnknownHolder = codes "UnknownHolder"
rule_fault_name rule.Empty = codes "Empty"
rule_fault_name rule.TooDeep = codes "TooDeep"

-- the refusal of a rules file for this fault
abbrev pub rules_text : RuleFault → List ℕ
rules_text which = codes "REFUSED rules fault=" ++ (rule_fault_name which ++ codes "\n")

-- the refusal of the memory with this number for this fault
abbrev pub memory_text : ℕ → RuleFault → List ℕ
memory_text number which =
    codes "REFUSED rules memory=" ++ (decimal number ++ (codes " fault=" ++ (rule_fault_name which ++ codes "\n")))

-- the refusal of the rule with this number for this fault
abbrev pub rule_text : ℕ → RuleFault → List ℕ
rule_text number which =
    codes "REFUSED rules rule=" ++ (decimal number ++ (codes " fault=" ++ (rule_fault_name which ++ codes "\n")))

-- the text of the program's own end, or the refusal of what kept the run from it
abbrev pub text_of : {End : Type 0} → (End → List ℕ) → Ending End → List ℕ
text_of own (Own end) = own end
text_of own BadUsage = codes "REFUSED usage\n"
text_of own Unopened = codes "REFUSED open\n"
text_of own (BadRules which) = rules_text which
text_of own (BadMemory number which) = memory_text number which
text_of own (BadRule number which) = rule_text number which

-- the end by a lack of memory, which counts as the program's own
abbrev pub out_of_memory : {End : Type 0} → (CheckFault → End) → Ending End
out_of_memory refusing = Own (refusing fault.Memory)

-- the end by a refusal of the command line; a lack of memory counts as the program's own
abbrev pub refused_words : {End : Type 0} → (CheckFault → End) → UsageFault → Ending End
refused_words refusing usage.Usage = BadUsage
refused_words refusing usage.Memory = out_of_memory refusing

-- the end by a refusal of a rules file; a lack of memory counts as the program's own
abbrev pub refused_rules : {End : Type 0} → (CheckFault → End) → RulesFault → Ending End
refused_rules refusing (rules.File which) = BadRules which
refused_rules refusing (rules.RuleMemory number which) = BadMemory number which
refused_rules refusing (rules.Rule number which) = BadRule number which
refused_rules refusing rules.Memory = out_of_memory refusing

use Rattle.std.proofs.Common.{◌≡◌, ◌∙◌, Vec, Global, Err, codes, map, subst, sym}
use Rattle.std.specs.Prelude.{IfErr}
use Rattle.toml.specs.Data.{get_member}
use Rattle.toml.specs.View.{table_view}
use Rattle.user_rules.specs.declared.memory.RuleMemory.{RuleMemory}
use Rattle.asked_rules.specs.declared.rule.NamedRule.{NamedRule}
use Rattle.asked_rules.specs.Memories.{said_memory}
use Rattle.asked_rules.specs.Reading.{GivesPlaced, listed_under, memories_from, memories_listed, of_file, rules_from, rules_under, said, said_file}
use Rattle.asked_rules.proofs.Files.{both_listed, file_read, first_refused, is_read, list_read, list_refused, memory_refused, read_so, rule_refused, second_refused, seen, stops, stops_so}
use Rattle.asked_rules.proofs.text.rules_under.Goals as goal

pub returns-in_err-items-clause-value : goal.returns-in_err-items-clause-value
returns-in_err-items-clause-value c =
    let keys = table_view c.args.keys.now in
    let fault = c.in_err-items.field-0.0 in
    let refused = list_refused c.listed_under-listed.result (listed_under keys) fault c.listed_under-listed.ensures c.in_err-items.ensures in
    stops c.from_residual.result (rules_under keys) fault c.from_residual.ensures.1
    (first_refused (of_file (listed_under keys)) (of_file (memories_listed (get_member (codes "memory") keys))) fault refused)

pub returns-in_err-items-clause-refused : goal.returns-in_err-items-clause-refused
returns-in_err-items-clause-refused c =
    let keys = table_view c.args.keys.now in
    let fault = c.in_err-items.field-0.0 in
    let refused = list_refused c.listed_under-listed.result (listed_under keys) fault c.listed_under-listed.ensures c.in_err-items.ensures in
    stops_so c.from_residual.result (rules_under keys) fault c.from_residual.ensures.1
    (first_refused (of_file (listed_under keys)) (of_file (memories_listed (get_member (codes "memory") keys))) fault refused)

pub returns-in_err-above-clause-value : goal.returns-in_err-above-clause-value
returns-in_err-above-clause-value c =
    let keys = table_view c.args.keys.now in
    let fault = c.in_err-above.field-0.0 in
    let remembered = memories_listed (get_member (codes "memory") keys) in
    let listed = list_read c.listed_under-listed.result (listed_under keys) c.in_ok-items.items c.listed_under-listed.ensures c.in_ok-items.ensures in
    let refused = list_refused c.memories_listed-remembered.result remembered fault c.memories_listed-remembered.ensures c.in_err-above.ensures in
    stops c.from_residual-in_err-above.result (rules_under keys) fault c.from_residual-in_err-above.ensures.1
    (second_refused (of_file (listed_under keys)) (of_file remembered) (seen c.in_ok-items.items) fault listed refused)

pub returns-in_err-above-clause-refused : goal.returns-in_err-above-clause-refused
returns-in_err-above-clause-refused c =
    let keys = table_view c.args.keys.now in
    let fault = c.in_err-above.field-0.0 in
    let remembered = memories_listed (get_member (codes "memory") keys) in
    let listed = list_read c.listed_under-listed.result (listed_under keys) c.in_ok-items.items c.listed_under-listed.ensures c.in_ok-items.ensures in
    let refused = list_refused c.memories_listed-remembered.result remembered fault c.memories_listed-remembered.ensures c.in_err-above.ensures in
    stops_so c.from_residual-in_err-above.result (rules_under keys) fault c.from_residual-in_err-above.ensures.1
    (second_refused (of_file (listed_under keys)) (of_file remembered) (seen c.in_ok-items.items) fault listed refused)

pub returns-in_err-memories-clause-value : goal.returns-in_err-memories-clause-value
returns-in_err-memories-clause-value c =
    let keys = table_view c.args.keys.now in
    let fault = c.in_err-memories.field-0.0 in
    let remembered = memories_listed (get_member (codes "memory") keys) in
    let items = seen c.in_ok-items.items in
    let above = seen c.in_ok-above.above in
    let listed = list_read c.listed_under-listed.result (listed_under keys) c.in_ok-items.items c.listed_under-listed.ensures c.in_ok-items.ensures in
    let also = list_read c.memories_listed-remembered.result remembered c.in_ok-above.above c.memories_listed-remembered.ensures c.in_ok-above.ensures in
    stops c.from_residual-in_err-memories.result (rules_under keys) fault c.from_residual-in_err-memories.ensures.1
    (both_listed (of_file (listed_under keys)) (of_file remembered) items above listed also ∙ memory_refused (memories_from above) (rules_from above items) fault c.in_err-memories.ensures)

pub returns-in_err-memories-clause-refused : goal.returns-in_err-memories-clause-refused
returns-in_err-memories-clause-refused c =
    let keys = table_view c.args.keys.now in
    let fault = c.in_err-memories.field-0.0 in
    let remembered = memories_listed (get_member (codes "memory") keys) in
    let items = seen c.in_ok-items.items in
    let above = seen c.in_ok-above.above in
    let listed = list_read c.listed_under-listed.result (listed_under keys) c.in_ok-items.items c.listed_under-listed.ensures c.in_ok-items.ensures in
    let also = list_read c.memories_listed-remembered.result remembered c.in_ok-above.above c.memories_listed-remembered.ensures c.in_ok-above.ensures in
    stops_so c.from_residual-in_err-memories.result (rules_under keys) fault c.from_residual-in_err-memories.ensures.1
    (both_listed (of_file (listed_under keys)) (of_file remembered) items above listed also ∙ memory_refused (memories_from above) (rules_from above items) fault c.in_err-memories.ensures)

pub returns-in_err-rules-clause-value : goal.returns-in_err-rules-clause-value
returns-in_err-rules-clause-value c =
    let keys = table_view c.args.keys.now in
    let fault = c.in_err-rules.field-0.0 in
    let remembered = memories_listed (get_member (codes "memory") keys) in
    let items = seen c.in_ok-items.items in
    let above = seen c.in_ok-above.above in
    let listed = list_read c.listed_under-listed.result (listed_under keys) c.in_ok-items.items c.listed_under-listed.ensures c.in_ok-items.ensures in
    let also = list_read c.memories_listed-remembered.result remembered c.in_ok-above.above c.memories_listed-remembered.ensures c.in_ok-above.ensures in
    let read = is_read (λ (built : Vec RuleMemory Global). map said_memory built.items) c.in_ok-memories.memories (memories_from above) c.in_ok-memories.ensures in
    stops c.from_residual-in_err-rules.result (rules_under keys) fault c.from_residual-in_err-rules.ensures.1
    (both_listed (of_file (listed_under keys)) (of_file remembered) items above listed also ∙ rule_refused (memories_from above) (rules_from above items) fault read c.in_err-rules.ensures.value)

pub returns-in_err-rules-clause-refused : goal.returns-in_err-rules-clause-refused
returns-in_err-rules-clause-refused c =
    let keys = table_view c.args.keys.now in
    let fault = c.in_err-rules.field-0.0 in
    let remembered = memories_listed (get_member (codes "memory") keys) in
    let items = seen c.in_ok-items.items in
    let above = seen c.in_ok-above.above in
    let listed = list_read c.listed_under-listed.result (listed_under keys) c.in_ok-items.items c.listed_under-listed.ensures c.in_ok-items.ensures in
    let also = list_read c.memories_listed-remembered.result remembered c.in_ok-above.above c.memories_listed-remembered.ensures c.in_ok-above.ensures in
    let read = is_read (λ (built : Vec RuleMemory Global). map said_memory built.items) c.in_ok-memories.memories (memories_from above) c.in_ok-memories.ensures in
    stops_so c.from_residual-in_err-rules.result (rules_under keys) fault c.from_residual-in_err-rules.ensures.1
    (both_listed (of_file (listed_under keys)) (of_file remembered) items above listed also ∙ rule_refused (memories_from above) (rules_from above items) fault read c.in_err-rules.ensures.value)

pub returns-clause-value : goal.returns-clause-value
returns-clause-value c =
    let keys = table_view c.args.keys.now in
    let remembered = memories_listed (get_member (codes "memory") keys) in
    let items = seen c.in_ok-items.items in
    let above = seen c.in_ok-above.above in
    let listed = list_read c.listed_under-listed.result (listed_under keys) c.in_ok-items.items c.listed_under-listed.ensures c.in_ok-items.ensures in
    let also = list_read c.memories_listed-remembered.result remembered c.in_ok-above.above c.memories_listed-remembered.ensures c.in_ok-above.ensures in
    subst (GivesPlaced said_file c.put_together.result) (sym (both_listed (of_file (listed_under keys)) (of_file remembered) items above listed also))
    (file_read c.in_ok-memories.memories c.in_ok-rules.rules (memories_from above) (rules_from above items) c.in_ok-memories.ensures c.in_ok-rules.ensures.value
    c.put_together.result c.put_together.ensures.built c.put_together.ensures.memory)

pub returns-clause-refused : goal.returns-clause-refused
returns-clause-refused c =
    let keys = table_view c.args.keys.now in
    let remembered = memories_listed (get_member (codes "memory") keys) in
    let items = seen c.in_ok-items.items in
    let above = seen c.in_ok-above.above in
    let listed = list_read c.listed_under-listed.result (listed_under keys) c.in_ok-items.items c.listed_under-listed.ensures c.in_ok-items.ensures in
    let also = list_read c.memories_listed-remembered.result remembered c.in_ok-above.above c.memories_listed-remembered.ensures c.in_ok-above.ensures in
    subst (λ reading. IfErr reading (λ refusal. c.put_together.result ≡ Err refusal)) (sym (both_listed (of_file (listed_under keys)) (of_file remembered) items above listed also))
    (read_so (memories_from above) (rules_from above items) c.put_together.result
    (is_read (λ (built : Vec RuleMemory Global). map said_memory built.items) c.in_ok-memories.memories (memories_from above) c.in_ok-memories.ensures)
    (is_read (λ (built : Vec NamedRule Global). map said built.items) c.in_ok-rules.rules (rules_from above items) c.in_ok-rules.ensures.value))

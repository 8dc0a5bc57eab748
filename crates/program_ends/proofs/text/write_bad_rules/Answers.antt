use Rattle.program_ends.proofs.text.write_bad_rules.Goals as goal

pub returns-clause-whole : goal.returns-clause-whole
returns-clause-whole g c = rw c.name_of_rule_fault.ensures at c.put_parts.ensures.whole

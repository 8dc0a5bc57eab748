use Rattle.program_ends.proofs.text.write_bad_memory.Goals as goal

pub returns-clause-whole : goal.returns-clause-whole
returns-clause-whole g c = rw (c.as_bytes.ensures.value, c.format.ensures.text, c.name_of_rule_fault.ensures) at c.put_parts.ensures.whole

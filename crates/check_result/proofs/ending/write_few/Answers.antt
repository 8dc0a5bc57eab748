use Rattle.check_result.proofs.ending.write_few.Goals as goal

pub returns-clause-whole : goal.returns-clause-whole
returns-clause-whole g c = rw (c.as_bytes.ensures.value, c.format.ensures.text) at c.put_parts.ensures.whole

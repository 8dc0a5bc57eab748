use Rattle.report.proofs.text.write_verdict.Goals as goal

pub returns-in-Yes-clause-whole : goal.returns-in-Yes-clause-whole
returns-in-Yes-clause-whole g c = rw c.in-Yes.is (rw (c.as_bytes.ensures.value, c.format.ensures.text) at c.put_parts.ensures.whole)

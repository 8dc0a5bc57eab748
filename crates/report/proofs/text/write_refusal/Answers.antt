use Rattle.report.proofs.text.write_refusal.Goals as goal

pub returns-in-Arguments-clause-whole : goal.returns-in-Arguments-clause-whole
returns-in-Arguments-clause-whole g c = rw c.in-Arguments.is (rw c.name_of_argument_fault.ensures at c.put_parts.ensures.whole)

pub returns-in-Config-clause-whole : goal.returns-in-Config-clause-whole
returns-in-Config-clause-whole g c = rw c.in-Config.is (rw c.name_of_config_fault.ensures at c.put_parts-in-Config.ensures.whole)

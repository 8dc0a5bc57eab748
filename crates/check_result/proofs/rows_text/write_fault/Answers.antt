use Rattle.std.proofs.Common.{◌∙◌}
use Rattle.check_result.proofs.rows_text.write_fault.Goals as goal

pub returns-clause-whole : goal.returns-clause-whole
returns-clause-whole g c =
    let first = (c.as_bytes.ensures.value ∙ c.format.ensures.text) in
    let second = (c.as_bytes-2.ensures.value ∙ c.format-2.ensures.text) in
    rw c.in-Some.is (rw (first, second, c.name_of_row_fault.ensures) at c.put_parts.ensures.whole)

use Rattle.std.proofs.Common.{◌∙◌}
use Rattle.report.proofs.text.write_input_refusal.Goals as goal

pub returns-in-Cert-clause-whole : goal.returns-in-Cert-clause-whole
returns-in-Cert-clause-whole g c =
    rw c.in-Cert.is (rw (c.as_bytes.ensures.value, c.format.ensures.text, c.name_of_cert_fault.ensures) at c.put_parts.ensures.whole)

pub returns-in-Order-clause-whole : goal.returns-in-Order-clause-whole
returns-in-Order-clause-whole g c =
    let first = (c.as_bytes-in-Order.ensures.value ∙ c.format-in-Order.ensures.text) in
    let second = (c.as_bytes-in-Order-2.ensures.value ∙ c.format-in-Order-2.ensures.text) in
    rw c.in-Order.is (rw (first, second, c.name_of_order_fault.ensures) at c.put_parts-in-Order.ensures.whole)

pub returns-in-Row-clause-whole : goal.returns-in-Row-clause-whole
returns-in-Row-clause-whole g c =
    let first = (c.as_bytes-in-Row.ensures.value ∙ c.format-in-Row.ensures.text) in
    let second = (c.as_bytes-in-Row-2.ensures.value ∙ c.format-in-Row-2.ensures.text) in
    rw c.in-Row.is (rw (first, second, c.name_of_row_fault.ensures) at c.put_parts-in-Row.ensures.whole)

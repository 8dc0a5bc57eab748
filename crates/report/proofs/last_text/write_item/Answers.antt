use Rattle.report.proofs.last_text.write_item.Goals as goal

pub returns-clause-whole : goal.returns-clause-whole
returns-clause-whole g c =
    rw (
      c.as_bytes.ensures.value,
      c.format.ensures.text,
      c.number.ensures.number,
      c.as_bytes-2.ensures.value,
      c.format-2.ensures.text,
      c.number-2.ensures,
      c.as_bytes-3.ensures.value,
      c.format-3.ensures.text,
      c.name_of_kind.ensures,
    ) at c.put_parts.ensures.whole

use Rattle.std.proofs.Common.{◌≡◌, true}
use Rattle.check_result.specs.RowsText.{are_sound}
use Rattle.check_result.proofs.rows_text.write_rows.Goals as goal

pub returns-clause-whole : goal.returns-clause-whole
returns-clause-whole g c =
    let sound : are_sound c.args.found.now ≡ true = cc in
    rw sound (rw (c.as_bytes.ensures.value, c.format.ensures.text, c.record_count.ensures) at c.put_parts.ensures.whole)

use Rattle.std.proofs.Common.{◌∙◌, get_or, sym, refl, arith}
use Rattle.csv_rows.proofs.Numbers.{IsDigit, digit_range, read_more, read_none, read_writes}
use Rattle.csv_rows.proofs.numbered.number_at.Goals as goal

pub digits-init : goal.digits-init
digits-init c = record { read = read_none c.args.text.now; short = omega arith }

pub digits-preserved : goal.digits-preserved
digits-preserved c =
    let text = c.args.text.now in
    let byte = get_or text c.digits.digits 0 in
    let digit : IsDigit byte = sym c.is_ascii_digit.ensures.value ∙ c.if-is_ascii_digit.true in
    record {
      read = read_more text c.digits.digits c.digits.number byte c.digits.invariant.read c.digits-test.true refl digit;
      short = omega (arith, (digit_range byte digit).1, c.if-number-lt-GREAT.true);
    }

pub returns : goal.returns
returns c =
    read_writes c.args.text.now c.digits.digits c.digits.number c.digits.invariant.read (omega (arith, c.if-digits-eq0.false))
    (c.has_spare_zero.ensures c.if-has_spare_zero.false)

use Rattle.std.proofs.Common.{◌∙◌, Some, ap, arith, sym}
use Rattle.user_rules.specs.declared.quantity.Quantity.TheVariants as quantity
use Rattle.asked_rules.specs.declared.side.Side.{Side}
use Rattle.asked_rules.proofs.Above.{found_here, none_found, passed_over}
use Rattle.asked_rules.proofs.side.find_memory.Goals as goal

pub returns-then-is_named : goal.returns-then-is_named
returns-then-is_named c =
    let number = c.loop-number.number in
    let found = found_here c.args.above.now c.args.name.now number c.index-above-number.result (omega arith) c.index-above-number.is
    (sym c.is_named.ensures ∙ c.if-is_named.true) in
    ap (λ names. let side : Side = record { quantity = quantity.Memory number; names = names } in Some side) c.taken_field.ensures ∙ sym found ∙ c.loop-number.invariant

pub loop-number-preserved : goal.loop-number-preserved
loop-number-preserved c =
    let passed = passed_over c.args.above.now c.args.name.now c.loop-number.number c.index-above-number.result (omega arith) c.index-above-number.is
    (sym c.is_named.ensures ∙ c.if-is_named.false) in
    sym passed ∙ c.loop-number.invariant

pub returns : goal.returns
returns c = sym (none_found c.args.above.now c.args.name.now c.loop-number.number (omega arith)) ∙ c.loop-number.invariant

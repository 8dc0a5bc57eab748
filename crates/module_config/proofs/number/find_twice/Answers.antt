use Rattle.std.proofs.Common.{◌≡◌, true, nat_eq, sym, ◌∙◌, arith}
use Rattle.std.proofs.lemmas.Bool.Decides.{nat_tests}
use Rattle.module_config.proofs.Shown.{two-counted}
use Rattle.module_config.proofs.number.find_twice.Goals as goal

pub returns-then-has_number-clause-twice : goal.returns-then-has_number-clause-twice
returns-then-has_number-clause-twice g c =
    let number_of = g.Item.Numbered.number_of in
    let item = c.index-items-index.result in
    let same : nat_eq (number_of item) (number_of item) ≡ true = grind (arith, nat_tests) in
    let later = rw c.number.ensures at (sym c.has_number.ensures ∙ c.if-has_number.true) in
    two-counted (λ other. nat_eq (number_of other) (number_of item)) c.args.items.now c.loop-index.index item (omega arith) c.index-items-index.is same later

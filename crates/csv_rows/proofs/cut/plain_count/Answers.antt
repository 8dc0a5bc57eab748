use Rattle.std.proofs.Common.{arith, inl, inr}
use Rattle.std.specs.Prelude.{bit_or}
use Rattle.std.proofs.lemmas.Bool.{cases_lt}
use Rattle.csv_rows.proofs.Masks.{end_marked, plain_unmarked, some_marked, special_marked}
use Rattle.csv_rows.proofs.cut.plain_count.Goals as goal

pub lowest-requires : goal.lowest-requires
lowest-requires c = some_marked (bit_or (bit_or c.marks_of-quotes.result c.marks_of-returns.result) c.marks_of-feeds.result)

pub returns-clause-most : goal.returns-clause-most
returns-clause-most c =
    let marks = bit_or (bit_or c.marks_of-quotes.result c.marks_of-returns.result) c.marks_of-feeds.result in
    elim (cases_lt 32 c.lowest.result) [
      | inl past ↦ absurd (omega (arith, c.lowest.ensures.below 32 past, end_marked marks))
      | inr most ↦ most
    ]

pub returns-clause-plain : goal.returns-clause-plain
returns-clause-plain c k below =
    plain_unmarked c.args.text.now c.args.at c.marks_of-quotes.result c.marks_of-returns.result c.marks_of-feeds.result
    c.marks_of-quotes.ensures c.marks_of-returns.ensures c.marks_of-feeds.ensures k (omega (arith, below, returns-clause-most c)) (c.lowest.ensures.below k below)

pub returns-clause-special : goal.returns-clause-special
returns-clause-special c low =
    special_marked c.args.text.now c.args.at c.marks_of-quotes.result c.marks_of-returns.result c.marks_of-feeds.result
    c.marks_of-quotes.ensures c.marks_of-returns.ensures c.marks_of-feeds.ensures c.lowest.result low c.lowest.ensures.set

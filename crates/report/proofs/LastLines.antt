-- The lines of the last records go out one after another.
use Rattle.std.proofs.Common.{◌≡◌, ◌<◌, ◌+◌, ◌∙◌, ℕ, zero, suc, List, [], ◌∷◌, ◌++◌, Option, Some, None, drop, length, take, arith, refl, sym, ap, subst, append_assoc}
use Rattle.std.proofs.lemmas.List.{append-nil}
use Rattle.std.proofs.lemmas.Option.{slice_get_cases}
use Rattle.std.specs.Prelude.{slice_get}
use Rattle.sink.specs.Taken.{with_more}
use Rattle.sink.specs.Written.{IsCut, IsWritten}
use Rattle.report.specs.declared.last.LastItem.{LastItem}
use Rattle.report.specs.Last.{last_line, last_lines}
use Rattle.report.proofs.Onward.{first_cut, second_cut, with_more_twice}

-- there is an item at each index
pub some_item : (items : List LastItem) (index : ℕ) → index < length items → ◌≡◌ {A = Option LastItem} (slice_get items index) None → ⊥
some_item items index within none = grind (arith, slice_get_cases)

-- the lines up to an item and its own
line_by_line : (items : List LastItem) (index : ℕ) (item : LastItem) → slice_get items index ≡ Some item → last_lines (take (suc index) items) ≡ last_lines (take index items) ++ last_line item
line_by_line [] index item is = let none : ◌≡◌ {A = Option LastItem} None (Some item) = is in cc
line_by_line (one ∷ items) zero item is = let same : one ≡ item = cc in append-nil (last_line one) ∙ ap last_line same
line_by_line (one ∷ items) (suc index) item is = ap (λ list. last_line one ++ list) (line_by_line items index item is) ∙ sym (append_assoc (last_line one) (last_lines (take index items)) (last_line item))

-- all lines, by those up to an item and what is after them
all_lines : (items : List LastItem) (index : ℕ) → last_lines items ≡ last_lines (take index items) ++ last_lines (drop index items)
all_lines [] zero = refl
all_lines [] (suc index) = refl
all_lines (one ∷ items) zero = refl
all_lines (one ∷ items) (suc index) = ap (λ list. last_line one ++ list) (all_lines items index) ∙ sym (append_assoc (last_line one) (last_lines (take index items)) (last_lines (drop index items)))

-- one more line is out
pub line_out : (before now after : Option (List ℕ)) (items : List LastItem) (index : ℕ) (item : LastItem) → slice_get items index ≡ Some item → IsWritten before (last_lines (take index items)) now
    → IsWritten now (last_line item) after → IsWritten before (last_lines (take (index + 1) items)) after
line_out before now after items index item is out more =
    more ∙ ap (λ known. with_more known (last_line item)) out ∙ with_more_twice before (last_lines (take index items)) (last_line item)
    ∙ ap (with_more before) (sym (line_by_line items index item is))
    ∙ ap (λ count. with_more before (last_lines (take count items))) (let e : suc index ≡ index + 1 = omega arith in e)

-- a line that is cut cuts them all
pub line_cut : (before now after : Option (List ℕ)) (items : List LastItem) (index : ℕ) (item : LastItem) → slice_get items index ≡ Some item → IsWritten before (last_lines (take index items)) now
    → IsCut now (last_line item) after → IsCut before (last_lines items) after
line_cut before now after items index item is out cut =
    let up_to = last_lines (take index items) in
    let rest = last_lines (drop (suc index) items) in
    subst (λ lines. IsCut before lines after) (ap (λ list. list ++ rest) (sym (line_by_line items index item is)) ∙ sym (all_lines items (suc index)))
    (first_cut before after (up_to ++ last_line item) rest (second_cut before now after up_to (last_line item) out cut))

-- The lines for the faults of recordings go out one after another.
use Rattle.std.proofs.Common.{◌≡◌, ◌+◌, ◌∙◌, ℕ, zero, suc, List, [], ◌∷◌, ◌++◌, Option, Some, None, drop, take, arith, refl, sym, ap, subst, append_assoc}
use Rattle.std.proofs.lemmas.List.{append-nil}
use Rattle.std.specs.Prelude.{slice_get}
use Rattle.rows_check.specs.declared.found.RowsFound.{RowsFound}
use Rattle.sink.specs.Taken.{with_more}
use Rattle.sink.specs.Written.{IsCut, IsWritten}
use Rattle.report.proofs.Onward.{first_cut, second_cut, with_more_twice}
use Rattle.check_result.specs.RowsText.{fault_line, fault_lines}

-- the line of the recording of this number
line_of : ℕ → RowsFound → List ℕ
line_of core one = fault_line core one.records one.fault

-- the lines up to a recording and its own
line_by_line : (first : ℕ) (found : List RowsFound) (index : ℕ) (one : RowsFound) → slice_get found index ≡ Some one
    → fault_lines first (take (suc index) found) ≡ fault_lines first (take index found) ++ line_of (first + index) one
unfolding line_of
line_by_line first [] index one is = let none : ◌≡◌ {A = Option RowsFound} None (Some one) = is in cc
line_by_line first (other ∷ found) zero one is =
    let same : other ≡ one = cc in
    let number : first ≡ first + 0 = omega arith in
    append-nil (line_of first other) ∙ ap (line_of first) same ∙ ap (λ core. line_of core one) number
line_by_line first (other ∷ found) (suc index) one is =
    let number : suc first + index ≡ first + suc index = omega arith in
    ap (λ list. line_of first other ++ list) (line_by_line (suc first) found index one is ∙ ap (λ core. fault_lines (suc first) (take index found) ++ line_of core one) number)
    ∙ sym (append_assoc (line_of first other) (fault_lines (suc first) (take index found)) (line_of (first + suc index) one))

-- all lines, by those up to a recording and what is after them
all_lines : (first : ℕ) (found : List RowsFound) (index : ℕ) → fault_lines first found ≡ fault_lines first (take index found) ++ fault_lines (first + index) (drop index found)
all_lines first [] zero = refl
all_lines first [] (suc index) = refl
all_lines first (one ∷ found) zero = let number : first ≡ first + 0 = omega arith in ap (λ core. fault_lines core (one ∷ found)) number
all_lines first (one ∷ found) (suc index) =
    let number : suc first + index ≡ first + suc index = omega arith in
    ap (λ list. fault_line first one.records one.fault ++ list)
    (all_lines (suc first) found index ∙ ap (λ core. fault_lines (suc first) (take index found) ++ fault_lines core (drop index found)) number)
    ∙ sym (append_assoc (fault_line first one.records one.fault) (fault_lines (suc first) (take index found)) (fault_lines (first + suc index) (drop index found)))

-- the same from the first recording on
from_first : (found : List RowsFound) (index : ℕ) (one : RowsFound) → slice_get found index ≡ Some one
    → fault_lines 0 (take (suc index) found) ≡ fault_lines 0 (take index found) ++ line_of index one
from_first found index one is =
    let number : 0 + index ≡ index = omega arith in
    line_by_line 0 found index one is ∙ ap (λ core. fault_lines 0 (take index found) ++ line_of core one) number

-- one more line is out
pub line_out : (before now after : Option (List ℕ)) (found : List RowsFound) (index : ℕ) (one : RowsFound) → slice_get found index ≡ Some one
    → IsWritten before (fault_lines 0 (take index found)) now → IsWritten now (fault_line index one.records one.fault) after
    → IsWritten before (fault_lines 0 (take (index + 1) found)) after
unfolding line_of
line_out before now after found index one is out more =
    more ∙ ap (λ known. with_more known (line_of index one)) out ∙ with_more_twice before (fault_lines 0 (take index found)) (line_of index one)
    ∙ ap (with_more before) (sym (from_first found index one is))
    ∙ ap (λ count. with_more before (fault_lines 0 (take count found))) (let e : suc index ≡ index + 1 = omega arith in e)

-- a line that is cut cuts them all
pub line_cut : (before now after : Option (List ℕ)) (found : List RowsFound) (index : ℕ) (one : RowsFound) → slice_get found index ≡ Some one
    → IsWritten before (fault_lines 0 (take index found)) now → IsCut now (fault_line index one.records one.fault) after → IsCut before (fault_lines 0 found) after
unfolding line_of
line_cut before now after found index one is out cut =
    let up_to = fault_lines 0 (take index found) in
    let rest = fault_lines (0 + suc index) (drop (suc index) found) in
    subst (λ lines. IsCut before lines after) (ap (λ list. list ++ rest) (sym (from_first found index one is)) ∙ sym (all_lines 0 found (suc index)))
    (first_cut before after (up_to ++ line_of index one) rest (second_cut before now after up_to (line_of index one) out cut))

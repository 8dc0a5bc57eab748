-- What memories keep: one holder, one memory, and one memory after another.
use Rattle.std.proofs.Common.{◌≡◌, ◌≢◌, ◌<◌, ◌≤◌, ◌+◌, ◌∙◌, ℕ, zero, suc, List, [], ◌∷◌, ◌++◌, length, take, drop, set, get_or, arith, ap, eq-eqb, ne_eqb, refl, sym}
use Rattle.std.proofs.lemmas.List.{append_assoc, drop-set-lt, drop_all, drop_more, take-append-drop, take_more_set}
use Rattle.apex_types.specs.declared.view.View.{View}
use Rattle.user_rules.specs.declared.memory.Cell.{Cell}
use Rattle.user_rules.specs.declared.memory.Mark.{Mark}
use Rattle.user_rules.specs.declared.memory.RuleMemory.{RuleMemory}
use Rattle.user_rules.specs.Meets.{Valued}
use Rattle.user_rules.specs.Memories.{cells_after, empty, holder_of, kept_after_view, mark_at, nothing, put, value_at, values_at}

-- the cells before this one are of other holders, so what is kept for the holder is what the others say
pub put_found : (cells : List Cell) (index holder : ℕ) (new : Mark) (cell : Cell) → index < length cells → (get_or cells index cell).holder ≡ holder
    → take index cells ++ put (drop index cells) holder new ≡ set cells index (record { holder = holder; mark = new })
put_found [] index holder new cell within is = absurd (omega (arith, within))
put_found (first ∷ cells) zero holder new cell within is = rw (eq-eqb first.holder holder is) refl
put_found (first ∷ cells) (suc index) holder new cell within is = ap (λ list. first ∷ list) (put_found cells index holder new cell (omega (arith, within)) is)

-- a cell of another holder is passed over
pub put_passed : (cells : List Cell) (index holder : ℕ) (new : Mark) (cell : Cell) → index < length cells → (get_or cells index cell).holder ≢ holder
    → take (suc index) cells ++ put (drop (suc index) cells) holder new ≡ take index cells ++ put (drop index cells) holder new
put_passed [] index holder new cell within apart = absurd (omega (arith, within))
put_passed (first ∷ cells) zero holder new cell within apart = rw (ne_eqb first.holder holder apart) refl
put_passed (first ∷ cells) (suc index) holder new cell within apart = ap (λ list. first ∷ list) (put_passed cells index holder new cell (omega (arith, within)) apart)

-- the first cell of the holder has what is kept for it
pub mark_found : (cells : List Cell) (index holder : ℕ) (cell : Cell) → index < length cells → (get_or cells index cell).holder ≡ holder
    → mark_at (drop index cells) holder ≡ (get_or cells index cell).mark
mark_found [] index holder cell within is = absurd (omega (arith, within))
mark_found (first ∷ cells) zero holder cell within is = rw (eq-eqb first.holder holder is) refl
mark_found (first ∷ cells) (suc index) holder cell within is = mark_found cells index holder cell (omega (arith, within)) is

pub mark_passed : (cells : List Cell) (index holder : ℕ) (cell : Cell) → index < length cells → (get_or cells index cell).holder ≢ holder
    → mark_at (drop (suc index) cells) holder ≡ mark_at (drop index cells) holder
mark_passed [] index holder cell within apart = absurd (omega (arith, within))
mark_passed (first ∷ cells) zero holder cell within apart = rw (ne_eqb first.holder holder apart) refl
mark_passed (first ∷ cells) (suc index) holder cell within apart = mark_passed cells index holder cell (omega (arith, within)) apart

-- after all cells, nothing is kept for the holder
pub mark_missing : (cells : List Cell) (index holder : ℕ) → length cells ≤ index → mark_at (drop index cells) holder ≡ empty
mark_missing cells index holder past = ap (λ list. mark_at list holder) (drop_all index cells past)

-- without what memories have kept there are no values
pub no_values : (memories : List RuleMemory) (view : View) → values_at memories [] view ≡ []
no_values [] view = refl
no_values (memory ∷ memories) view = refl

pub none_keeps : (memories : List RuleMemory) (valued : Valued) → kept_after_view memories [] valued ≡ []
none_keeps [] valued = refl
none_keeps (memory ∷ memories) valued = refl

module _ (memories : List RuleMemory) (view : View) where
  -- the value of the memory of this number, and of those after it
  pub values_more : (kept : List (List Cell)) (number : ℕ) (memory : RuleMemory) (cells : List Cell) → number < length memories → number < length kept
      → values_at (drop number memories) (drop number kept) view
      ≡ value_at (get_or memories number memory) (get_or kept number cells) view ∷ values_at (drop (number + 1) memories) (drop (number + 1) kept) view
  values_more kept number memory cells within there =
      ap (λ rest. values_at rest (drop number kept) view) (drop_more memories number memory within)
      ∙ ap (λ rest. values_at (get_or memories number memory ∷ drop (number + 1) memories) rest view) (drop_more kept number cells there)

  pub values_end : (kept : List (List Cell)) (number : ℕ) → length kept ≤ number → values_at (drop number memories) (drop number kept) view ≡ []
  values_end kept number past =
      ap (λ rest. values_at (drop number memories) rest view) (drop_all number kept past) ∙ no_values (drop number memories) view

  pub values_whole : (kept : List (List Cell)) (number : ℕ) → length memories ≤ number → values_at (drop number memories) (drop number kept) view ≡ []
  values_whole kept number whole = ap (λ rest. values_at rest (drop number kept) view) (drop_all number memories whole)

module _ (memories : List RuleMemory) (valued : Valued) where
  -- what the memories have kept, of which those of lower numbers have kept this view already
  pub kept_more : (kept : List (List Cell)) (number : ℕ) (memory : RuleMemory) (cells new : List Cell) → number < length memories → number < length kept
      → new ≡ cells_after (get_or memories number memory).keeps (get_or kept number cells) (holder_of (get_or memories number memory).per valued.view) valued
      → take (number + 1) (set kept number new) ++ kept_after_view (drop (number + 1) memories) (drop (number + 1) (set kept number new)) valued
      ≡ take number kept ++ kept_after_view (drop number memories) (drop number kept) valued
  kept_more kept number memory cells new within there is =
      let later = kept_after_view (drop (number + 1) memories) (drop (number + 1) kept) valued in
      ap (λ front. front ++ kept_after_view (drop (number + 1) memories) (drop (number + 1) (set kept number new)) valued) (take_more_set kept number new there)
      ∙ ap (λ rest. (take number kept ++ new ∷ []) ++ kept_after_view (drop (number + 1) memories) rest valued) (drop-set-lt (number + 1) kept number new (omega arith))
      ∙ append_assoc (take number kept) (new ∷ []) later
      ∙ ap (λ one. take number kept ++ one ∷ later) is
      ∙ sym (ap (λ rest. take number kept ++ kept_after_view rest (drop number kept) valued) (drop_more memories number memory within)
      ∙ ap (λ rest. take number kept ++ kept_after_view (get_or memories number memory ∷ drop (number + 1) memories) rest valued) (drop_more kept number cells there))

  pub kept_end : (kept : List (List Cell)) (number : ℕ) → length kept ≤ number → take number kept ++ kept_after_view (drop number memories) (drop number kept) valued ≡ kept
  kept_end kept number past =
      ap (λ rest. take number kept ++ kept_after_view (drop number memories) rest valued) (drop_all number kept past)
      ∙ ap (λ rest. take number kept ++ rest) (none_keeps (drop number memories) valued ∙ sym (drop_all number kept past))
      ∙ take-append-drop number kept

  pub kept_whole : (kept : List (List Cell)) (number : ℕ) → length memories ≤ number → take number kept ++ kept_after_view (drop number memories) (drop number kept) valued ≡ kept
  kept_whole kept number whole =
      ap (λ rest. take number kept ++ kept_after_view rest (drop number kept) valued) (drop_all number memories whole)
      ∙ take-append-drop number kept

-- nothing is kept by one memory more
pub nothing_more : (memories : List RuleMemory) (count : ℕ) → count < length memories → nothing (take (suc count) memories) ≡ nothing (take count memories) ++ [] ∷ []
nothing_more [] count within = absurd (omega (arith, within))
nothing_more (memory ∷ memories) zero within = refl
nothing_more (memory ∷ memories) (suc count) within = ap (λ list. [] ∷ list) (nothing_more memories count (omega (arith, within)))

-- Each step keeps the board.
use Rattle.std.proofs.Common.{◌≡◌, ◌≢◌, ◌<◌, ◌≤◌, ◌+◌, ◌*◌, ◌∙◌, ℕ, zero, suc, List, [], ◌∷◌, ◌++◌, length, drop, All, true, false, Option, Some, None, refl, ap, sym, subst, slice_set, slice_index_or, ⊎_elim, arith}
use Rattle.std.proofs.lemmas.Bool.{cases_lt, cases_eq}
use Rattle.std.proofs.lemmas.List.{length-append, length-set, get_or-set_same, get_or-set_other}
use Rattle.std.proofs.lemmas.List.Sums.{sum_by-set, sum_by-cons}
use Rattle.apex_machine.specs.Pieces.{Part}
use Rattle.verdict_merge.specs.declared.judged.Judged.{Judged}
use Rattle.verdict_merge.specs.declared.log.Event.{Event}
use Rattle.verdict_merge.specs.declared.log.Event.TheVariants.{Claim, Post}
use Rattle.verdict_merge.specs.Contents.{Content, IsJudged, part_at}
use Rattle.verdict_merge.specs.Boards.{IsBoard, IsPlaced, filled, weight}
use Rattle.verdict_merge.specs.Logs.{AreAllClaimed, IsFirstLeft, claimant, is_posted}
use Rattle.verdict_merge.proofs.Histories.{claimant_at_post, claimant_beside, claimant_here, claimant_stays, legal_on, posted_at_claim, posted_beside, posted_here}

-- the first of those left is that of this number, and the others are left after it
left_after_all : (parts left : List Part) (part : Part) (claimed : ℕ) → part ∷ left ≡ drop claimed parts
    → (left ≡ drop (suc claimed) parts) × (part ≡ part_at parts claimed)
left_after_all [] left part claimed is = absurd (none claimed is)
  where
    none : (count : ℕ) → part ∷ left ≡ drop count [] → ⊥
    none zero is = cc
    none (suc count) is = cc
left_after_all (first ∷ others) left part zero is = (cc, cc)
left_after_all (first ∷ others) left part (suc claimed) is = left_after_all others left part claimed is

placed_still : (round : Content) (log now : List Event) (piece : ℕ) (one : Option Judged) → is_posted now piece ≡ is_posted log piece → IsPlaced round log piece one → IsPlaced round now piece one
placed_still round log now piece None same placed = same ∙ placed
placed_still round log now piece (Some judged) same placed = (same ∙ placed.0, placed.1)

no_weight : (round : Content) (log : List Event) (piece : ℕ) (one : Option Judged) → is_posted log piece ≡ false → IsPlaced round log piece one → weight one ≡ 0
no_weight round log piece None unposted placed = refl
no_weight round log piece (Some judged) unposted placed = absurd (cc (unposted, placed.0))

filled_most : (places : List (Option Judged)) → filled places ≤ length places
filled_most [] = omega arith
filled_most (None ∷ others) =
    let more = filled_most others in
    let here : filled (None ∷ others) ≡ 0 + filled others = sum_by-cons weight None others in
    omega (arith, here, more)
filled_most (Some judged ∷ others) =
    let more = filled_most others in
    let here : filled (Some judged ∷ others) ≡ 1 + filled others = sum_by-cons weight (Some judged) others in
    omega (arith, here, more)

none_filled : (places : List (Option Judged)) → All (λ place. place ≡ None) places → filled places ≡ 0
none_filled [] none = refl
none_filled (first ∷ others) none =
    let more = none_filled others (λ number one within. none (suc number) one (omega (arith, within))) in
    let is : first ≡ None = none 0 first (omega arith) in
    let here : filled (first ∷ others) ≡ weight first + filled others = sum_by-cons weight first others in
    omega (arith, here, more, ap weight is)

module _ (round : Content) (left : List Part) (claimed : ℕ) (log : List Event) (places : List (Option Judged)) where
  -- a claim of the first piece that is left
  pub claims : (part : Part) (worker : ℕ) → IsBoard round (part ∷ left) claimed log places → IsBoard round left (claimed + 1) (log ++ Claim worker claimed ∷ []) places
  claims part worker board =
      let event = Claim worker claimed in
      let free : claimant log claimed ≡ None = board.free claimed (omega arith) in
      let one_more : suc claimed ≡ claimed + 1 = omega arith in
      record {
        legal = legal_on (length round.parts) [] log event board.legal (omega (arith, board.whole), free);
        rest = subst (λ count. left ≡ drop count round.parts) one_more (left_after_all round.parts left part claimed board.rest).0;
        whole = omega (arith, board.whole);
        free = (λ number those_after. claimant_beside log worker claimed number (λ same. absurd (omega (arith, same, those_after))) ∙ board.free number (omega (arith, those_after)));
        taken = (λ number before none.
            ⊎_elim
            (λ (less : number < claimed). claimant_stays log worker claimed number (board.taken number less) none)
            (λ (from : claimed ≤ number).
            let same : claimed ≡ number = omega (arith, from, before) in
            let here : claimant (log ++ event ∷ []) number ≡ Some worker = subst (λ n. claimant (log ++ event ∷ []) n ≡ Some worker) same (claimant_here log worker claimed free) in
            cc (none, here))
            (cases_lt number claimed));
        count = omega (arith, board.count, length-append log (event ∷ []));
        place = board.place;
        placed = (λ number one within. placed_still round log (log ++ event ∷ []) number (slice_index_or places number one) (posted_at_claim log worker claimed number) (board.placed number one within));
      }

  pub first_left : (part : Part) → IsBoard round (part ∷ left) claimed log places → IsFirstLeft (length round.parts) log claimed
  first_left part board = record {
    within = omega (arith, board.whole);
    left = board.free claimed (omega arith);
    rising = board.taken;
  }

  pub claimed_part : (part : Part) → IsBoard round (part ∷ left) claimed log places → part ≡ part_at round.parts claimed
  claimed_part part board = (left_after_all round.parts left part claimed board.rest).1

  pub none_left : left ≡ [] → IsBoard round left claimed log places → AreAllClaimed (length round.parts) log
  none_left none board number within = board.taken number (omega (arith, within, board.whole, ap length none))

  pub room_to_claim : (part : Part) → IsBoard round (part ∷ left) claimed log places → length log < 2 * length round.parts
  room_to_claim part board = omega (arith, board.count, board.whole, filled_most places, board.place)

  count_posted : (number worker : ℕ) (judged : Judged) → IsBoard round left claimed log places → is_posted log number ≡ false → number < length round.parts
      → length (log ++ Post worker number ∷ []) ≡ claimed + filled (slice_set places number (Some judged))
  count_posted number worker judged board unposted within =
      let empty : weight (slice_index_or places number None) ≡ 0 = no_weight round log number _ unposted (board.placed number None within) in
      omega (arith, board.count, empty, length-append log (Post worker number ∷ []), sum_by-set weight places number (Some judged) None (omega (arith, board.place, within)))

  pub room_to_post : (number : ℕ) (judged : Judged) → IsBoard round left claimed log places → is_posted log number ≡ false → number < length round.parts → length log < 2 * length round.parts
  room_to_post number judged board unposted within =
      let after = count_posted number 0 judged board unposted within in
      omega (arith, after, board.whole, length-append log (Post 0 number ∷ []), filled_most (slice_set places number (Some judged)), length-set places number (Some judged), board.place)

  -- the first post of a piece by the worker that has claimed it
  pub posts : (number worker : ℕ) (judged : Judged) → IsBoard round left claimed log places → claimant log number ≡ Some worker → is_posted log number ≡ false
      → IsJudged round number judged → number < length round.parts → IsBoard round left claimed (log ++ Post worker number ∷ []) (slice_set places number (Some judged))
  posts number worker judged board by unposted is within =
      let event = Post worker number in
      record {
        legal = legal_on (length round.parts) [] log event board.legal (by, unposted);
        rest = board.rest;
        whole = board.whole;
        free = (λ piece those_after. claimant_at_post log worker number piece ∙ board.free piece those_after);
        taken = (λ piece before none. board.taken piece before (sym (claimant_at_post log worker number piece) ∙ none));
        count = count_posted number worker judged board unposted within;
        place = length-set places number (Some judged) ∙ board.place;
        placed = (λ piece one inside.
            ⊎_elim
            (λ (same : piece ≡ number).
            let slot : slice_index_or (slice_set places number (Some judged)) piece one ≡ Some judged =
            ap (λ n. slice_index_or (slice_set places number (Some judged)) n one) same ∙ get_or-set_same places number (Some judged) one (omega (arith, board.place, within)) in
            let posted : is_posted (log ++ event ∷ []) piece ≡ true = subst (λ n. is_posted (log ++ event ∷ []) n ≡ true) (sym same) (posted_here log worker number) in
            subst (IsPlaced round (log ++ event ∷ []) piece) (sym slot) (posted, subst (λ n. IsJudged round n judged) (sym same) is))
            (λ (apart : piece ≢ number).
            subst (IsPlaced round (log ++ event ∷ []) piece) (sym (get_or-set_other places number piece (Some judged) one apart))
            (placed_still round log (log ++ event ∷ []) piece (slice_index_or places piece one) (posted_beside log worker number piece (λ same. apart (sym same))) (board.placed piece one inside)))
            (cases_eq piece number));
      }

-- a board of which nothing is claimed
pub empty_board : (round : Content) (places : List (Option Judged)) → length places ≡ length round.parts → All (λ place. place ≡ None) places
    → IsBoard round round.parts 0 [] places
empty_board round places whole none = record {
  legal = tt;
  rest = refl;
  whole = omega arith;
  free = λ piece those_after. refl;
  taken = λ piece before. absurd (omega (arith, before));
  count = omega (arith, none_filled places none);
  place = whole;
  placed = λ piece one within. subst (IsPlaced round [] piece) (sym (none piece one (omega (arith, whole, within)))) refl;
}

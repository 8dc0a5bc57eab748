-- The first element of a list of which something does not hold, in whatever way it was found.
use Rattle.std.proofs.Common.{◌≡◌, ◌<◌, ◌+◌, ℕ, suc, List, [], ◌∷◌, ◌++◌, length, take, get_or, arith, ap, refl, subst, sym}
use Rattle.std.proofs.lemmas.List.{take_more}
use Rattle.std.proofs.lemmas.List.Elements.{All-append, All-cons, All-nil}
use Rattle.std.specs.List.{All}

module _ {X : Type 0} (Holds : X → Type 0) where
  pub all_after : (one : X) (others : List X) → All Holds (one ∷ others) → All Holds others
  all_after one others all = λ place default within. all (suc place) default (omega arith)

  -- what holds up to a place, and at it, holds up to the next
  pub all_more : (list : List X) (place : ℕ) (default : X) → place < length list → All Holds (take place list) → Holds (get_or list place default)
      → All Holds (take (place + 1) list)
  all_more list place default within all here =
      subst (All Holds) (sym (take_more list place default within))
      (All-append Holds (take place list) (get_or list place default ∷ []) all (All-cons Holds _ [] here (All-nil Holds)))

  -- if it holds for all, no element lacks it
  pub none_lacks : (before : List X) (one : X) (after list : List X) → list ≡ before ++ one ∷ after → All Holds list → Holds one
  none_lacks [] one after list split all = subst (All Holds) split all 0 one (omega arith)
  none_lacks (first ∷ before) one after list split all =
      none_lacks before one after (before ++ one ∷ after) refl (all_after first _ (subst (All Holds) split all))

  -- a list is split at the first that lacks it in one way alone
  pub one_split : (before : List X) (one : X) (after others_before : List X) (other : X) (others_after : List X)
      → before ++ one ∷ after ≡ others_before ++ other ∷ others_after
      → All Holds before → ¬ Holds one → All Holds others_before → ¬ Holds other → (length before ≡ length others_before) × (one ≡ other)
  one_split [] one after [] other others_after same all lacks others_all other_lacks =
      let first : one ≡ other = cc in
      (refl, first)
  one_split [] one after (first ∷ others_before) other others_after same all lacks others_all other_lacks =
      let head : first ≡ one = cc in
      absurd (lacks (subst Holds head (others_all 0 first (omega arith))))
  one_split (first ∷ before) one after [] other others_after same all lacks others_all other_lacks =
      let head : first ≡ other = cc in
      absurd (other_lacks (subst Holds head (all 0 first (omega arith))))
  one_split (first ∷ before) one after (second ∷ others_before) other others_after same all lacks others_all other_lacks =
      let tail : before ++ one ∷ after ≡ others_before ++ other ∷ others_after = cc in
      let more = one_split before one after others_before other others_after tail (all_after first before all) lacks
      (all_after second others_before others_all) other_lacks in
      (ap suc more.0, more.1)

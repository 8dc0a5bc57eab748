-- A history with one event more.
use Rattle.std.proofs.Common.{◌≡◌, ◌≢◌, ◌==◌, ◌||◌, ◌∙◌, ℕ, List, [], ◌∷◌, ◌++◌, Bool, true, false, cond, Option, Some, None, refl, ap, sym, subst, append_assoc, arith}
use Rattle.std.proofs.lemmas.Bool.Decides.{nat_tests}
use Rattle.std.proofs.lemmas.List.{append-nil}
use Rattle.verdict_merge.specs.declared.log.Event.{Event}
use Rattle.verdict_merge.specs.declared.log.Event.TheVariants.{Claim, Post}
use Rattle.verdict_merge.specs.Logs.{MayAllFollow, MayFollow, claimant, is_posted}

-- the first of two that there is
abbrev or_else : Option ℕ → Option ℕ → Option ℕ
or_else None other = other
or_else (Some one) other = Some one

cond_or : (b : Bool) (worker : ℕ) (one other : Option ℕ) → cond b (Some worker) (or_else one other) ≡ or_else (cond b (Some worker) one) other
cond_or true worker one other = refl
cond_or false worker one other = refl

claimant_append : (before after : List Event) (piece : ℕ) → claimant (before ++ after) piece ≡ or_else (claimant before piece) (claimant after piece)
claimant_append [] after piece = refl
claimant_append (Claim worker claimed ∷ before) after piece =
    ap (λ one. cond (claimed == piece) (Some worker) one) (claimant_append before after piece)
    ∙ cond_or (claimed == piece) worker (claimant before piece) (claimant after piece)
claimant_append (Post worker posted ∷ before) after piece = claimant_append before after piece

or_assoc : (a b c : Bool) → (a || (b || c)) ≡ ((a || b) || c)
or_assoc true b c = refl
or_assoc false b c = refl

posted_append : (before after : List Event) (piece : ℕ) → is_posted (before ++ after) piece ≡ (is_posted before piece || is_posted after piece)
posted_append [] after piece = refl
posted_append (Claim worker claimed ∷ before) after piece = posted_append before after piece
posted_append (Post worker posted ∷ before) after piece =
    ap (λ b. (posted == piece) || b) (posted_append before after piece) ∙ or_assoc (posted == piece) (is_posted before piece) (is_posted after piece)

or_none : (one : Option ℕ) → or_else one None ≡ one
or_none None = refl
or_none (Some worker) = refl

or_true : (b : Bool) → (b || true) ≡ true
or_true true = refl
or_true false = refl

or_false : (b : Bool) → (b || false) ≡ b
or_false true = refl
or_false false = refl

or_kept : (one other : Option ℕ) → one ≢ None → or_else one other ≢ None
or_kept None other some = absurd (some refl)
or_kept (Some worker) other some = some

-- a claim leaves the claimants of the other pieces, and what is posted
pub claimant_beside : (log : List Event) (worker claimed piece : ℕ) → claimed ≢ piece → claimant (log ++ Claim worker claimed ∷ []) piece ≡ claimant log piece
claimant_beside log worker claimed piece apart =
    let other : claimed == piece ≡ false = grind (arith, nat_tests) in
    claimant_append log (Claim worker claimed ∷ []) piece ∙ ap (λ b. or_else (claimant log piece) (cond b (Some worker) None)) other ∙ or_none (claimant log piece)

pub claimant_here : (log : List Event) (worker claimed : ℕ) → claimant log claimed ≡ None → claimant (log ++ Claim worker claimed ∷ []) claimed ≡ Some worker
claimant_here log worker claimed free =
    let same : claimed == claimed ≡ true = grind (arith, nat_tests) in
    claimant_append log (Claim worker claimed ∷ []) claimed ∙ ap (λ b. or_else (claimant log claimed) (cond b (Some worker) None)) same
    ∙ ap (λ one. or_else one (Some worker)) free

pub claimant_stays : (log : List Event) (worker claimed piece : ℕ) → claimant log piece ≢ None → claimant (log ++ Claim worker claimed ∷ []) piece ≢ None
claimant_stays log worker claimed piece some =
    subst (λ one. one ≢ None) (sym (claimant_append log (Claim worker claimed ∷ []) piece)) (or_kept (claimant log piece) (cond (claimed == piece) (Some worker) None) some)

pub posted_at_claim : (log : List Event) (worker claimed piece : ℕ) → is_posted (log ++ Claim worker claimed ∷ []) piece ≡ is_posted log piece
posted_at_claim log worker claimed piece = posted_append log (Claim worker claimed ∷ []) piece ∙ or_false (is_posted log piece)

-- a post leaves the claimants, and whether another piece is posted
pub claimant_at_post : (log : List Event) (worker posted piece : ℕ) → claimant (log ++ Post worker posted ∷ []) piece ≡ claimant log piece
claimant_at_post log worker posted piece = claimant_append log (Post worker posted ∷ []) piece ∙ or_none (claimant log piece)

pub posted_beside : (log : List Event) (worker posted piece : ℕ) → posted ≢ piece → is_posted (log ++ Post worker posted ∷ []) piece ≡ is_posted log piece
posted_beside log worker posted piece apart =
    let other : posted == piece ≡ false = grind (arith, nat_tests) in
    posted_append log (Post worker posted ∷ []) piece ∙ ap (λ b. is_posted log piece || (b || false)) other ∙ or_false (is_posted log piece)

pub posted_here : (log : List Event) (worker posted : ℕ) → is_posted (log ++ Post worker posted ∷ []) posted ≡ true
posted_here log worker posted =
    let same : posted == posted ≡ true = grind (arith, nat_tests) in
    posted_append log (Post worker posted ∷ []) posted ∙ ap (λ b. is_posted log posted || (b || false)) same ∙ or_true (is_posted log posted)

pub legal_on : (count : ℕ) (before log : List Event) (event : Event) → MayAllFollow count before log → MayFollow count (before ++ log) event
    → MayAllFollow count before (log ++ event ∷ [])
legal_on count before [] event legal may = (subst (λ all. MayFollow count all event) (append-nil before) may, tt)
legal_on count before (first ∷ others) event legal may =
    (legal.0, legal_on count (before ++ first ∷ []) others event legal.1 (subst (λ all. MayFollow count all event) (sym (append_assoc before (first ∷ []) others)) may))

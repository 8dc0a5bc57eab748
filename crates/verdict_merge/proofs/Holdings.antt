-- Pieces by their numbers.
use Rattle.std.proofs.Common.{◌≡◌, ◌<◌, ℕ, zero, suc, List, [], ◌∷◌, ◌++◌, length, get_or, refl, sym, ap, arith}
use Rattle.piece_check.specs.Parts.{Holding}
use Rattle.verdict_merge.specs.declared.judged.Judged.{Judged}
use Rattle.verdict_merge.specs.Rounds.{holding_at, pieces_in}

pub holding_at-get : (holdings : List Holding) (number : ℕ) (default : Holding) → number < length holdings → holding_at holdings number ≡ get_or holdings number default
holding_at-get [] number default within = absurd (omega arith)
holding_at-get (holding ∷ others) zero default within = refl
holding_at-get (holding ∷ others) (suc number) default within = holding_at-get others number default (omega arith)

-- after the end of a list that grows by one
pub holding_at-last : (holdings : List Holding) (new : Holding) → holding_at (holdings ++ new ∷ []) (length holdings) ≡ new
holding_at-last [] new = refl
holding_at-last (holding ∷ others) new = holding_at-last others new

pub holding_at-front : (holdings : List Holding) (new : Holding) (number : ℕ) → number < length holdings → holding_at (holdings ++ new ∷ []) number ≡ holding_at holdings number
holding_at-front [] new number within = absurd (omega arith)
holding_at-front (holding ∷ others) new zero within = refl
holding_at-front (holding ∷ others) new (suc number) within = holding_at-front others new number (omega arith)

-- a piece as it was left, by its number
pub holding_left : (judged : List Judged) (number : ℕ) (one : Judged) → number < length judged → one ≡ get_or judged number one
    → holding_at (pieces_in judged) number ≡ one.piece
holding_left [] number one within is = absurd (omega (arith, within))
holding_left (first ∷ others) zero one within is = ap (λ judged. judged.piece) (sym is)
holding_left (first ∷ others) (suc number) one within is = holding_left others number one (omega (arith, within)) is

-- a fact about the piece of a number, as it was left
pub left_each : (Fact : Holding → Type 0) (judged : List Judged) (number : ℕ) → number < length judged → ((one : Judged) → one ≡ get_or judged number one → Fact one.piece)
    → Fact (holding_at (pieces_in judged) number)
left_each Fact [] number within each = absurd (omega (arith, within))
left_each Fact (first ∷ others) zero within each = each first refl
left_each Fact (first ∷ others) (suc number) within each = left_each Fact others number (omega (arith, within)) each

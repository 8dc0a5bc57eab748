-- Pieces that have judged a round, one more each time.
use Rattle.std.proofs.Common.{below_more, ◌≡◌, ◌<◌, ◌+◌, ◌∙◌, Bool, ℕ, List, [], ◌∷◌, ◌++◌, length, get_or, sym, ap, subst, arith}
use Rattle.std.proofs.lemmas.List.{get_or_append_left}
use Rattle.std.proofs.Math.Seq.{get_or-append_seam}
use Rattle.apex_types.specs.declared.record.Ordered.{Ordered}
use Rattle.apex_machine.specs.Configuration.{Configuration}
use Rattle.piece_check.specs.Parts.{Holding}
use Rattle.user_rules.specs.declared.relation.Relation.{Relation}
use Rattle.verdict_merge.specs.declared.judged.Judged.{Judged}
use Rattle.verdict_merge.specs.Rounds.{IsPieceJudged, holding_at}

-- the piece of this number, if it is among those that have judged the records, has done so
abbrev pub HasJudgedOver : Configuration → ℕ → List Ordered → List Relation → Bool → List Holding → List Judged → ℕ → Type 0
HasJudgedOver configuration first records relations keeps old judged number =
    (one : Judged) → one ≡ get_or judged number one → IsPieceJudged configuration number first records relations keeps (holding_at old number) one

-- one piece more
pub over_more : (configuration : Configuration) (first : ℕ) (records : List Ordered) (relations : List Relation) (keeps : Bool) (old : List Holding) (judged : List Judged) (new : Judged) (count : ℕ) → length judged ≡ count
    → ((number : ℕ) → number < count → HasJudgedOver configuration first records relations keeps old judged number)
    → IsPieceJudged configuration count first records relations keeps (holding_at old count) new
    → (number : ℕ) → number < count + 1 → HasJudgedOver configuration first records relations keeps old (judged ++ new ∷ []) number
over_more configuration first records relations keeps old judged new count counted each last =
    below_more (HasJudgedOver configuration first records relations keeps old (judged ++ new ∷ [])) count
    (λ number less one is. each number less one (is ∙ get_or_append_left judged (new ∷ []) one number (omega (arith, less, counted))))
    (λ one is. subst (IsPieceJudged configuration count first records relations keeps (holding_at old count))
    (sym (is ∙ ap (λ n. get_or (judged ++ new ∷ []) n one) (sym counted) ∙ get_or-append_seam judged new [] one)) last)

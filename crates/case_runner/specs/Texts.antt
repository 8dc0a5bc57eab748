-- Texts in parts.
use Rattle.std.specs.Prelude.{◌≡◌, ◌≢◌, ◌⊎◌, ◌++◌, ◌∷◌, ℕ, List, [], All}

-- a text in two parts: what comes before its first byte that is `end`, and what comes after that byte; if there is no such byte, the whole
-- text and nothing
pub record IsSplit (end : ℕ) (text before after : List ℕ) : Type 0 where
  pub not_before : All (λ byte. byte ≢ end) before
  pub parts : (text ≡ before ++ end ∷ after) ⊎ (text ≡ before) × (after ≡ [])

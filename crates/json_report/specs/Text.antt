-- What the text of an answer is.
use Rattle.std.specs.Prelude.{◌≡◌, ℕ, List, [], ◌∷◌, ◌++◌}
use Rattle.json.specs.Lex.{tokens}
use Rattle.json.specs.Layout.{pretty}
use Rattle.serde_json.specs.Data.{Data}
use Rattle.serde_json.specs.Written.{IsInOrder}

-- the text of an answer: JSON in serde_json's layout whose tokens are those of this value, each once and in order, and a line feed
pub record IsAnswer (text : List ℕ) (answer : Data) : Type 0 where
  pub json : List ℕ
  pub ends : text ≡ json ++ 10 ∷ []
  pub is_laid_out : json ≡ pretty (tokens json)
  pub is_value : IsInOrder json answer

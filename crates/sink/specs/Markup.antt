-- Markup: the program's own, and texts that are escaped.
use Rattle.std.specs.Prelude.{◌≡◌, ◌⊎◌, ℕ, Bool, true, false, List, []}
use Rattle.std.specs.List.{AllByRecursion, concat}
use Rattle.sink.specs.Escapes.{escaped}
use Rattle.sink.specs.Own.{is_own}

-- a part of markup: the program's own markup, or a text, escaped
abbrev pub IsPart : List ℕ → Type 0
IsPart part = (is_own part ≡ true) ⊎ ((text : List ℕ) × (part ≡ escaped text))

-- markup: parts, one after another
pub record IsMarkup (markup : List ℕ) : Type 0 where
  pub parts : List (List ℕ)
  pub are_parts : AllByRecursion IsPart parts
  pub are_joined : markup ≡ concat parts

-- markup that grows: its text so far, and whether memory was refused to it. If not, the text has all that was to be added
pub record Marked : Type 0 where
  pub text : List ℕ
  pub lacks_memory : Bool

-- no markup so far
abbrev pub no_markup : Marked
no_markup = record { text = []; lacks_memory = false }

-- in markup, each `<` begins one of the program's own tags, whatever texts were added
abbrev pub TagsAreOwn : Type 0
TagsAreOwn = (markup : List ℕ) → IsMarkup markup → is_own markup ≡ true

-- How text is written in markup.
use Rattle.std.specs.Prelude.{◌≡◌, ℕ, Bool, false, not, ◌||◌, ◌==◌, List, ◌++◌, Option, IfSome, if◌then◌else◌, chars, codes, encode_utf8, flat_map}
use Rattle.std.specs.Char.{is_control}
use Rattle.std.specs.Fmt.{digits}
use Rattle.std.specs.Str.{NoCharPasses}

-- whether a character is shown as it is: a line feed, or a character that is not a control character and is allowed in XML
abbrev pub is_shown : ℕ → Bool
is_shown c = (c == 10) || not (is_control c || (c == 0xFFFE) || (c == 0xFFFF))

-- a character as its number, such as \u{1b}
abbrev pub numbered : ℕ → List ℕ
numbered c = codes "\\u{" ++ (digits 16 false c ++ codes "}")

-- a character in markup: one that would begin or end markup is an entity, and one that is not shown is its number
abbrev pub escaped_character : ℕ → List ℕ
escaped_character c =
    if c == 38 then codes "&amp;" else
    if c == 60 then codes "&lt;" else
    if c == 62 then codes "&gt;" else
    if c == 34 then codes "&quot;" else
    if c == 39 then codes "&#39;" else
    if is_shown c then encode_utf8 c else numbered c

-- a text in markup: each of its characters, escaped
abbrev pub escaped : List ℕ → List ℕ
escaped text = flat_map escaped_character (chars text)

-- whether a character begins or ends a tag or the value of an attribute
abbrev pub is_delimiter : ℕ → Bool
is_delimiter c = (c == 60) || (c == 62) || (c == 34) || (c == 39)

-- escaped text has no such character
abbrev pub EscapedHasNoDelimiter : Type 0
EscapedHasNoDelimiter = (text : List ℕ) → NoCharPasses is_delimiter (escaped text)

-- words were added, escaped; if their text is known, it is that text
pub record AddsEscaped (known : Option (List ℕ)) (before after : List ℕ) : Type 0 where
  pub said : List ℕ
  pub is_known : IfSome known (λ text. said ≡ text)
  pub added : after ≡ before ++ escaped said

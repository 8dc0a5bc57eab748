-- The program's own markup.
use Rattle.std.specs.Prelude.{ℕ, Bool, true, false, ◌&&◌, ◌||◌, not, ◌==◌, List, [], ◌∷◌, codes}
use Rattle.std.specs.List.{list_any}

-- the names that the program's tags have. None of them is that of a script, of a style sheet or another file from elsewhere, of an image
-- or of a frame
abbrev pub tag_names : List (List ℕ)
tag_names =
    codes "!DOCTYPE" ∷ codes "html" ∷ codes "head" ∷ codes "meta" ∷ codes "title" ∷ codes "style" ∷ codes "body"
    ∷ codes "h1" ∷ codes "h2" ∷ codes "h3" ∷ codes "p" ∷ codes "pre" ∷ codes "code" ∷ codes "a" ∷ codes "div" ∷ codes "ul" ∷ codes "li"
    ∷ codes "details" ∷ codes "summary"
    ∷ codes "table" ∷ codes "caption" ∷ codes "thead" ∷ codes "tbody" ∷ codes "tr" ∷ codes "th" ∷ codes "td"
    ∷ codes "svg" ∷ codes "defs" ∷ codes "pattern" ∷ codes "marker"
    ∷ codes "g" ∷ codes "rect" ∷ codes "circle" ∷ codes "line" ∷ codes "path" ∷ codes "text" ∷ []

-- whether a text begins with a name, and the name ends there: at a space, or at the end of its tag
abbrev pub begins_with_name : List ℕ → List ℕ → Bool
begins_with_name [] [] = false
begins_with_name (c ∷ text) [] = (c == 32) || (c == 62)
begins_with_name [] (n ∷ name) = false
begins_with_name (c ∷ text) (n ∷ name) = (c == n) && begins_with_name text name

-- whether what comes after a `<` begins one of the program's tags, or ends an element, after a slash
abbrev pub begins_tag : List ℕ → Bool
begins_tag [] = false
begins_tag (c ∷ text) = list_any (begins_with_name (c ∷ text)) tag_names || (c == 47) && list_any (begins_with_name text) tag_names

-- whether each `<` of a text begins one of the program's own tags
abbrev pub is_own : List ℕ → Bool
is_own [] = true
is_own (c ∷ text) = (not (c == 60) || begins_tag text) && is_own text

-- In markup, each `<` begins one of the program's own tags.
use Rattle.std.proofs.Common.{◌≡◌, ℕ, suc, ◌<◌, Bool, true, false, ◌&&◌, ◌||◌, not, eqb, List, [], ◌∷◌, ◌++◌, length, get_or, refl, ap, ◌∙◌, inl, inr, arith}
use Rattle.std.specs.List.{AllByRecursion, concat, list_any}
use Rattle.std.proofs.lemmas.Bool.Decides.{nat_tests}
use Rattle.std.proofs.lemmas.Str.{NoCharPasses-byte}
use Rattle.sink.specs.Escapes.{escaped, is_delimiter}
use Rattle.sink.specs.Markup.{IsPart, TagsAreOwn}
use Rattle.sink.specs.Own.{begins_tag, begins_with_name, is_own, tag_names}
use Rattle.sink.proofs.Escapes.{escaped_has_no_delimiter}

first_true : (a b : Bool) → (a && b) ≡ true → a ≡ true
first_true true b h = refl
first_true false b h = cc

second_true : (a b : Bool) → (a && b) ≡ true → b ≡ true
second_true true b h = h
second_true false b h = cc

both_true : (a b : Bool) → a ≡ true → b ≡ true → (a && b) ≡ true
both_true a b h k = rw (h, k)

or_true : (a b c d : Bool) → (a ≡ true → c ≡ true) → (b ≡ true → d ≡ true) → (a || b) ≡ true → (c || d) ≡ true
or_true true b c d f g h = rw (f refl)
or_true false true true d f g h = refl
or_true false true false d f g h = g refl
or_true false false c d f g h = cc

-- a name begins a longer text too
name_on : (text name more : List ℕ) → begins_with_name text name ≡ true → begins_with_name (text ++ more) name ≡ true
name_on [] [] more h = cc
name_on (c ∷ text) [] more h = h
name_on [] (n ∷ name) more h = cc
name_on (c ∷ text) (n ∷ name) more h =
    both_true (eqb c n) (begins_with_name (text ++ more) name) (first_true (eqb c n) (begins_with_name text name) h)
    (name_on text name more (second_true (eqb c n) (begins_with_name text name) h))

any_on : (text more : List ℕ) (names : List (List ℕ)) → list_any (begins_with_name text) names ≡ true → list_any (begins_with_name (text ++ more)) names ≡ true
any_on text more [] h = h
any_on text more (name ∷ names) h =
    or_true (begins_with_name text name) (list_any (begins_with_name text) names) (begins_with_name (text ++ more) name) (list_any (begins_with_name (text ++ more)) names)
    (name_on text name more) (any_on text more names) h

and_later : (a b d : Bool) → (b ≡ true → d ≡ true) → (a && b) ≡ true → (a && d) ≡ true
and_later true b d g h = g h
and_later false b d g h = h

-- a tag begins a longer text too
tag_on : (text more : List ℕ) → begins_tag text ≡ true → begins_tag (text ++ more) ≡ true
tag_on [] more h = cc
tag_on (c ∷ text) more h =
    or_true (list_any (begins_with_name (c ∷ text)) tag_names) (eqb c 47 && list_any (begins_with_name text) tag_names)
    (list_any (begins_with_name (c ∷ (text ++ more))) tag_names) (eqb c 47 && list_any (begins_with_name (text ++ more)) tag_names)
    (any_on (c ∷ text) more tag_names)
    (and_later (eqb c 47) (list_any (begins_with_name text) tag_names) (list_any (begins_with_name (text ++ more)) tag_names) (any_on text more tag_names))
    h

keep : {a : Bool} → a ≡ true → a ≡ true
keep h = h

is_own-append : (a b : List ℕ) → is_own a ≡ true → is_own b ≡ true → is_own (a ++ b) ≡ true
is_own-append [] b h k = k
is_own-append (c ∷ a) b h k =
    both_true (not (eqb c 60) || begins_tag (a ++ b)) (is_own (a ++ b))
    (or_true (not (eqb c 60)) (begins_tag a) (not (eqb c 60)) (begins_tag (a ++ b)) keep (tag_on a b) (first_true (not (eqb c 60) || begins_tag a) (is_own a) h))
    (is_own-append a b (second_true (not (eqb c 60) || begins_tag a) (is_own a) h) k)

-- a text without a `<`
plain_is_own : (bytes : List ℕ) → ((i : ℕ) → i < length bytes → eqb (get_or bytes i 0) 60 ≡ false) → is_own bytes ≡ true
plain_is_own [] h = refl
plain_is_own (b ∷ bytes) h =
    let here : eqb b 60 ≡ false = h 0 (omega arith) in
    let later : is_own bytes ≡ true = plain_is_own bytes (λ i k. h (suc i) (omega arith)) in
    both_true (not (eqb b 60) || begins_tag bytes) (is_own bytes) (rw here) later

not_sixty : (b : ℕ) → (b < 128 → is_delimiter b ≡ false) → eqb b 60 ≡ false
not_sixty b h = grind (arith, nat_tests)

escaped_is_own : (text : List ℕ) → is_own (escaped text) ≡ true
escaped_is_own text =
    plain_is_own (escaped text) (λ i k. not_sixty (get_or (escaped text) i 0) (NoCharPasses-byte is_delimiter (escaped text) i (escaped_has_no_delimiter text) k))

part_is_own : (part : List ℕ) → IsPart part → is_own part ≡ true
part_is_own part (inl own) = own
part_is_own part (inr said) = ap is_own said.1 ∙ escaped_is_own said.0

parts_are_own : (parts : List (List ℕ)) → AllByRecursion IsPart parts → is_own (concat parts) ≡ true
parts_are_own [] h = refl
parts_are_own (part ∷ parts) h = is_own-append part (concat parts) (part_is_own part h.0) (parts_are_own parts h.1)

pub tags_are_own : TagsAreOwn
tags_are_own markup h = ap is_own h.are_joined ∙ parts_are_own h.parts h.are_parts

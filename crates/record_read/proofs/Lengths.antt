-- The search for a service's name, which begins at the first row whose name has the text's length.
use Rattle.std.proofs.Common.{◌≡◌, ◌≢◌, ◌∙◌, ◌<◌, ◌+◌, ℕ, zero, suc, List, [], ◌∷◌, Bool, true, false, ◌==◌, ◌&&◌, drop, take, length, map, not, refl, sym, ap, subst, nat_le, nat_lt, ◌≤◌, arith, slice_index_or, true≢false}
use Rattle.std.specs.Prelude.{IsTrue}
use Rattle.std.specs.List.{list_all}
use Rattle.std.specs.Str.{bytes_eq}
use Rattle.std.proofs.lemmas.Bool.{and_parts, eq-eqb}
use Rattle.std.proofs.lemmas.Bool.Decides.{nat_tests}
use Rattle.std.proofs.lemmas.Slice.Eq.{bytes_eq-Decides}
use Rattle.apex_types.specs.declared.service.ServiceRow.{ServiceRow}
use Rattle.record_read.specs.declared.named.TheConstants.{FIRST_OF_LENGTH}
use Rattle.record_read.specs.Named.{name_lengths, service_among}

-- whether the search for a name of this length can begin here
abbrev pub can_begin : ℕ → ℕ → Bool
can_begin len first = nat_le first (length name_lengths) && list_all (λ other. not (other == len)) (take first name_lengths)

-- whether the searches for the lengths from this one on can begin at these places
abbrev pub all_can_begin : ℕ → List ℕ → Bool
all_can_begin len [] = true
all_can_begin len (first ∷ firsts) = can_begin len first && all_can_begin (suc len) firsts

each_can_begin : (from at len d : ℕ) (firsts : List ℕ) → len ≡ from + at → at < length firsts → IsTrue (all_can_begin from firsts)
    → IsTrue (can_begin len (slice_index_or firsts at d))
each_can_begin from at len d [] is h all = absurd (omega arith)
each_can_begin from zero len d (first ∷ firsts) is h all =
    let same : len ≡ from = omega arith in subst (λ n. IsTrue (can_begin n first)) (sym same) (and_parts _ _ all).0
each_can_begin from (suc at) len d (first ∷ firsts) is h all =
    each_can_begin (suc from) at len d firsts (omega arith) (omega arith) (and_parts _ _ all).1

-- the search for a name of each length can begin at its place
pub can_begin_at : (len first : ℕ) → true ≡ nat_lt len (length FIRST_OF_LENGTH) → first ≡ slice_index_or FIRST_OF_LENGTH len first
    → (first ≤ length name_lengths) × IsTrue (list_all (λ other. not (other == len)) (take first name_lengths))
can_begin_at len first within is =
    let here : IsTrue (can_begin len first) =
    subst (λ n. IsTrue (can_begin len n)) (sym is) (each_can_begin 0 len len first FIRST_OF_LENGTH (omega arith) (grind (arith, nat_tests)) refl) in
    let parts = and_parts (nat_le first (length name_lengths)) _ here in
    let low : nat_le first (length name_lengths) ≡ true = parts.0 in
    (grind (arith, nat_tests), parts.1)

-- a text is not a name of another length
pub other_name : (name text : List ℕ) → length name ≢ length text → bytes_eq name text ≡ false
other_name name text differs = by (bytes_eq name text) refl
  where
    by : (same : Bool) → bytes_eq name text ≡ same → same ≡ false
    by true same = absurd (differs (ap length ((bytes_eq-Decides name text).0 same)))
    by false same = refl

-- the rows before the place where the search begins do not have the name
pub not_earlier : {Name : Type 0} (text_of : Name → List ℕ) (rows : List (ServiceRow Name)) (first : ℕ) (text : List ℕ)
    → IsTrue (list_all (λ other. not (other == length text)) (take first (map (λ row. length (text_of row.name)) rows)))
    → service_among text_of (drop first rows) text ≡ service_among text_of rows text
unfolding service_among
not_earlier text_of rows zero text h = refl
not_earlier text_of [] (suc first) text h = refl
not_earlier text_of (row ∷ rows) (suc first) text h =
    let parts = and_parts _ _ h in
    not_earlier text_of rows first text parts.1 ∙ sym (rw (other_name (text_of row.name) text (λ same. true≢false (sym parts.0 ∙ ap not (eq-eqb _ _ same)))) refl)

-- What a look along the front of a text shows.
use Rattle.std.proofs.Common.{◌≡◌, ◌≢◌, ◌<◌, ◌≤◌, ◌+◌, ◌-◌, ℕ, zero, suc, List, [], ◌∷◌, ◌++◌, length, take, get_or, Bool, true, false, true≢false, refl, sym, ap, subst, arith, inl, inr, ◌∙◌}
use Rattle.std.specs.Prelude.{◌==◌, All}
use Rattle.std.specs.Int.{bit_at}
use Rattle.std.proofs.lemmas.Bool.{cases_eq, ne_eqb}
use Rattle.std.proofs.lemmas.List.{get_or-take, get_or_default, length-take-le}
use Rattle.std.proofs.lemmas.Nat.Bits.{bit_at-zero}
use Rattle.csv_rows.specs.Line.{IsPlain, is_special, split}
use Rattle.csv_rows.specs.Pieces.{AreEnds, IsLookedAt, IsSeen, StopsAt, pieces_from}
use Rattle.csv_rows.proofs.Masks.{AreCommas, ArePlain}
use Rattle.csv_rows.proofs.Pieces.{ends_more, walk_begins, walk_byte, walk_comma, walk_ends}

-- nothing has been seen yet
pub seen_none : (text ends : List ℕ) → ends ≡ [] → IsSeen text ends 0
seen_none text ends none = record {
  within = omega arith;
  plain = λ before below. absurd (omega arith);
  cut = λ end low high. walk_begins (take end text) ends none;
}

-- one more plain byte
plain_on : (text : List ℕ) (place : ℕ) → ((before : ℕ) → before < place → IsPlain (get_or text before 0)) → IsPlain (get_or text place 0)
    → (before : ℕ) → before < place + 1 → IsPlain (get_or text before 0)
plain_on text place plain here before below = elim (cases_eq before place) [
  | inl same ↦ subst (λ n. IsPlain (get_or text n 0)) (sym same) here
  | inr apart ↦ plain before (omega (arith, apart))
]

pub seen_comma : (text ends more : List ℕ) (place : ℕ) → more ≡ ends ++ place ∷ [] → place < length text → get_or text place 0 ≡ 44 → IsSeen text ends place
    → IsSeen text more (place + 1)
seen_comma text ends more place is within comma seen = record {
  within = omega arith;
  plain = plain_on text place seen.plain (subst IsPlain (sym comma) refl);
  cut = λ end low high.
      let line = take end text in
      let long : length line ≡ end = length-take-le end text high in
      let cut = seen.cut end (omega arith) high in
      walk_comma line ends more place is (omega (arith, long)) (get_or-take end text place 0 (omega arith) ∙ comma) cut.are cut.begun cut.so_far;
}

pub seen_byte : (text ends : List ℕ) (place : ℕ) → place < length text → (get_or text place 0 == 44) ≡ false → IsPlain (get_or text place 0) → IsSeen text ends place
    → IsSeen text ends (place + 1)
seen_byte text ends place within no_comma plain seen = record {
  within = omega arith;
  plain = plain_on text place seen.plain plain;
  cut = λ end low high.
      let line = take end text in
      let long : length line ≡ end = length-take-le end text high in
      let cut = seen.cut end (omega arith) high in
      walk_byte line ends ends place refl (omega (arith, long)) (ap (λ byte. byte == 44) (get_or-take end text place 0 (omega arith)) ∙ no_comma) cut.are cut.begun cut.so_far;
}

-- what a look at any byte but a comma shows
pub looked_at : (text ends : List ℕ) (place : ℕ) → place < length text → (get_or text place 0 == 44) ≡ false → IsSeen text ends place → (special : Bool)
    → is_special (get_or text place 0) ≡ special → IsLookedAt text ends place special
looked_at text ends place within no_comma seen true is =
    (record { within = seen.within; plain = seen.plain; special = λ below plain. true≢false (sym is ∙ plain) }, seen)
looked_at text ends place within no_comma seen false is = seen_byte text ends place within no_comma is seen

-- bytes that are plain and no commas are passed over
seen_over : (text ends : List ℕ) (place count : ℕ) → place + count ≤ length text → ((k : ℕ) → k < count → IsPlain (get_or text (place + k) 0))
    → ((k : ℕ) → k < count → get_or text (place + k) 0 ≢ 44) → IsSeen text ends place → IsSeen text ends (place + count)
seen_over text ends place zero within plain no_comma seen = let none : place ≡ place + 0 = omega arith in subst (IsSeen text ends) none seen
seen_over text ends place (suc count) within plain no_comma seen =
    let next : place + count + 1 ≡ place + suc count = omega arith in
    subst (IsSeen text ends) next
    (seen_byte text ends (place + count) (omega arith) (ne_eqb _ _ (no_comma count (omega arith))) (plain count (omega arith))
    (seen_over text ends place count (omega arith) (λ k below. plain k (omega arith)) (λ k below. no_comma k (omega arith)) seen))

-- the bytes before the first mark of a comma were seen
pub seen_to_mark : (text ends : List ℕ) (start place end marks first : ℕ) → end ≤ length text → ArePlain text start end → start ≤ place → AreCommas text place end marks
    → bit_at marks first ≡ 1 → ((k : ℕ) → k < first → bit_at marks k ≡ 0) → IsSeen text ends place → IsSeen text ends (place + first)
seen_to_mark text ends start place end marks first room plain low are set clear seen =
    let within : place + first < end = ((are first).0 set).0 in
    seen_over text ends place first (omega (arith, within)) (λ k below. plain (place + k) (omega arith) (omega (arith, within)))
    (λ k below comma. omega (arith, clear k below, (are k).1 (omega (arith, within), comma))) seen

-- if no comma is marked, all were seen
pub seen_to_end : (text ends : List ℕ) (start place end marks : ℕ) → place ≤ end → end ≤ length text → ArePlain text start end → start ≤ place → AreCommas text place end marks
    → marks ≡ 0 → IsSeen text ends place → IsSeen text ends end
seen_to_end text ends start place end marks high room plain low are none seen =
    let all : place + (end - place) ≡ end = omega arith in
    subst (IsSeen text ends) all
    (seen_over text ends place (end - place) (omega arith) (λ k below. plain (place + k) (omega arith) (omega arith))
    (λ k below comma. omega (arith, ap (λ m. bit_at m k) none ∙ bit_at-zero k, (are k).1 (omega arith, comma))) seen)

-- the front of the text stops at the first byte that is not plain
pub seen_stops : (text ends : List ℕ) (stop : ℕ) → ¬ IsPlain (get_or text stop 0) → IsSeen text ends stop → StopsAt text stop
seen_stops text ends stop special seen = record { within = seen.within; plain = seen.plain; special = λ below. special }

-- the front ends here, and so does its last field
pub seen_ends : (text ends more : List ℕ) (stop : ℕ) → IsSeen text ends stop → more ≡ ends ++ stop ∷ [] → AreEnds 0 more stop
seen_ends text ends more stop seen is =
    let cut = seen.cut stop (omega arith) seen.within in
    let are : AreEnds 0 ends stop = subst (AreEnds 0 ends) (length-take-le stop text seen.within) cut.are in
    subst (λ all. AreEnds 0 all stop) (sym is) (ends_more 0 ends stop stop are cut.begun (omega arith))

pub seen_fields : (text ends more : List ℕ) (stop : ℕ) → IsSeen text ends stop → more ≡ ends ++ stop ∷ [] → pieces_from 0 more (take stop text) ≡ split (take stop text)
seen_fields text ends more stop seen is =
    let cut = seen.cut stop (omega arith) seen.within in
    let long : length (take stop text) ≡ stop = length-take-le stop text seen.within in
    walk_ends (take stop text) ends more stop (sym long) (is ∙ ap (λ end. ends ++ end ∷ []) (sym long)) cut.so_far

-- all bytes of the front are plain
pub front_plain : (text : List ℕ) (stop : ℕ) → StopsAt text stop → All IsPlain (take stop text)
front_plain text stop at before default below =
    let long : length (take stop text) ≡ stop = length-take-le stop text at.within in
    let low : before < stop = omega (arith, long) in
    subst IsPlain (sym (get_or-take stop text before default low ∙ get_or_default text before default 0 (omega (arith, at.within)))) (at.plain before low)

-- if the whole text was seen, its front ends with it
pub whole_stops : (text ends : List ℕ) (place : ℕ) → place ≡ length text → IsSeen text ends place → StopsAt text place
whole_stops text ends place is seen = record { within = seen.within; plain = seen.plain; special = λ below. absurd (omega (arith, is)) }

-- Masks of the next 32 bytes of a text.
use Rattle.std.proofs.Common.{◌≡◌, ◌≢◌, ◌<◌, ◌≤◌, ◌+◌, ◌-◌, ◌^◌, ◌↔◌, ℕ, List, length, get_or, map, Bool, true, false, true≢false, cond, eqb, max, refl, sym, ap, subst, arith, inl, inr, ◌∙◌, bit_and}
use Rattle.std.specs.Prelude.{bit_or}
use Rattle.std.specs.Int.{bit_at}
use Rattle.std.proofs.lemmas.Bool.{cases_lt, eq-eqb, eqb-true, ne_eqb}
use Rattle.std.proofs.lemmas.List.{get_or-map, get_or_past, length-map}
use Rattle.std.proofs.lemmas.Nat.Bits.{bit_at-lt, bit_at-pow_other, bit_at-pow_same, bit_at-zero, bit_at_and, bit_at_ones, bit_at_ones_above, bit_at_or}
use Rattle.std.proofs.lemmas.Simd.{bit_mask_l, get_or-chunk, length-chunk}
use lib.Lanes.{chunk, mask_l}
use Rattle.csv_rows.specs.Line.{IsPlain}

-- the marks of those of 32 bytes that are this one
abbrev pub AreMarksOf : List ℕ → ℕ → ℕ → ℕ → Type 0
AreMarksOf text at byte marks = (k : ℕ) → (bit_at marks k ≡ 1) ↔ ((k < 32) × (get_or text (at + k) 0 ≡ byte))

-- the marks of the commas from a place up to an end
abbrev pub AreCommas : List ℕ → ℕ → ℕ → ℕ → Type 0
AreCommas text place end marks = (k : ℕ) → (bit_at marks k ≡ 1) ↔ ((place + k < end) × (get_or text (place + k) 0 ≡ 44))

-- the bytes from a place up to an end are plain
abbrev pub ArePlain : List ℕ → ℕ → ℕ → Type 0
ArePlain text start end = (place : ℕ) → start ≤ place → place < end → IsPlain (get_or text place 0)

set_true : (b : Bool) → cond {A = ℕ} b 1 0 ≡ 1 → b ≡ true
set_true true set = refl
set_true false set = absurd (omega (arith, set))

-- the marks of 32 bytes by a comparison of each
pub marks_equal : (text : List ℕ) (at byte : ℕ) → at + 32 ≤ length text → AreMarksOf text at byte (mask_l (map (λ b. eqb b byte) (chunk at 32 text)))
marks_equal text at byte room k =
    let bytes = chunk at 32 text in
    let is : ℕ → Bool = λ b. eqb b byte in
    let tests = map is bytes in
    let count : length bytes ≡ 32 = length-chunk at 32 text room in
    let read : bit_at (mask_l tests) k ≡ cond (get_or tests k false) 1 0 = bit_mask_l tests k in
    let test : k < 32 → get_or tests k false ≡ is (get_or text (at + k) 0) =
    λ low. get_or-map is bytes k 0 false (omega (arith, count)) ∙ ap is (get_or-chunk at 32 text k 0 low) in (
      λ set. elim (cases_lt k 32) [
        | inl low ↦ (low, eqb-true (get_or text (at + k) 0) byte (sym (test low) ∙ set_true (get_or tests k false) (sym read ∙ set)))
        | inr past ↦ absurd (omega (arith, read ∙ ap (λ (b : Bool). cond {A = ℕ} b 1 0) (get_or_past tests k false (omega (arith, length-map bytes is, count))), set))
      ],
      λ has. read ∙ ap (λ (b : Bool). cond {A = ℕ} b 1 0) (test has.0 ∙ eq-eqb (get_or text (at + k) 0) byte has.1),
    )

-- the marks before a place
pub marks_kept : (marks end k : ℕ) → (bit_at (bit_and marks (2 ^ end - 1)) k ≡ 1) ↔ ((k < end) × (bit_at marks k ≡ 1))
marks_kept marks end k =
    let both = bit_at_and marks (2 ^ end - 1) k in (
      λ set. elim (cases_lt k end) [
        | inl low ↦ (low, omega (arith, both, set, bit_at_ones end k low, bit_at-lt marks k))
        | inr past ↦ absurd (omega (arith, both, set, bit_at_ones_above end k past))
      ],
      λ has. omega (arith, both, has.1, bit_at_ones end k has.0),
    )

-- there is always a mark after those of the 32 bytes
pub end_marked : (marks : ℕ) → bit_at (bit_or marks (2 ^ 32)) 32 ≡ 1
end_marked marks = omega (arith, bit_at_or marks (2 ^ 32) 32, bit_at-pow_same 32, bit_at-lt marks 32)

pub some_marked : (marks : ℕ) → bit_or marks (2 ^ 32) ≢ 0
some_marked marks none = omega (arith, end_marked marks, ap (λ m. bit_at m 32) none ∙ bit_at-zero 32)

-- the marks of quotes, carriage returns and line feeds, and the one after those of the 32 bytes
abbrev stops_and_end : ℕ → ℕ → ℕ → ℕ
stops_and_end quotes returns feeds = bit_or (bit_or (bit_or quotes returns) feeds) (2 ^ 32)

stop_marks : (quotes returns feeds k : ℕ) → k < 32 → bit_at (stops_and_end quotes returns feeds) k ≡ max (max (bit_at quotes k) (bit_at returns k)) (bit_at feeds k)
stop_marks quotes returns feeds k low =
    omega (
      arith,
      bit_at_or (bit_or (bit_or quotes returns) feeds) (2 ^ 32) k,
      bit_at_or (bit_or quotes returns) feeds k,
      bit_at_or quotes returns k,
      bit_at-pow_other 32 k (λ same. omega (arith, same, low)),
    )

plain_byte : (byte : ℕ) → byte ≢ 34 → byte ≢ 13 → byte ≢ 10 → IsPlain byte
plain_byte byte no_quote no_return no_feed = rw (ne_eqb byte 34 no_quote, ne_eqb byte 13 no_return, ne_eqb byte 10 no_feed) refl

special_byte : (byte other : ℕ) → ¬ IsPlain other → byte ≡ other → ¬ IsPlain byte
special_byte byte other special is = subst (λ b. ¬ IsPlain b) (sym is) special

module _ (text : List ℕ) (at quotes returns feeds : ℕ) (q : AreMarksOf text at 34 quotes) (r : AreMarksOf text at 13 returns) (f : AreMarksOf text at 10 feeds) where
  pub plain_unmarked : (k : ℕ) → k < 32 → bit_at (stops_and_end quotes returns feeds) k ≡ 0 → IsPlain (get_or text (at + k) 0)
  plain_unmarked k low clear =
      let none = stop_marks quotes returns feeds k low in
      plain_byte (get_or text (at + k) 0)
      (λ is. omega (arith, clear, none, (q k).1 (low, is)))
      (λ is. omega (arith, clear, none, (r k).1 (low, is)))
      (λ is. omega (arith, clear, none, (f k).1 (low, is)))

  pub special_marked : (k : ℕ) → k < 32 → bit_at (stops_and_end quotes returns feeds) k ≡ 1 → ¬ IsPlain (get_or text (at + k) 0)
  special_marked k low set plain =
      let some = stop_marks quotes returns feeds k low in
      let no_quote : bit_at quotes k ≢ 1 = λ one. special_byte _ 34 true≢false ((q k).0 one).1 plain in
      let no_return : bit_at returns k ≢ 1 = λ one. special_byte _ 13 true≢false ((r k).0 one).1 plain in
      let no_feed : bit_at feeds k ≢ 1 = λ one. special_byte _ 10 true≢false ((f k).0 one).1 plain in
      omega (arith, set, some, no_quote, no_return, no_feed, bit_at-lt quotes k, bit_at-lt returns k, bit_at-lt feeds k)

-- the commas after the first one
pub commas_after : (text : List ℕ) (place end marks first left : ℕ) → AreCommas text place end marks → ((k : ℕ) → bit_at left k ≡ bit_at marks (first + 1 + k))
    → AreCommas text (place + first + 1) end left
commas_after text place end marks first left are shifted k =
    let same : place + (first + 1 + k) ≡ place + first + 1 + k = omega arith in
    subst (λ m. (m ≡ 1) ↔ ((place + first + 1 + k < end) × (get_or text (place + first + 1 + k) 0 ≡ 44))) (sym (shifted k))
    (subst (λ n. (bit_at marks (first + 1 + k) ≡ 1) ↔ ((n < end) × (get_or text n 0 ≡ 44))) same (are (first + 1 + k)))

-- the plain bytes by their places
pub plain_places : (text : List ℕ) (at plain : ℕ) → ((k : ℕ) → k < plain → IsPlain (get_or text (at + k) 0)) → ArePlain text at (at + plain)
plain_places text at plain each place low high =
    let same : at + (place - at) ≡ place = omega arith in
    subst (λ n. IsPlain (get_or text n 0)) same (each (place - at) (omega arith))

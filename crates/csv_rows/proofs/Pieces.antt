-- The fields of a line, by the places where they end.
use Rattle.std.proofs.Common.{◌≡◌, ◌<◌, ◌≤◌, ◌+◌, ◌-◌, ℕ, zero, suc, List, [], ◌∷◌, ◌++◌, length, take, drop, get_or, Option, Some, None, Bool, true, false, refl, sym, ap, subst, arith, ◌∙◌, append_assoc, append-nil, le_refl}
use Rattle.std.specs.Prelude.{if◌then◌else◌, ◌==◌, slice_range}
use Rattle.std.proofs.lemmas.List.{drop_more, drop_all, get_or-drop, length-drop, take_more}
use Rattle.csv.specs.Records.{field_at}
use Rattle.csv_rows.specs.Line.{IsPlain, split, split_after}
use Rattle.csv_rows.specs.Pieces.{AreEnds, CutSoFar, IsCut, IsSeen, StopsAt, next_start, pieces_from, start_at}

-- one more field ends
pub pieces_more : (start : ℕ) (ends : List ℕ) (end : ℕ) (line : List ℕ)
    → pieces_from start (ends ++ end ∷ []) line ≡ pieces_from start ends line ++ slice_range line (next_start start ends) end ∷ []
unfolding pieces_from
pieces_more start [] end line = refl
pieces_more start (first ∷ ends) end line = ap (λ others. slice_range line start first ∷ others) (pieces_more (first + 1) ends end line)

pub next_start_more : (start : ℕ) (ends : List ℕ) (end : ℕ) → next_start start (ends ++ end ∷ []) ≡ end + 1
next_start_more start [] end = refl
next_start_more start (first ∷ ends) end = next_start_more (first + 1) ends end

pub ends_more : (start : ℕ) (ends : List ℕ) (end length_of : ℕ) → AreEnds start ends length_of → next_start start ends ≤ end → end ≤ length_of
    → AreEnds start (ends ++ end ∷ []) length_of
unfolding AreEnds
ends_more start [] end length_of are begun within = (begun, within, tt)
ends_more start (first ∷ ends) end length_of are begun within = (are.0, are.1, ends_more (first + 1) ends end length_of are.2 begun within)

nothing : (n : ℕ) (line : List ℕ) → slice_range line n n ≡ []
nothing n line = let none : n - n ≡ 0 = omega arith in ap (λ k. take k (drop n line)) none

-- nothing is cut yet
pub cut_none : (line : List ℕ) → CutSoFar line [] 0
unfolding pieces_from
cut_none line = refl

at_byte : (line : List ℕ) (place byte : ℕ) (field : List ℕ) → place < length line → get_or line place 0 ≡ byte
    → split_after field (drop place line) ≡ split_after field (byte ∷ drop (place + 1) line)
at_byte line place byte field within is = ap (split_after field) (drop_more line place 0 within ∙ ap (λ b. b ∷ drop (place + 1) line) is)

-- a field ends at a comma
pub cut_comma : (line ends : List ℕ) (place : ℕ) → place < length line → get_or line place 0 ≡ 44 → CutSoFar line ends place
    → CutSoFar line (ends ++ place ∷ []) (place + 1)
unfolding split_after
cut_comma line ends place within comma so_far =
    let field = slice_range line (next_start 0 ends) place in
    let rest = drop (place + 1) line in
    let ended : split_after field (drop place line) ≡ field ∷ split_after [] rest = at_byte line place 44 field within comma in
    let begun : split_after [] rest ≡ split_after (slice_range line (next_start 0 (ends ++ place ∷ [])) (place + 1)) rest =
    ap (λ part. split_after part rest) (sym (ap (λ n. slice_range line n (place + 1)) (next_start_more 0 ends place) ∙ nothing (place + 1) line)) in
    so_far ∙ ap (λ others. pieces_from 0 ends line ++ others) (ended ∙ ap (λ others. field ∷ others) begun)
    ∙ sym (append_assoc (pieces_from 0 ends line) (field ∷ []) (split_after (slice_range line (next_start 0 (ends ++ place ∷ [])) (place + 1)) rest))
    ∙ ap (λ front. front ++ split_after (slice_range line (next_start 0 (ends ++ place ∷ [])) (place + 1)) rest) (sym (pieces_more 0 ends place line))

-- any other byte joins the field at hand
pub cut_byte : (line ends : List ℕ) (place : ℕ) → place < length line → next_start 0 ends ≤ place → (get_or line place 0 == 44) ≡ false
    → CutSoFar line ends place → CutSoFar line ends (place + 1)
unfolding split_after
cut_byte line ends place within begun no_comma so_far =
    let start = next_start 0 ends in
    let byte = get_or line place 0 in
    let field = slice_range line start place in
    let rest = drop (place + 1) line in
    let step : place + 1 - start ≡ (place - start) + 1 = omega arith in
    let at : start + (place - start) ≡ place = omega arith in
    let room : place - start < length (drop start line) = omega (arith, length-drop start line) in
    let longer : slice_range line start (place + 1) ≡ field ++ byte ∷ [] =
    ap (λ n. take n (drop start line)) step ∙ take_more (drop start line) (place - start) 0 room
    ∙ ap (λ b. field ++ b ∷ []) (get_or-drop start line (place - start) 0 ∙ ap (λ n. get_or line n 0) at) in
    let joins : split_after field (byte ∷ rest) ≡ split_after (field ++ byte ∷ []) rest =
    ap (λ (comma : Bool). if comma then field ∷ split_after [] rest else split_after (field ++ byte ∷ []) rest) no_comma in
    so_far ∙ ap (λ others. pieces_from 0 ends line ++ others)
    (at_byte line place byte field within refl ∙ joins ∙ ap (λ all. split_after all rest) (sym longer))

-- the last field ends with the line
pub cut_end : (line ends : List ℕ) → CutSoFar line ends (length line) → pieces_from 0 (ends ++ length line ∷ []) line ≡ split line
unfolding split_after
cut_end line ends so_far =
    pieces_more 0 ends (length line) line
    ∙ sym (so_far ∙ ap (λ rest. pieces_from 0 ends line ++ split_after (slice_range line (next_start 0 ends) (length line)) rest)
    (drop_all (length line) line (le_refl (length line))))

-- the steps of a walk along a line
pub walk_begins : (line ends : List ℕ) → ends ≡ [] → IsCut line ends 0
unfolding AreEnds
walk_begins line [] none = record { are = tt; begun = le_refl 0; so_far = cut_none line }
walk_begins line (end ∷ ends) none = absurd (omega (arith, ap length none))

pub walk_comma : (line ends more : List ℕ) (place : ℕ) → more ≡ ends ++ place ∷ [] → place < length line → get_or line place 0 ≡ 44
    → AreEnds 0 ends (length line) → next_start 0 ends ≤ place → CutSoFar line ends place → IsCut line more (place + 1)
walk_comma line ends more place is within comma are begun so_far =
    let P : List ℕ → Type 0 = λ all. IsCut line all (place + 1) in
    subst P (sym is) (record {
      are = ends_more 0 ends place (length line) are begun (omega arith);
      begun = omega (arith, next_start_more 0 ends place);
      so_far = cut_comma line ends place within comma so_far;
    })

pub walk_byte : (line ends more : List ℕ) (place : ℕ) → more ≡ ends → place < length line → (get_or line place 0 == 44) ≡ false
    → AreEnds 0 ends (length line) → next_start 0 ends ≤ place → CutSoFar line ends place → IsCut line more (place + 1)
walk_byte line ends more place is within no_comma are begun so_far =
    let P : List ℕ → Type 0 = λ all. IsCut line all (place + 1) in
    subst P (sym is) (record {
      are = are;
      begun = omega arith;
      so_far = cut_byte line ends place within begun no_comma so_far;
    })

pub walk_ends : (line ends more : List ℕ) (place : ℕ) → place ≡ length line → more ≡ ends ++ length line ∷ [] → CutSoFar line ends place
    → pieces_from 0 more line ≡ split line
walk_ends line ends more place all is so_far =
    let P : ℕ → Type 0 = λ n. CutSoFar line ends n in
    ap (λ places. pieces_from 0 places line) is ∙ cut_end line ends (subst P all so_far)

-- how many fields there are
pub pieces_count : (start : ℕ) (ends line : List ℕ) → length (pieces_from start ends line) ≡ length ends
unfolding pieces_from
pieces_count start [] line = refl
pieces_count start (end ∷ ends) line = ap suc (pieces_count (end + 1) ends line)

-- the field at a place, and that it is within its line
pub piece_at : (start : ℕ) (ends line : List ℕ) (place : ℕ) → place < length ends
    → field_at (pieces_from start ends line) place ≡ Some (slice_range line (start_at start ends place) (get_or ends place 0))
unfolding pieces_from field_at
piece_at start [] line place within = absurd (omega arith)
piece_at start (end ∷ ends) line zero within = refl
piece_at start (end ∷ ends) line (suc place) within = piece_at (end + 1) ends line place (omega arith)

pub piece_past : (start : ℕ) (ends line : List ℕ) (place : ℕ) → length ends ≤ place → field_at (pieces_from start ends line) place ≡ None
unfolding pieces_from field_at
piece_past start [] line place past = refl
piece_past start (end ∷ ends) line zero past = absurd (omega arith)
piece_past start (end ∷ ends) line (suc place) past = piece_past (end + 1) ends line place (omega arith)

pub piece_within : (start : ℕ) (ends : List ℕ) (length_of place : ℕ) → AreEnds start ends length_of → place < length ends
    → (start_at start ends place ≤ get_or ends place 0) × (get_or ends place 0 ≤ length_of)
unfolding AreEnds
piece_within start [] length_of place are within = absurd (omega arith)
piece_within start (end ∷ ends) length_of zero are within = (are.0, are.1)
piece_within start (end ∷ ends) length_of (suc place) are within = piece_within (end + 1) ends length_of place are.2 (omega arith)

-- where a field begins, by the end of the one before it
pub begins_after : (start : ℕ) (ends : List ℕ) (place : ℕ) → place < length ends → start_at start ends (suc place) ≡ get_or ends place 0 + 1
begins_after start [] place within = absurd (omega arith)
begins_after start (end ∷ ends) zero within = refl
begins_after start (end ∷ ends) (suc place) within = begins_after (end + 1) ends place (omega arith)

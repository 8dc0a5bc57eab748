-- Lists that are split in two ways, and the places of records in them.
use Rattle.std.proofs.Common.{Some, ◌-◌, ◌≡◌, ◌<◌, ◌≤◌, ◌+◌, ◌∙◌, ℕ, suc, List, [], ◌∷◌, ◌++◌, length, refl, sym, ap, arith, append_assoc}
use Rattle.std.specs.Prelude.{slice_get}
use Rattle.std.proofs.lemmas.List.{length-append}
use Rattle.std.proofs.lemmas.Option.{get_or_from_slice_get, slice_get_within}
use Rattle.apex_types.specs.declared.record.Ordered.{Ordered}
use Rattle.apex_machine.specs.Runs.{ArePlaced}
use Rattle.piece_check.proofs.Reaching.{placed_at}

-- the shorter front begins the longer one
pub begins : {A : Type 0} (short holds_before long rest : List A) → short ++ holds_before ≡ long ++ rest → length short ≤ length long → (middle : List A) × (long ≡ short ++ middle)
begins [] holds_before long rest same less = (long, refl)
begins (x ∷ short) holds_before [] rest same less = absurd (omega arith)
begins (x ∷ short) holds_before (y ∷ long) rest same less =
    let head : x ≡ y = cc in
    let tail : short ++ holds_before ≡ long ++ rest = cc in
    let more = begins short holds_before long rest tail (omega arith) in
    (more.0, ap (λ one. one ∷ long) (sym head) ∙ ap (λ list. x ∷ list) more.1)

-- an element of one split is in a longer front
pub begins_with : {A : Type 0} (before : List A) (one : A) (after long rest : List A) → before ++ one ∷ after ≡ long ++ rest → length before < length long
    → (middle : List A) × (long ≡ (before ++ one ∷ []) ++ middle)
begins_with before one after long rest same less =
    begins (before ++ one ∷ []) after long rest (append_assoc before (one ∷ []) after ∙ same) (omega (arith, length-append before (one ∷ [])))

-- records at places

pub place_after : (first : ℕ) (before : List Ordered) (ordered : Ordered) (after : List Ordered) → ArePlaced first (before ++ ordered ∷ after) → ordered.pos ≡ first + length before
place_after first [] ordered after placed = omega (arith, placed.0)
place_after first (one ∷ before) ordered after placed = omega (arith, place_after (suc first) before ordered after placed.1)

pub placed_front : (first : ℕ) (front back : List Ordered) → ArePlaced first (front ++ back) → ArePlaced first front
placed_front first [] back placed = tt
placed_front first (one ∷ front) back placed = (placed.0, placed_front (suc first) front back placed.1)

-- the last of some records comes right before what follows them
pub last_place : (first : ℕ) (records : List Ordered) (last : Ordered) → ArePlaced first records → slice_get records (length records - 1) ≡ Some last → last.pos + 1 ≡ first + length records
last_place first records last placed is =
    let within = slice_get_within records (length records - 1) last is in
    let there = get_or_from_slice_get records (length records - 1) last last is in
    omega (arith, placed_at first (length records - 1) last records placed within, ap (λ one. one.pos) there, within)

-- What all pieces together see of a round.
use Rattle.std.proofs.Common.{◌≡◌, ◌<◌, ◌≤◌, ◌+◌, ◌∙◌, ℕ, suc, List, [], ◌∷◌, ◌++◌, Bool, true, false, Option, Some, None, length, nat_lt, if◌then◌else◌, refl, sym, ap, subst, inl, inr, arith, append_assoc}
use Rattle.std.specs.Prelude.{Contains, slice_get}
use Rattle.std.proofs.lemmas.Bool.{cases_lt}
use Rattle.std.proofs.lemmas.Bool.Decides.{nat_tests}
use Rattle.std.proofs.lemmas.List.{append-nil, length-append}
use Rattle.apex_types.specs.declared.record.Ordered.{Ordered}
use Rattle.apex_types.specs.declared.view.View.{View}
use Rattle.apex_machine.specs.Configuration.{Configuration}
use Rattle.apex_machine.specs.Pieces.{Part, pieces}
use Rattle.apex_machine.specs.Runs.{ArePlaced, PieceRun}
use Rattle.apex_machine.specs.Views.{judge, view_in}
use Rattle.piece_check.specs.Parts.{piece_at}
use Rattle.verdict_merge.specs.declared.finding.Refused.{Refused}
use Rattle.verdict_merge.specs.declared.breach.Seen.{Seen}
use Rattle.verdict_merge.specs.Rounds.{HasRunOver, Runs}
use Rattle.verdict_merge.specs.Views.{AreSeen, AreViewsAfter, IsViewOf, before_place, up_to}
use Rattle.verdict_merge.proofs.Rounds.{runs_front}
use Rattle.verdict_merge.proofs.Seeing.{is_seen, seen_is}
use Rattle.verdict_merge.proofs.Slotted.{HaveSlots, put_in, put_in_from, put_in_stays, put_in_there, slot_at}
use Rattle.verdict_merge.proofs.Splits.{begins, begins_with, place_after}
use Rattle.verdict_merge.proofs.Verdicts.{runs_and_refuses}

-- records before a place

pub not_before : (place other : ℕ) → other ≡ place → nat_lt other place ≡ false
not_before place other e = grind (arith, nat_tests)

pub is_before : (place other : ℕ) → other < place → nat_lt other place ≡ true
is_before place other less = grind (arith, nat_tests)

-- those before the place of a record are those that come before it
pub before_of : (first : ℕ) (before : List Ordered) (ordered : Ordered) (after : List Ordered) (place : ℕ) → ArePlaced first (before ++ ordered ∷ after) → place ≡ ordered.pos
    → before_place place (before ++ ordered ∷ after) ≡ before
before_of first [] ordered after place placed is = rw (not_before place ordered.pos (sym is)) refl
before_of first (one ∷ before) ordered after place placed is =
    let there : ordered.pos ≡ suc first + length before = place_after (suc first) before ordered after placed.1 in
    let less : one.pos < place = omega (arith, placed.0, there, is) in
    let rest = before_of (suc first) before ordered after place placed.1 is in
    rw (is_before place one.pos less) (ap (λ list. one ∷ list) rest)

-- what is before a refusal, or all, begins the records
pub front_of : (records : List Ordered) (place : ℕ) → (rest : List Ordered) × (records ≡ before_place place records ++ rest)
front_of [] place = ([], refl)
front_of (ordered ∷ others) place = by (nat_lt ordered.pos place) (front_of others place)
  where
    by : (b : Bool) → (rest : List Ordered) × (others ≡ before_place place others ++ rest)
        → (rest : List Ordered) × (ordered ∷ others ≡ (if b then ordered ∷ before_place place others else []) ++ rest)
    by true (rest, is) = (rest, ap (λ list. ordered ∷ list) is)
    by false front = (ordered ∷ others, refl)

pub up_to_front : (records : List Ordered) (found : Option Refused) → (rest : List Ordered) × (records ≡ up_to found records ++ rest)
up_to_front records None = ([], sym (append-nil records))
up_to_front records (Some found) = front_of records found.pos

-- two splits of a list at one number are the same
pub one_split : (before : List Ordered) (ordered : Ordered) (after : List Ordered) (before' : List Ordered) (ordered' : Ordered) (after' : List Ordered)
    → before ++ ordered ∷ after ≡ before' ++ ordered' ∷ after' → length before ≡ length before' → (before ≡ before') × (ordered ≡ ordered')
one_split [] ordered after [] ordered' after' same counted = (refl, cc)
one_split [] ordered after (one ∷ before') ordered' after' same counted = absurd (omega (arith, counted))
one_split (one ∷ before) ordered after [] ordered' after' same counted = absurd (omega (arith, counted))
one_split (one ∷ before) ordered after (one' ∷ before') ordered' after' same counted =
    let head : one ≡ one' = cc in
    let tail : before ++ ordered ∷ after ≡ before' ++ ordered' ∷ after' = cc in
    let rest = one_split before ordered after before' ordered' after' tail (omega (arith, counted)) in
    (ap (λ first. first ∷ before) head ∙ ap (λ list. one' ∷ list) rest.0, rest.1)

-- what the piece of a number gives: views of the records that it judges, and of no others
pub record Gives (configuration : Configuration) (parts : ℕ → Part) (number : ℕ) : Type 0 where
  pub only : (before : List Ordered) (ordered : Ordered) (reached : Part) (view : View) → PieceRun configuration (piece_at configuration number) (parts number) before reached
      → view_in reached ordered ≡ Some view → piece_at configuration number ≡ judge ordered
  pub always : (before : List Ordered) (ordered : Ordered) (reached : Part) → PieceRun configuration (piece_at configuration number) (parts number) before reached
      → piece_at configuration number ≡ judge ordered → (view : View) × (view_in reached ordered ≡ Some view)

-- each view in a slot is that of the slot's record
abbrev pub AreSound : Configuration → (ℕ → Part) → List Ordered → List (Option View) → Type 0
AreSound configuration parts records slots =
    (view : View) (before : List Ordered) (ordered : Ordered) (after : List Ordered) → records ≡ before ++ ordered ∷ after
    → slot_at slots (length before) ≡ Some view → IsViewOf configuration parts before ordered view

-- each record that the piece of this number judges and runs through has its view in its slot
abbrev pub HasFilled : Configuration → (ℕ → Part) → List Ordered → List (Option View) → ℕ → Type 0
HasFilled configuration parts records slots number =
    (before : List Ordered) (ordered : Ordered) (after : List Ordered) → records ≡ before ++ ordered ∷ after
    → piece_at configuration number ≡ judge ordered → Runs configuration parts number (before ++ ordered ∷ [])
    → (view : View) × (slot_at slots (length before) ≡ Some view)

-- those that a piece has seen have slots
pub seen_have_slots : (configuration : Configuration) (parts : ℕ → Part) (number : ℕ) (records : List Ordered) (found : Option Refused) (seen : List Seen) (slots : List (Option View))
    → length slots ≡ length records → AreSeen configuration (piece_at configuration number) (parts number) 0 (up_to found records) seen → HaveSlots seen slots
seen_have_slots configuration parts number records found seen slots whole are = λ one there.
    let at = seen_is configuration (piece_at configuration number) (parts number) 0 (up_to found records) seen are one there in
    let front = up_to_front records found in
    omega (
      arith,
      whole,
      at.at,
      ap length front.1,
      length-append (up_to found records) front.0,
      ap length at.split,
      length-append at.before (at.ordered ∷ at.after),
    )

-- what a piece has seen is the view of the record there
pub view_there : (configuration : Configuration) (parts : ℕ → Part) (number : ℕ) (records : List Ordered) (found : Option Refused) (seen : List Seen) (one : Seen)
    → number < length (pieces configuration) → Gives configuration parts number
    → AreSeen configuration (piece_at configuration number) (parts number) 0 (up_to found records) seen → Contains seen one
    → (before : List Ordered) (ordered : Ordered) (after : List Ordered) → records ≡ before ++ ordered ∷ after → one.index ≡ length before
    → IsViewOf configuration parts before ordered one.view
view_there configuration parts number records found seen one within gives are among before ordered after split at =
    let is_shown = seen_is configuration (piece_at configuration number) (parts number) 0 (up_to found records) seen are one among in
    let front = up_to_front records found in
    let also : records ≡ is_shown.before ++ is_shown.ordered ∷ (is_shown.after ++ front.0) =
    front.1 ∙ ap (λ list. list ++ front.0) is_shown.split ∙ append_assoc is_shown.before (is_shown.ordered ∷ is_shown.after) front.0 in
    let alike = one_split is_shown.before is_shown.ordered (is_shown.after ++ front.0) before ordered after (sym also ∙ split) (omega (arith, at, is_shown.at)) in
    let seen_here : view_in is_shown.reached ordered ≡ Some one.view = ap (view_in is_shown.reached) (sym alike.1) ∙ is_shown.view in
    let run_here : PieceRun configuration (piece_at configuration number) (parts number) before is_shown.reached =
    subst (λ list. PieceRun configuration (piece_at configuration number) (parts number) list is_shown.reached) alike.0 is_shown.run in
    record {
      number = number;
      within = within;
      judges = gives.only before ordered is_shown.reached one.view run_here seen_here;
      reached = is_shown.reached;
      run = run_here;
      seen = seen_here;
    }

-- what one more piece has seen is put in
pub sound_more : (configuration : Configuration) (parts : ℕ → Part) (number : ℕ) (records : List Ordered) (found : Option Refused) (seen : List Seen) (slots : List (Option View))
    → number < length (pieces configuration) → Gives configuration parts number → length slots ≡ length records
    → AreSeen configuration (piece_at configuration number) (parts number) 0 (up_to found records) seen
    → AreSound configuration parts records slots → AreSound configuration parts records (put_in seen slots)
sound_more configuration parts number records found seen slots within gives whole are sound view before ordered after split held =
    elim (put_in_from seen slots (length before) view (seen_have_slots configuration parts number records found seen slots whole are) held) [
      | inl there ↦ sound view before ordered after split there
      | inr (one, among, at, same) ↦
          subst (IsViewOf configuration parts before ordered) same (view_there configuration parts number records found seen one within gives are among before ordered after split at)
    ]

-- slots that were filled stay so
pub filled_stays : (configuration : Configuration) (parts : ℕ → Part) (records : List Ordered) (seen : List Seen) (slots : List (Option View)) (number : ℕ)
    → HaveSlots seen slots → HasFilled configuration parts records slots number → HasFilled configuration parts records (put_in seen slots) number
filled_stays configuration parts records seen slots number have filled before ordered after split judges runs =
    let there = filled before ordered after split judges runs in
    put_in_stays seen slots (length before) there.0 have there.1

-- a record through which a piece runs comes before its refusal
pub reached_before : (configuration : Configuration) (parts : ℕ → Part) (number first : ℕ) (records : List Ordered) (found : Option Refused) (final : Part)
    → ArePlaced first records → HasRunOver configuration number (parts number) records found final
    → (before : List Ordered) (ordered : Ordered) (after : List Ordered) → records ≡ before ++ ordered ∷ after → Runs configuration parts number (before ++ ordered ∷ [])
    → (more : List Ordered) × (up_to found records ≡ before ++ ordered ∷ more)
reached_before configuration parts number first records None final placed outcome before ordered after split runs = (after, split)
reached_before configuration parts number first records (Some found) final placed (of, (before', ordered', after', split', place, ran, rejects)) before ordered after split runs =
    elim (cases_lt (length before) (length before')) [
      | inl less ↦
          let middle = begins_with before ordered after before' (ordered' ∷ after') (sym split ∙ split') less in
          (middle.0, before_is ∙ middle.1 ∙ append_assoc before (ordered ∷ []) middle.0)
      | inr most ↦ absurd (refuses most)
    ]
  where
    before_is : before_place found.pos records ≡ before'
    before_is =
        ap (before_place found.pos) split' ∙ before_of first before' ordered' after' found.pos (subst (ArePlaced first) split' placed) place

    refuses : length before' ≤ length before → ⊥
    refuses most =
        let through : (before' ++ ordered' ∷ []) ++ after' ≡ (before ++ ordered ∷ []) ++ after =
        append_assoc before' (ordered' ∷ []) after' ∙ sym split' ∙ split ∙ sym (append_assoc before (ordered ∷ []) after) in
        let front = begins (before' ++ ordered' ∷ []) after' (before ++ ordered ∷ []) after through
        (omega (arith, most, length-append before' (ordered' ∷ []), length-append before (ordered ∷ []))) in
        let run = runs_front configuration parts number (before' ++ ordered' ∷ []) front.0 (subst (Runs configuration parts number) front.1 runs) in
        runs_and_refuses configuration (piece_at configuration number) (parts number) before' ordered' found.cause run.0 run.1 (final, ran, rejects.0, rejects.1)

-- one more piece has filled its slots
pub filled_more : (configuration : Configuration) (parts : ℕ → Part) (number first : ℕ) (records : List Ordered) (found : Option Refused) (final : Part) (seen : List Seen) (slots : List (Option View))
    → ArePlaced first records → Gives configuration parts number → length slots ≡ length records
    → HasRunOver configuration number (parts number) records found final
    → AreSeen configuration (piece_at configuration number) (parts number) 0 (up_to found records) seen
    → HasFilled configuration parts records (put_in seen slots) number
filled_more configuration parts number first records found final seen slots placed gives whole outcome are before ordered after split judges runs =
    let more = reached_before configuration parts number first records found final placed outcome before ordered after split runs in
    let there = is_seen configuration (piece_at configuration number) (parts number) 0 (up_to found records) seen are before ordered more.0 more.1 in
    let view = gives.always before ordered there.0 there.1 judges in
    subst (λ index. (view : View) × (slot_at (put_in seen slots) index ≡ Some view)) (let e : 0 + length before ≡ length before = omega arith in e)
    (put_in_there seen slots (record { index = 0 + length before; view = view.0 }) (seen_have_slots configuration parts number records found seen slots whole are)
    (there.2 view.0 view.1))

-- views in the slots of the next records are theirs
pub views_of_slots : (configuration : Configuration) (parts : ℕ → Part) (records : List Ordered) (slots : List (Option View)) → AreSound configuration parts records slots
    → (before others rest : List Ordered) (views : List View) → records ≡ before ++ (others ++ rest) → length views ≡ length others
    → ((index : ℕ) (view : View) → slice_get views index ≡ Some view → slot_at slots (length before + index) ≡ Some view)
    → AreViewsAfter configuration parts before others views
views_of_slots configuration parts records slots sound before [] rest [] split whole held = refl
views_of_slots configuration parts records slots sound before [] rest (view ∷ views) split whole held = absurd (omega (arith, whole))
views_of_slots configuration parts records slots sound before (ordered ∷ others) rest [] split whole held = absurd (omega (arith, whole))
views_of_slots configuration parts records slots sound before (ordered ∷ others) rest (view ∷ views) split whole held = (
  view,
  views,
  refl,
  sound view before ordered (others ++ rest) split (ap (slot_at slots) (let e : length before ≡ length before + 0 = omega arith in e) ∙ held 0 view refl),
  views_of_slots configuration parts records slots sound (before ++ ordered ∷ []) others rest views
      (split ∙ sym (append_assoc before (ordered ∷ []) (others ++ rest))) (omega (arith, whole))
      (λ index one is. ap (slot_at slots) (let e : length (before ++ ordered ∷ []) + index ≡ length before + suc index = omega (arith, length-append before (ordered ∷ [])) in e) ∙ held (suc index) one is),
)

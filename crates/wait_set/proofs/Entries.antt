-- What entering does to entries in the order of their places.
use Rattle.std.proofs.Common.{◌≡◌, ◌<◌, ℕ, List, [], ◌∷◌, Some, Bool, true, false, ◌||◌, nat_eq, nat_lt, if◌then◌else◌, refl, ◌∙◌, arith, inl, inr}
use Rattle.std.proofs.lemmas.Bool.{cases_Bool}
use Rattle.std.proofs.lemmas.Bool.Decides.{nat_tests}
use Rattle.std.specs.Option.{is_some}
use Rattle.apex_types.specs.declared.discipline.Discipline.{Discipline}
use Rattle.apex_types.specs.declared.record.Who.{Who}
use Rattle.apex_machine.specs.declared.state.Entry.{Entry}
use Rattle.apex_machine.specs.Answer.{waiters_of}
use Rattle.apex_machine.specs.Demands.{has_entry_in}
use Rattle.apex_machine.specs.State.{is_named, is_same}
use Rattle.wait_set.specs.declared.rank.Rank.{Rank}
use Rattle.wait_set.specs.Kept.{has_rank, is_rank, place_of}
use Rattle.wait_set.specs.Ranks.{rank_of}
use Rattle.wait_set.specs.Sets.{NobodyTwice, PlacesRise, AreAfterPlace, entered, has_place}
use Rattle.wait_set.proofs.Tests.{either_swap, neither, neither_first, neither_later}
use Rattle.wait_set.proofs.WaitersOf.{same_apart, same_swap, is_member-named}

-- a process with an entry in a set is found there with a place
pub found-is_member : (who : Who) (entries : List Entry) → is_some (place_of who entries) ≡ has_entry_in who entries
found-is_member who [] = refl
found-is_member who (entry ∷ entries) =
    elim (cases_Bool (is_same who entry.who)) [ inl e ↦ rw e refl | inr e ↦ rw e (found-is_member who entries) ]

-- the place of a process, once a new entry has entered
pub place_of-entered : (who : Who) (entry : Entry) (entries : List Entry) → has_entry_in entry.who entries ≡ false
    → place_of who (entered entry entries) ≡ (if is_same who entry.who then Some entry.place else place_of who entries)
place_of-entered who entry [] new = refl
place_of-entered who entry (other ∷ others) new =
    elim (cases_Bool (nat_lt other.place entry.place)) [
      | inl before ↦ rw before (by (is_same who other.who) refl (place_of-entered who entry others (neither_later _ _ new)))
      | inr those_after ↦ rw those_after refl
    ]
  where
    by : (b : Bool) → is_same who other.who ≡ b
        → place_of who (entered entry others) ≡ (if is_same who entry.who then Some entry.place else place_of who others)
        → place_of who (other ∷ entered entry others) ≡ (if is_same who entry.who then Some entry.place else place_of who (other ∷ others))
    by true same rest = rw (same, same_apart who entry.who other.who (neither_first _ _ new) same) refl
    by false differs rest = rw differs rest

-- the ranks of a set, once an entry has entered
pub has_rank-entered : (discipline : Discipline) (rank : Rank) (entry : Entry) (entries : List Entry)
    → has_rank discipline rank (entered entry entries) ≡ (is_rank rank (rank_of discipline entry) || has_rank discipline rank entries)
has_rank-entered discipline rank entry [] = refl
has_rank-entered discipline rank entry (other ∷ others) =
    elim (cases_Bool (nat_lt other.place entry.place)) [
      | inl before ↦ rw (before, has_rank-entered discipline rank entry others) (either_swap (is_rank rank (rank_of discipline other)) _ _)
      | inr those_after ↦ rw those_after refl
    ]

-- who waits, once an entry has entered
pub named-entered : (who : Who) (entry : Entry) (entries : List Entry)
    → is_named who (waiters_of (entered entry entries)) ≡ (is_same who entry.who || is_named who (waiters_of entries))
named-entered who entry [] = refl
named-entered who entry (other ∷ others) =
    elim (cases_Bool (nat_lt other.place entry.place)) [
      | inl before ↦ rw (before, named-entered who entry others) (either_swap (is_same who other.who) _ _)
      | inr those_after ↦ rw those_after refl
    ]

-- a new entry gives no process a second one
pub once-entered : (entry : Entry) (entries : List Entry) → has_entry_in entry.who entries ≡ false → NobodyTwice (waiters_of entries)
    → NobodyTwice (waiters_of (entered entry entries))
once-entered entry [] new once = (refl, tt)
once-entered entry (other ∷ others) new once =
    elim (cases_Bool (nat_lt other.place entry.place)) [
      | inl before ↦ rw before (
        named-entered other.who entry others ∙ neither _ _ (same_swap other.who entry.who ∙ neither_first _ _ new) once.0,
        once-entered entry others (neither_later _ _ new) once.1,
      )
      | inr those_after ↦ rw those_after (is_member-named entry.who (other ∷ others) ∙ new, once)
    ]

-- who comes after a place comes after each smaller one
pub after_smaller : (place smaller : ℕ) (entries : List Entry) → smaller < place → AreAfterPlace place entries → AreAfterPlace smaller entries
after_smaller place smaller [] below those_after = tt
after_smaller place smaller (entry ∷ entries) below those_after = (omega arith, after_smaller place smaller entries below those_after.1)

-- an entry of a greater place comes after it too
pub those_after-entered : (place : ℕ) (entry : Entry) (entries : List Entry) → place < entry.place → AreAfterPlace place entries
    → AreAfterPlace place (entered entry entries)
those_after-entered place entry [] above those_after = (above, tt)
those_after-entered place entry (other ∷ others) above those_after =
    elim (cases_Bool (nat_lt other.place entry.place)) [
      | inl before ↦ rw before (those_after.0, those_after-entered place entry others above those_after.1)
      | inr not_before ↦ rw not_before (above, those_after)
    ]

-- an entry of a new place keeps the places rising
pub rising-entered : (entry : Entry) (entries : List Entry) → has_place entry.place entries ≡ false → PlacesRise entries
    → PlacesRise (entered entry entries)
rising-entered entry [] new rising = (tt, tt)
rising-entered entry (other ∷ others) new rising =
    elim (cases_Bool (nat_lt other.place entry.place)) [
      | inl before ↦ rw before (
        those_after-entered other.place entry others (grind (arith, nat_tests)) rising.0,
        rising-entered entry others (neither_later _ _ new) rising.1,
      )
      | inr not_before ↦
          let apart : nat_eq entry.place other.place ≡ false = neither_first _ _ new in
          let above : entry.place < other.place = grind (arith, nat_tests) in
          rw not_before ((above, after_smaller other.place entry.place others above rising.0), rising)
    ]

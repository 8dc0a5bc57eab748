-- What leaving does to entries in the order of their places.
use Rattle.std.proofs.Common.{◌≡◌, ◌<◌, ◌≤◌, ◌+◌, ℕ, suc, List, [], ◌∷◌, Option, Some, None, Bool, true, false, ◌||◌, nat_eq, if◌then◌else◌, length, get_or, drop, drop-cons, add-one, refl, sym, ap, ◌∙◌, arith, inl, inr, true≢false}
use Rattle.std.proofs.Math.ListN.{drop_of_length-le}
use Rattle.std.proofs.lemmas.Bool.{and_parts, cases_Bool, eqb-true}
use Rattle.std.specs.Option.{is_some}
use Rattle.apex_types.specs.declared.discipline.Discipline.{Discipline}
use Rattle.apex_types.specs.declared.record.Who.{Who}
use Rattle.apex_machine.specs.declared.state.Entry.{Entry}
use Rattle.apex_machine.specs.Answer.{NamesExactly, waiters_of}
use Rattle.apex_machine.specs.Demands.{has_entry_in}
use Rattle.apex_machine.specs.State.{is_named, is_same}
use Rattle.apex_machine.specs.Waiting.{without}
use Rattle.wait_set.specs.declared.rank.Rank.{Rank}
use Rattle.apex_types.specs.declared.record.Claim.{Claim}
use Rattle.apex_types.specs.declared.record.Out.TheVariants as out
use Rattle.wait_set.specs.declared.object.Actor.{Actor}
use Rattle.wait_set.specs.Actors.{entry_with, joined_by}
use Rattle.wait_set.specs.Kept.{has_rank, is_rank, place_of}
use Rattle.wait_set.specs.Ranks.{rank_of}
use Rattle.wait_set.specs.Sets.{NobodyTwice, PlacesRise, AreAfterPlace, entered, entry_of, waiter_of, without_found, without_named, without_one}
use Rattle.wait_set.proofs.Orders.{number_swap}
use Rattle.wait_set.proofs.Tests.{neither, neither_first, neither_later}
use Rattle.wait_set.proofs.WaitersOf.{same_is, same_itself, same_swap, is_member-named}

-- the place of a process, once those who leave have left
pub place_of-without : (leaves : Who → Bool) (who : Who) (entries : List Entry)
    → place_of who (without leaves entries) ≡ (if leaves who then None else place_of who entries)
place_of-without leaves who [] = elim (cases_Bool (leaves who)) [ inl e ↦ rw e refl | inr e ↦ rw e refl ]
place_of-without leaves who (entry ∷ entries) =
    elim (cases_Bool (leaves entry.who)) [
      | inl departed ↦ rw departed (place_of-without leaves who entries ∙ left departed (leaves who) refl)
      | inr stays ↦ rw stays (kept stays (is_same who entry.who) refl (place_of-without leaves who entries))
    ]
  where
    left : leaves entry.who ≡ true → (b : Bool) → leaves who ≡ b
        → (if b then None else place_of who entries) ≡ (if b then None else place_of who (entry ∷ entries))
    left departed true e = refl
    left departed false e =
        elim (cases_Bool (is_same who entry.who)) [
          | inl same ↦ absurd (true≢false (sym departed ∙ ap leaves (sym (same_is who entry.who same)) ∙ e))
          | inr differs ↦ rw differs refl
        ]

    kept : leaves entry.who ≡ false → (b : Bool) → is_same who entry.who ≡ b
        → place_of who (without leaves entries) ≡ (if leaves who then None else place_of who entries)
        → place_of who (entry ∷ without leaves entries) ≡ (if leaves who then None else place_of who (entry ∷ entries))
    kept stays true same rest = rw (same, ap leaves (same_is who entry.who same) ∙ stays) refl
    kept stays false differs rest = rw differs rest

-- who does not wait does not wait once others have left
pub unnamed-without : (leaves : Who → Bool) (who : Who) (entries : List Entry) → is_named who (waiters_of entries) ≡ false
    → is_named who (waiters_of (without leaves entries)) ≡ false
unnamed-without leaves who [] none = refl
unnamed-without leaves who (entry ∷ entries) none =
    elim (cases_Bool (leaves entry.who)) [
      | inl departed ↦ rw departed (unnamed-without leaves who entries (neither_later _ _ none))
      | inr stays ↦ rw stays (neither _ _ (neither_first _ _ none) (unnamed-without leaves who entries (neither_later _ _ none)))
    ]

-- leaving gives no process a second entry
pub once-without : (leaves : Who → Bool) (entries : List Entry) → NobodyTwice (waiters_of entries) → NobodyTwice (waiters_of (without leaves entries))
once-without leaves [] once = tt
once-without leaves (entry ∷ entries) once =
    elim (cases_Bool (leaves entry.who)) [
      | inl departed ↦ rw departed (once-without leaves entries once.1)
      | inr stays ↦ rw stays (unnamed-without leaves entry.who entries once.0, once-without leaves entries once.1)
    ]

-- who leaves keeps the others after
pub those_after-without : (leaves : Who → Bool) (place : ℕ) (entries : List Entry) → AreAfterPlace place entries
    → AreAfterPlace place (without leaves entries)
those_after-without leaves place [] those_after = tt
those_after-without leaves place (entry ∷ entries) those_after =
    elim (cases_Bool (leaves entry.who)) [
      | inl departed ↦ rw departed (those_after-without leaves place entries those_after.1)
      | inr stays ↦ rw stays (those_after.0, those_after-without leaves place entries those_after.1)
    ]

-- who leaves keeps the places rising
pub rising-without : (leaves : Who → Bool) (entries : List Entry) → PlacesRise entries → PlacesRise (without leaves entries)
rising-without leaves [] rising = tt
rising-without leaves (entry ∷ entries) rising =
    elim (cases_Bool (leaves entry.who)) [
      | inl departed ↦ rw departed (rising-without leaves entries rising.1)
      | inr stays ↦ rw stays (those_after-without leaves entry.place entries rising.0, rising-without leaves entries rising.1)
    ]

-- one that does not wait leaves nothing changed
pub without-absent : (who : Who) (entries : List Entry) → has_entry_in who entries ≡ false → without_one who entries ≡ entries
without-absent who [] none = refl
without-absent who (entry ∷ entries) none =
    rw (same_swap entry.who who ∙ neither_first _ _ none) (ap (λ rest. entry ∷ rest) (without-absent who entries (neither_later _ _ none)))

-- a process that has a place in a set has its entry there
pub found-entry : (who : Who) (entries : List Entry) (place : ℕ) → place_of who entries ≡ Some place
    → (entry : Entry) × (entry_of who entries ≡ Some entry) × (entry.place ≡ place)
found-entry who [] place found = cc
found-entry who (entry ∷ entries) place found =
    elim (cases_Bool (is_same who entry.who)) [
      | inl same ↦ rw same (entry, refl, (let here = rw same at found in cc))
      | inr differs ↦ rw differs (found-entry who entries place (rw differs at found))
    ]

-- who does not wait has no entry
pub entry_of-absent : (who : Who) (entries : List Entry) → place_of who entries ≡ None → entry_of who entries ≡ None
entry_of-absent who [] none = refl
entry_of-absent who (entry ∷ entries) none =
    elim (cases_Bool (is_same who entry.who)) [
      | inl same ↦ absurd (let some = rw same at none in cc)
      | inr differs ↦ rw differs (entry_of-absent who entries (rw differs at none))
    ]

-- whether there is an entry of a process
pub entry_of-is_member : (who : Who) (entries : List Entry) → is_some (entry_of who entries) ≡ has_entry_in who entries
entry_of-is_member who [] = refl
entry_of-is_member who (entry ∷ entries) =
    elim (cases_Bool (is_same who entry.who)) [ inl e ↦ rw e refl | inr e ↦ rw e (entry_of-is_member who entries) ]

-- an entry after a place has a greater place
pub found-those_after : (who : Who) (place : ℕ) (entries : List Entry) (entry : Entry) → AreAfterPlace place entries
    → entry_of who entries ≡ Some entry → place < entry.place
found-those_after who place [] entry those_after found = cc
found-those_after who place (other ∷ others) entry those_after found =
    elim (cases_Bool (is_same who other.who)) [
      | inl same ↦
          let here : Some other ≡ Some entry = rw same at found in
          let is : other ≡ entry = cc in
          let above : place < other.place = those_after.0 in
          rw (← is) above
      | inr differs ↦ found-those_after who place others entry those_after.1 (rw differs at found)
    ]

-- ranks of two places are two
pub differ : (one other : Rank) → one.place < other.place → is_rank one other ≡ false
differ one other below =
    elim (cases_Bool (is_rank one other)) [
      | inl same ↦
          let parts = and_parts (nat_eq one.urgency.0 other.urgency.0) (nat_eq one.place other.place) same in
          let place : one.place ≡ other.place = eqb-true one.place other.place parts.1 in
          absurd (omega arith)
      | inr apart ↦ apart
    ]

-- a rank of a smaller place is none of those after it
pub unranked-those_after : (discipline : Discipline) (rank : Rank) (place : ℕ) (entries : List Entry) → AreAfterPlace place entries
    → rank.place ≡ place → has_rank discipline rank entries ≡ false
unranked-those_after discipline rank place [] those_after is = refl
unranked-those_after discipline rank place (entry ∷ entries) those_after is =
    neither _ _ (differ rank (rank_of discipline entry) (omega arith)) (unranked-those_after discipline rank place entries those_after.1 is)

-- sameness of ranks goes both ways
pub rank_swap : (one other : Rank) → is_rank one other ≡ is_rank other one
rank_swap one other = rw (number_swap one.urgency.0 other.urgency.0, number_swap one.place other.place) refl

-- the ranks of a set, once a process has left: all but that of its entry
pub has_rank-without : (discipline : Discipline) (rank : Rank) (who : Who) (entry : Entry) (entries : List Entry) → PlacesRise entries
    → NobodyTwice (waiters_of entries) → entry_of who entries ≡ Some entry
    → has_rank discipline rank (without_one who entries)
    ≡ (if is_rank (rank_of discipline entry) rank then false else has_rank discipline rank entries)
has_rank-without discipline rank who entry [] rising once found = cc
has_rank-without discipline rank who entry (other ∷ others) rising once found =
    elim (cases_Bool (is_same who other.who)) [
      | inl same ↦
          let here : Some other ≡ Some entry = rw same at found in
          let is : other ≡ entry = cc in
          let named : is_named who (waiters_of others) ≡ false = ap (λ w. is_named w (waiters_of others)) (same_is who other.who same) ∙ once.0 in
          let absent : has_entry_in who others ≡ false = sym (is_member-named who others) ∙ named in
          rw (same_swap other.who who ∙ same, without-absent who others absent, ← is) (first (is_rank (rank_of discipline other) rank) refl)
      | inr differs ↦
          let later : entry_of who others ≡ Some entry = rw differs at found in
          rw (same_swap other.who who ∙ differs)
          (later_one (is_rank (rank_of discipline entry) rank) refl (found-those_after who other.place others entry rising.0 later)
          (has_rank-without discipline rank who entry others rising.1 once.1 later))
    ]
  where
    first : (b : Bool) → is_rank (rank_of discipline other) rank ≡ b
        → has_rank discipline rank others ≡ (if b then false else has_rank discipline rank (other ∷ others))
    first true e =
        let parts = and_parts (nat_eq (rank_of discipline other).urgency.0 rank.urgency.0) (nat_eq other.place rank.place) e in
        let place : other.place ≡ rank.place = eqb-true other.place rank.place parts.1 in
        unranked-those_after discipline rank other.place others rising.0 (sym place)
    first false e = rw (rank_swap rank (rank_of discipline other) ∙ e) refl

    later_one : (b : Bool) → is_rank (rank_of discipline entry) rank ≡ b → other.place < entry.place
        → has_rank discipline rank (without_one who others) ≡ (if b then false else has_rank discipline rank others)
        → has_rank discipline rank (other ∷ without_one who others) ≡ (if b then false else has_rank discipline rank (other ∷ others))
    later_one true e above rest =
        let parts = and_parts (nat_eq (rank_of discipline entry).urgency.0 rank.urgency.0) (nat_eq entry.place rank.place) e in
        let place : entry.place ≡ rank.place = eqb-true entry.place rank.place parts.1 in
        neither _ _ (rank_swap rank (rank_of discipline other) ∙ differ (rank_of discipline other) rank (omega arith)) rest
    later_one false e above rest = ap (λ more. is_rank rank (rank_of discipline other) || more) rest

-- a list that names no process takes none out
pub without-unnamed : (named : List Who) (entries : List Entry) → NamesExactly [] named → without_named named entries ≡ entries
without-unnamed named [] exact = refl
without-unnamed named (entry ∷ entries) exact = rw (exact entry.who) (ap (λ rest. entry ∷ rest) (without-unnamed named entries exact))

-- a process that is not named stays
pub without-nobody : (entries : List Entry) → without_named [] entries ≡ entries
without-nobody [] = refl
without-nobody (entry ∷ entries) = ap (λ rest. entry ∷ rest) (without-nobody entries)

-- the processes that a list names leave one after the other
pub without-next : (who : Who) (others : List Who) (entries : List Entry)
    → without_named (who ∷ others) entries ≡ without_named others (without_one who entries)
without-next who others [] = refl
without-next who others (entry ∷ entries) =
    elim (cases_Bool (is_same entry.who who)) [
      | inl same ↦ rw same (without-next who others entries)
      | inr differs ↦ rw differs (by (is_named entry.who others) refl (without-next who others entries))
    ]
  where
    by : (b : Bool) → is_named entry.who others ≡ b
        → without_named (who ∷ others) entries ≡ without_named others (without_one who entries)
        → (if b then without_named (who ∷ others) entries else entry ∷ without_named (who ∷ others) entries)
        ≡ without_named others (entry ∷ without_one who entries)
    by true named rest = rw named rest
    by false unnamed rest = rw unnamed (ap (λ more. entry ∷ more) rest)

-- the next of those who are still to be named leaves
pub without-at : (who : Who) (index : ℕ) (named : List Who) (entries : List Entry) → index < length named → who ≡ get_or named index who
    → without_named (drop index named) entries ≡ without_named (drop (index + 1) named) (without_one who entries)
without-at who index named entries within is =
    rw (drop-cons named index who within, ← is, add-one) (without-next who (drop (suc index) named) entries)

-- after the last, no process is named
pub without-end : (index : ℕ) (named : List Who) (entries : List Entry) → length named ≤ index → without_named (drop index named) entries ≡ entries
without-end index named entries those_after = rw (drop_of_length-le named those_after) (without-nobody entries)

-- a caller that waits, and ends no wait, enters
pub joined-waiting : (actor : Actor) (claim : Claim) (message : List ℕ) (entries : List Entry) → claim.out ≡ out.Waits → NamesExactly [] claim.woken
    → joined_by actor claim message entries ≡ entered (entry_with actor message) entries
joined-waiting actor claim message entries waits nobody = rw (waits, without-unnamed claim.woken entries nobody) refl

-- once one who is named has left, those who are named leave what they leave otherwise
pub without-named_one : (who : Who) (named : List Who) (entries : List Entry) → is_named who named ≡ true
    → without_named named (without_one who entries) ≡ without_named named entries
without-named_one who named [] is = refl
without-named_one who named (entry ∷ entries) is =
    elim (cases_Bool (is_same entry.who who)) [
      | inl same ↦
          let also : is_named entry.who named ≡ true = ap (λ w. is_named w named) (same_is entry.who who same) ∙ is in
          rw (same, also) (without-named_one who named entries is)
      | inr differs ↦ rw differs (by (is_named entry.who named) refl (without-named_one who named entries is))
    ]
  where
    by : (b : Bool) → is_named entry.who named ≡ b → without_named named (without_one who entries) ≡ without_named named entries
        → (if b then without_named named (without_one who entries) else entry ∷ without_named named (without_one who entries))
        ≡ (if b then without_named named entries else entry ∷ without_named named entries)
    by true e rest = rest
    by false e rest = ap (λ more. entry ∷ more) rest

-- if a list names only the first, taking out the processes named leaves the same entries, whether or not the first has left before
pub without-named_first : (found : Option Entry) (named : List Who) (entries : List Entry) → NamesExactly (waiter_of found) named
    → without_named named (without_found found entries) ≡ without_named named entries
without-named_first None named entries exact = refl
without-named_first (Some entry) named entries exact =
    without-named_one entry.who named entries (exact entry.who ∙ rw (same_itself entry.who) refl)

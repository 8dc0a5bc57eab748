-- The processes that wait in a set, in the order in which their waits end.
use Rattle.std.proofs.Common.{◌≡◌, ◌<◌, ◌≤◌, ◌+◌, ◌-◌, ◌∙◌, ℕ, zero, suc, List, [], ◌∷◌, ◌++◌, ◌||◌, Option, Some, None, Bool, true, false, length, map, min, take, refl, sym, ap, arith, inl, inr, append_assoc}
use Rattle.std.proofs.lemmas.Bool.{cases_Bool}
use Rattle.std.proofs.lemmas.List.{append-nil}
use Rattle.apex_types.specs.declared.discipline.Discipline.{Discipline}
use Rattle.apex_types.specs.declared.record.Who.{Who}
use Rattle.apex_machine.specs.declared.state.Entry.{Entry}
use Rattle.apex_machine.specs.Answer.{NamesExactly, waiters_of}
use Rattle.apex_machine.specs.State.{is_named, is_same}
use Rattle.apex_machine.specs.Waiting.{after_first, first_waiter, first_waiters, followed_by, precedes, sooner_entry}
use Rattle.std.specs.Borrow.{Bor}
use Rattle.wait_set.specs.declared.ended.Ended.{Ended}
use Rattle.wait_set.specs.declared.ended.Ended.TheVariants.{All, First}
use Rattle.wait_set.specs.Givens.{listed}
use Rattle.wait_set.specs.Sets.{Waiters, without_first, without_found, without_one}
use Rattle.wait_set.proofs.FirstRanks.{without-swap}
use Rattle.wait_set.proofs.Members.{shorter}
use Rattle.wait_set.proofs.WaitersOf.{same_is, same_itself, is_member-named}
use Rattle.run_view.specs.declared.waiter.Waiter.{Waiter}
use Rattle.run_view.specs.Waiters.{first_in_turn, in_turn, shown, with_first}

-- one turn

-- the process whose wait ends first comes after those of the turns before
pub next_turn : (waiters : List Waiter) (count turn : ℕ) (discipline : Discipline) (entries : List Entry) (entry : Entry) (all : List Waiter) → turn < count
    → Some entry ≡ first_waiter discipline entries → waiters ++ first_in_turn (count - turn) discipline entries ≡ all
    → (waiters ++ shown entry ∷ []) ++ first_in_turn (count - (turn + 1)) discipline (without_first discipline entries) ≡ all
next_turn waiters count turn discipline entries entry all less first is =
    let more : List Waiter = first_in_turn (count - (turn + 1)) discipline (without_first discipline entries) in
    let left : count - turn ≡ suc (count - (turn + 1)) = omega arith in
    let here : first_in_turn (count - turn) discipline entries ≡ with_first (first_waiter discipline entries) more = ap (λ n. first_in_turn n discipline entries) left in
    append_assoc waiters (shown entry ∷ []) more ∙ ap (λ list. waiters ++ list) (ap (λ found. with_first found more) first ∙ sym here) ∙ is

-- if nobody waits, every process has had its turn
pub no_turn : (waiters : List Waiter) (count : ℕ) (discipline : Discipline) (entries : List Entry) (all : List Waiter)
    → None ≡ first_waiter discipline entries → waiters ++ first_in_turn count discipline entries ≡ all → waiters ≡ all
no_turn waiters zero discipline entries all none is = sym (append-nil waiters) ∙ is
no_turn waiters (suc count) discipline entries all none is =
    let more : List Waiter = first_in_turn count discipline (without_first discipline entries) in
    sym (append-nil waiters) ∙ ap (λ found. waiters ++ with_first found more) none ∙ is

-- which processes are named

-- the processes that wait
abbrev pub processes_of : List Waiter → List Who
processes_of waiters = map (λ waiter. waiter.who) waiters

-- the list of the processes that wait in a set names the first of them
first_named : (discipline : Discipline) (entries : List Entry) (first : Entry) → first_waiter discipline entries ≡ Some first
    → is_named first.who (waiters_of entries) ≡ true
first_named discipline [] first is = cc
first_named discipline (entry ∷ entries) first is = by (first_waiter discipline entries) refl is (λ same. first_named discipline entries first same)
  where
    here : entry ≡ first → (is_same first.who entry.who || is_named first.who (waiters_of entries)) ≡ true
    here same = rw (ap (λ one. is_same first.who one.who) same ∙ same_itself first.who) refl

    later : is_named first.who (waiters_of entries) ≡ true → (b : Bool) → (b || is_named first.who (waiters_of entries)) ≡ true
    later named true = refl
    later named false = named

    by : (found : Option Entry) → first_waiter discipline entries ≡ found → sooner_entry discipline entry found ≡ Some first
        → (first_waiter discipline entries ≡ Some first → is_named first.who (waiters_of entries) ≡ true) → (is_same first.who entry.who || is_named first.who (waiters_of entries)) ≡ true
    by None none chosen again = let same : entry ≡ first = cc in here same
    by (Some other) there chosen again =
        elim (cases_Bool (precedes discipline other entry)) [
          | inl sooner ↦
              let it : Some other ≡ Some first = rw sooner at chosen in
              let same : first_waiter discipline entries ≡ Some first = there ∙ it in
              later (again same) (is_same first.who entry.who)
          | inr not_sooner ↦
              let it : Some entry ≡ Some first = rw not_sooner at chosen in
              let same : entry ≡ first = cc in
              here same
        ]

-- nobody waits if there is no first
nobody : (discipline : Discipline) (entries : List Entry) → first_waiter discipline entries ≡ None → entries ≡ []
nobody discipline [] none = refl
nobody discipline (entry ∷ entries) none = absurd (by (first_waiter discipline entries) none)
  where
    by : (found : Option Entry) → sooner_entry discipline entry found ≡ None → ⊥
    by None chosen = cc
    by (Some other) chosen = elim (cases_Bool (precedes discipline other entry)) [ inl sooner ↦ (let it : Some other ≡ None = rw sooner at chosen in cc) | inr not_sooner ↦ (let it : Some entry ≡ None = rw not_sooner at chosen in cc) ]

-- a process other than the one that leaves is named as before
others_named : (leaver who : Who) (entries : List Entry) → is_same who leaver ≡ false
    → is_named who (waiters_of (without_one leaver entries)) ≡ is_named who (waiters_of entries)
others_named leaver who [] differs = refl
others_named leaver who (entry ∷ entries) differs =
    elim (cases_Bool (is_same entry.who leaver)) [
      | inl leaves ↦
          let not_it : is_same who entry.who ≡ false = ap (is_same who) (same_is entry.who leaver leaves) ∙ differs in
          rw (leaves, not_it) (others_named leaver who entries differs)
      | inr stays ↦ rw stays (ap (λ rest. is_same who entry.who || rest) (others_named leaver who entries differs))
    ]

-- the process that leaves and those that remain are those that were there
all_there : (leaver who : Who) (entries : List Entry) → is_named leaver (waiters_of entries) ≡ true
    → (is_same who leaver || is_named who (waiters_of (without_one leaver entries))) ≡ is_named who (waiters_of entries)
all_there leaver who entries named =
    elim (cases_Bool (is_same who leaver)) [
      | inl same ↦ rw same (sym (ap (λ one. is_named one (waiters_of entries)) (same_is who leaver same) ∙ named))
      | inr differs ↦ rw differs (others_named leaver who entries differs)
    ]

-- in turn, the processes that wait are the same
named_in_turn : (count : ℕ) (discipline : Discipline) (entries : List Entry) → length entries ≤ count → (who : Who)
    → is_named who (processes_of (first_in_turn count discipline entries)) ≡ is_named who (waiters_of entries)
named_in_turn zero discipline [] most who = refl
named_in_turn zero discipline (entry ∷ entries) most who = absurd (omega (arith, most))
named_in_turn (suc count) discipline entries most who = by (first_waiter discipline entries) refl (λ rest fewer. named_in_turn count discipline rest fewer who)
  where
    by : (found : Option Entry) → first_waiter discipline entries ≡ found
        → ((rest : List Entry) → length rest ≤ count → is_named who (processes_of (first_in_turn count discipline rest)) ≡ is_named who (waiters_of rest))
        → is_named who (processes_of (with_first found (first_in_turn count discipline (without_found found entries)))) ≡ is_named who (waiters_of entries)
    by None none again = ap (λ all. is_named who (waiters_of all)) (sym (nobody discipline entries none))
    by (Some first) there again =
        let named : is_named first.who (waiters_of entries) ≡ true = first_named discipline entries first there in
        let fewer : length (without_one first.who entries) < length entries = shorter first.who entries (sym (is_member-named first.who entries) ∙ named) in
        ap (λ rest. is_same who first.who || rest) (again (without_one first.who entries) (omega (arith, fewer, most)))
        ∙ all_there first.who who entries named

-- the processes that wait in a set are named exactly
pub in_turn_exactly : (set : Waiters) → NamesExactly (waiters_of set.entries) (processes_of (in_turn set))
in_turn_exactly set = λ who. named_in_turn (length set.entries) set.discipline set.entries (let e : length set.entries ≤ length set.entries = omega arith in e) who

-- the first of those that wait

-- in turn, the first of those that wait are the first of the set
first_turns : (count : ℕ) (discipline : Discipline) (entries : List Entry)
    → processes_of (first_in_turn count discipline entries) ≡ waiters_of (first_waiters discipline count entries)
first_turns zero discipline entries = refl
first_turns (suc count) discipline entries = by (first_waiter discipline entries) (λ rest. first_turns count discipline rest)
  where
    by : (found : Option Entry)
        → ((rest : List Entry) → processes_of (first_in_turn count discipline rest) ≡ waiters_of (first_waiters discipline count rest))
        → processes_of (with_first found (first_in_turn count discipline (without_found found entries)))
        ≡ waiters_of (followed_by found (first_waiters discipline count (after_first found entries)))
    by None again = refl
    by (Some first) again =
        ap (λ others. first.who ∷ others)
        (again (without_one first.who entries) ∙ ap (λ rest. waiters_of (first_waiters discipline count rest)) (sym (without-swap first.who entries)))

-- the first of all turns are as many turns
fewer_turns : (count most : ℕ) (discipline : Discipline) (entries : List Entry) → length entries ≤ most
    → take count (first_in_turn most discipline entries) ≡ first_in_turn count discipline entries
fewer_turns zero most discipline entries whole = refl
fewer_turns (suc count) zero discipline [] whole = refl
fewer_turns (suc count) zero discipline (entry ∷ entries) whole = absurd (omega (arith, whole))
fewer_turns (suc count) (suc most) discipline entries whole = by (first_waiter discipline entries) refl (λ rest fewer. fewer_turns count most discipline rest fewer)
  where
    by : (found : Option Entry) → first_waiter discipline entries ≡ found
        → ((rest : List Entry) → length rest ≤ most → take count (first_in_turn most discipline rest) ≡ first_in_turn count discipline rest)
        → take (suc count) (with_first found (first_in_turn most discipline (without_found found entries)))
        ≡ with_first found (first_in_turn count discipline (without_found found entries))
    by None none again = refl
    by (Some first) there again =
        let named : is_named first.who (waiters_of entries) ≡ true = first_named discipline entries first there in
        let fewer : length (without_one first.who entries) < length entries = shorter first.who entries (sym (is_member-named first.who entries) ∙ named) in
        ap (λ others. shown first ∷ others) (again (without_one first.who entries) (omega (arith, fewer, whole)))

-- as many of a list as it has are all of it
take_least : (count : ℕ) (waiters : List Waiter) → take (min count (length waiters)) waiters ≡ take count waiters
take_least zero waiters = let least : min 0 (length waiters) ≡ 0 = omega arith in ap (λ number. take number waiters) least
take_least (suc count) [] = let least : min (suc count) 0 ≡ 0 = omega arith in ap (λ number. take number []) least
take_least (suc count) (waiter ∷ waiters) =
    let least : min (suc count) (length (waiter ∷ waiters)) ≡ suc (min count (length waiters)) = omega arith in
    ap (λ number. take number (waiter ∷ waiters)) least ∙ ap (λ others. waiter ∷ others) (take_least count waiters)

-- whose waits end

-- the waits of all processes in a set
pub all_end : (ended : Ended) (set : Bor Waiters) (waiters : List Waiter) (processes : List Who) → ended ≡ All set → waiters ≡ in_turn set.now
    → processes ≡ processes_of waiters → NamesExactly (listed ended) processes
all_end ended set waiters processes is turned so = λ who.
    ap (is_named who) (so ∙ ap processes_of turned) ∙ in_turn_exactly set.now who ∙ sym (ap (λ one. is_named who (listed one)) is)

-- the waits of the first in a set
pub first_end : (ended : Ended) (set : Bor Waiters) (count : ℕ) (waiters : List Waiter) (processes : List Who) → ended ≡ First set count
    → waiters ≡ in_turn set.now → processes ≡ processes_of (take (min count (length waiters)) waiters) → NamesExactly (listed ended) processes
first_end ended set count waiters processes is turned so =
    let whole : length set.now.entries ≤ length set.now.entries = omega arith in
    let firsts : processes ≡ waiters_of (first_waiters set.now.discipline count set.now.entries) =
    so ∙ ap processes_of (take_least count waiters ∙ ap (take count) turned ∙ fewer_turns count (length set.now.entries) set.now.discipline set.now.entries whole)
    ∙ first_turns count set.now.discipline set.now.entries in
    λ who. ap (is_named who) (firsts ∙ sym (ap listed is))

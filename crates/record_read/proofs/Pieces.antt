-- The pieces of a text, one after another, and the processes that they name.
use Rattle.std.proofs.Common.{◌≡◌, ◌∙◌, ℕ, List, [], ◌∷◌, ◌++◌, Bool, true, false, true≢false, Option, Some, None, ◌≤◌, length, refl, sym, ap, subst, nat_eq, append_assoc, arith, if◌then◌else◌}
use Rattle.std.specs.Prelude.{◌≢◌, IsSome, is_none, is_some, option_map}
use Rattle.std.specs.List.{onto_first}
use Rattle.std.proofs.lemmas.List.{append-nil}
use Rattle.std.proofs.lemmas.Option.{cond_some, same_Some}
use Rattle.apex_types.specs.declared.record.Who.{Who}
use Rattle.apex_types.specs.Rising.{IsRising, RisesFrom}
use Rattle.record_read.specs.declared.fault.RowFault.TheVariants.{BadWoken}
use Rattle.record_read.specs.Woken.{IsList, front_of, rest_of, named_at_stop, pieces_left, pieces_of, process_of, next_process, processes_after, processes_in, is_after, woken_of}
use Rattle.record_read.proofs.GrammarFields.{found_first, found_map, ok_some}

-- the first piece of a text, and those of what is left after it
pub pieces_split : (separator : ℕ) (text : List ℕ) → pieces_of separator text ≡ front_of separator text ∷ pieces_left separator (rest_of separator text)
pieces_split separator [] = refl
pieces_split separator (b ∷ bs) = by (nat_eq b separator) (pieces_split separator bs)
  where
    by : (t : Bool) → pieces_of separator bs ≡ front_of separator bs ∷ pieces_left separator (rest_of separator bs)
        → (if t then [] ∷ pieces_of separator bs else onto_first b (pieces_of separator bs))
        ≡ (if t then [] else b ∷ front_of separator bs) ∷ pieces_left separator (if t then Some bs else rest_of separator bs)
    by true more = refl
    by false more = ap (onto_first b) more

-- a piece that names the next process, and one that names none
pub after_more : (last : Option Who) (left : List ℕ) (who : Who) → next_process last (front_of 59 left) ≡ Some who
    → processes_after last (pieces_of 59 left) ≡ option_map (λ more. who ∷ more) (processes_after (Some who) (pieces_left 59 (rest_of 59 left)))
unfolding processes_after
after_more last left who e = ap (processes_after last) (pieces_split 59 left) ∙ rw e refl

pub after_none : (last : Option Who) (left : List ℕ) → next_process last (front_of 59 left) ≡ None → processes_after last (pieces_of 59 left) ≡ None
unfolding processes_after
after_none last left e = ap (processes_after last) (pieces_split 59 left) ∙ rw e refl

-- the next process of what is left of a text
pub next_named : (last : Option Who) (left rest : Option (List ℕ)) (text front : List ℕ) (who : Who) → left ≡ Some text → front ≡ front_of 59 text
    → rest ≡ rest_of 59 text → next_process last front ≡ Some who
    → processes_after last (pieces_left 59 left) ≡ option_map (λ more. who ∷ more) (processes_after (Some who) (pieces_left 59 rest))
next_named last left rest text front who l f r e = rw (l, r) (after_more last text who (rw f at e))

-- what is left of a text if its first piece names none
pub none_named : (last : Option Who) (left : Option (List ℕ)) (text front : List ℕ) → left ≡ Some text → front ≡ front_of 59 text → next_process last front ≡ None
    → processes_after last (pieces_left 59 left) ≡ named_at_stop left
none_named last left text front l f e = rw l (after_none last text (rw f at e))

-- at the end of a text
pub end_named : (last : Option Who) (left : Option (List ℕ)) → left ≡ None → processes_after last (pieces_left 59 left) ≡ named_at_stop left
unfolding processes_after
end_named last left l = rw l refl

-- the pieces of a text name processes if those that are left do so
pub judged_more : (judged : Bool) (before after : Option (List Who)) (who : Who) → before ≡ option_map (λ more. who ∷ more) after → judged ≡ is_some before → judged ≡ is_some after
judged_more judged before None who e h = h ∙ ap is_some e
judged_more judged before (Some ws) who e h = h ∙ ap is_some e

pub judged_at_stop : (judged : Bool) (before after : Option (List Who)) (left : Option (List ℕ)) → after ≡ before → after ≡ named_at_stop left → judged ≡ is_some before
    → is_none left ≡ judged
judged_at_stop judged before after None same stops h = sym (h ∙ ap is_some (sym same ∙ stops))
judged_at_stop judged before after (Some text) same stops h = sym (h ∙ ap is_some (sym same ∙ stops))

-- the pieces of a text name these processes, and then those that are left
abbrev pub Named : Option (List Who) → List Who → Option (List Who) → Type 0
Named all named later = all ≡ option_map (λ more. named ++ more) later

pub named_more : (all : Option (List Who)) (named : List Who) (before after : Option (List Who)) (who : Who) → before ≡ option_map (λ more. who ∷ more) after
    → Named all named before → Named all (named ++ who ∷ []) after
named_more all named before None who e h = h ∙ ap (option_map (λ more. named ++ more)) e
named_more all named before (Some ws) who e h = h ∙ ap (option_map (λ more. named ++ more)) e ∙ ap (λ l. Some l) (sym (append_assoc named (who ∷ []) ws))

-- they name no more where none is next, if they name processes at all
pub named_all : (all : Option (List Who)) (named : List Who) (before after : Option (List Who)) (left : Option (List ℕ)) → IsSome all → after ≡ before
    → after ≡ named_at_stop left → Named all named before → all ≡ Some named
named_all all named before after None some same stops h = h ∙ ap (option_map (λ more. named ++ more)) (sym same ∙ stops) ∙ ap (λ ws. Some ws) (append-nil named)
named_all all named before after (Some text) some same stops h =
    absurd (true≢false (sym (subst IsSome (h ∙ ap (option_map (λ more. named ++ more)) (sym same ∙ stops)) some)))

-- a text that names processes has more than none of them
pub some_named : (text : List ℕ) (named : List Who) → processes_after None (pieces_of 59 text) ≡ Some named → named ≢ []
unfolding processes_after
some_named text named h none =
    let pieces = pieces_left 59 (rest_of 59 text) in
    let all : processes_after None (front_of 59 text ∷ pieces) ≡ Some named = subst (λ found. processes_after None found ≡ Some named) (pieces_split 59 text) h in
    let who = found_first (λ w. option_map (λ more. w ∷ more) (processes_after (Some w) pieces)) (next_process None (front_of 59 text)) named all in
    let rest = found_map (λ more. who.0 ∷ more) (processes_after (Some who.0) pieces) named who.2 in
    let e : who.0 ∷ rest.0 ≡ [] = rest.2 ∙ none in cc

-- a list in a field that is filled names processes
pub list_filled : (text : List ℕ) → 1 ≤ length text → IsList text → processes_in text ≢ []
unfolding woken_of
list_filled [] long list none = absurd (omega arith)
list_filled (b ∷ bs) long list none =
    some_named (b ∷ bs) (processes_in (b ∷ bs)) (ok_some (processes_after None (pieces_of 59 (b ∷ bs))) BadWoken (processes_in (b ∷ bs)) list) none

-- the processes of a list rise, after a last one if there is one
abbrev pub RisesAfter : Option Who → List Who → Type 0
RisesAfter None named = IsRising named
RisesAfter (Some last) named = RisesFrom last named

next_is_after : (last : Option Who) (text : List ℕ) (who : Who) → next_process last text ≡ Some who → is_after last who ≡ true
unfolding next_process
next_is_after last text who e =
    let found = found_first (λ w. if is_after last w then Some w else None) (process_of text) who e in
    let after = cond_some (is_after last found.0) found.0 who found.2 in
    subst (λ w. is_after last w ≡ true) after.1 after.0

rises_with : (last : Option Who) (who : Who) (more : List Who) → is_after last who ≡ true → RisesFrom who more → RisesAfter last (who ∷ more)
rises_with None who more after rises = rises
rises_with (Some w) who more after rises = (after, rises)

-- processes of which each comes after the one before rise
pub rising_after : (last : Option Who) (pieces : List (List ℕ)) (named : List Who) → processes_after last pieces ≡ Some named → RisesAfter last named
unfolding processes_after
rising_after None [] named e = subst IsRising (same_Some [] named e) tt
rising_after (Some w) [] named e = subst (RisesFrom w) (same_Some [] named e) tt
rising_after last (piece ∷ pieces) named e =
    let who = found_first (λ w. option_map (λ more. w ∷ more) (processes_after (Some w) pieces)) (next_process last piece) named e in
    let rest = found_map (λ more. who.0 ∷ more) (processes_after (Some who.0) pieces) named who.2 in
    subst (RisesAfter last) rest.2 (rises_with last who.0 rest.0 (next_is_after last piece who.0 who.1) (rising_after (Some who.0) pieces rest.0 rest.1))

-- the processes of a text that names such rise
pub rising_all : (pieces : List (List ℕ)) (named : List Who) (before after : Option (List Who)) (left : Option (List ℕ)) → IsSome (processes_after None pieces)
    → after ≡ before → after ≡ named_at_stop left → Named (processes_after None pieces) named before → IsRising named
rising_all pieces named before after left some same stops h =
    rising_after None pieces named (named_all (processes_after None pieces) named before after left some same stops h)

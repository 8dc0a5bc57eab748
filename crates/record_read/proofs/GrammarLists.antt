-- Lists of processes: the reader's walk over the pieces of a text gives processes exactly if the text is the joining of their texts.
use Rattle.std.proofs.Common.{◌≡◌, ◌<◌, ◌^◌, ◌∙◌, ◌≤◌, ℕ, List, [], ◌∷◌, ◌++◌, Bool, true, false, Option, Some, None, Ok, refl, sym, ap, map, subst, nat_eq, nat_lt, append_assoc, arith, if◌then◌else◌}
use Rattle.std.specs.Prelude.{◌≢◌, codes, option_map}
use Rattle.std.specs.Fmt.{decimal as written}
use Rattle.std.specs.List.{All, join_by, join_with_byte}
use Rattle.std.specs.Option.{ok_or}
use Rattle.std.specs.Str.Parse.{AllDigits}
use Rattle.std.proofs.lemmas.Bool.{eq-eqb, eqb-true, lt-ltb, ltb-true, ne_eqb}
use Rattle.std.proofs.lemmas.Fmt.{decimal_is_IsNumeral}
use Rattle.std.proofs.lemmas.List.{append-nil}
use Rattle.std.proofs.lemmas.List.Elements.{All-append, All-cons, All-head, All-nil, All-tail}
use Rattle.std.proofs.lemmas.List.Splits.{join_with_byte-slice_split, slice_split_at, slice_split_none}
use Rattle.std.proofs.lemmas.Option.{cond_some, none-some, same_Some}
use Rattle.std.proofs.lemmas.Str.Parse.{digit_from_value}
use Rattle.apex_types.specs.declared.limits.TheConstants.{GREATEST_NUMBER, GREATEST_PARTITION}
use Rattle.apex_types.specs.declared.record.Who.{Who}
use Rattle.apex_types.specs.Rising.{RisesFrom}
use Rattle.record_read.specs.declared.fault.RowFault.TheVariants.{BadWoken}
use Rattle.record_read.specs.Grammar.{HoldsProcesses, IsNameable, process_text}
use Rattle.record_read.specs.Woken.{front_of, next_process, pieces_of, process, process_of, processes_after, rest_of, is_after, woken_of}
use Rattle.record_read.proofs.GrammarFields.{found_first, found_map, ok_some, same_ok}
use Rattle.record_read.proofs.GrammarNumbers.{number_read, number_written}
use Rattle.record_read.proofs.Pieces.{RisesAfter, rising_after}

-- another byte than the separator
abbrev pub IsOther : ℕ → ℕ → Type 0
IsOther separator b = nat_eq b separator ≡ false

-- the front and the rest of a text that was joined at the separator
cut_joined : (separator : ℕ) (front rest : List ℕ) → All (IsOther separator) front
    → (front_of separator (front ++ separator ∷ rest) ≡ front) × (rest_of separator (front ++ separator ∷ rest) ≡ Some rest)
cut_joined separator [] rest h = (rw (eq-eqb separator separator refl) refl, rw (eq-eqb separator separator refl) refl)
cut_joined separator (b ∷ bs) rest h =
    let other : IsOther separator b = All-head (IsOther separator) b bs h in
    let more = cut_joined separator bs rest (All-tail (IsOther separator) b bs h) in (rw other (ap (λ found. b ∷ found) more.0), rw other more.1)

-- a text is its front, the byte and its rest
joined_at : (separator : ℕ) (text rest : List ℕ) → rest_of separator text ≡ Some rest → text ≡ front_of separator text ++ separator ∷ rest
joined_at separator [] rest e = absurd (none-some rest e)
joined_at separator (b ∷ bs) rest e = by (nat_eq b separator) refl e (joined_at separator bs rest)
  where
    by : (here : Bool) → nat_eq b separator ≡ here → (if here then Some bs else rest_of separator bs) ≡ Some rest
        → (rest_of separator bs ≡ Some rest → bs ≡ front_of separator bs ++ separator ∷ rest)
        → b ∷ bs ≡ (if here then [] else b ∷ front_of separator bs) ++ separator ∷ rest
    by true here e more = rw (eqb-true b separator here, same_Some bs rest e) refl
    by false here e more = ap (λ found. b ∷ found) (more e)

-- digits are other bytes than a separator after them
digits_lack : (separator : ℕ) (text : List ℕ) → 57 < separator → AllDigits 10 text → All (IsOther separator) text
digits_lack separator [] above all = All-nil (IsOther separator)
digits_lack separator (b ∷ bs) above all =
    let range = digit_from_value b all.0 in
    let high : b ≤ 57 = range.1 in
    All-cons (IsOther separator) b bs (ne_eqb b separator (λ same. let e : b ≡ separator = same in omega arith)) (digits_lack separator bs above all.1)

-- and so is what is written for a number
written_lacks : (separator n : ℕ) → 57 < separator → n < 2 ^ 64 → All (IsOther separator) (written n)
written_lacks separator n above room = digits_lack separator (written n) above (decimal_is_IsNumeral n room).0.1

-- the process of a partition and a number is made of them, and its number is 1 or more
process_is : (part number : ℕ) (who : Who) → process part number ≡ Some who → (part ≡ who.part) × (number ≡ who.proc) × (1 ≤ who.proc)
process_is part number who e =
    let made = cond_some (nat_lt 0 number) (record { part = part; proc = number }) who e in
    let proc : number ≡ who.proc = ap (λ (w : Who). w.proc) made.1 in
    let filled : 0 < number = ltb-true 0 number made.0 in
    (ap (λ (w : Who). w.part) made.1, proc, omega (arith, proc, filled))

-- a text of a front and a rest, which are the numbers of a process, is the text of the process
process_written : (text front rest : List ℕ) (who : Who) → text ≡ front ++ 58 ∷ rest → front ≡ written who.part → rest ≡ written who.proc → text ≡ process_text who
process_written text front rest who joined first second = joined ∙ rw (first, second) (sym (append_assoc (written who.part) (codes ":") (written who.proc)))

-- a process that is read from a text has this text, and a list can name it
process_holds : (text : List ℕ) (who : Who) → process_of text ≡ Some who → (text ≡ process_text who) × IsNameable who
unfolding process_of
process_holds text who e =
    let room : GREATEST_PARTITION < 2 ^ 64 = omega arith in
    let room_too : GREATEST_NUMBER < 2 ^ 64 = omega arith in
    let rest = found_first _ _ who e in
    let part = found_first _ _ who rest.2 in
    let number = found_first _ _ who part.2 in
    let is = process_is part.0 number.0 who number.2 in
    let front = number_written GREATEST_PARTITION (front_of 58 text) part.0 room part.1 in
    let back = number_written GREATEST_NUMBER rest.0 number.0 room_too number.1 in (
      process_written text (front_of 58 text) rest.0 who (joined_at 58 text rest.0 rest.1) (front.0 ∙ ap written is.0) (back.0 ∙ ap written is.1),
      record {
        part = subst (λ n. n ≤ GREATEST_PARTITION) is.0 front.1;
        created = is.2;
        proc = subst (λ n. n ≤ GREATEST_NUMBER) is.1 back.1;
      },
    )

-- no `;` is in the text of a process
process_lacks : (who : Who) → IsNameable who → All (IsOther 59) (process_text who)
process_lacks who h =
    let part : who.part ≤ GREATEST_PARTITION = h.part in
    let proc : who.proc ≤ GREATEST_NUMBER = h.proc in
    rw append_assoc (All-append (IsOther 59) (written who.part) (58 ∷ written who.proc) (written_lacks 59 who.part (omega arith) (omega arith))
    (All-cons (IsOther 59) 58 (written who.proc) refl (written_lacks 59 who.proc (omega arith) (omega arith))))

-- a process that a list can name is read from its text
holds_process : (who : Who) → IsNameable who → process_of (process_text who) ≡ Some who
unfolding process_of
holds_process who h =
    let joined : process_text who ≡ written who.part ++ 58 ∷ written who.proc = append_assoc (written who.part) (codes ":") (written who.proc) in
    let fits : who.part ≤ GREATEST_PARTITION = h.part in
    let cut = cut_joined 58 (written who.part) (written who.proc) (written_lacks 58 who.part (omega arith) (omega arith)) in
    let rest : rest_of 58 (process_text who) ≡ Some (written who.proc) = ap (rest_of 58) joined ∙ cut.1 in
    let front : front_of 58 (process_text who) ≡ written who.part = ap (front_of 58) joined ∙ cut.0 in
    let part = number_read GREATEST_PARTITION who.part (written who.part) (omega arith) h.part refl in
    let proc = number_read GREATEST_NUMBER who.proc (written who.proc) (omega arith) h.proc refl in
    rw (rest, front, part, proc, lt-ltb 0 who.proc h.created) refl

-- the texts of processes joined by `;`
texts_joined : (named : List Who) → join_with_byte 59 (map process_text named) ≡ join_by process_text (codes ";") named
texts_joined [] = refl
texts_joined (who ∷ []) = sym (append-nil (process_text who))
texts_joined (who ∷ next ∷ others) = ap (λ rest. process_text who ++ 59 ∷ rest) (texts_joined (next ∷ others))

-- the pieces of a joining are the texts that were joined
all_pieces : (who : Who) (others : List Who) → All IsNameable (who ∷ others)
    → pieces_of 59 (join_with_byte 59 (map process_text (who ∷ others))) ≡ map process_text (who ∷ others)
all_pieces who [] all = slice_split_none (λ b. nat_eq b 59) (process_text who) (process_lacks who (All-head IsNameable who [] all))
all_pieces who (next ∷ others) all =
    slice_split_at (λ b. nat_eq b 59) (process_text who) 59 (join_with_byte 59 (map process_text (next ∷ others))) (process_lacks who (All-head IsNameable who (next ∷ others) all)) refl
    ∙ ap (λ found. process_text who ∷ found) (all_pieces next others (All-tail IsNameable who (next ∷ others) all))

-- the text of a process that comes after the last names it
next_is_read : (last : Option Who) (who : Who) (others : List Who) → IsNameable who → RisesAfter last (who ∷ others) → next_process last (process_text who) ≡ Some who
unfolding next_process
next_is_read None who others h rises = rw (holds_process who h) refl
next_is_read (Some last) who others h rises = rw (holds_process who h, rises.0) refl

-- processes that rise after a last one rise after the first of them
rises_on : (last : Option Who) (who : Who) (others : List Who) → RisesAfter last (who ∷ others) → RisesFrom who others
rises_on None who others rises = rises
rises_on (Some last) who others rises = rises.1

-- the texts of processes that rise name them, each after the one before
are_read : (last : Option Who) (named : List Who) → All IsNameable named → RisesAfter last named → processes_after last (map process_text named) ≡ Some named
unfolding processes_after
are_read last [] all rises = refl
are_read last (who ∷ others) all rises =
    rw (
      next_is_read last who others (All-head IsNameable who others all) rises,
      are_read (Some who) others (All-tail IsNameable who others all) (rises_on last who others rises),
    ) refl

-- a process that a piece names has the piece as its text
next_holds : (last : Option Who) (text : List ℕ) (who : Who) → next_process last text ≡ Some who → (text ≡ process_text who) × IsNameable who
unfolding next_process
next_holds last text who e =
    let found = found_first (λ w. if is_after last w then Some w else None) (process_of text) who e in
    process_holds text who (found.1 ∙ ap Some (cond_some (is_after last found.0) found.0 who found.2).1)

-- equal texts before equal ones
both_same : (one other : List ℕ) (ones others : List (List ℕ)) → one ≡ other → ones ≡ others → one ∷ ones ≡ other ∷ others
both_same one other ones others e f = cc

-- processes that pieces name have the pieces as their texts
are_held : (last : Option Who) (texts : List (List ℕ)) (named : List Who) → processes_after last texts ≡ Some named → (texts ≡ map process_text named) × All IsNameable named
unfolding processes_after
are_held last [] named e = subst (λ found. ([] ≡ map process_text found) × All IsNameable found) (same_Some [] named e) (refl, All-nil IsNameable)
are_held last (text ∷ texts) named e =
    let who = found_first (λ w. option_map (λ more. w ∷ more) (processes_after (Some w) texts)) (next_process last text) named e in
    let others = found_map (λ more. who.0 ∷ more) (processes_after (Some who.0) texts) named who.2 in
    let first = next_holds last text who.0 who.1 in
    let rest = are_held (Some who.0) texts others.0 others.1 in
    subst (λ found. (text ∷ texts ≡ map process_text found) × All IsNameable found) others.2
    (both_same text (process_text who.0) texts (map process_text others.0) first.0 rest.0, All-cons IsNameable who.0 others.0 first.1 rest.1)

-- a list that is read is what the field holds
pub processes_hold : (text : List ℕ) (named : List Who) → woken_of text ≡ Ok named → HoldsProcesses text named
unfolding woken_of
processes_hold [] named e =
    subst (HoldsProcesses []) (same_ok [] named e) (record { joined = refl; each = All-nil IsNameable; rising = tt })
processes_hold (b ∷ bs) named e =
    let read = ok_some (processes_after None (pieces_of 59 (b ∷ bs))) BadWoken named e in
    let held = are_held None (pieces_of 59 (b ∷ bs)) named read in
    record {
      joined = sym (join_with_byte-slice_split 59 (b ∷ bs)) ∙ ap (join_with_byte 59) held.0 ∙ texts_joined named;
      each = held.1;
      rising = rising_after None (pieces_of 59 (b ∷ bs)) named read;
    }

-- the text of a process is filled
process_filled : (who : Who) → IsNameable who → process_text who ≢ []
unfolding process_of
process_filled who h none = absurd (none-some who (ap process_of (sym none) ∙ holds_process who h))

-- a list that the field holds is read
pub hold_processes : (text : List ℕ) (named : List Who) → HoldsProcesses text named → woken_of text ≡ Ok named
unfolding woken_of
hold_processes text [] h = rw h.joined refl
hold_processes text (who ∷ others) h = by text (h.joined ∙ sym (texts_joined (who ∷ others)))
  where
    by : (text : List ℕ) → text ≡ join_with_byte 59 (map process_text (who ∷ others)) → woken_of text ≡ Ok (who ∷ others)
    by [] joined =
        let pieces : [] ∷ [] ≡ process_text who ∷ map process_text others = ap (pieces_of 59) joined ∙ all_pieces who others h.each in
        absurd (process_filled who (All-head IsNameable who others h.each) (cc))
    by (b ∷ bs) joined =
        ap (λ read. ok_or read BadWoken) (ap (processes_after None) (ap (pieces_of 59) joined ∙ all_pieces who others h.each)
        ∙ are_read None (who ∷ others) h.each h.rising)

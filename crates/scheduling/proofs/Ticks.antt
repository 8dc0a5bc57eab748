-- The processes whose waits end at a tick or by a call, one after another.
use Rattle.std.proofs.Common.{◌≡◌, ℕ, ◌+◌, ◌<◌, Bool, true, false, ◌||◌, nat_eq, List, [], ◌∷◌, ◌++◌, length, take, get_or, if◌then◌else◌, refl, sym, ap, ◌∙◌, arith, ◌&&◌}
use Rattle.std.proofs.lemmas.Bool.{and_left, and_parts, and_right}
use Rattle.std.proofs.lemmas.Bool.Decides.{nat_tests}
use Rattle.std.proofs.lemmas.List.{take_more}
use Rattle.apex_types.specs.declared.record.Who.{Who}
use Rattle.apex_types.specs.Rising.{IsRising}
use Rattle.apex_machine.specs.declared.state.Process.{Process}
use Rattle.apex_machine.specs.State.{is_named, is_same}
use Rattle.scheduling.specs.Changes.{only, with_each}
use Rattle.scheduling.specs.Processes.{Processes}
use Rattle.scheduling.proofs.Rising.{unnamed_before}
use Rattle.scheduling.proofs.Tables.{each_item-congr, each_item-same, each_item-twice, nat_eq-swap, with_table}

either-grouped : (a b c : Bool) → (a || b) || c ≡ a || (b || c)
either-grouped true b c = refl
either-grouped false b c = refl

is_named-push : (who : Who) (named : List Who) (other : Who) → is_named who (named ++ other ∷ []) ≡ is_named who named || is_same who other
is_named-push who [] other = by (is_same who other)
  where
    by : (b : Bool) → b || false ≡ b
    by true = refl
    by false = refl
is_named-push who (first ∷ named) other =
    rw (is_named-push who named other, either-grouped (is_same who first) (is_named who named) (is_same who other)) refl

-- a change of those processes of a partition that a list names and a test of their numbers lets through
abbrev pub each_let : ℕ → (ℕ → Bool) → List Who → (Process → Process) → ℕ → Process → Process
each_let part lets named change number process = if lets number && is_named (record { part = part; proc = number }) named then change process else process

-- no process is named at first
pub let-none-yet : (part : ℕ) (lets : ℕ → Bool) (change : Process → Process) (processes : Processes) → processes ≡ with_each (each_let part lets [] change) processes
let-none-yet part lets change processes = ap (with_table processes) (sym (each_item-same _ (λ number process. by (lets number) process) processes.table))
  where
    by : (b : Bool) (process : Process) → (if b && false then change process else process) ≡ process
    by true process = refl
    by false process = refl

-- no process of this number is named if this one is not
unnamed : (part number : ℕ) (named : List Who) (who : Who) → nat_eq part who.part ≡ true → is_named who named ≡ false
    → nat_eq number who.proc ≡ true → is_named (record { part = part; proc = number }) named ≡ false
unnamed part number named who here new same =
    let part_is : part ≡ who.part = grind (arith, nat_tests) in
    let number_is : number ≡ who.proc = grind (arith, nat_tests) in
    let whole : record { part = part; proc = number } ≡ who = λ i. record { part = part_is i; proc = number_is i } in
    rw whole new

-- the next of a rising list changes, if it is of this partition and let through
pub let-more : (part : ℕ) (lets : ℕ → Bool) (woken : List Who) (place : ℕ) (who : Who) (change : Process → Process) (processes : Processes)
    → IsRising woken → place < length woken → who ≡ get_or woken place who → lets who.proc && nat_eq who.part part ≡ true
    → with_each (only who.proc change) (with_each (each_let part lets (take place woken) change) processes)
    ≡ with_each (each_let part lets (take (place + 1) woken) change) processes
let-more part lets woken place who change processes rises within is let_through =
    rw (take_more woken place who within, ← is)
    (ap (with_table processes)
    (each_item-twice (each_let part lets (take place woken) change) (only who.proc change) processes.table ∙ each_item-congr _ _ one processes.table))
  where
    by : (l a d : Bool) (process : Process) → (d ≡ true → a ≡ false) → (d ≡ true → l ≡ true)
        → (if d then change (if l && a then change process else process) else (if l && a then change process else process)) ≡ (if l && (a || d) then change process else process)
    by l true true process apart lets_it = let contrary : true ≡ false = apart refl in cc
    by true false true process apart lets_it = refl
    by false false true process apart lets_it = let contrary : false ≡ true = lets_it refl in cc
    by true true false process apart lets_it = refl
    by true false false process apart lets_it = refl
    by false a false process apart lets_it = refl

    one : (number : ℕ) (process : Process)
        → only who.proc change number (each_let part lets (take place woken) change number process)
        ≡ each_let part lets (take place woken ++ who ∷ []) change number process
    one number process =
        let through = and_parts (lets who.proc) (nat_eq who.part part) let_through in
        let here : nat_eq part who.part ≡ true = nat_eq-swap part who.part ∙ through.1 in
        rw (is_named-push (record { part = part; proc = number }) (take place woken) who, here)
        (by (lets number) (is_named (record { part = part; proc = number }) (take place woken)) (nat_eq number who.proc) process
        (unnamed part number (take place woken) who here (unnamed_before woken place who rises within is))
        (λ same. let equal : number ≡ who.proc = grind (arith, nat_tests) in rw equal through.0))

-- else none does
pub let-same : (part : ℕ) (lets : ℕ → Bool) (woken : List Who) (place : ℕ) (who : Who) (change : Process → Process) (processes : Processes)
    → place < length woken → who ≡ get_or woken place who → lets who.proc && nat_eq who.part part ≡ false
    → with_each (each_let part lets (take place woken) change) processes ≡ with_each (each_let part lets (take (place + 1) woken) change) processes
let-same part lets woken place who change processes within is kept =
    rw (take_more woken place who within, ← is) (ap (with_table processes) (each_item-congr _ _ one processes.table))
  where
    by : (l a d : Bool) (process : Process) → (l ≡ true → d ≡ false) → (if l && a then change process else process) ≡ (if l && (a || d) then change process else process)
    by true true d process stays = refl
    by true false d process stays = rw (stays refl) refl
    by false a d process stays = refl

    stays : (number : ℕ) → lets number ≡ true → (b : Bool) → nat_eq number who.proc ≡ b → nat_eq part who.part && b ≡ false
    stays number through true e =
        let equal : number ≡ who.proc = grind (arith, nat_tests) in
        let passes : lets who.proc ≡ true = rw (← equal) through in
        and_left _ true (nat_eq-swap part who.part ∙ (rw passes at kept))
    stays number through false e = and_right _ false refl

    one : (number : ℕ) (process : Process) → each_let part lets (take place woken) change number process ≡ each_let part lets (take place woken ++ who ∷ []) change number process
    one number process =
        rw (is_named-push (record { part = part; proc = number }) (take place woken) who)
        (by (lets number) (is_named (record { part = part; proc = number }) (take place woken)) (is_same (record { part = part; proc = number }) who) process
        (λ through. stays number through (nat_eq number who.proc) refl))

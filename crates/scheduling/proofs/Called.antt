-- A table after a call: what the call sets there, and what becomes of its caller.
use Rattle.std.proofs.Common.{◌≡◌, ℕ, Bool, true, false, not, ◌&&◌, nat_eq, List, [], ◌∷◌, ◌++◌, Option, Some, None, ℤ, pos, negsuc, is_some, if◌then◌else◌, Bor, refl, sym, ap, subst, ◌∙◌, arith}
use Rattle.std.proofs.lemmas.Bool.{and_right}
use Rattle.std.proofs.lemmas.Bool.Decides.{nat_tests}
use Rattle.std.specs.List.{IsDistinct}
use Rattle.std.specs.Map.{keys_of}
use Rattle.std.specs.Option.{option_copied}
use Rattle.apex_types.specs.declared.record.Call.{Call as CallRecord}
use Rattle.apex_types.specs.declared.operation.{CallerOperation.CallerOperation}
use Rattle.apex_types.specs.declared.request.Request.{Request}
use Rattle.apex_types.specs.declared.request.Request.TheVariants as request
use Rattle.apex_machine.specs.declared.state.CoreState.{CoreState}
use Rattle.apex_machine.specs.declared.state.Mode.{Mode}
use Rattle.apex_machine.specs.declared.state.Process.{Process}
use Rattle.apex_machine.specs.Configuration.{Configuration, first_core, period_of}
use Rattle.apex_machine.specs.State.{Partition, Table, each_item, is_free, is_named, item_at, time_of}
use Rattle.apex_machine.specs.Answer.{is_new}
use Rattle.apex_machine.specs.Errors.{handles_more}
use Rattle.apex_machine.specs.Processes.{caller_after, new_process, set_by, stopped, woken_by}
use Rattle.apex_machine.specs.Waiting.{is_no_error, stop_of, stops, message_of}
use Rattle.apex_machine.specs.After.{adjusted, called, created_by, is_done, mode_by, numbered, partition_called}
use Rattle.scheduling.specs.Changes.{only, with_each}
use Rattle.scheduling.specs.Peers.{peer_at, peer_woken, is_peer, stopped_by, wakes}
use Rattle.scheduling.specs.Processes.{Processes, processes_in, processes_of}
use Rattle.scheduling.specs.Releases.{IsNextOf}
use Rattle.scheduling.specs.declared.process.NextRelease.{NextRelease}
use Rattle.scheduling.specs.Sound.{AsksSoundly, is_periodic_wait}
use Rattle.scheduling.proofs.Carried.{append-nothing, carried}
use Rattle.scheduling.proofs.Numbers.{new-absent}
use Rattle.scheduling.proofs.Tables.{absent_from, with_table, each_item-append, each_item-congr, each_item-same, each_item-twice, only-absent}

-- the mode once a call has set it, if it was carried out
abbrev mode_between : CallRecord → Mode → Mode
mode_between call mode = if is_done call.claim.out then mode_by call.request mode else mode

-- the mode and the processes between: the call has set what it sets, and its caller is as it was
abbrev pub between : ℕ → ℕ → ℕ → List CoreState → CallRecord → Partition → Processes → Processes
between place period first cores call partition old = record old {
  mode = mode_between call old.mode;
  table = each_item (adjusted place period cores partition call) old.table ++ created_by first call call.request;
}

pub adjusted-done : (place period first : ℕ) (cores : List CoreState) (call : CallRecord) (partition : Partition) (old new : Processes) → is_done call.claim.out ≡ true
    → new ≡ carried place period first cores call call.request partition old → new ≡ between place period first cores call partition old
adjusted-done place period first cores call partition old new done is =
    let mode : mode_by call.request old.mode ≡ mode_between call old.mode = rw done refl in
    let table : each_item (set_by place period cores partition call.who.proc call.request) old.table ≡ each_item (adjusted place period cores partition call) old.table
    = each_item-congr _ (adjusted place period cores partition call) (λ number process. rw done refl) old.table in
    is ∙ (λ i. record old { mode = mode i; table = table i ++ created_by first call call.request })

creates-none : (first : ℕ) (call : CallRecord) (asked : Request) → is_done call.claim.out ≡ false → created_by first call asked ≡ []
creates-none first call (request.CreateProcess name priority period capacity) refused = rw refused refl
creates-none first call _ refused = refl

pub adjusted-not : (place period first : ℕ) (cores : List CoreState) (call : CallRecord) (partition : Partition) (old : Processes) → is_done call.claim.out ≡ false
    → old ≡ between place period first cores call partition old
adjusted-not place period first cores call partition old refused =
    let mode : old.mode ≡ mode_between call old.mode = rw refused refl in
    let table : old.table ≡ each_item (adjusted place period cores partition call) old.table ++ created_by first call call.request
    = rw (creates-none first call call.request refused)
    (sym (append-nothing _ ∙ each_item-same (adjusted place period cores partition call) (λ number process. rw refused refl) old.table)) in
    λ i. record old { mode = mode i; table = table i }

-- no created process has the number of a caller in the table
creates-apart : (first : ℕ) (call : CallRecord) (asked : Request) (table : Table) (caller : ℕ) → AsksSoundly table call asked
    → is_some (item_at table caller) ≡ true → item_at (created_by first call asked) caller ≡ None
creates-apart first call (request.CreateProcess name priority period capacity) table caller sound is_member = by (is_done call.claim.out) refl
  where
    one : (claimed : Option ℤ) → is_new (is_free table) claimed ≡ true
        → item_at (numbered claimed (new_process first name priority period capacity)) caller ≡ None
    one None new = refl
    one (Some (negsuc n)) new = refl
    one (Some (pos n)) new = apart (nat_eq caller n) refl
      where
        apart : (b : Bool) → nat_eq caller n ≡ b → item_at ((n, new_process first name priority period capacity) ∷ []) caller ≡ None
        apart true e =
            let same : caller ≡ n = grind (arith, nat_tests) in
            let none : item_at table caller ≡ None = rw same (new-absent table n new) in
            let member_none = rw none at is_member in cc
        apart false e = rw e refl

    by : (b : Bool) → is_done call.claim.out ≡ b
        → item_at (if b then numbered call.claim.val (new_process first name priority period capacity) else []) caller ≡ None
    by true done = one call.claim.val ((sound done).0)
    by false refused = refl
creates-apart first call _ table caller sound is_member = refl

absent-each : (change : ℕ → Process → Process) (table : Table) (number : ℕ) → item_at table number ≡ None
    → item_at (each_item change table) number ≡ None
absent-each change [] number none = refl
absent-each change (entry ∷ entries) number none = by (nat_eq number entry.0) refl (absent-each change entries number)
  where
    by : (b : Bool) → nat_eq number entry.0 ≡ b → (item_at entries number ≡ None → item_at (each_item change entries) number ≡ None)
        → item_at (each_item change (entry ∷ entries)) number ≡ None
    by true e rest = let found = rw e at none in cc
    by false e rest = rw e (rest (rw e at none))

-- a caller that is found is in the table, and one that is not is not
pub looked : (found : Option (Bor Process)) (there : Option Process) (b : Bool) → option_copied found ≡ there → is_some found ≡ b → is_some there ≡ b
looked None there b copied is = ap is_some (sym copied) ∙ is
looked (Some process) there b copied is = ap is_some (sym copied) ∙ is

none-some : (found : Option Process) → is_some found ≡ false → found ≡ None
none-some None h = refl
none-some (Some process) h = cc

-- the caller's peers

-- what is done of its peers' part by a call, one after another, is what becomes of each
peers-are : (place now period : ℕ) (cores : List CoreState) (call : CallRecord) (partition : Partition) (number : ℕ) (process : Process)
    → peer_woken place call number (stopped_by call number
    (only call.who.proc (caller_after place now (handles_more partition call.who.proc call.request) call) number (adjusted place period cores partition call number process)))
    ≡ called place now period cores partition call number process
peers-are place now period cores call partition number process =
    by (handles_more partition call.who.proc call.request) (nat_eq number call.who.proc) (stops call (peer_at call number)) (is_named (peer_at call number) call.claim.woken)
    (adjusted place period cores partition call number process)
  where
    by : (more c s n : Bool) (x : Process)
        → (if (not c && not s) && n
        then woken_by place (message_of call.request) (if not c && s then stopped (if c then caller_after place now more call x else x) else (if c then caller_after place now more call x else x))
        else (if not c && s then stopped (if c then caller_after place now more call x else x) else (if c then caller_after place now more call x else x)))
        ≡ (if c then caller_after place now more call x else if s then stopped x else if n then woken_by place (message_of call.request) x else x)
    by more true s n x = refl
    by more false true n x = refl
    by more false false true x = refl
    by more false false false x = refl

-- a call of a service other than STOP stops no process
pub stops-nobody : (call : CallRecord) → stop_of call.request ≡ None → (number : ℕ) → is_peer call number && stops call (peer_at call number) ≡ false
stops-nobody call other number = rw other (and_right (is_peer call number) _ (and_right (is_no_error call.claim.out) _ (and_right _ false refl)))

-- no process is created that the call stops or whose wait it ends
created-stays : (place first : ℕ) (call : CallRecord) (table : Table) → AsksSoundly table call call.request
    → each_item (peer_woken place call) (each_item (stopped_by call) (created_by first call call.request)) ≡ created_by first call call.request
created-stays place first call table sound = stays call.request refl
  where
    stays : (asked : Request) → call.request ≡ asked
        → each_item (peer_woken place call) (each_item (stopped_by call) (created_by first call asked)) ≡ created_by first call asked
    stays (request.CreateProcess name priority period capacity) is = by (is_done call.claim.out) refl
      where
        not_stopped : (number : ℕ) (process : Process) → stopped_by call number process ≡ process
        not_stopped number process =
            rw (stops-nobody call (ap stop_of is) number) refl

        not_woken : is_done call.claim.out ≡ true → (number : ℕ) (process : Process) → peer_woken place call number process ≡ process
        not_woken done number process =
            let facts = rw is at sound in
            rw ((facts done).2, and_right (wakes call number) false refl) refl

        by : (b : Bool) → is_done call.claim.out ≡ b
            → each_item (peer_woken place call) (each_item (stopped_by call) (if b then numbered call.claim.val (new_process first name priority period capacity) else []))
            ≡ (if b then numbered call.claim.val (new_process first name priority period capacity) else [])
        by true done =
            ap (each_item (peer_woken place call)) (each_item-same (stopped_by call) not_stopped (numbered call.claim.val (new_process first name priority period capacity)))
            ∙ each_item-same (peer_woken place call) (not_woken done) (numbered call.claim.val (new_process first name priority period capacity))
        by false refused = refl
    stays _ is = refl

-- the mode and the processes once the caller is settled too
abbrev pub after_caller : ℕ → ℕ → Bool → ℕ → ℕ → List CoreState → CallRecord → Partition → Processes → Processes
after_caller place now more period first cores call partition old = processes_in (mode_between call old.mode)
    (each_item (only call.who.proc (caller_after place now more call)) (each_item (adjusted place period cores partition call) old.table) ++ created_by first call call.request)

-- a caller in the table has become what its call makes of it
pub caller-is_member : (place now : ℕ) (more : Bool) (period first : ℕ) (cores : List CoreState) (call : CallRecord) (partition : Partition) (old middle own : Processes)
    → middle ≡ between place period first cores call partition old → AsksSoundly old.table call call.request → is_some (item_at old.table call.who.proc) ≡ true
    → own ≡ with_each (only call.who.proc (caller_after place now more call)) middle → own ≡ after_caller place now more period first cores call partition old
caller-is_member place now more period first cores call partition old middle own adjusts sound there is =
    let change : ℕ → Process → Process = only call.who.proc (caller_after place now more call) in
    is ∙ ap (with_each change) adjusts
    ∙ ap (processes_in (mode_between call old.mode))
    (each_item-append change (each_item (adjusted place period cores partition call) old.table) (created_by first call call.request)
    ∙ ap (λ created. each_item change (each_item (adjusted place period cores partition call) old.table) ++ created)
    (only-absent call.who.proc (caller_after place now more call) _ (creates-apart first call call.request old.table call.who.proc sound there)))

-- of a caller that does not, nothing becomes
pub caller-absent : (place now : ℕ) (more : Bool) (period first : ℕ) (cores : List CoreState) (call : CallRecord) (partition : Partition) (old middle own : Processes)
    → middle ≡ between place period first cores call partition old → is_some (item_at old.table call.who.proc) ≡ false
    → own ≡ middle → own ≡ after_caller place now more period first cores call partition old
caller-absent place now more period first cores call partition old middle own adjusts absent is =
    is ∙ adjusts
    ∙ ap (λ table. processes_in (mode_between call old.mode) (table ++ created_by first call call.request))
    (sym (only-absent call.who.proc (caller_after place now more call) _
    (absent-each (adjusted place period cores partition call) old.table call.who.proc (none-some _ absent))))

-- with its peers it has the mode and the processes after the call
pub called-whole : (configuration : Configuration) (place core period first : ℕ) (cores : List CoreState) (call : CallRecord) (partition : Partition) (old own stopping new : Processes)
    → processes_of partition ≡ old → first_core configuration call.who.part ≡ first → period_of configuration call.who.part ≡ period
    → AsksSoundly old.table call call.request → own ≡ after_caller place (time_of cores core) (handles_more partition call.who.proc call.request) period first cores call partition old
    → stopping ≡ with_each (stopped_by call) own → new ≡ with_each (peer_woken place call) stopping
    → new ≡ processes_of (partition_called configuration cores place core call partition)
called-whole configuration place core period first cores call partition old own stopping new seen first_is period_is sound settles stops wakes_them =
    let before : Table = each_item (only call.who.proc (caller_after place (time_of cores core) (handles_more partition call.who.proc call.request) call)) (each_item (adjusted place period cores partition call) old.table) in
    let created : Table = created_by first call call.request in
    let each : each_item (peer_woken place call) (each_item (stopped_by call) (before ++ created))
    ≡ each_item (called place (time_of cores core) period cores partition call) old.table ++ created
    = simp each_item-append (ap (λ t. each_item (peer_woken place call) (each_item (stopped_by call) before) ++ t) (created-stays place first call old.table sound)
    ∙ ap (λ t. t ++ created) (simp each_item-twice (each_item-congr _ _ (peers-are place (time_of cores core) period cores call partition) old.table))) in
    wakes_them ∙ ap (with_each (peer_woken place call)) (stops ∙ ap (with_each (stopped_by call)) settles) ∙ ap (processes_in (mode_between call old.mode)) each
    ∙ sym (λ i. processes_in (mode_between call (seen i).mode)
    (each_item (called place (time_of cores core) (period_is i) cores partition call) (seen i).table ++ created_by (first_is i) call call.request))

pub stopped-none : (call : CallRecord) (processes : Processes) → ((number : ℕ) → is_peer call number && stops call (peer_at call number) ≡ false)
    → processes ≡ with_each (stopped_by call) processes
stopped-none call processes none = ap (with_table processes) (sym (each_item-same (stopped_by call) (λ number process. rw (none number) refl) processes.table))

-- a call that does not answer NO_ERROR stops no process
pub stops-not : (call : CallRecord) → is_no_error call.claim.out ≡ false → (number : ℕ) → is_peer call number && stops call (peer_at call number) ≡ false
stops-not call refused number = rw refused (and_right (is_peer call number) false refl)

-- nor does one that names its caller
pub stops-itself : (call : CallRecord) → stop_of call.request ≡ Some (pos call.who.proc) → (number : ℕ)
    → is_peer call number && stops call (peer_at call number) ≡ false
stops-itself call is number = rw is (by (nat_eq number call.who.proc) (is_no_error call.claim.out) (nat_eq call.who.part call.who.part))
  where
    by : (a b c : Bool) → not a && (b && (c && a)) ≡ false
    by true b c = refl
    by false true true = refl
    by false true false = refl
    by false false c = refl

-- what becomes of a caller of PERIODIC_WAIT is known of the process that it is

agree_at : (number : ℕ) (f g : Process → Process) (entries : Table) → IsDistinct nat_eq (keys_of entries)
    → ((process : Process) → item_at entries number ≡ Some process → f process ≡ g process) → each_item (only number f) entries ≡ each_item (only number g) entries
unfolding IsDistinct
agree_at number f g [] distinct same = refl
agree_at number f g (entry ∷ entries) distinct same = by (nat_eq number entry.0) refl (agree_at number f g entries distinct.1)
  where
    by : (b : Bool) → nat_eq number entry.0 ≡ b
        → (((process : Process) → item_at entries number ≡ Some process → f process ≡ g process) → each_item (only number f) entries ≡ each_item (only number g) entries)
        → each_item (only number f) (entry ∷ entries) ≡ each_item (only number g) (entry ∷ entries)
    by true e rest =
        let here : nat_eq entry.0 number ≡ true = grind (arith, nat_tests) in
        let equal : number ≡ entry.0 = grind (arith, nat_tests) in
        let none : item_at entries number ≡ None = rw equal (absent_from entry.0 entries distinct.0) in
        let own : f entry.1 ≡ g entry.1 = same entry.1 (rw e refl) in
        let same_rest : each_item (only number f) entries ≡ each_item (only number g) entries
        = only-absent number f entries none ∙ sym (only-absent number g entries none) in
        rw (here, own) (ap (λ others. (entry.0, g entry.1) ∷ others) same_rest)
    by false e rest =
        let apart : nat_eq entry.0 number ≡ false = grind (arith, nat_tests) in
        rw apart (ap (λ others. entry ∷ others) (rest (λ process found. same process (rw e found))))

-- PERIODIC_WAIT sets nothing beside its caller
periodic-between : (place period first : ℕ) (cores : List CoreState) (call : CallRecord) (partition : Partition) (old : Processes) (asked : Request)
    → call.request ≡ asked → is_periodic_wait asked ≡ true → old ≡ between place period first cores call partition old
periodic-between place period first cores call partition old (request.Caller CallerOperation.PeriodicWait) is periodic = by (is_done call.claim.out) refl
  where
    by : (b : Bool) → is_done call.claim.out ≡ b → old ≡ between place period first cores call partition old
    by true done =
        adjusted-done place period first cores call partition old old done
        (subst (λ (a : Request). old ≡ carried place period first cores call a partition old) (sym is)
        (ap (with_table old) (sym (append-nothing _ ∙ each_item-same _ (λ number process. refl) old.table))))
    by false refused = adjusted-not place period first cores call partition old refused
periodic-between place period first cores call partition old _ is periodic = cc

pub caller-settled : (place now : ℕ) (more : Bool) (period first : ℕ) (cores : List CoreState) (call : CallRecord) (partition : Partition) (old middle own : Processes) (next : NextRelease) (change : Process → Process)
    → middle ≡ between place period first cores call partition old → IsDistinct nat_eq (keys_of old.table)
    → ((process : Process) → (is_periodic_wait call.request ≡ true → IsNextOf next process) → change process ≡ caller_after place now more call process)
    → (is_periodic_wait call.request ≡ true → (process : Process) → item_at old.table call.who.proc ≡ Some process → IsNextOf next process)
    → own ≡ with_each (only call.who.proc change) middle → own ≡ with_each (only call.who.proc (caller_after place now more call)) middle
caller-settled place now more period first cores call partition old middle own next change adjusts distinct same next_is is = by (is_periodic_wait call.request) refl
  where
    by : (b : Bool) → is_periodic_wait call.request ≡ b → own ≡ with_each (only call.who.proc (caller_after place now more call)) middle
    by true periodic =
        let unchanged : middle ≡ old = adjusts ∙ sym (periodic-between place period first cores call partition old call.request refl periodic) in
        let agree : each_item (only call.who.proc change) old.table ≡ each_item (only call.who.proc (caller_after place now more call)) old.table
        = agree_at call.who.proc change (caller_after place now more call) old.table distinct (λ process found. same process (λ asked. next_is periodic process found)) in
        is ∙ ap (with_each (only call.who.proc change)) unchanged ∙ ap (with_table old) agree ∙ ap (with_each (only call.who.proc (caller_after place now more call))) (sym unchanged)
    by false other =
        is ∙ ap (with_table middle) (each_item-congr _ _ (λ number process. settles number process (nat_eq number call.who.proc) refl) middle.table)
      where
        contrary : is_periodic_wait call.request ≡ true → (process : Process) → IsNextOf next process
        contrary h process = let clash : false ≡ true = sym other ∙ h in cc

        settles : (number : ℕ) (process : Process) (b : Bool) → nat_eq number call.who.proc ≡ b
            → only call.who.proc change number process ≡ only call.who.proc (caller_after place now more call) number process
        settles number process true e = rw (e) (same process (λ h. contrary h process))
        settles number process false e = rw e refl

-- No dormant process waits, whatever record comes.
use Rattle.std.proofs.Common.{◌≡◌, ℕ, List, [], ◌∷◌, ◌++◌, Bool, true, false, cond, nat_eq, ℤ, pos, negsuc, Option, Some, None, option_map, refl, sym, ap, subst, ◌∙◌, true≢false}
use Rattle.std.proofs.lemmas.Bool.{eqb-true}
use Rattle.apex_laws.proofs.Common.{Arrive, Body, Call, CallRecord, Configuration, CoreState, Depart, Disp, DormantWaitNot, Error, Mode, Out, Partition, Process, Request, Ret, Table, Tick, Wait, Who, adjusted, called, caller_after, caller_with, created_by}
use Rattle.apex_laws.proofs.Common.{each_item, first_core, first_processes, handles_more, initialising_process, is_done, is_named, item_at, message_of, new_process, numbered, partition_by, period_of, released, reported, returned, set_by, stopped, stops}
use Rattle.apex_laws.proofs.Common.{ticked, time_of, waits_for_normal, woken_by, woken_if_named}
use Rattle.apex_laws.proofs.Booleans.{by_test, impossible, never_found, one_item}
use Rattle.apex_laws.proofs.Errors.{reported_case}
use Rattle.apex_laws.proofs.Keeps.{CallsReady, IsReadyCall, found_changed, set_by_alive, set_case}
use Rattle.apex_laws.proofs.Restarts.{call_case, error_case, return_case, woken_table}
use Rattle.apex_laws.proofs.Tables.{at_each, found_after, turns_each}

-- one process

-- if a process is dormant, it waits for nothing
abbrev pub Rests : Process → Type 0
Rests process = process.alive ≡ false → process.wait ≡ Wait.Nothing

woken_rests : (place : ℕ) (message : List ℕ) (woken : List Who) (who : Who) (x : Process) → Rests x → Rests (woken_if_named place message woken who x)
woken_rests place message woken who x rests = by_test Rests (is_named who woken) (woken_by place message x) x (λ named dead. refl) (λ other. rests)

adjusted_rests : (place period : ℕ) (cores : List CoreState) (partition : Partition) (call : CallRecord) (number : ℕ) (x : Process) → Rests x
    → Rests (adjusted place period cores partition call number x)
adjusted_rests place period cores partition call number x rests =
    by_test Rests (is_done call.claim.out) (set_by place period cores partition call.who.proc call.request number x) x
    (λ done. set_case Rests place period cores partition call.who.proc call.request number x
    (λ affinity current retained position faulted suspended. rests) (λ now delay dead. absurd (true≢false dead))
    (λ waits now delay dead. impossible (sym (ap waits_for_normal (rests dead)) ∙ waits)) (λ handler was dead. absurd (true≢false dead)))
    (λ not_done. rests)

caller_rests : (place now : ℕ) (more : Bool) (call : CallRecord) (given : Out) (x : Process) → x.alive ≡ true → Rests x
    → Rests (record (cond more x (caller_with place now call given x)) { called_at = now })
caller_rests place now true call given x alive rests = rests
caller_rests place now false call Out.Waits x alive rests = λ dead. absurd (true≢false (sym alive ∙ dead))
caller_rests place now false call Out.Never x alive rests = λ dead. refl
caller_rests place now false call (Out.Answer code) x alive rests = rests

-- a process of the caller's partition
called_rests : (configuration : Configuration) (cores : List CoreState) (place core now period : ℕ) (call : CallRecord) (partition : Partition) → IsReadyCall configuration partition core call
    → (number : ℕ) (x : Process) → item_at partition.table number ≡ Some x → Rests x → Rests (called place now period cores partition call number x)
called_rests configuration cores place core now period call partition caller number x at rests =
    let more = handles_more partition call.who.proc call.request in
    let changed = adjusted place period cores partition call number x in
    let who : Who = record { part = call.who.part; proc = number } in
    let after = adjusted_rests place period cores partition call number x rests in
    by_test Rests (nat_eq number call.who.proc) (caller_after place now more call changed)
    (cond (stops call who) (stopped changed) (woken_if_named place (message_of call.request) call.claim.woken who changed))
    (λ own. (let same : caller.ready.process ≡ x = one_item (sym caller.ready.is_member ∙ ap (item_at partition.table) (sym (eqb-true number call.who.proc own)) ∙ at) in
    let alive : x.alive ≡ true = ap (λ (one : Process). one.alive) (sym same) ∙ caller.ready.ready.alive in
    let still : changed.alive ≡ true = by_test (λ (one : Process). one.alive ≡ true) (is_done call.claim.out) (set_by place period cores partition call.who.proc call.request number x) x
    (λ done. set_by_alive place period cores partition call.who.proc call.request number x alive) (λ not_done. alive) in
    caller_rests place now more call call.claim.out changed still after))
    (λ other. by_test Rests (stops call who) (stopped changed) (woken_if_named place (message_of call.request) call.claim.woken who changed)
    (λ stopping dead. refl) (λ goes_on. woken_rests place (message_of call.request) call.claim.woken who changed after))

-- a created process
numbered_rests : (claimed : Option ℤ) (new : Process) → Rests new → (number : ℕ) (x : Process) → item_at (numbered claimed new) number ≡ Some x → Rests x
numbered_rests None new rests number x at = never_found at
numbered_rests (Some (negsuc n)) new rests number x at = never_found at
numbered_rests (Some (pos n)) new rests number x at =
    by_test (λ found. found ≡ Some x → Rests x) (nat_eq number n) (Some new) None (λ here is. subst Rests (one_item is) rests) (λ elsewhere is. never_found is) at

created_rests : (first : ℕ) (call : CallRecord) (asked : Request) (number : ℕ) (x : Process) → item_at (created_by first call asked) number ≡ Some x → Rests x
created_rests first call (Request.CreateProcess name priority period time_capacity) number x at =
    let new = new_process first name priority period time_capacity in
    by_test (λ more. item_at more number ≡ Some x → Rests x) (is_done call.claim.out) (numbered call.claim.val new) []
    (λ done. numbered_rests call.claim.val new (λ dead. refl) number x) (λ not_done is. never_found is) at
created_rests first call _ number x at = never_found at

-- tables

table_rests : (change : ℕ → Process → Process) (table : Table) → ((number : ℕ) (x : Process) → item_at table number ≡ Some x → Rests (change number x))
    → DormantWaitNot (each_item change table)
table_rests change table changed number process at = by (item_at table number) refl
  where
    by : (one : Option Process) → item_at table number ≡ one → Rests process
    by None none = never_found (sym (at_each change table number ∙ ap (option_map (change number)) none) ∙ at)
    by (Some x) is = subst Rests (one_item (sym (turns_each change table number x is) ∙ at)) (changed number x is)

longer_rests : (change : ℕ → Process → Process) (table more : Table) → ((number : ℕ) (x : Process) → item_at table number ≡ Some x → Rests (change number x))
    → ((number : ℕ) (x : Process) → item_at more number ≡ Some x → Rests x) → DormantWaitNot (each_item change table ++ more)
longer_rests change table more changed added number process at = by (item_at table number) refl
  where
    by : (one : Option Process) → item_at table number ≡ one → Rests process
    by None none = added number process
        (sym (found_after (each_item change table) more number (at_each change table number ∙ ap (option_map (change number)) none)) ∙ at)
    by (Some x) is = subst Rests (one_item (sym (found_changed change table more number x is) ∙ at)) (changed number x is)

-- a partition as it starts
first_rests : (core place : ℕ) → DormantWaitNot ((0, initialising_process core place) ∷ [])
first_rests core place number process at =
    by_test (λ found. found ≡ Some process → Rests process) (nat_eq number 0) (Some (initialising_process core place)) None
    (λ first is. subst Rests (one_item is) (λ dead. refl)) (λ other is. never_found is) at

pub start_dormant : (mode : Mode) (core place : ℕ) → DormantWaitNot (first_processes mode core place)
start_dormant Mode.Idle core place = λ number process at. never_found at
start_dormant Mode.ColdStart core place = first_rests core place
start_dormant _ core place = first_rests core place

-- a partition after a record of others
others_rest : (place number : ℕ) (message : List ℕ) (woken : List Who) (table : Table) → DormantWaitNot table → DormantWaitNot (woken_table place number message woken table)
others_rest place number message woken table rest =
    table_rests (λ other process. woken_if_named place message woken (record { part = number; proc = other }) process) table
    (λ other x at. woken_rests place message woken (record { part = number; proc = other }) x (rest other x at))

-- a partition after a record, if the record's own calls are of ready callers
pub dormant_by : (configuration : Configuration) (cores : List CoreState) (place core number : ℕ) (body : Body) (partition : Partition)
    → CallsReady configuration core number body partition → DormantWaitNot partition.table
    → DormantWaitNot (partition_by configuration cores place core number body partition).table
dormant_by configuration cores place core number (Disp who) partition ready rest = rest
dormant_by configuration cores place core number (Tick woken) partition ready rest =
    table_rests (ticked place number woken) partition.table
    (λ other x at. by_test Rests (is_named (record { part = number; proc = other }) woken) (released place x) x (λ named dead. refl) (λ stays. rest other x at))
dormant_by configuration cores place core number (Ret ret) partition ready rest =
    return_case (λ next. DormantWaitNot next.table) configuration cores place core number ret partition
    (table_rests (returned ret.who.proc) partition.table
    (λ other x at. by_test Rests (nat_eq other ret.who.proc) (record x { due = None }) x (λ own. rest other x at) (λ stays. rest other x at))) rest
dormant_by configuration cores place core number (Arrive crossing) partition ready rest = others_rest place number crossing.message crossing.woken partition.table rest
dormant_by configuration cores place core number (Depart crossing) partition ready rest = others_rest place number [] crossing.woken partition.table rest
dormant_by configuration cores place core number (Error report) partition ready rest =
    error_case (λ next. DormantWaitNot next.table) configuration cores place core number report partition
    (λ own none. table_rests (reported place partition report) partition.table
    (λ other x at. reported_case Rests place partition report other x (λ deadline faulted. rest other x at) (λ handler deadline was dead. absurd (true≢false dead))))
    (λ own restart is. start_dormant restart.mode (first_core configuration report.who.part) place) (λ elsewhere. rest)
dormant_by configuration cores place core number (Call call) partition ready rest =
    call_case (λ next. DormantWaitNot next.table) configuration cores place core number call partition
    (λ own none. longer_rests (called place (time_of cores core) (period_of configuration call.who.part) cores partition call) partition.table
    (created_by (first_core configuration call.who.part) call call.request)
    (λ other x at. called_rests configuration cores place core (time_of cores core) (period_of configuration call.who.part) call partition (ready own) other x at (rest other x at))
    (λ other x at. created_rests (first_core configuration call.who.part) call call.request other x at))
    (λ own restart is. start_dormant restart.mode (first_core configuration call.who.part) place)
    (λ elsewhere. others_rest place number (message_of call.request) call.claim.woken partition.table rest)

-- The numbers of processes and objects of a partition stay distinct, whatever record comes.
use Rattle.std.proofs.Common.{◌≡◌, ℕ, List, [], ◌∷◌, ◌++◌, Bool, true, false, nat_eq, ℤ, pos, negsuc, Option, Some, None, sym, refl, ap, subst, ◌∙◌, ◌≤◌, nat_le, nat_lt, is_some, is_none, ◌&&◌}
use Rattle.std.proofs.lemmas.Bool.{and_parts, eqb-true, leb-true, ltb-true}
use Rattle.std.proofs.lemmas.List.{append-nil}
use Rattle.apex_laws.proofs.Common.{Answer, Arrive, Body, Call, CallRecord, Claim, Condition, Configuration, CoreState, Depart, Disp, Error, GREATEST_NUMBER, HasOutcome, HasValue, IsAnswered, IsLawfulBody, IsLawfulCall, Partition, Process, Request, Ret, State}
use Rattle.apex_laws.proofs.Common.{Table, Tick, answer_of, are_distinct, called, channel_of, created_by, each_item, first_core, is_done, is_free, is_new, item_at, new_process, numbered, partition_by, period_of, reported, returned, ticked, time_of}
use Rattle.apex_laws.proofs.Booleans.{by_test, never_found}
use Rattle.apex_laws.proofs.Codes.{done_is_lawful}
use Rattle.apex_laws.proofs.Restarts.{call_case, error_case, return_case, start_distinct}
use Rattle.apex_laws.proofs.Tables.{distinct_each, distinct_push, some_at_each}

-- a new number

-- what is nothing
nothing : {Item : Type 0} (found : Option Item) → is_none found ≡ true → found ≡ None
nothing None none = refl
nothing (Some item) none = cc

-- a claimed number that is new: 1 to 2,147,483,647, and of no process or object of the kind
pub record IsNew {Item : Type 0} (items : List (ℕ × Item)) (claimed : Option ℤ) : Type 0 where
  pub number : ℕ
  pub is : claimed ≡ Some (pos number)
  pub within : (1 ≤ number) × (number ≤ GREATEST_NUMBER)
  pub none : item_at items number ≡ None

-- the test says so
pub new_is : {Item : Type 0} (items : List (ℕ × Item)) (claimed : Option ℤ) → is_new (is_free items) claimed ≡ true → IsNew items claimed
new_is items None new = cc
new_is items (Some (negsuc n)) new = cc
new_is items (Some (pos n)) new =
    let first = and_parts (nat_lt 0 n) (nat_le n GREATEST_NUMBER && is_none (item_at items n)) new in
    let second = and_parts (nat_le n GREATEST_NUMBER) (is_none (item_at items n)) first.1 in
    record { number = n; is = refl; within = (ltb-true 0 n first.0, leb-true n GREATEST_NUMBER second.0); none = nothing (item_at items n) second.1 }

-- one more under a number that was new
pub distinct_new : {Item : Type 0} (items : List (ℕ × Item)) (claimed : Option ℤ) (item : Item) → are_distinct items ≡ true
    → is_new (is_free items) claimed ≡ true → are_distinct (items ++ numbered claimed item) ≡ true
distinct_new items claimed item distinct new =
    let is = new_is items claimed new in
    subst (λ one. are_distinct (items ++ numbered one item) ≡ true) (sym is.is) (distinct_push items is.number item distinct (ap (λ found. is_some found) is.none))

-- a table with each process changed, and a process under a number that was new
distinct_numbered : (change : ℕ → Process → Process) (table : Table) (claimed : Option ℤ) (process : Process) → are_distinct table ≡ true
    → is_new (is_free table) claimed ≡ true → are_distinct (each_item change table ++ numbered claimed process) ≡ true
distinct_numbered change table claimed process distinct new =
    let is = new_is table claimed new in
    subst (λ one. are_distinct (each_item change table ++ numbered one process) ≡ true) (sym is.is)
    (distinct_push (each_item change table) is.number process (distinct_each change table ∙ distinct) (some_at_each change table is.number ∙ ap (λ found. is_some found) is.none))

-- a table with each process changed, and none created
distinct_alone : (change : ℕ → Process → Process) (table : Table) → are_distinct table ≡ true → are_distinct (each_item change table ++ []) ≡ true
distinct_alone change table distinct = ap are_distinct (append-nil (each_item change table)) ∙ distinct_each change table ∙ distinct

-- a call that is done and goes through no channel claims the value of its service
abbrev pub ClaimsValue : Configuration → Partition → List CoreState → ℕ → CallRecord → Request → Type 0
ClaimsValue configuration partition cores core call asked = is_done call.claim.out ≡ true → channel_of partition asked ≡ None → HasValue (answer_of configuration cores core call.who partition asked).val call.claim.val

-- the table of the caller's partition
distinct_called : (configuration : Configuration) (partition : Partition) (cores : List CoreState) (core first : ℕ) (call : CallRecord) (asked : Request) (change : ℕ → Process → Process) → ClaimsValue configuration partition cores core call asked
    → are_distinct partition.table ≡ true → are_distinct (each_item change partition.table ++ created_by first call asked) ≡ true
distinct_called configuration partition cores core first call (Request.CreateProcess name priority period time_capacity) change claims distinct =
    by_test (λ more. are_distinct (each_item change partition.table ++ more) ≡ true) (is_done call.claim.out) (numbered call.claim.val (new_process first name priority period time_capacity)) []
    (λ done. distinct_numbered change partition.table call.claim.val (new_process first name priority period time_capacity) distinct (claims done refl)) (λ not_done. distinct_alone change partition.table distinct)
distinct_called configuration partition cores core first call _ change claims distinct = distinct_alone change partition.table distinct

-- a record's own calls claim their values
abbrev pub CallsClaimValues : Configuration → ℕ → List CoreState → ℕ → Body → Partition → Type 0
CallsClaimValues configuration number cores core (Call call) partition = nat_eq call.who.part number ≡ true → ClaimsValue configuration partition cores core call call.request
CallsClaimValues configuration number cores core _ partition = Unit {0}

-- the table of a partition after a record
pub distinct_by : (configuration : Configuration) (cores : List CoreState) (place core number : ℕ) (body : Body) (partition : Partition) → CallsClaimValues configuration number cores core body partition
    → are_distinct partition.table ≡ true → are_distinct (partition_by configuration cores place core number body partition).table ≡ true
distinct_by configuration cores place core number (Disp who) partition claims distinct = distinct
distinct_by configuration cores place core number (Tick woken) partition claims distinct = distinct_each (ticked place number woken) partition.table ∙ distinct
distinct_by configuration cores place core number (Ret ret) partition claims distinct =
    return_case (λ next. are_distinct next.table ≡ true) configuration cores place core number ret partition (distinct_each (returned ret.who.proc) partition.table ∙ distinct) distinct
distinct_by configuration cores place core number (Error report) partition claims distinct =
    error_case (λ next. are_distinct next.table ≡ true) configuration cores place core number report partition
    (λ own none. distinct_each (reported place partition report) partition.table ∙ distinct)
    (λ own restart is. start_distinct restart.mode (first_core configuration report.who.part) place) (λ elsewhere. distinct)
distinct_by configuration cores place core number (Arrive crossing) partition claims distinct = distinct_each _ partition.table ∙ distinct
distinct_by configuration cores place core number (Depart crossing) partition claims distinct = distinct_each _ partition.table ∙ distinct
distinct_by configuration cores place core number (Call call) partition claims distinct =
    call_case (λ next. are_distinct next.table ≡ true) configuration cores place core number call partition
    (λ own none. distinct_called configuration partition cores core (first_core configuration call.who.part) call call.request
    (called place (time_of cores core) (period_of configuration call.who.part) cores partition call) (claims own) distinct)
    (λ own restart is. start_distinct restart.mode (first_core configuration call.who.part) place)
    (λ elsewhere. distinct_each _ partition.table ∙ distinct)

-- if no condition holds and no channel is used, the outcome is the service's
answered : (conditions : List Condition) (channel : Option ℕ) (answer : Answer) (suited : ℕ → Bool) (through : ℕ → Answer) (claim : Claim) → conditions ≡ [] → channel ≡ None
    → HasOutcome conditions channel answer suited through claim → IsAnswered answer claim
answered [] None answer suited through claim none off has = has
answered [] (Some channel) answer suited through claim none off has = never_found (sym off)
answered (condition ∷ conditions) channel answer suited through claim none off has = cc

-- a lawful call claims the value of its service
lawful_value : (configuration : Configuration) (state : State) (core : ℕ) (call : CallRecord) → IsLawfulCall configuration state core call
    → ClaimsValue configuration (state.partitions call.who.part) state.cores core call call.request
lawful_value configuration state core call law done off =
    (answered _ _ _ _ _ call.claim (done_is_lawful _ _ _ _ _ call.claim law.outcome done) off law.outcome).values.val

pub lawful_values : (configuration : Configuration) (state : State) (core : ℕ) (body : Body) → IsLawfulBody configuration state core body
    → (number : ℕ) → CallsClaimValues configuration number state.cores core body (state.partitions number)
lawful_values configuration state core (Call call) law number =
    λ own. subst (λ part. ClaimsValue configuration (state.partitions part) state.cores core call call.request) (eqb-true call.who.part number own)
    (lawful_value configuration state core call law)
lawful_values configuration state core _ law number = tt

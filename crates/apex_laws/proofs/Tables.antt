-- What a change leaves of the tables of processes and objects, of the cores, and of the part of each piece.
use Rattle.std.proofs.Common.{◌≡◌, ℕ, List, [], ◌∷◌, ◌++◌, true, false, not, nat_eq, Option, Some, None, is_some, option_map, refl, sym, ap, ◌∙◌, true≢false, ◌&&◌, zero, suc, ◌<◌, length, arith, ◌+◌}
use Rattle.std.proofs.lemmas.Bool.{and_from, and_parts, eqb-true, ne_eqb, eqb-false}
use Rattle.apex_laws.proofs.Common.{Body, Call, ChannelPart, Configuration, CoreState, Disp, Module, OfChannel, OfPartition, Ordered, Piece, Ret, State, Tick, after, are_distinct, at_core, channel_after, cores_by, each_item, item_at}
use Rattle.apex_laws.proofs.Common.{occupant_of, one_more, part, part_after, time_at, time_of, times_by, times_of}
use Rattle.apex_laws.proofs.Common.{Arrive, Depart, Error}
use Rattle.apex_laws.proofs.Booleans.{either_way, is_itself, never_found}

-- The process or object of a number, if those of its kind were changed.

-- an item that is not among these is found after them
pub found_after : {Item : Type 0} (items more : List (ℕ × Item)) (number : ℕ) → item_at items number ≡ None → item_at (items ++ more) number ≡ item_at more number
found_after [] more number none = refl
found_after (entry ∷ entries) more number none =
    either_way (nat_eq number entry.0) (λ same. never_found (sym (rw same at none))) (λ other. rw other (found_after entries more number (rw other at none)))

-- if each is changed, the one of a number is
pub at_each : {Item : Type 0} (change : ℕ → Item → Item) (items : List (ℕ × Item)) (number : ℕ)
    → item_at (each_item change items) number ≡ option_map (change number) (item_at items number)
at_each change [] number = refl
at_each change (entry ∷ entries) number =
    either_way (nat_eq number entry.0) (λ same. rw same (ap (λ (one : ℕ). Some (change one entry.1)) (sym (eqb-true number entry.0 same)))) (λ other. rw other (at_each change entries number))

pub turns_each : {Item : Type 0} (change : ℕ → Item → Item) (items : List (ℕ × Item)) (number : ℕ) (old : Item) → item_at items number ≡ Some old
    → item_at (each_item change items) number ≡ Some (change number old)
turns_each change items number old at = at_each change items number ∙ ap (option_map (change number)) at

-- if the change leaves it, it stays
pub stays_each : {Item : Type 0} (change : ℕ → Item → Item) (items : List (ℕ × Item)) (number : ℕ) → ((old : Item) → item_at items number ≡ Some old → change number old ≡ old)
    → item_at (each_item change items) number ≡ item_at items number
stays_each {Item} change items number leaves = at_each change items number ∙ by (item_at items number) leaves
  where
    by : (found : Option Item) → ((old : Item) → found ≡ Some old → change number old ≡ old) → option_map (change number) found ≡ found
    by None leaves = refl
    by (Some old) leaves = ap Some (leaves old refl)

-- whether some process has a number stays
some_mapped : {Item : Type 0} (change : Item → Item) (found : Option Item) → is_some (option_map change found) ≡ is_some found
some_mapped change None = refl
some_mapped change (Some item) = refl

pub some_at_each : {Item : Type 0} (change : ℕ → Item → Item) (items : List (ℕ × Item)) (number : ℕ)
    → is_some (item_at (each_item change items) number) ≡ is_some (item_at items number)
some_at_each change items number = ap (λ found. is_some found) (at_each change items number) ∙ some_mapped (change number) (item_at items number)

-- so distinct numbers stay distinct
pub distinct_each : {Item : Type 0} (change : ℕ → Item → Item) (items : List (ℕ × Item)) → are_distinct (each_item change items) ≡ are_distinct items
distinct_each change [] = refl
distinct_each change (entry ∷ entries) =
    λ i. not (some_at_each change entries entry.0 i) && distinct_each change entries i

-- a process or object of a new number at the end

-- the others are found as before
pub at_others : {Item : Type 0} (items : List (ℕ × Item)) (number other : ℕ) (new : Item) → nat_eq other number ≡ false
    → item_at (items ++ (number, new) ∷ []) other ≡ item_at items other
at_others [] number other new differs = rw differs refl
at_others (entry ∷ entries) number other new differs =
    either_way (nat_eq other entry.0) (λ same. rw same refl) (λ apart. rw apart (at_others entries number other new differs))

-- and it is found under its number
pub at_pushed : {Item : Type 0} (items : List (ℕ × Item)) (number : ℕ) (new : Item) → item_at items number ≡ None
    → item_at (items ++ (number, new) ∷ []) number ≡ Some new
at_pushed [] number new none = rw is_itself refl
at_pushed (entry ∷ entries) number new none =
    either_way (nat_eq number entry.0) (λ same. never_found (sym (rw same at none))) (λ other. rw other (at_pushed entries number new (rw other at none)))

-- a number that none of a list has differs from the first, and none of the rest has it
new_number : {Item : Type 0} (entry : ℕ × Item) (entries : List (ℕ × Item)) (number : ℕ) → is_some (item_at (entry ∷ entries) number) ≡ false
    → (nat_eq entry.0 number ≡ false) × (is_some (item_at entries number) ≡ false)
new_number entry entries number new =
    either_way (nat_eq number entry.0) (λ same. absurd (true≢false (rw same at new))) (λ other. (ne_eqb entry.0 number (λ same. eqb-false number entry.0 other (sym same)), rw other at new))

-- the numbers stay distinct
pub distinct_push : {Item : Type 0} (items : List (ℕ × Item)) (number : ℕ) (item : Item) → are_distinct items ≡ true → is_some (item_at items number) ≡ false
    → are_distinct (items ++ (number, item) ∷ []) ≡ true
distinct_push [] number item distinct new = refl
distinct_push (entry ∷ entries) number item distinct new =
    let parts = and_parts (not (is_some (item_at entries entry.0))) (are_distinct entries) distinct in
    let others = new_number entry entries number new in
    and_from _ _ (ap (λ found. not (is_some found)) (at_others entries number entry.0 item others.0) ∙ parts.0)
    (distinct_push entries number item parts.1 others.1)

-- The cores with one of them changed.

-- a walk to a core gives what its state has
pub record GivesOfCore {Found : Type 0} (walk : List CoreState → ℕ → Found) (has : CoreState → Found) : Type 0 where
  pub first : (state : CoreState) (states : List CoreState) → walk (state ∷ states) zero ≡ has state
  pub rest : (state : CoreState) (states : List CoreState) (core : ℕ) → walk (state ∷ states) (suc core) ≡ walk states core

pub gives_time : GivesOfCore time_of (λ state. state.time)
gives_time = record { first = λ state states. refl; rest = λ state states core. refl }

pub gives_occupant : GivesOfCore occupant_of (λ state. state.occupant)
gives_occupant = record { first = λ state states. refl; rest = λ state states core. refl }

module _ {Found : Type 0} {walk : List CoreState → ℕ → Found} {has : CoreState → Found} (gives : GivesOfCore walk has) (change : CoreState → CoreState) where
  -- of the core itself
  pub core_changes : (new : Found → Found) (core : ℕ) (cores : List CoreState) → core < length cores
      → ((state : CoreState) → has (change state) ≡ new (has state)) → walk (at_core change core cores) core ≡ new (walk cores core)
  core_changes new core [] within by = absurd (omega arith)
  core_changes new zero (state ∷ states) within by = gives.first (change state) states ∙ by state ∙ ap new (sym (gives.first state states))
  core_changes new (suc core) (state ∷ states) within by =
      gives.rest state (at_core change core states) core ∙ core_changes new core states (omega arith) by ∙ ap new (sym (gives.rest state states core))

  -- for any core, if the change leaves it unchanged when it is that one
  pub core_stays : (core : ℕ) (cores : List CoreState) (other : ℕ) → (other ≡ core → (state : CoreState) → has (change state) ≡ has state)
      → walk (at_core change core cores) other ≡ walk cores other
  core_stays core [] other leaves = refl
  core_stays zero (state ∷ states) zero leaves = gives.first (change state) states ∙ leaves refl state ∙ sym (gives.first state states)
  core_stays zero (state ∷ states) (suc other) leaves = gives.rest (change state) states other ∙ sym (gives.rest state states other)
  core_stays (suc core) (state ∷ states) zero leaves = gives.first state (at_core change core states) ∙ sym (gives.first state states)
  core_stays (suc core) (state ∷ states) (suc other) leaves =
      gives.rest state (at_core change core states) other ∙ core_stays core states other (λ same. leaves (ap suc same)) ∙ sym (gives.rest state states other)

-- there are as many cores
pub count_stays : (change : CoreState → CoreState) (core : ℕ) (cores : List CoreState) → length (at_core change core cores) ≡ length cores
count_stays change core [] = refl
count_stays change zero (state ∷ states) = refl
count_stays change (suc core) (state ∷ states) = ap suc (count_stays change core states)

-- What a record makes of the part of each piece.

-- the times that a channel holds are those of the cores
pub same_time : (cores : List CoreState) (core : ℕ) → time_at (times_of cores) core ≡ time_of cores core
same_time [] core = refl
same_time (state ∷ states) zero = refl
same_time (state ∷ states) (suc core) = same_time states core

-- a change that leaves the time leaves all times
kept_times : (change : CoreState → CoreState) → ((state : CoreState) → (change state).time ≡ state.time) → (core : ℕ) (cores : List CoreState)
    → times_of (at_core change core cores) ≡ times_of cores
kept_times change keeps core [] = refl
kept_times change keeps zero (state ∷ states) = ap (λ time. time ∷ times_of states) (keeps state)
kept_times change keeps (suc core) (state ∷ states) = ap (λ times. state.time ∷ times) (kept_times change keeps core states)

-- one more tick of a core
ticked_times : (core : ℕ) (cores : List CoreState) → times_of (at_core (λ state. record state { time = state.time + 1 }) core cores) ≡ one_more core (times_of cores)
ticked_times core [] = refl
ticked_times zero (state ∷ states) = refl
ticked_times (suc core) (state ∷ states) = ap (λ times. state.time ∷ times) (ticked_times core states)

-- the times after a record are those that the record makes of the times
pub times_after : (core : ℕ) (body : Body) (cores : List CoreState) → times_of (cores_by core body cores) ≡ times_by core body (times_of cores)
times_after core (Disp who) cores = kept_times (λ state. record state { occupant = who }) (λ state. refl) core cores
times_after core (Tick woken) cores = ticked_times core cores
times_after core (Ret ret) cores = refl
times_after core (Arrive crossing) cores = refl
times_after core (Depart crossing) cores = refl
times_after core (Error report) cores = refl
times_after core (Call call) cores = refl

-- the part of the state after a record is what the record makes of the part
pub part_of_after : (configuration : Configuration) (state : State) (ordered : Ordered) (piece : Piece)
    → part piece (after configuration state ordered) ≡ part_after configuration (part piece state) ordered
part_of_after configuration state ordered Module = refl
part_of_after configuration state ordered (OfPartition number) = refl
part_of_after configuration state ordered (OfChannel number) =
    let times = times_after ordered.core ordered.rec.body state.cores in
    let now = sym (same_time state.cores ordered.core) in
    λ i. ChannelPart number (times i) (channel_after configuration (now i) number ordered (state.channels number))

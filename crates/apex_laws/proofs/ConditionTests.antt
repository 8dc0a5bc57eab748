-- Which facts the tests of the error conditions decide.
use Rattle.std.proofs.Common.{◌≡◌, ◌⊎◌, ℕ, zero, suc, ◌+◌, ◌-◌, ◌*◌, ◌/◌, ◌%◌, ◌<◌, ◌≤◌, ℤ, pos, negsuc, List, [], ◌∷◌, Option, Some, None, Bool, true, false, cond, not, ◌&&◌, ◌||◌, nat_eq, nat_lt, nat_le, is_none, is_some, refl, sym, ap, subst, ◌∙◌, inl, inr, arith, true≢false, length, IsFalse}
use Rattle.std.proofs.Math.Nat.{mul-mod_left}
use Rattle.std.proofs.lemmas.Bool.{and_from, and_parts, eqb-true, eq-eqb, leb-true}
use Rattle.std.proofs.lemmas.List.Elements.{All-cons, All-contains, All-contains_itself, All-weaker}
use Rattle.std.proofs.lemmas.Nat.{div-add-mod'}
use Rattle.std.proofs.lemmas.Slice.Eq.{bytes_eq-Decides}
use Rattle.std.specs.List.{list_any}
use Rattle.std.specs.Option.{option_map_or}
use Rattle.std.specs.Prelude.{◌≤ℤ◌, ◌<ℤ◌, Contains, T, IsTrue}
use Rattle.std.specs.Str.{bytes_eq}
use Rattle.apex_types.specs.declared.object_kind.NamedKind.TheVariants as named
use Rattle.apex_types.specs.declared.object_kind.ObjectKind.TheVariants as kind
use Rattle.apex_laws.proofs.Common.{Configuration, Direction, Discipline, GREATEST_PRIORITY, IsCalledByPeriodic, IsCoreOf, IsDirection, IsFrom, IsMultipleOf, IsObject, IsPeriodic, IsPriority, IsProcess}
use Rattle.apex_laws.proofs.Common.{IsQueuingPort, IsSamplingPort, IsSuspended, KindIsFull, MayNotWait, Mode, Mutex, NamesNone, NamesNoProcess, ObjectKind, OneIsNamed, Owns, Partition, Process, SamplingPort}
use Rattle.apex_laws.proofs.Common.{Table, TellsDiscipline, Wait, Who, created, direction_number, discipline_number, given_object, has_core, is_between, is_cold_start, is_core, is_full, is_length, is_longer, is_mode, is_negative, is_normal}
use Rattle.apex_laws.proofs.Common.{is_normal_mode, is_number, is_over, is_owner, is_period, is_periodic, is_priority, is_queuing_port, is_sampling_port, is_source, is_suspended, is_suspension, is_taken, is_time_out, is_warm_start_mode}
use Rattle.apex_laws.proofs.Common.{item_at, limits_of, may_not_wait, name_in, number_named, number_of, object_limit, objects_of, of_caller, owns_another, owns_mutex, queuing_port, sampling_port, suits_maximum, suits_period, suits_refresh}
use Rattle.apex_laws.proofs.Common.{NamedKind, OneHasName}
use Rattle.apex_laws.proofs.Common.{is_above_period, is_at_least, reaches_period}
use Rattle.apex_laws.proofs.Common.{natural_of, EndsAfter, ends_after, next_release, replenishes_beyond}
use Rattle.apex_laws.proofs.Booleans.{cannot_hold, either_way, first_holds, impossible, is_itself, later_holds, member_first, member_later, never_found, one_item, other_holds}

-- a test decides a fact: it holds exactly if the fact does
abbrev pub Tells : Bool → Type 0 → Type 0
Tells test Fact = (test ≡ true → Fact) × (Fact → test ≡ true)

-- its negation
pub tells_not : {test : Bool} {Fact : Type 0} → Tells test Fact → Tells (not test) (¬ Fact)
tells_not {test = true} tells = (impossible, λ none. absurd (none (tells.0 refl)))
tells_not {test = false} tells = (λ fails fact. true≢false (sym (tells.1 fact)), λ none. refl)

-- both of two tests
pub tells_both : {one other : Bool} {First Second : Type 0} → Tells one First → Tells other Second → Tells (one && other) (First × Second)
tells_both {one = true} first second = (λ holds. (first.0 refl, second.0 holds), λ facts. second.1 facts.1)
tells_both {one = false} first second = (impossible, λ facts. first.1 facts.0)

-- one of two tests
pub tells_either : {one other : Bool} {First Second : Type 0} → Tells one First → Tells other Second → Tells (one || other) (First ⊎ Second)
tells_either {one = true} first second = (λ holds. inl (first.0 refl), λ facts. refl)
tells_either {one = false} first second = (λ holds. inr (second.0 holds), elim [ inl fact ↦ impossible (first.1 fact) | inr fact ↦ second.1 fact ])

-- a test of itself, and its failure
pub tells_itself : (test : Bool) → Tells test (IsTrue test)
tells_itself test = (λ holds. holds, λ holds. holds)

pub fails_tells : (test : Bool) → Tells (not test) (IsFalse test)
fails_tells true = (λ holds. sym holds, λ fails. sym fails)
fails_tells false = (λ holds. refl, λ fails. refl)

-- numbers

test_holds : (test : Bool) → test ≡ true → T test
test_holds true holds = tt
test_holds false holds = impossible holds

holds_test : (test : Bool) → T test → test ≡ true
holds_test true holds = refl
holds_test false holds = absurd holds

pub equal_tells : (one other : ℕ) → Tells (nat_eq one other) (one ≡ other)
equal_tells one other = (eqb-true one other, eq-eqb one other)

pub at_most_tells : (least greatest : ℕ) → Tells (nat_le least greatest) (least ≤ greatest)
at_most_tells least greatest = (leb-true least greatest, λ fact. grind arith)

pub below_tells : (one other : ℕ) → Tells (nat_lt one other) (one < other)
below_tells one other = (λ holds. grind arith, λ fact. grind arith)

-- the same of a caller's numbers
at_most : (least greatest : ℕ) → Tells (nat_le least greatest) (pos least ≤ℤ pos greatest)
at_most least greatest = (λ holds. record { le = test_holds (nat_le least greatest) holds }, λ fact. holds_test (nat_le least greatest) fact.le)

below : (one other : ℕ) → Tells (nat_lt one other) (pos one <ℤ pos other)
below one other = (λ holds. record { lt = test_holds (nat_lt one other) holds }, λ fact. holds_test (nat_lt one other) fact.lt)

not_negative : (n : ℕ) → pos 0 ≤ℤ pos n
not_negative n = (at_most 0 n).0 ((at_most_tells 0 n).1 (omega arith))

above_none : (n : ℕ) → pos 0 <ℤ pos (suc n)
above_none n = (below 0 (suc n)).0 ((below_tells 0 (suc n)).1 (omega arith))

not_above : (one other : ℕ) → other ≤ one → ¬ (pos one <ℤ pos other)
not_above one other most fact = let less : one < other = (below_tells one other).0 ((below one other).1 fact) in omega arith

pub between_tells : (least greatest : ℕ) (given : ℤ) → Tells (is_between least greatest given) (IsFrom (pos least) (pos greatest) given)
between_tells least greatest (pos n) = tells_both (at_most least n) (at_most n greatest)
between_tells least greatest (negsuc n) = (impossible, λ fact. absurd fact.0.le)

pub priority_tells : (given : ℤ) → Tells (is_priority given) (IsPriority given)
priority_tells given = between_tells 1 GREATEST_PRIORITY given

-- a mode of 0 to 3
pub mode_tells : (given : ℤ) → Tells (is_mode given) (IsFrom (pos 0) (pos 3) given)
mode_tells (pos n) = (λ holds. (not_negative n, (at_most n 3).0 holds), λ fact. (at_most n 3).1 fact.1)
mode_tells (negsuc n) = (impossible, λ fact. absurd fact.0.le)

pub number_tells : (given : ℤ) (number : ℕ) → Tells (is_number given number) (given ≡ pos number)
number_tells (pos n) number = (λ holds. ap pos (eqb-true n number holds), λ fact. ap (λ one. is_number one number) fact ∙ is_itself number)
number_tells (negsuc n) number = (impossible, λ fact. ap (λ one. is_number one number) fact ∙ is_itself number)

pub normal_mode_tells : (given : ℤ) → Tells (is_normal_mode given) (given ≡ pos 3)
normal_mode_tells (pos n) = (λ holds. ap pos (eqb-true n 3 holds), λ fact. ap is_normal_mode fact)
normal_mode_tells (negsuc n) = (impossible, λ fact. ap is_normal_mode fact)

pub warm_start_mode_tells : (given : ℤ) → Tells (is_warm_start_mode given) (given ≡ pos 2)
warm_start_mode_tells (pos n) = (λ holds. ap pos (eqb-true n 2 holds), λ fact. ap is_warm_start_mode fact)
warm_start_mode_tells (negsuc n) = (impossible, λ fact. ap is_warm_start_mode fact)

pub over_tells : (given : ℤ) → Tells (is_over given) (given ≡ pos 0)
over_tells (pos n) = (λ holds. ap pos (eqb-true n 0 holds), λ fact. ap is_over fact)
over_tells (negsuc n) = (impossible, λ fact. ap is_over fact)

-- a time-out below -1
pub no_time_out_tells : (given : ℤ) → Tells (not (is_time_out given)) (given <ℤ negsuc 0)
no_time_out_tells (pos n) = (impossible, λ fact. absurd fact.lt)
no_time_out_tells (negsuc n) = (
  λ holds. let differs = (tells_not (equal_tells n 0)).0 holds in
      let above : 0 < n = grind (arith, differs) in
      record { lt = test_holds (nat_lt 0 n) ((below_tells 0 n).1 above) },
  λ fact. let above : 0 < n = (below_tells 0 n).0 (holds_test (nat_lt 0 n) fact.lt) in
      (tells_not (equal_tells n 0)).1 (λ none. omega arith),
)

pub negative_tells : (given : ℤ) → Tells (is_negative given) (given <ℤ pos 0)
negative_tells (pos n) = (impossible, λ fact. absurd (not_above n 0 (omega arith) fact))
negative_tells (negsuc n) = (λ holds. record { lt = tt }, λ fact. refl)

-- a length below 1
pub no_length_tells : (given : ℤ) → Tells (not (is_length given)) (given <ℤ pos 1)
no_length_tells (pos n) = (
  λ holds. let none = (tells_not (below_tells 0 n)).0 holds in
      (below n 1).0 ((below_tells n 1).1 (omega (arith, none))),
  λ fact. (tells_not (below_tells 0 n)).1 (λ above. not_above n 1 (omega arith) fact),
)
no_length_tells (negsuc n) = (λ holds. record { lt = tt }, λ fact. refl)

pub longer_tells : (size : ℕ) (given : ℤ) → Tells (is_longer size given) (pos size <ℤ given)
longer_tells size (pos n) = below size n
longer_tells size (negsuc n) = (impossible, λ fact. absurd fact.lt)

-- a period that is neither -1 nor above 0
pub no_period_tells : (given : ℤ) → Tells (not (is_period given)) ((¬ (given ≡ negsuc 0)) × (given ≤ℤ pos 0))
no_period_tells (pos n) = (
  λ holds. let none = (tells_not (below_tells 0 n)).0 holds in
      (λ same. let one : ◌≡◌ {A = ℤ} (pos n) (negsuc 0) = same in cc, (at_most n 0).0 ((at_most_tells n 0).1 (omega (arith, none)))),
  λ fact. let most : n ≤ 0 = (at_most_tells n 0).0 ((at_most n 0).1 fact.1) in
      (tells_not (below_tells 0 n)).1 (λ above. omega arith),
)
no_period_tells (negsuc n) = (
  λ holds. let differs = (tells_not (equal_tells n 0)).0 holds in
      (λ same. let one : ◌≡◌ {A = ℤ} (negsuc n) (negsuc 0) = same in let zero : n ≡ 0 = cc in differs zero, record { le = tt }),
  λ fact. (tells_not (equal_tells n 0)).1 (λ none. fact.0 (ap negsuc none)),
)

-- a capacity above a period, which is above 0
pub above_period_tells : (period capacity : ℤ) → Tells (is_above_period period capacity) ((pos 0 <ℤ period) × (period <ℤ capacity))
above_period_tells (pos period) (pos capacity) = tells_both (below 0 period) (below period capacity)
above_period_tells (pos period) (negsuc n) = (impossible, λ fact. absurd fact.1.lt)
above_period_tells (negsuc n) capacity = (impossible, λ fact. absurd fact.0.lt)

-- a number that is not below another
at_least_tells : (least : ℕ) (given : ℤ) → Tells (is_at_least least given) (pos least ≤ℤ given)
at_least_tells least (pos n) = at_most least n
at_least_tells least (negsuc n) = (impossible, λ fact. absurd fact.le)

-- a delay that is not below the period of a periodic process
pub reaches_tells : (delay : ℤ) (process : Process) → Tells (reaches_period delay process) ((period : ℕ) × (process.period ≡ Some period) × (pos period ≤ℤ delay))
reaches_tells delay process = by process.period
  where
    by : (found : Option ℕ) → Tells (option_map_or (λ period. is_at_least period delay) found false) ((period : ℕ) × (found ≡ Some period) × (pos period ≤ℤ delay))
    by None = (impossible, λ fact. never_found fact.1)
    by (Some period) =
        let tells = at_least_tells period delay in
        (λ holds. (period, refl, tells.0 holds), λ fact. tells.1 (subst (λ one. pos one ≤ℤ delay) (sym (one_item fact.1)) fact.2))

-- a multiple
multiple_tells : (period n : ℕ) → Tells (nat_eq (n % period) 0) (IsMultipleOf period (pos n))
multiple_tells period n = (
  λ holds. let rest : n % period ≡ 0 = eqb-true (n % period) 0 holds in
      let all : n / period * period + n % period ≡ n = div-add-mod' n period in
      (n / period, ap pos (omega (arith, rest, all))),
  λ fact. let same : n ≡ fact.0 * period = (let one : ◌≡◌ {A = ℤ} (pos n) (pos (fact.0 * period)) = fact.1 in cc) in
      eq-eqb (n % period) 0 (ap (λ one. one % period) same ∙ mul-mod_left fact.0 period),
)

-- a period above 0 that is no multiple
no_multiple : (period n : ℕ) → Tells (not (nat_eq (n % period) 0)) (¬ IsMultipleOf period (pos n))
no_multiple period n = tells_not (multiple_tells period n)

pub no_multiple_tells : (period : ℕ) (given : ℤ) → Tells (not (suits_period period given)) ((pos 0 <ℤ given) × (¬ IsMultipleOf period given))
no_multiple_tells period (pos n) = (
  λ holds. let differs = (no_multiple period n).0 holds in (above n differs, differs),
  λ fact. (no_multiple period n).1 fact.1,
)
  where
    above : (n : ℕ) → ¬ IsMultipleOf period (pos n) → pos 0 <ℤ pos n
    above zero none = absurd (none (0, ap pos (let product : 0 * period ≡ 0 = omega arith in sym product)))
    above (suc n) none = above_none n
no_multiple_tells period (negsuc n) = (impossible, λ fact. absurd fact.0.lt)

-- a value of 0 to the maximum
pub value_tells : (maximum value : ℤ) → Tells (suits_maximum maximum value) (IsFrom (pos 0) maximum value)
value_tells (pos greatest) (pos n) = (λ holds. (not_negative n, (at_most n greatest).0 holds), λ fact. (at_most n greatest).1 fact.1)
value_tells (pos greatest) (negsuc n) = (impossible, λ fact. absurd fact.0.le)
value_tells (negsuc greatest) (pos n) = (impossible, λ fact. absurd fact.1.le)
value_tells (negsuc greatest) (negsuc n) = (impossible, λ fact. absurd fact.0.le)

-- lists

-- an element is the head of a list or comes after it
pub member_cases : {X : Type 0} → (x y : X) (xs : List X) → Contains (x ∷ xs) y → (y ≡ x) ⊎ Contains xs y
member_cases x y xs is_member =
    All-contains (λ one. (one ≡ x) ⊎ Contains xs one) (x ∷ xs) y
    (All-cons (λ one. (one ≡ x) ⊎ Contains xs one) x xs (inl refl)
    (All-weaker (Contains xs) (λ one. (one ≡ x) ⊎ Contains xs one) (λ one there. inr there) xs (All-contains_itself xs))) is_member

-- nothing is in an empty list
pub member_nowhere : {X : Type 0} → (x : X) → Contains [] x → ⊥
member_nowhere x is_member = let none : is_member.0 < 0 = is_member.1 in omega arith

-- a walk over a list that tests its elements decides whether one of them has what the test decides
module _ {X : Type 0} (test : X → Bool) (Fact : X → Type 0) (tells : (x : X) → Tells (test x) (Fact x)) where
  pub any_tells : (walk : List X → Bool) → walk [] ≡ false → ((x : X) (xs : List X) → walk (x ∷ xs) ≡ (test x || walk xs))
      → (xs : List X) → Tells (walk xs) ((x : X) × Contains xs x × Fact x)
  any_tells walk none more [] = (λ holds. impossible (sym none ∙ holds), λ found. absurd (member_nowhere found.0 found.1))
  any_tells walk none more (x ∷ xs) =
      let rest = any_tells walk none more xs in (
        λ holds. either_way (test x) (λ here. (x, member_first x xs, (tells x).0 here))
            (λ fails. let found = rest.0 (other_holds (test x) (walk xs) (sym (more x xs) ∙ holds) fails) in
            (found.0, member_later x found.0 xs found.1, found.2)),
        λ found. more x xs ∙ elim (member_cases x found.0 xs found.1) [
          | inl here ↦ first_holds (test x) (walk xs) ((tells x).1 (subst Fact here found.2))
          | inr there ↦ later_holds (test x) (walk xs) (rest.1 (found.0, there, found.2))
        ],
      )

-- what is found

pub none_tells : {X : Type 0} (found : Option X) → Tells (is_none found) (found ≡ None)
none_tells None = (λ holds. refl, λ none. refl)
none_tells (Some x) = (impossible, λ none. ap is_none none)

some_tells : {X : Type 0} (found : Option X) → Tells (is_some found) ((x : X) × (found ≡ Some x))
some_tells None = (impossible, λ some. never_found some.1)
some_tells (Some x) = (λ holds. (x, refl), λ some. refl)

-- a test of what is found, which fails if nothing is
pub found_tells : {X : Type 0} (test : Option X → Bool) (Fact : X → Type 0) → test None ≡ false → ((x : X) → Tells (test (Some x)) (Fact x))
    → (found : Option X) → Tells (test found) ((x : X) × (found ≡ Some x) × Fact x)
found_tells test Fact fails tells None = (λ holds. impossible (sym fails ∙ holds), λ fact. never_found fact.1)
found_tells test Fact fails tells (Some x) = (λ holds. (x, refl, (tells x).0 holds), λ fact. (tells x).1 (subst Fact (sym (one_item fact.1)) fact.2))

-- processes and objects

pub created_is : (partition : Partition) (given : ℤ) (found : Process) → created partition.table given ≡ Some found → IsProcess partition given found
created_is partition (pos zero) found at = never_found at
created_is partition (pos (suc n)) found at = record { number = suc n; is = refl; created = omega arith; is_member = at }
created_is partition (negsuc n) found at = never_found at

at_positive : (table : Table) (number : ℕ) → 0 < number → created table (pos number) ≡ item_at table number
at_positive table zero above = absurd (let none : 0 < 0 = above in omega arith)
at_positive table (suc n) above = refl

pub created_by : (partition : Partition) (given : ℤ) (found : Process) → IsProcess partition given found → created partition.table given ≡ Some found
created_by partition given found is = ap (created partition.table) is.is ∙ at_positive partition.table is.number is.created ∙ is.is_member

-- no process, by what is found
pub nobody : {X : Type 0} → (found : Option X) → ((x : X) → found ≡ Some x → ⊥) → found ≡ None
nobody None none = refl
nobody (Some x) none = absurd (none x refl)

pub no_process_is : (partition : Partition) (given : ℤ) → created partition.table given ≡ None → NamesNoProcess partition given
no_process_is partition given none process is = never_found (sym none ∙ created_by partition given process is)

pub no_process_by : (partition : Partition) (given : ℤ) → NamesNoProcess partition given → created partition.table given ≡ None
no_process_by partition given none = nobody (created partition.table given) (λ process at. none process (created_is partition given process at))

pub object_is : {Object : Type 0} → (objects : List (ℕ × Object)) (given : ℤ) (found : Object) → given_object objects given ≡ Some found → IsObject objects given found
object_is objects (pos number) found at = record { number = number; is = refl; is_member = at }
object_is objects (negsuc n) found at = never_found at

pub object_by : {Object : Type 0} → (objects : List (ℕ × Object)) (given : ℤ) (found : Object) → IsObject objects given found → given_object objects given ≡ Some found
object_by objects given found is = ap (given_object objects) is.is ∙ is.is_member

pub no_object_is : {Object : Type 0} → (objects : List (ℕ × Object)) (given : ℤ) → given_object objects given ≡ None → NamesNone objects given
no_object_is objects given none object is = never_found (sym none ∙ object_by objects given object is)

pub no_object_by : {Object : Type 0} → (objects : List (ℕ × Object)) (given : ℤ) → NamesNone objects given → given_object objects given ≡ None
no_object_by objects given none = nobody (given_object objects given) (λ object at. none object (object_is objects given object at))

-- names
pub named_tells : {Object : Type 0} → (name_of : Object → List ℕ) (name : List ℕ) (objects : List (ℕ × Object)) → Tells (is_taken name_of name objects) (OneIsNamed name name_of objects)
named_tells {Object} name_of name objects =
    any_tells (λ entry. bytes_eq name (name_of entry.1)) (λ entry. name_of entry.1 ≡ name)
    (λ entry. (λ holds. sym ((bytes_eq-Decides name (name_of entry.1)).0 holds), λ fact. (bytes_eq-Decides name (name_of entry.1)).1 (sym fact)))
    (is_taken name_of name) refl (λ entry entries. refl) objects

-- what is found under a name is found if one has the name
found_where_taken : {Object : Type 0} → (name_of : Object → List ℕ) (name : List ℕ) (objects : List (ℕ × Object))
    → is_none (number_named name_of name objects) ≡ not (is_taken name_of name objects)
found_where_taken name_of name [] = refl
found_where_taken name_of name (entry ∷ entries) =
    either_way (bytes_eq name (name_of entry.1)) (λ here. rw here refl) (λ other. rw other (found_where_taken name_of name entries))

pub nothing_named_tells : {Object : Type 0} → (name_of : Object → List ℕ) (name : List ℕ) (objects : List (ℕ × Object))
    → Tells (is_none (number_named name_of name objects)) (¬ OneIsNamed name name_of objects)
nothing_named_tells name_of name objects =
    rw (found_where_taken name_of name objects) (tells_not (named_tells name_of name objects))

pub unnamed_tells : (partition : Partition) (asked : NamedKind) (name : List ℕ) → Tells (is_none (number_of partition asked name)) (¬ OneHasName partition asked name)
unnamed_tells partition named.Process name = nothing_named_tells (λ (process : Process). process.name) name partition.table
unnamed_tells partition (named.Object kind) name = nothing_named_tells (name_in kind) name (objects_of partition kind)

-- owners

pub owner_tells : (owner : Option ℕ) (number : ℕ) → Tells (is_owner owner number) (owner ≡ Some number)
owner_tells None number = (impossible, λ fact. never_found fact)
owner_tells (Some owner) number = (λ holds. ap Some (eqb-true owner number holds), λ fact. eq-eqb owner number (one_item fact))

-- a created process that does not own this mutex
pub unowned_tells : (partition : Partition) (process : ℤ) (found : Mutex) → Tells (is_some (created partition.table process) && not (is_owner found.owner (natural_of process)))
    ((named : Process) × (is : IsProcess partition process named) × (¬ (found.owner ≡ Some is.number)))
unowned_tells partition process found = (
  λ holds. (let parts = and_parts (is_some (created partition.table process)) (not (is_owner found.owner (natural_of process))) holds in
      let named = is_there (created partition.table process) parts.0 in
      let is = created_is partition process named.0 named.1 in
      (named.0, is, λ owns. (tells_not (owner_tells found.owner (natural_of process))).0 parts.1 (owns ∙ ap Some (sym (ap natural_of is.is))))),
  λ facts. and_from _ _ (ap (λ one. is_some one) (created_by partition process facts.0 facts.1))
      ((tells_not (owner_tells found.owner (natural_of process))).1 (λ owns. facts.2 (owns ∙ ap Some (ap natural_of facts.1.is)))),
)
  where
    is_there : (one : Option Process) → is_some one ≡ true → (named : Process) × (one ≡ Some named)
    is_there None none = impossible none
    is_there (Some named) some = (named, refl)

pub owns_tells : (partition : Partition) (number : ℕ) → Tells (owns_mutex partition.mutexes number) ((held : ℕ) × Owns partition number held)
owns_tells partition number =
    let any = any_tells {X = ℕ × Mutex} (λ entry. is_owner entry.1.owner number) (λ entry. entry.1.owner ≡ Some number) (λ entry. owner_tells entry.1.owner number)
    (λ mutexes. owns_mutex mutexes number) refl (λ entry entries. refl) partition.mutexes in (
      λ holds. let found = any.0 holds in (found.0.0, record { mutex = found.0.1; is_member = found.1; owner = found.2 }),
      λ fact. any.1 ((fact.0, fact.1.mutex), fact.1.is_member, fact.1.owner),
    )

pub may_not_wait_tells : (who : Who) (partition : Partition) → Tells (may_not_wait who partition) (MayNotWait who partition)
may_not_wait_tells who partition = tells_either (equal_tells who.proc 0) (tells_either (owns_tells partition who.proc) (owner_tells partition.lock.owner who.proc))

-- the owner of another mutex
pub second_tells : (partition : Partition) (mutex : ℤ) (number : ℕ)
    → Tells (owns_another partition.mutexes mutex number) ((held : ℕ) × Owns partition number held × (¬ (mutex ≡ pos held)))
second_tells partition mutex number =
    let any = any_tells {X = ℕ × Mutex} (λ entry. is_owner entry.1.owner number && not (is_number mutex entry.0)) (λ entry. (entry.1.owner ≡ Some number) × (¬ (mutex ≡ pos entry.0)))
    (λ entry. tells_both (owner_tells entry.1.owner number) (tells_not (number_tells mutex entry.0)))
    (λ mutexes. owns_another mutexes mutex number) refl (λ entry entries. refl) partition.mutexes in (
      λ holds. let found = any.0 holds in (found.0.0, record { mutex = found.0.1; is_member = found.1; owner = found.2.0 }, found.2.1),
      λ fact. any.1 ((fact.0, fact.1.mutex), fact.1.is_member, (fact.1.owner, fact.2)),
    )

-- the state of a process

pub periodic_tells : (process : Process) → Tells (is_periodic process) (IsPeriodic process)
periodic_tells process = some_tells process.period

suspension_tells : (one : Wait) → Tells (is_suspension one) ((due : Option ℕ) × (one ≡ Wait.Suspended due))
suspension_tells (Wait.Suspended due) = (λ holds. (due, refl), λ fact. refl)
suspension_tells one = (impossible, λ fact. ap is_suspension fact.1)

pub suspended_tells : (process : Process) → Tells (is_suspended process) (IsSuspended process)
suspended_tells process = tells_either (tells_itself process.suspended) (suspension_tells process.wait)

pub cold_start_tells : (current : Mode) → Tells (is_cold_start current) (current ≡ Mode.ColdStart)
cold_start_tells Mode.ColdStart = (λ holds. refl, λ fact. refl)
cold_start_tells Mode.Idle = (impossible, λ fact. ap is_cold_start fact)
cold_start_tells _ = (impossible, λ fact. ap is_cold_start fact)

pub normal_tells : (current : Mode) → Tells (is_normal current) (current ≡ Mode.Normal)
normal_tells Mode.Normal = (λ holds. refl, λ fact. refl)
normal_tells Mode.Idle = (impossible, λ fact. ap is_normal fact)
normal_tells _ = (impossible, λ fact. ap is_normal fact)

-- the caller
pub caller_tells : (test : Process → Bool) (Fact : Process → Type 0) → ((process : Process) → Tells (test process) (Fact process))
    → (found : Option Process) → Tells (of_caller test found) ((process : Process) × (found ≡ Some process) × Fact process)
caller_tells test Fact tells found = found_tells (of_caller test) Fact refl tells found

pub periodic_caller_tells : (who : Who) (partition : Partition) → Tells (of_caller is_periodic (item_at partition.table who.proc)) (IsCalledByPeriodic who partition)
periodic_caller_tells who partition = caller_tells is_periodic IsPeriodic periodic_tells (item_at partition.table who.proc)

-- a number below a difference, which is below 0 if the test holds
below_if : (test : Bool) (one under over : ℕ) → pos one <ℤ cond test (negsuc under) (pos over) → (test ≡ false) × (one < over)
below_if true one under over fact = absurd fact.lt
below_if false one under over fact = (refl, (below_tells one over).0 ((below one over).1 fact))

if_below : (test : Bool) (one under over : ℕ) → test ≡ false → one < over → pos one <ℤ cond test (negsuc under) (pos over)
if_below true one under over fails less = impossible (sym fails)
if_below false one under over fails less = (below one over).0 ((below_tells one over).1 less)

-- a budget that counts from this time and ends after a release
ends_after_tells : (now : ℕ) (budget : ℤ) (release : ℕ) → Tells (ends_after now budget release) (EndsAfter now budget release)
ends_after_tells now (pos budget) release = (
  λ holds. inr ((below release (now + budget)).0 holds),
  elim [ inl no_end ↦ (let one : ◌≡◌ {A = ℤ} (pos budget) (negsuc 0) = no_end in cc) | inr later ↦ (below release (now + budget)).1 later ],
)
ends_after_tells now (negsuc zero) release = (λ holds. inl refl, λ fact. refl)
ends_after_tells now (negsuc (suc n)) release =
    let taken = suc (suc n) in (
      λ holds. let less : release + taken < now = (below_tells (release + taken) now).0 holds in
          inr (if_below (nat_lt now taken) release (taken - suc now) (now - taken)
          (cannot_hold (nat_lt now taken) (λ under. let below_none : now < taken = (below_tells now taken).0 under in omega arith)) (omega arith)),
      elim [
        | inl no_end ↦ (let one : ◌≡◌ {A = ℤ} (negsuc (suc n)) (negsuc 0) = no_end in cc)
        | inr later ↦ (let parts = below_if (nat_lt now taken) release (taken - suc now) (now - taken) later in
            let less : release < now - taken = parts.1 in
            (below_tells (release + taken) now).1 (omega arith))
      ],
    )

-- a caller that is periodic and whose budget does not end by its next release
pub beyond_tells : (now : ℕ) (budget : ℤ) (who : Who) (partition : Partition) → Tells (of_caller (replenishes_beyond now budget) (item_at partition.table who.proc))
    ((process : Process) × (item_at partition.table who.proc ≡ Some process) × (IsPeriodic process × EndsAfter now budget (next_release process)))
beyond_tells now budget who partition =
    caller_tells (replenishes_beyond now budget) (λ process. IsPeriodic process × EndsAfter now budget (next_release process))
    (λ process. tells_both (periodic_tells process) (ends_after_tells now budget (next_release process))) (item_at partition.table who.proc)

-- what the configuration says

pub core_tells : (configuration : Configuration) (partition : ℕ) (given : ℤ) → Tells (is_core configuration partition given) (IsCoreOf configuration partition given)
core_tells configuration partition (negsuc n) = (impossible, λ fact. let one : ◌≡◌ {A = ℤ} (negsuc n) (pos fact.core) = fact.is in cc)
core_tells configuration partition (pos core) =
    let found = found_tells (has_core core) (λ limits. (one : ℕ) × Contains limits.cores one × (one ≡ core)) refl (λ limits. listed limits.cores) (limits_of configuration partition) in (
      λ holds. let is = found.0 holds in
          record { core = core; is = refl; limits = is.0; of = is.1; listed = subst (Contains is.0.cores) is.2.2 is.2.1 },
      λ fact. let number : fact.core ≡ core = (let one : ◌≡◌ {A = ℤ} (pos core) (pos fact.core) = fact.is in cc) in
          found.1 (fact.limits, fact.of, (fact.core, fact.listed, number)),
    )
  where
    listed : (cores : List ℕ) → Tells (list_any (nat_eq core) cores) ((one : ℕ) × Contains cores one × (one ≡ core))
    listed cores =
        any_tells (nat_eq core) (λ one. one ≡ core) (λ one. (λ holds. sym (eqb-true core one holds), λ fact. eq-eqb core one (sym fact)))
        (list_any (nat_eq core)) refl (λ one others. refl) cores

pub source_tells : (way : Direction) → Tells (is_source way) (way ≡ Direction.Source)
source_tells Direction.Source = (λ holds. refl, λ fact. refl)
source_tells Direction.Destination = (impossible, λ fact. ap is_source fact)

-- a port that is a source is no destination
pub destination_tells : (way : Direction) → Tells (is_source way) (¬ (way ≡ Direction.Destination))
destination_tells Direction.Source = (λ holds same. true≢false (ap is_source same), λ fact. refl)
destination_tells Direction.Destination = (impossible, λ fact. absurd (fact refl))

refresh_tells : (port : SamplingPort) (refresh : ℤ) → Tells (suits_refresh port refresh) (port.direction ≡ Direction.Destination → refresh ≡ pos port.refresh)
refresh_tells port refresh = by port.direction
  where
    by : (way : Direction) → Tells (is_source way || is_number refresh port.refresh) (way ≡ Direction.Destination → refresh ≡ pos port.refresh)
    by Direction.Source = (λ holds same. absurd (true≢false (ap is_source same)), λ fact. refl)
    by Direction.Destination = (λ holds same. (number_tells refresh port.refresh).0 holds, λ fact. (number_tells refresh port.refresh).1 (fact refl))

direction_tells : (way : Direction) (given : ℤ) → Tells (is_number given (direction_number way)) (IsDirection way given)
direction_tells Direction.Source given = number_tells given 0
direction_tells Direction.Destination given = number_tells given 1

discipline_tells : (rule : Discipline) (given : ℤ) → Tells (is_number given (discipline_number rule)) (TellsDiscipline rule given)
discipline_tells Discipline.Fifo given = number_tells given 0
discipline_tells Discipline.Priority given = number_tells given 1

pub sampling_port_tells : (configuration : Configuration) (partition : ℕ) (name : List ℕ) (size way refresh : ℤ)
    → Tells (is_sampling_port (sampling_port configuration partition name) size way refresh) (IsSamplingPort configuration partition name size way refresh)
sampling_port_tells configuration partition name size way refresh =
    let found = found_tells (λ port. is_sampling_port port size way refresh)
    (λ port. (size ≡ pos port.size) × ((IsDirection port.direction way) × (port.direction ≡ Direction.Destination → refresh ≡ pos port.refresh))) refl
    (λ port. tells_both (number_tells size port.size) (tells_both (direction_tells port.direction way) (refresh_tells port refresh))) (sampling_port configuration partition name) in (
      λ holds. let is = found.0 holds in record { port = is.0; configured = is.1; has_size = is.2.0; has_direction = is.2.1.0; has_refresh = is.2.1.1 },
      λ fact. found.1 (fact.port, fact.configured, (fact.has_size, (fact.has_direction, fact.has_refresh))),
    )

pub queuing_port_tells : (configuration : Configuration) (partition : ℕ) (name : List ℕ) (size capacity way order : ℤ)
    → Tells (is_queuing_port (queuing_port configuration partition name) size capacity way order) (IsQueuingPort configuration partition name size capacity way order)
queuing_port_tells configuration partition name size capacity way order =
    let found = found_tells (λ port. is_queuing_port port size capacity way order)
    (λ port. (size ≡ pos port.size) × ((capacity ≡ pos port.capacity) × ((IsDirection port.direction way) × (TellsDiscipline port.discipline order)))) refl
    (λ port. tells_both (number_tells size port.size) (tells_both (number_tells capacity port.capacity)
    (tells_both (direction_tells port.direction way) (discipline_tells port.discipline order)))) (queuing_port configuration partition name) in (
      λ holds. let is = found.0 holds in record { port = is.0; configured = is.1; has_size = is.2.0; has_capacity = is.2.1.0; has_direction = is.2.1.1.0; has_discipline = is.2.1.1.1 },
      λ fact. found.1 (fact.port, fact.configured, (fact.has_size, (fact.has_capacity, (fact.has_direction, fact.has_discipline)))),
    )

-- as many of a kind as a partition may create
pub full_tells : (configuration : Configuration) (number : ℕ) (partition : Partition) (of : ObjectKind) → Tells (is_full configuration number partition of) (KindIsFull configuration number partition of)
full_tells configuration number partition kind.Buffer = at_most_tells (object_limit configuration (λ limits. limits.buffers) number) (length partition.buffers)
full_tells configuration number partition kind.Blackboard = at_most_tells (object_limit configuration (λ limits. limits.blackboards) number) (length partition.blackboards)
full_tells configuration number partition kind.Semaphore = at_most_tells (object_limit configuration (λ limits. limits.semaphores) number) (length partition.semaphores)
full_tells configuration number partition kind.Event = at_most_tells (object_limit configuration (λ limits. limits.events) number) (length partition.events)
full_tells configuration number partition kind.Mutex = at_most_tells (object_limit configuration (λ limits. limits.mutexes) number) (length partition.mutexes)
full_tells configuration number partition _ = (impossible, λ full. absurd full)

-- Plain facts about tests, which the other lemmas take.
use Rattle.std.proofs.Common.{◌≡◌, ℕ, Bool, true, false, ◌||◌, ◌&&◌, nat_eq, refl, sym, ◌∙◌, true≢false, cond, Some, Option, None, List, [], ◌∷◌}
use Rattle.std.proofs.lemmas.Bool.{eq-eqb, eqb-true}
use Rattle.std.proofs.lemmas.List.Elements.{Contains-append_left, Contains-append_right, Contains-push}
use Rattle.std.specs.Prelude.{Contains}

-- what fails does not hold
pub impossible : {Fact : Type 0} → false ≡ true → Fact
impossible holds = absurd (true≢false (sym holds))

-- a fact that follows whichever way a test comes out
pub either_way : {Fact : Type 0} (test : Bool) → (test ≡ true → Fact) → (test ≡ false → Fact) → Fact
either_way true holds fails = holds refl
either_way false holds fails = fails refl

-- a fact about the value that a test chooses
pub by_test : {Value : Type 0} (Fact : Value → Type 0) (test : Bool) (one other : Value) → (test ≡ true → Fact one) → (test ≡ false → Fact other) → Fact (cond test one other)
by_test Fact true one other holds fails = holds refl
by_test Fact false one other holds fails = fails refl

-- nothing is no item
pub never_found : {Item Fact : Type 0} {item : Item} → ◌≡◌ {A = Option Item} None (Some item) → Fact
never_found is = cc

-- two items that are found at once are one
pub one_item : {Item : Type 0} {one other : Item} → ◌≡◌ {A = Option Item} (Some one) (Some other) → one ≡ other
one_item same = cc

-- a number is equal to itself
pub is_itself : (number : ℕ) → nat_eq number number ≡ true
is_itself number = eq-eqb number number refl

-- if neither test holds, the first does not
pub neither_first : (one other : Bool) → (one || other) ≡ false → one ≡ false
neither_first true other neither = neither
neither_first false other neither = refl

-- if the first of two tests holds, one of them does
pub first_holds : (one other : Bool) → one ≡ true → (one || other) ≡ true
first_holds true other holds = refl
first_holds false other holds = impossible holds

-- a test that cannot hold doesn't
pub cannot_hold : (test : Bool) → (test ≡ true → ⊥) → test ≡ false
cannot_hold true cannot = absurd (cannot refl)
cannot_hold false cannot = refl

-- a test that cannot fail holds
pub holds_if : (test : Bool) → (test ≡ false → ⊥) → test ≡ true
holds_if true cannot = refl
holds_if false cannot = absurd (cannot refl)

-- if neither test holds, the second does not
pub neither_later : (one other : Bool) → (one || other) ≡ false → other ≡ false
neither_later true other neither = absurd (true≢false neither)
neither_later false other neither = neither

-- if the second of two tests holds, one of them does
pub later_holds : (one other : Bool) → other ≡ true → (one || other) ≡ true
later_holds true other holds = refl
later_holds false other holds = holds

-- if one of two tests holds and it is not the first, the second does
pub other_holds : (one other : Bool) → (one || other) ≡ true → one ≡ false → other ≡ true
other_holds true other some not_first = absurd (true≢false not_first)
other_holds false other some not_first = some

-- if neither of two tests holds, none does
pub neither : (one other : Bool) → one ≡ false → other ≡ false → (one || other) ≡ false
neither one other first second = rw first second

-- if the first of two tests fails, the two do not both hold
pub not_first : (one other : Bool) → one ≡ false → (one && other) ≡ false
not_first one other fails = rw fails refl

-- if the second of two tests fails, the two do not both hold
pub not_second : (one other : Bool) → other ≡ false → (one && other) ≡ false
not_second true other fails = fails
not_second false other fails = refl

-- a test or none is the test
pub or_false : (test : Bool) → (test || false) ≡ test
or_false true = refl
or_false false = refl

-- either way the same
pub same_if : {Value : Type 0} (test : Bool) (value : Value) → cond test value value ≡ value
same_if true value = refl
same_if false value = refl

-- numbers that differ, the other way round
pub differs_back : (one other : ℕ) → nat_eq one other ≡ false → nat_eq other one ≡ false
differs_back one other differ = cannot_hold (nat_eq other one) (λ same. true≢false (sym (eq-eqb one other (sym (eqb-true other one same))) ∙ differ))

-- an element is at the head of its list, or after the head
pub member_first : {X : Type 0} (x : X) (xs : List X) → Contains (x ∷ xs) x
member_first x xs = Contains-append_left (x ∷ []) xs x (Contains-push [] x)

pub member_later : {X : Type 0} (x y : X) (xs : List X) → Contains xs y → Contains (x ∷ xs) y
member_later x y xs is_member = Contains-append_right (x ∷ []) xs y is_member

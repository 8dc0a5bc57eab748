-- What is found shows a misfit.
use Rattle.std.proofs.Common.{◌≡◌, ◌<◌, ◌+◌, ◌-◌, ◌++◌, ◌∷◌, [], ℕ, List, Some, None, Bool, true, false, not, cond, nat_lt, refl, sym, ◌∙◌, ap, get_or, take, drop, take_all, length, subst, arith}
use Rattle.std.specs.Prelude.{All, Contains, count_by, is_some, ◌||◌, ◌&&◌}
use Rattle.std.specs.List.{find, list_all, list_any}
use Rattle.std.proofs.lemmas.List.{drop_more, length-drop, take-append-drop}
use Rattle.std.proofs.lemmas.List.Elements.{All-contains_itself, All-head, All-tail}
use Rattle.std.proofs.lemmas.List.Sums.{sum_by-append}
use Rattle.std.proofs.lemmas.Bool.Decides.{nat_tests}
use Rattle.apex_machine.specs.Channels.{is_port}
use Rattle.apex_machine.specs.Configuration.{ChannelEnd}
use Rattle.module_config.specs.declared.ends.Likeness.TheVariants as likeness
use Rattle.module_config.specs.Ends.{are_too_many, count_alike, is_exceeded}
use Rattle.module_config.specs.Misfits.{HasMoreEnds, HasStray}

-- one is found if one passes
pub found-any : {A : Type 0} (test : A → Bool) (all : List A) → is_some (find test all) ≡ list_any test all
found-any test [] = refl
found-any test (one ∷ others) = by (test one) (found-any test others)
  where
    by : (b : Bool) → is_some (find test others) ≡ list_any test others → is_some (cond b (Some one) (find test others)) ≡ (b || list_any test others)
    by true later = refl
    by false later = later

-- one is found if not all pass the opposite test
pub found-not_all : {A : Type 0} (test : A → Bool) (all : List A) → is_some (find (λ one. not (test one)) all) ≡ not (list_all test all)
found-not_all test [] = refl
found-not_all test (one ∷ others) = by (test one) (found-not_all test others)
  where
    by : (b : Bool) → is_some (find (λ other. not (test other)) others) ≡ not (list_all test others)
        → is_some (cond (not b) (Some one) (find (λ other. not (test other)) others)) ≡ not (b && list_all test others)
    by true later = later
    by false later = refl

-- what holds of each holds of one that is found
pub found-holds : {A : Type 0} (P : A → Type 0) (test : A → Bool) (all : List A) (one : A) → All P all → find test all ≡ Some one → P one
found-holds P test [] one each is = cc
found-holds P test (first ∷ others) one each is = by (test first) (found-holds P test others one (All-tail P first others each)) is
  where
    by : (b : Bool) → (find test others ≡ Some one → P one) → cond b (Some first) (find test others) ≡ Some one → P one
    by true later same = let e : first ≡ one = cc in subst P e (All-head P first others each)
    by false later same = later same

-- one that is found is in the list
pub found-in : {A : Type 0} (test : A → Bool) (all : List A) (one : A) → find test all ≡ Some one → Contains all one
found-in test all one is = found-holds (Contains all) test all one (All-contains_itself all) is

-- one that is found passes
pub found-passes : {A : Type 0} (test : A → Bool) (all : List A) (one : A) → find test all ≡ Some one → test one ≡ true
found-passes test [] one is = cc
found-passes test (first ∷ others) one is = by (test first) refl (found-passes test others one) is
  where
    by : (b : Bool) → test first ≡ b → (find test others ≡ Some one → test one ≡ true) → cond b (Some first) (find test others) ≡ Some one → test one ≡ true
    by true passes later same = let e : first ≡ one = cc in rw (← e) passes
    by false fails later same = later same

-- the first element is counted apart from those after it
counted-first : {A : Type 0} (test : A → Bool) (one : A) (others : List A) → count_by test (one ∷ others) ≡ cond {A = ℕ} (test one) 1 0 + count_by test others
counted-first test one others =
    let parts : count_by test (one ∷ others) ≡ count_by test (one ∷ []) + count_by test others = sum_by-append (λ other. cond {A = ℕ} (test other) 1 0) (one ∷ []) others in
    let single : count_by test (one ∷ []) ≡ cond {A = ℕ} (test one) 1 0 = by (test one) in
    parts ∙ ap (λ count. count + count_by test others) single
  where
    by : (b : Bool) → 0 + cond {A = ℕ} b 1 0 ≡ cond {A = ℕ} b 1 0
    by true = refl
    by false = refl

-- some are counted if one passes
pub any-counted : {A : Type 0} (test : A → Bool) (all : List A) → list_any test all ≡ true → 0 < count_by test all
any-counted test [] has = cc
any-counted test (one ∷ others) has =
    let counted = counted-first test one others in
    let some = by (test one) (count_by test others) (any-counted test others) has in
    omega (arith, counted, some)
  where
    by : (b : Bool) (count : ℕ) → (list_any test others ≡ true → 0 < count) → (b || list_any test others) ≡ true → 0 < cond {A = ℕ} b 1 0 + count
    by true count later has = omega arith
    by false count later has = let some = later has in omega (arith, some)

-- what is left of a list from an index on is what a slice from there has
pub rest-is : {A : Type 0} (all : List A) (m : ℕ) → take (length all - m) (drop m all) ≡ drop m all
rest-is all m = take_all (length all - m) (drop m all) (omega (arith, length-drop m all))

-- a list is what comes before one of its elements, that element, and what comes after it
pub split-at : {A : Type 0} (all : List A) (i : ℕ) (one : A) → i < length all → one ≡ get_or all i one → all ≡ take i all ++ one ∷ drop (i + 1) all
split-at all i one below is =
    sym (take-append-drop i all) ∙ ap (λ rest. take i all ++ rest) (drop_more all i one below ∙ ap (λ first. first ∷ drop (i + 1) all) (sym is))

-- two are counted if one passes and one after it does
pub two-counted : {A : Type 0} (test : A → Bool) (all : List A) (i : ℕ) (one : A)
    → i < length all → one ≡ get_or all i one → test one ≡ true → list_any test (take (length all - (i + 1)) (drop (i + 1) all)) ≡ true → 1 < count_by test all
two-counted test all i one below is passes later =
    let rest = drop (i + 1) all in
    let some : 0 < count_by test rest = any-counted test rest (rw (rest-is all (i + 1)) at later) in
    let split : count_by test all ≡ count_by test (take i all ++ one ∷ rest) = ap (count_by test) (split-at all i one below is) in
    let parts : count_by test (take i all ++ one ∷ rest) ≡ count_by test (take i all) + count_by test (one ∷ rest) =
    sum_by-append (λ other. cond {A = ℕ} (test other) 1 0) (take i all) (one ∷ rest) in
    let here : count_by test (one ∷ rest) ≡ 1 + count_by test rest = counted-first test one rest ∙ ap (λ b. cond {A = ℕ} b 1 0 + count_by test rest) passes in
    omega (arith, split, parts, here, some)

-- nothing is found if none passes
pub none-found : {A : Type 0} (test : A → Bool) (all : List A) → find test all ≡ None → list_any test all ≡ false
none-found test all none = sym (found-any test all) ∙ ap is_some none

-- if an end of a partition is found that has more than this many alike it, the partition has as many
pub ports-found : (most : ℕ) (places : List ChannelEnd) (end : ChannelEnd) → find (is_exceeded likeness.Partition most places) places ≡ Some end
    → (are_too_many likeness.Partition most places ≡ true) × HasMoreEnds most end.partition places
ports-found most places end found =
    let test = is_exceeded likeness.Partition most places in
    let exceeded : nat_lt most (count_alike likeness.Partition end places) ≡ true = found-passes test places end found in
    let more : most < count_alike likeness.Partition end places = grind (arith, nat_tests) in
    (sym (found-any test places) ∙ ap is_some found, more)

-- if an end is found that has another one alike it, its port is at two ends
pub port-found : (places : List ChannelEnd) (end : ChannelEnd) → find (is_exceeded likeness.Port 1 places) places ≡ Some end
    → (are_too_many likeness.Port 1 places ≡ true) × (1 < count_by (is_port end.partition end.port) places)
port-found places end found =
    let test = is_exceeded likeness.Port 1 places in
    let exceeded : nat_lt 1 (count_alike likeness.Port end places) ≡ true = found-passes test places end found in
    let more : 1 < count_alike likeness.Port end places = grind (arith, nat_tests) in
    (sym (found-any test places) ∙ ap is_some found, more)

-- a test that fails
pub not-true : (b : Bool) → not b ≡ true → b ≡ false
not-true true is = cc
not-true false is = refl

-- if one is found that fails, not all pass, and it fails
pub one-fails : {A : Type 0} (joined : A → Bool) (all : List A) (one : A) → find (λ other. not (joined other)) all ≡ Some one
    → (list_all joined all ≡ false) × (joined one ≡ false)
one-fails joined all one found =
    (not-true (list_all joined all) (sym (found-not_all joined all) ∙ ap is_some found), not-true (joined one) (found-passes (λ other. not (joined other)) all one found))

-- a channel that is found not to be joined
pub stray-found : {A : Type 0} (number_of : A → ℕ) (joined : A → Bool) (all : List A) (one : A) → find (λ channel. not (joined channel)) all ≡ Some one
    → HasStray number_of joined all (number_of one)
stray-found number_of joined all one found = record {
  channel = one;
  configured = found-in (λ channel. not (joined channel)) all one found;
  numbered = refl;
  stray = (one-fails joined all one found).1;
}

-- if none is found that is not joined, all are joined
pub none-stray : {A : Type 0} (joined : A → Bool) (all : List A) → find (λ channel. not (joined channel)) all ≡ None → list_all joined all ≡ true
none-stray joined all none = by (list_all joined all) (sym (found-not_all joined all) ∙ ap is_some none)
  where
    by : (b : Bool) → not b ≡ false → b ≡ true
    by true is = refl
    by false is = cc

-- two tests of which neither passes, and of which the second does
pub either-fails : (one other : Bool) → one ≡ false → other ≡ false → (one || other) ≡ false
either-fails one other first second = rw (first, second) refl

pub either-passes : (one other : Bool) → other ≡ true → (one || other) ≡ true
either-passes true other second = refl
either-passes false other second = second

-- two tests that both pass, and of which one fails
pub both-pass : (one other : Bool) → one ≡ true → other ≡ true → not (one && other) ≡ false
both-pass one other first second = rw (first, second) refl

pub first-fails : (one other : Bool) → one ≡ false → not (one && other) ≡ true
first-fails one other first = rw first refl

pub second-fails : (one other : Bool) → other ≡ false → not (one && other) ≡ true
second-fails true other second = rw second refl
second-fails false other second = refl

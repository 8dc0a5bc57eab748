-- Lists of processes that rise name none twice.
use Rattle.std.proofs.Common.{◌≡◌, ℕ, zero, suc, ◌<◌, true, false, List, [], ◌∷◌, length, take, get_or, refl, arith}
use Rattle.std.proofs.lemmas.Bool.Decides.{nat_tests}
use Rattle.apex_types.specs.declared.record.Who.{Who}
use Rattle.apex_types.specs.Rising.{IsRising, RisesFrom, is_listed_before}
use Rattle.apex_machine.specs.State.{is_named, is_same}

pub those_after-trans : (a b c : Who) → is_listed_before a b ≡ true → is_listed_before b c ≡ true → is_listed_before a c ≡ true
those_after-trans a b c h k = grind (arith, nat_tests)

those_after-apart : (a b : Who) → is_listed_before a b ≡ true → is_same b a ≡ false
those_after-apart a b h = grind (arith, nat_tests)

-- each of a list that rises from one process comes after it
after_all : (last : Who) (named : List Who) (place : ℕ) (who : Who) → RisesFrom last named → place < length named
    → who ≡ get_or named place who → is_listed_before last who ≡ true
after_all last [] place who rises within is = absurd (omega arith)
after_all last (first ∷ named) zero who rises within is = rw is rises.0
after_all last (first ∷ named) (suc place) who rises within is =
    those_after-trans last first who rises.0 (after_all first named place who rises.1 (omega arith) is)

pub rising_rest : (last : Who) (named : List Who) → RisesFrom last named → IsRising named
rising_rest last [] rises = tt
rising_rest last (first ∷ named) rises = rises.1

-- one that a rising list names is not among those before it
pub unnamed_before : (named : List Who) (place : ℕ) (who : Who) → IsRising named → place < length named → who ≡ get_or named place who
    → is_named who (take place named) ≡ false
unnamed_before [] place who rises within is = absurd (omega arith)
unnamed_before (first ∷ named) zero who rises within is = refl
unnamed_before (first ∷ named) (suc place) who rises within is =
    let apart : is_same who first ≡ false = those_after-apart first who (after_all first named place who rises (omega arith) is) in
    rw (apart) (unnamed_before named place who (rising_rest first named rises) (omega arith) is)

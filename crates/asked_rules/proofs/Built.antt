-- What is built of parts that were built, beside the readings of the parts.
use Rattle.std.proofs.Common.{◌≡◌, ◌∙◌, List, ℕ, Ok, Err, Some, None, ap, refl, string_bytes, subst, sym}
use Rattle.std.specs.Option.{option_map}
use Rattle.std.specs.Prelude.{IfSome, IsOk, Option, Result}
use Rattle.std.specs.Result.{IsErrAnd}
use Rattle.user_rules.specs.declared.memory.Counted.{Counted}
use Rattle.user_rules.specs.declared.memory.Keeps.{Keeps}
use Rattle.user_rules.specs.declared.memory.Keeps.TheVariants.{Count}
use Rattle.user_rules.specs.declared.memory.Per.{Per}
use Rattle.user_rules.specs.declared.memory.RuleMemory.{RuleMemory}
use Rattle.user_rules.specs.declared.relation.Relation.{Relation}
use Rattle.user_rules.specs.Meets.{meets}
use Rattle.asked_rules.specs.declared.refusal.RuleRefusal.{RuleRefusal}
use Rattle.asked_rules.specs.Keys.{◌>>=◌, Builds}
use Rattle.asked_rules.specs.Memories.{SaidKeeps, SaidMemory, said_keeps, said_memory}
use Rattle.asked_rules.specs.Relations.{Holds}

-- what was built is no refusal
pub is_built : {A B F : Type 0} (seen : A → B) (found : Option A) (reading : Result B F) → Builds seen (Ok found) reading → IsOk reading
is_built seen (Some one) reading is = rw is refl
is_built seen None reading is = is

-- three readings, one after the other
abbrev pub three : {A B C D : Type 0} → Result A RuleRefusal → Result B RuleRefusal → Result C RuleRefusal → (A → B → C → D) → Result D RuleRefusal
three first second third together = first >>= (λ one. second >>= (λ two. third >>= (λ last. Ok (together one two last))))

three_read : {A B C D : Type 0} (first : Result A RuleRefusal) (second : Result B RuleRefusal) (third : Result C RuleRefusal) (together : A → B → C → D)
    → IsOk first → IsOk second → IsOk third → IsOk (three first second third together)
three_read (Ok one) (Ok two) (Ok last) together first second third = refl
three_read (Ok one) (Ok two) (Err fault) together first second third = cc
three_read (Ok one) (Err fault) other together first second third = cc
three_read (Err fault) others other together first second third = cc

pub second_refused : {A B C D : Type 0} (first : Result A RuleRefusal) (second : Result B RuleRefusal) (third : Result C RuleRefusal) (together : A → B → C → D) (fault : RuleRefusal)
    → IsOk first → second ≡ Err fault → three first second third together ≡ Err fault
second_refused (Ok one) second third together fault first is = rw is refl
second_refused (Err found) second third together fault first is = cc

pub third_refused : {A B C D : Type 0} (first : Result A RuleRefusal) (second : Result B RuleRefusal) (third : Result C RuleRefusal) (together : A → B → C → D) (fault : RuleRefusal)
    → IsOk first → IsOk second → third ≡ Err fault → three first second third together ≡ Err fault
third_refused (Ok one) (Ok two) third together fault first second is = rw is refl
third_refused (Ok one) (Err found) third together fault first second is = cc
third_refused (Err found) second third together fault first second_ok is = cc

-- two readings, one after the other
abbrev pub two : {A B D : Type 0} → Result A RuleRefusal → Result B RuleRefusal → (A → B → D) → Result D RuleRefusal
two first second together = first >>= (λ one. second >>= (λ last. Ok (together one last)))

pub last_refused : {A B D : Type 0} (first : Result A RuleRefusal) (second : Result B RuleRefusal) (together : A → B → D) (fault : RuleRefusal) → IsOk first → second ≡ Err fault
    → two first second together ≡ Err fault
last_refused (Ok one) second together fault first is = rw is refl
last_refused (Err found) second together fault first is = cc

pub two_read : {A B D : Type 0} (first : Result A RuleRefusal) (second : Result B RuleRefusal) (together : A → B → D) (last : B) → IsOk first → second ≡ Ok last
    → IsOk (two first second together)
two_read (Ok one) second together last first is = rw is refl
two_read (Err found) second together last first is = cc

pub two_are : {A B D : Type 0} (first : Result A RuleRefusal) (second : Result B RuleRefusal) (together : A → B → D) (one : A) (last : B) → first ≡ Ok one → second ≡ Ok last
    → two first second together ≡ Ok (together one last)
two_are first second together one last is same = rw (is, same) refl

-- where the walk stops
pub stops : {A B : Type 0} (view : A → B) (result : Result (Option A) RuleRefusal) (reading : Result B RuleRefusal) (fault : RuleRefusal) → IsErrAnd result (λ given. given ≡ fault)
    → reading ≡ Err fault → Builds view result reading
stops view (Ok found) reading fault same is = absurd same
stops view (Err given) reading fault same is = is ∙ ap (λ fault. Err fault) (sym same)

-- a table with no more keys than it may have
pub after_count : {A : Type 0} (count : Result Unit RuleRefusal) (rest : Result A RuleRefusal) → count ≡ Ok tt → (count >>= (λ _. rest)) ≡ rest
after_count count rest is = rw is refl

-- a count is built of its relations
pub counted_built : (relation : Option Relation) (back reset : Option (Option Relation)) (first : Result Holds RuleRefusal) (second third : Result (Option Holds) RuleRefusal)
    → Builds meets (Ok relation) first → Builds (option_map meets) (Ok back) second → Builds (option_map meets) (Ok reset) third
    → (built : Option Keeps)
    → IfSome built (λ keeps. (counted : Counted) × (keeps ≡ Count counted) × (relation ≡ Some counted.relation) × (back ≡ Some counted.back) × (reset ≡ Some counted.reset))
    → Builds said_keeps (Ok built) (three first second third SaidKeeps.count)
counted_built relation back reset first second third one two last None is =
    three_read first second third SaidKeeps.count (is_built meets relation first one) (is_built (option_map meets) back second two) (is_built (option_map meets) reset third last)
counted_built relation back reset first second third one two last (Some keeps) (counted, same, relation_is, back_is, reset_is) =
    let first_is : first ≡ Ok (meets counted.relation) = subst (λ found. Builds meets (Ok found) first) relation_is one in
    let second_is : second ≡ Ok (option_map meets counted.back) = subst (λ found. Builds (option_map meets) (Ok found) second) back_is two in
    let third_is : third ≡ Ok (option_map meets counted.reset) = subst (λ found. Builds (option_map meets) (Ok found) third) reset_is last in
    rw (first_is, second_is, third_is, same) refl

-- a memory, as its parts give it
abbrev pub put_together : List ℕ → SaidKeeps → Per → SaidMemory
put_together name keeps per = record { name = name; keeps = keeps; per = per }

-- a memory is built of its parts
pub memory_named : (name : List ℕ) (keeps : Option Keeps) (per : Per) (first : Result (List ℕ) RuleRefusal) (second : Result SaidKeeps RuleRefusal) (third : Result Per RuleRefusal)
    → first ≡ Ok name → Builds said_keeps (Ok keeps) second → third ≡ Ok per
    → (built : Option RuleMemory) → IfSome built (λ memory. (string_bytes memory.name ≡ name) × (keeps ≡ Some memory.keeps) × (memory.per ≡ per))
    → Builds said_memory (Ok built) (three first second third put_together)
memory_named name keeps per first second third one two last None is =
    let first_ok : IsOk first = rw one refl in
    let third_ok : IsOk third = rw last refl in
    three_read first second third put_together first_ok (is_built said_keeps keeps second two) third_ok
memory_named name keeps per first second third one two last (Some memory) (name_is, keeps_is, per_is) =
    let second_is : second ≡ Ok (said_keeps memory.keeps) = subst (λ found. Builds said_keeps (Ok found) second) keeps_is two in
    rw (one, second_is, last, ← name_is, ← per_is) refl

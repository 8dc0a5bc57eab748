-- The processes that a record names, and the names that are taken.
use Rattle.std.proofs.Common.{◌≡◌, ℕ, List, [], ◌∷◌, Bool, true, false, Some, ◌||◌, if◌then◌else◌, is_some, IsTrue, ◌↔◌, refl, arith}
use Rattle.std.specs.List.{list_all}
use Rattle.std.specs.Str.{bytes_eq}
use Rattle.apex_types.specs.declared.record.Who.{Who}
use Rattle.apex_machine.specs.Conditions.{is_taken}
use Rattle.apex_machine.specs.Configuration.{Configuration, has_partition}
use Rattle.apex_machine.specs.Names.{number_named}
use Rattle.apex_machine.specs.Step.{AllConfigured}

-- all are configured exactly if the test passes at each
pub AllConfigured_all : (configuration : Configuration) (named : List Who)
    → IsTrue (list_all (λ who. has_partition configuration who.part) named) ↔ AllConfigured configuration named
AllConfigured_all configuration [] = (λ _. tt, λ _. refl)
AllConfigured_all configuration (who ∷ named) =
    let rest : IsTrue (list_all (λ other. has_partition configuration other.part) named) ↔ AllConfigured configuration named = AllConfigured_all configuration named in
    grind (arith, rest)

-- a name is taken if what has it has a number
pub named_is_taken : {Item : Type 0} (name_of : Item → List ℕ) (name : List ℕ) (entries : List (ℕ × Item)) → is_some (number_named name_of name entries) ≡ is_taken name_of name entries
named_is_taken name_of name [] = refl
named_is_taken name_of name (entry ∷ entries) = by (bytes_eq name (name_of entry.1)) (named_is_taken name_of name entries)
  where
    by : (same : Bool) → is_some (number_named name_of name entries) ≡ is_taken name_of name entries
        → is_some (if same then Some entry.0 else number_named name_of name entries) ≡ (same || is_taken name_of name entries)
    by true rest = refl
    by false rest = rest

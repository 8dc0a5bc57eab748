-- What a search through a list or a table answers.
use Rattle.std.proofs.Common.{◌≡◌, ℕ, Bool, true, false, List, [], ◌∷◌, Option, Some, None, ◌||◌, cond, refl, sym, ap, ◌∙◌}
use Rattle.std.specs.List.{find, list_any}
use Rattle.std.specs.Map.{values_of}
use Rattle.std.specs.Option.{option_map}
use Rattle.std.specs.Str.{bytes_eq}
use Rattle.apex_machine.specs.declared.state.Process.{Process}
use Rattle.apex_machine.specs.State.{Table}
use Rattle.apex_machine.specs.Conditions.{is_taken}
use Rattle.apex_machine.specs.Names.{number_named}

pub is_taken-any : (name : List ℕ) (table : Table) → is_taken (λ (process : Process). process.name) name table ≡ list_any (λ process. bytes_eq name process.name) (values_of table)
is_taken-any name [] = refl
is_taken-any name (entry ∷ entries) = ap (λ rest. bytes_eq name entry.1.name || rest) (is_taken-any name entries)

-- a search for a name
number_named-find : (name : List ℕ) (table : Table)
    → number_named (λ (process : Process). process.name) name table ≡ option_map (λ entry. entry.0) (find (λ entry. bytes_eq name entry.1.name) table)
number_named-find name [] = refl
number_named-find name (entry ∷ entries) = by (bytes_eq name entry.1.name) (number_named-find name entries)
  where
    by : (b : Bool)
        → number_named (λ (process : Process). process.name) name entries ≡ option_map (λ entry. entry.0) (find (λ entry. bytes_eq name entry.1.name) entries)
        → cond b (Some entry.0) (number_named (λ (process : Process). process.name) name entries)
        ≡ option_map (λ entry. entry.0) (cond b (Some entry) (find (λ entry. bytes_eq name entry.1.name) entries))
    by true rest = refl
    by false rest = rest

-- so the number of what it finds is that of the name
pub found-named : {Found : Type 0} (name : List ℕ) (table : Table) (see : Found → ℕ × Process)
    (found : Option Found) → option_map see found ≡ find (λ entry. bytes_eq name entry.1.name) table
    → option_map (λ item. (see item).0) found ≡ number_named (λ (process : Process). process.name) name table
found-named {Found = Found} name table see found is =
    of_both found ∙ ap (option_map (λ entry. entry.0)) is ∙ sym (number_named-find name table)
  where
    of_both : (o : Option Found) → option_map (λ item. (see item).0) o ≡ option_map (λ entry. entry.0) (option_map see o)
    of_both None = refl
    of_both (Some item) = refl

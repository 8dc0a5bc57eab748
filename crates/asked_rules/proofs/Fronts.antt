-- A reading of the items that are left of a list, beside that of all.
use Rattle.std.proofs.Common.{◌≡◌, ◌<◌, ◌≤◌, ◌+◌, ◌++◌, ◌∷◌, [], ℕ, List, Vec, Global, Some, None, Ok, Err, refl, sym, ◌∙◌, ap, append_assoc, get_or, drop, length, map}
use Rattle.std.proofs.lemmas.List.{append-nil, drop_all, map-append}
use Rattle.std.specs.Prelude.{IfSome, IsOk, Option, Result}
use Rattle.toml.specs.Data.{Data}
use Rattle.toml.specs.View.{view, items_view}
use Rattle.toml.specs.declared.value.Value.{Value}
use Rattle.toml.proofs.Views.{items_view-drop}
use Rattle.asked_rules.specs.declared.refusal.RuleRefusal.{RuleRefusal}
use Rattle.asked_rules.specs.declared.refusal.RulesRefusal.{RulesRefusal}
use Rattle.asked_rules.specs.Keys.{◌>>=◌, Builds}
use Rattle.asked_rules.specs.Reading.{IsAdded, each_from, of_memory, of_rule}

-- what is read, after what was read before
abbrev pub those_after : {S : Type 0} → List S → Result (List S) RulesRefusal → Result (List S) RulesRefusal
those_after front (Ok rest) = Ok (front ++ rest)
those_after front (Err fault) = Err fault

-- one goes over from what is left to what was read
those_after-more : {S : Type 0} (front : List S) (first : S) (reading : Result (List S) RulesRefusal)
    → those_after front (reading >>= (λ rest. Ok (first ∷ rest))) ≡ those_after (front ++ first ∷ []) reading
those_after-more front first (Ok rest) = ap (λ all. Ok all) (sym (append_assoc front (first ∷ []) rest))
those_after-more front first (Err fault) = refl

-- what was built of a memory or of a rule is read so under its number
module _ {A S : Type 0} (said : A → S) (number : ℕ) where
  pub memory_built : (one : Option A) (reading : Result S RuleRefusal) → Builds said (Ok one) reading → Builds said (Ok one) (of_memory number reading)
  memory_built (Some one) reading is = ap (of_memory number) is
  memory_built None (Ok value) is = refl
  memory_built None (Err refusal) is = cc

  pub rule_built : (one : Option A) (reading : Result S RuleRefusal) → Builds said (Ok one) reading → Builds said (Ok one) (of_rule number reading)
  rule_built (Some one) reading is = ap (of_rule number) is
  rule_built None (Ok value) is = refl
  rule_built None (Err refusal) is = cc

-- nothing was read before the first item
those_after-none : {S : Type 0} (reading : Result (List S) RulesRefusal) → those_after [] reading ≡ reading
those_after-none (Ok rest) = refl
those_after-none (Err fault) = refl

module _ {A S : Type 0} (said : A → S) (reading : ℕ → Data → Result S RulesRefusal) where
  -- what the loop over the items of a list keeps after `i` of them: what was read, of which what was built is kept while there is memory
  pub record KeepsReading (values : List Value) (i : ℕ) (found : Option (Vec A Global)) : Type 0 where
    pub front : List S
    pub kept : IfSome found (λ built. map said built.items ≡ front)
    pub reads : those_after front (each_from reading i (items_view (drop i values))) ≡ each_from reading 0 (items_view values)

  none_kept : (found : Option (Vec A Global)) → IfSome found (λ built. built.items ≡ []) → IfSome found (λ built. map said built.items ≡ [])
  none_kept None empty = tt
  none_kept (Some built) empty = ap (map said) empty

  -- before the first item nothing is built
  pub begun : (values : List Value) (found : Option (Vec A Global)) → IfSome found (λ built. built.items ≡ []) → KeepsReading values 0 found
  begun values found empty = record { front = []; kept = none_kept found empty; reads = those_after-none (each_from reading 0 (items_view values)) }

  -- what is kept, with one more
  more_kept : (front : List S) (first : S) (before after : Option (Vec A Global)) (one : Option A)
      → IfSome before (λ built. map said built.items ≡ front) → IfSome one (λ given. said given ≡ first) → IsAdded before one after
      → IfSome after (λ built. map said built.items ≡ front ++ first ∷ [])
  more_kept front first before None one kept is added = tt
  more_kept front first (Some before) (Some after) (Some one) kept is added = rw (added, map-append said before.items (one ∷ []), kept, is) refl
  more_kept front first (Some before) (Some after) None kept is added = absurd added
  more_kept front first None (Some after) one kept is added = absurd added

  -- an item is read as what was built says, and the loop goes on
  goes_on : (values : List Value) (i : ℕ) (before after : Option (Vec A Global)) (value : Value) (one : Option A) (first : S)
      → KeepsReading values i before → i < length values → value ≡ get_or values i value → reading i (view value) ≡ Ok first
      → IfSome one (λ given. said given ≡ first) → IsAdded before one after → KeepsReading values (i + 1) after
  goes_on values i before after value one first kept below is read given added =
      let cut = items_view-drop values i value below in
      let more = those_after-more kept.front first (each_from reading (i + 1) (items_view (drop (i + 1) values))) in
      let whole : those_after kept.front (each_from reading i (items_view (drop i values)))
      ≡ those_after (kept.front ++ first ∷ []) (each_from reading (i + 1) (items_view (drop (i + 1) values))) = rw (cut, ← is, read) more in
      record { front = kept.front ++ first ∷ []; kept = more_kept kept.front first before after one kept.kept given added; reads = sym whole ∙ kept.reads }

  -- an item is read, and the loop goes on
  pub one_more : (values : List Value) (i : ℕ) (before after : Option (Vec A Global)) (value : Value) (one : Option A)
      → KeepsReading values i before → i < length values → value ≡ get_or values i value → Builds said (Ok one) (reading i (view value)) → IsAdded before one after
      → KeepsReading values (i + 1) after
  one_more values i before after value (Some one) kept below is read added = goes_on values i before after value (Some one) (said one) kept below is read refl added
  one_more values i before after value None kept below is read added = by (reading i (view value)) refl read
    where
      by : (given : Result S RulesRefusal) → reading i (view value) ≡ given → IsOk given → KeepsReading values (i + 1) after
      by (Ok first) same ok = goes_on values i before after value None first kept below is same tt added
      by (Err fault) same ok = cc

  -- at an item that is refused the reading of all is refused so
  pub one_refused : (values : List Value) (i : ℕ) (before : Option (Vec A Global)) (value : Value) (refusal : RulesRefusal)
      → KeepsReading values i before → i < length values → value ≡ get_or values i value → reading i (view value) ≡ Err refusal
      → each_from reading 0 (items_view values) ≡ Err refusal
  one_refused values i before value refusal kept below is read =
      let cut = items_view-drop values i value below in
      let whole : those_after kept.front (each_from reading i (items_view (drop i values))) ≡ Err refusal = rw (cut, ← is, read) refl in
      sym kept.reads ∙ whole

  -- after all items, what was built is what was read
  pub all_read : (values : List Value) (i : ℕ) (found : Option (Vec A Global)) → KeepsReading values i found → length values ≤ i
      → Builds (λ built. map said built.items) (Ok found) (each_from reading 0 (items_view values))
  all_read values i None kept whole = rw (← kept.reads, drop_all i values whole) refl
  all_read values i (Some found) kept whole =
      let end : those_after kept.front (each_from reading i (items_view (drop i values))) ≡ Ok kept.front =
      rw (drop_all i values whole) (ap (λ list. Ok list) (append-nil kept.front)) in
      sym kept.reads ∙ end ∙ ap (λ list. Ok list) (sym kept.kept)

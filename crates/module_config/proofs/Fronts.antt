-- A reading of the items that are left, beside that of all.
use Rattle.std.proofs.Common.{◌≡◌, ◌<◌, ◌+◌, ◌++◌, ◌∷◌, [], ℕ, List, Ok, Err, refl, sym, ◌∙◌, ap, append_assoc, get_or, drop, length, length-append}
use Rattle.std.specs.Prelude.{All, Result}
use Rattle.std.proofs.lemmas.List.Elements.{All-append, All-cons, All-nil}
use Rattle.std.specs.Result.{result_err}
use Rattle.toml.specs.Data.{Data}
use Rattle.toml.specs.View.{view, items_view}
use Rattle.toml.specs.declared.value.Value.{Value}
use Rattle.toml.proofs.Views.{items_view-drop}
use Rattle.module_config.specs.declared.refusal.ConfigRefusal.{ConfigRefusal}
use Rattle.module_config.specs.Keys.{◌>>=◌, each_from, each_item}

-- an item is read, and then those after it
pub item-read : {A : Type 0} (reading : ℕ → Data → Result A ConfigRefusal) (values : List Value) (i : ℕ) (value : Value) (first : A)
    → i < length values → value ≡ get_or values i value → reading i (view value) ≡ Ok first
    → each_from reading i (items_view (drop i values)) ≡ each_from reading (i + 1) (items_view (drop (i + 1) values)) >>= (λ rest. Ok (first ∷ rest))
item-read reading values i value first below is read = let cut = items_view-drop values i value below in rw (cut, ← is, read) refl

-- an item is refused, and with it those after it
pub item-refused : {A : Type 0} (reading : ℕ → Data → Result A ConfigRefusal) (values : List Value) (i : ℕ) (value : Value) (refusal : ConfigRefusal)
    → i < length values → value ≡ get_or values i value → reading i (view value) ≡ Err refusal → each_from reading i (items_view (drop i values)) ≡ Err refusal
item-refused reading values i value refusal below is read = let cut = items_view-drop values i value below in rw (cut, ← is, read) refl

-- what is read, after what was read before
abbrev pub after : {A Refusal : Type 0} → List A → Result (List A) Refusal → Result (List A) Refusal
after front (Ok rest) = Ok (front ++ rest)
after front (Err refusal) = Err refusal

-- before the first item nothing was read
pub after-nothing : {A Refusal : Type 0} (reading : Result (List A) Refusal) → after [] reading ≡ reading
after-nothing (Ok rest) = refl
after-nothing (Err fault) = refl

-- one element goes over from what is left to what was read
pub after-more : {A Refusal : Type 0} (front : List A) (first : A) (reading : Result (List A) Refusal) → after front (reading >>= (λ rest. Ok (first ∷ rest))) ≡ after (front ++ first ∷ []) reading
after-more front first (Ok rest) = ap (λ all. Ok all) (sym (append_assoc front (first ∷ []) rest))
after-more front first (Err fault) = refl

-- what a loop that reads the items of a list keeps after `i` of them: each element has a fact
pub record KeepsReading {A : Type 0} (P : A → Type 0) (reading : ℕ → Data → Result A ConfigRefusal) (values : List Value) (i : ℕ) (found : List A) : Type 0 where
  pub reads : after found (each_from reading i (items_view (drop i values))) ≡ each_item reading (items_view values)
  pub as_many : length found ≡ i
  pub each : All P found

-- a fact of anything
abbrev pub IsAny : {A : Type 0} → A → Type 0
IsAny one = Unit {0}

-- an item is read, and the loop goes on
pub reading-more : {A : Type 0} (P : A → Type 0) (reading : ℕ → Data → Result A ConfigRefusal) (values : List Value) (i : ℕ) (found : List A) (value : Value) (first : A)
    → KeepsReading P reading values i found → i < length values → value ≡ get_or values i value → reading i (view value) ≡ Ok first → P first
    → KeepsReading P reading values (i + 1) (found ++ first ∷ [])
reading-more P reading values i found value first before below is read here =
    let more = after-more found first (each_from reading (i + 1) (items_view (drop (i + 1) values))) in
    record {
      reads = sym (ap (after found) (item-read reading values i value first below is read) ∙ more) ∙ before.reads;
      as_many = length-append found (first ∷ []) ∙ ap (λ n. n + 1) before.as_many;
      each = All-append P found (first ∷ []) before.each (All-cons P first [] here (All-nil P));
    }

-- what a loop that judges the items of a list keeps after `i` of them
pub record KeepsJudging {A : Type 0} (reading : ℕ → Data → Result A ConfigRefusal) (values : List Value) (i : ℕ) : Type 0 where
  pub judged : result_err (each_from reading i (items_view (drop i values))) ≡ result_err (each_item reading (items_view values))

-- a value before them refuses nothing
pub value-before : {A : Type 0} (first : A) (reading : Result (List A) ConfigRefusal) → result_err (reading >>= (λ rest. Ok (first ∷ rest))) ≡ result_err reading
value-before first (Ok rest) = refl
value-before first (Err fault) = refl

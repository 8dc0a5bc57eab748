-- Values that are added to a list one after another.
use Rattle.std.proofs.Common.{◌≡◌, ℕ, ◌+◌, List, [], ◌∷◌, ◌++◌, length, take, get_or, ◌<◌, sym, ap, ◌∙◌, map}
use Rattle.std.proofs.lemmas.List.{take_more, map-append}
use Rattle.serde_json.specs.Data.{Data}
use Rattle.serde_json.specs.View.{view}
use Rattle.serde_json.specs.declared.value.Value.{Value}

-- the value of the part at this place, after the values of those before it
pub next : {A : Type 0} (data_of : A → Data) (parts : List A) (i : ℕ) (default : A) (values : List Value) (value : Value) → i < length parts
    → map view values ≡ map data_of (take i parts) → view value ≡ data_of (get_or parts i default) → map view (values ++ value ∷ []) ≡ map data_of (take (i + 1) parts)
next data_of parts i default values value within before this =
    map-append view values (value ∷ [])
    ∙ ap (λ l. l ++ view value ∷ []) before
    ∙ ap (λ last. map data_of (take i parts) ++ last ∷ []) this
    ∙ sym (map-append data_of (take i parts) (get_or parts i default ∷ []))
    ∙ ap (map data_of) (sym (take_more parts i default within))

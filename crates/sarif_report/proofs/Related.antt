-- Records that are added to a result one after another.
use Rattle.std.proofs.Common.{◌≡◌, ℕ, ◌+◌, List, [], ◌∷◌, ◌++◌, length, take, get_or, ◌<◌, sym, ap, ◌∙◌, map, arith}
use Rattle.std.proofs.lemmas.List.{take_more}
use Rattle.std.proofs.lemmas.List.{length-take-le, map-append}
use Rattle.serde_json.specs.View.{view}
use Rattle.serde_json.specs.declared.value.Value.{Value}
use Rattle.sarif_report.specs.Log.{all_earlier, earlier_data}
use Rattle.sarif_report.specs.declared.finding.Earlier.{Earlier}

-- one more record after others
pub one_more : (id : ℕ) (before : List Earlier) (last : Earlier) → all_earlier id (before ++ last ∷ []) ≡ all_earlier id before ++ earlier_data (id + length before) last ∷ []
one_more id [] last = ap (λ n. earlier_data n last ∷ []) (omega arith)
one_more id (first ∷ rest) last =
    let number : id + 1 + length rest ≡ id + length (first ∷ rest) = omega arith in
    ap (λ l. earlier_data id first ∷ l) (one_more (id + 1) rest last) ∙ ap (λ n. earlier_data id first ∷ (all_earlier (id + 1) rest ++ earlier_data n last ∷ [])) number

-- the record at this place, after those before it
pub next : (earlier : List Earlier) (i : ℕ) (default : Earlier) (values : List Value) (value : Value) → i < length earlier → map view values ≡ all_earlier 0 (take i earlier)
    → view value ≡ earlier_data i (get_or earlier i default) → map view (values ++ value ∷ []) ≡ all_earlier 0 (take (i + 1) earlier)
next earlier i default values value within before this =
    let count : length (take i earlier) ≡ i = length-take-le i earlier (omega arith) in
    let number : i ≡ 0 + length (take i earlier) = omega arith in
    map-append view values (value ∷ [])
    ∙ ap (λ l. l ++ view value ∷ []) before
    ∙ ap (λ data_of. all_earlier 0 (take i earlier) ++ data_of ∷ []) (this ∙ ap (λ n. earlier_data n (get_or earlier i default)) number)
    ∙ sym (one_more 0 (take i earlier) (get_or earlier i default))
    ∙ ap (all_earlier 0) (sym (take_more earlier i default within))

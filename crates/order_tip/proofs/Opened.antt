-- What recordings have left at first, and what has gone out before the first row.
use Rattle.std.proofs.Common.{◌≡◌, ◌∙◌, ℕ, List, [], ◌∷◌, Option, Some, None, map, refl, sym, ap, arith, append-nil}
use Rattle.std.specs.Option.{option_map}
use Rattle.apex_types.specs.declared.record.Pair.{Pair}
use Rattle.order_cert.specs.Order.{IsPrefixOfLawful}
use Rattle.record_read.specs.Row.{Item, records_of}
use Rattle.sink.specs.Taken.{with_more}
use Rattle.sink.specs.Written.{IsCut}
use Rattle.order_run.specs.Left.{Lefts}
use Rattle.order_run.specs.Proposal.{ListsFirst}
use Rattle.order_run.specs.Rows.{rows_of}

-- recordings that are opened over texts

pub opened_texts : {A : Type 0} (known : A → Option (List ℕ)) (sources : List A) (texts : List (List ℕ)) → map known sources ≡ map Some texts
    → map (λ source. option_map records_of (known source)) sources ≡ map (λ text. Some (records_of text)) texts
opened_texts known [] [] e = refl
opened_texts known [] (text ∷ texts) e = cc
opened_texts known (source ∷ sources) [] e = cc
opened_texts known (source ∷ sources) (text ∷ texts) e =
    let head : known source ≡ Some text = cc in
    let tail : map known sources ≡ map Some texts = cc in
    ap (λ (one : Option (List ℕ)). option_map records_of one ∷ map (λ source. option_map records_of (known source)) sources) head
    ∙ ap (λ (rest : List (Option (List Item))). Some (records_of text) ∷ rest) (opened_texts known sources texts tail)

nothing_more : (bytes : Option (List ℕ)) → bytes ≡ with_more bytes []
nothing_more None = refl
nothing_more (Some bytes) = ap Some (sym (append-nil bytes))

-- of an order of no record nothing has gone out
pub nothing_gone : (cores : ℕ) (lefts : Lefts) (bytes : Option (List ℕ)) → (pairs : List Pair) × IsPrefixOfLawful cores pairs × ListsFirst cores lefts pairs × IsCut bytes (rows_of pairs) bytes
nothing_gone cores lefts bytes = (
  [],
  record { lens = λ core. 0; more = []; bound = λ core within. omega arith; lawful = record { numbers = λ core within. refl; known = tt } },
  (λ items known. ((λ core. []), (λ core. (items core, refl)), record { numbers = λ core within. refl; known = tt })),
  ([], [], refl, nothing_more bytes),
)

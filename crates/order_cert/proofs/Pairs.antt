-- The pair of a row of two numbers.
use Rattle.std.proofs.Common.{◌≡◌, ◌≤◌, ◌<◌, ℕ, suc, List, [], ◌∷◌, Bool, Option, Some, None, Ok, Err, refl, sym, ap, subst, inl, ◌∙◌, arith, nat_lt}
use Rattle.std.specs.Prelude.{option_map, IfSome}
use Rattle.std.proofs.lemmas.Bool.{lt-ltb}
use Rattle.csv.specs.Records.{field_at}
use Rattle.csv_rows.specs.Numbered.{IsPair, TakesKnown}
use Rattle.csv_rows.specs.Source.{Gives, items_from}
use Rattle.csv_rows.specs.Stream.{Fields}
use Rattle.apex_types.specs.declared.limits.TheConstants.{PLACE_COUNT}
use Rattle.apex_types.specs.declared.record.Pair.{Pair}
use Rattle.order_cert.specs.Row.{IsOutside, item_of, number_at, pair_of}

-- what a row of two numbers gives
row_gives : (core seq : ℕ) (fields : Fields) → IsPair (core, seq) fields → core ≤ 0xFFFFFFFF → seq ≤ 0xFFFFFFFF → pair_of fields ≡ Ok (record { core = core; seq = seq })
unfolding pair_of number_at field_at
row_gives core seq fields row small low = rw (row.are, row.writes_first 0xFFFFFFFF small, row.writes_second 0xFFFFFFFF low) refl

-- it is the next item of the certificate
pub pair_given : (can_fail : Bool) (core seq count next : ℕ) (before after : Option (List Fields)) → TakesKnown (IsPair (core, seq)) before after
    → core ≤ 0xFFFFFFFF → seq ≤ 0xFFFFFFFF → count < PLACE_COUNT → suc count ≡ next
    → IfSome (option_map (items_from item_of count) before) (λ items. Gives (IsOutside can_fail) items (Ok (Some (record { core = core; seq = seq }))) (option_map (items_from item_of next) after))
pair_given can_fail core seq count next None after takes small low room is_next = tt
pair_given can_fail core seq count next (Some rows) after (fields, is, (rest, are, left)) small low room is_next =
    let first : item_of count fields ≡ Ok (record { core = core; seq = seq }) = rw (lt-ltb count PLACE_COUNT room) (row_gives core seq fields is small low) in (
      items_from item_of next rest,
      ap (items_from item_of count) are ∙ ap (λ item. item ∷ items_from item_of (suc count) rest) first
          ∙ ap (λ k. Ok (record { core = core; seq = seq }) ∷ items_from item_of k rest) is_next,
      ap (option_map (items_from item_of next)) left,
    )

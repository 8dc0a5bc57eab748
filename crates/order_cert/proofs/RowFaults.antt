-- Each fault that a row is read with is one that its text has.
use Rattle.std.proofs.Common.{ℕ, List, Bool, true, false, Option, Some, None, Result, Ok, Err, length, refl, inl, inr, nat_lt}
use Rattle.std.specs.Prelude.{◌==◌, if◌then◌else◌, option_and_then}
use Rattle.std.specs.Option.{ok_or}
use Rattle.csv.specs.Records.{field_at}
use Rattle.csv_rows.specs.Decimal.{decimal}
use Rattle.csv_rows.specs.Stream.{Fields}
use Rattle.apex_types.specs.declared.limits.TheConstants.{PLACE_COUNT}
use Rattle.order_cert.specs.declared.fault.CertFault.{CertFault}
use Rattle.order_cert.specs.declared.fault.CertFault.TheVariants.{BadNumber, FieldCount, TooMany}
use Rattle.order_cert.specs.Row.{◌>>=◌, IsOfRow, item_of, number_at, pair_of}

-- a fault, if there is one, is of the row
abbrev pub HasFaultOfRow : {A : Type 0} → Result A CertFault → Type 0
HasFaultOfRow (Ok value) = Unit {0}
HasFaultOfRow (Err fault) = IsOfRow fault

bind : {A B : Type 0} (read : Result A CertFault) (next : A → Result B CertFault) → HasFaultOfRow read → ((value : A) → HasFaultOfRow (next value)) → HasFaultOfRow (read >>= next)
bind (Ok value) next is more = more value
bind (Err fault) next is more = is

or_bad : (found : Option ℕ) → HasFaultOfRow (ok_or found BadNumber)
or_bad (Some value) = tt
or_bad None = inr (inr refl)

either : {A : Type 0} (test : Bool) (one : Result A CertFault) (fault : CertFault) → HasFaultOfRow one → IsOfRow fault → HasFaultOfRow (if test then one else Err fault)
either true one fault is also = is
either false one fault is also = also

number_read : (fields : List (List ℕ)) (place : ℕ) → HasFaultOfRow (number_at fields place)
unfolding number_at
number_read fields place = or_bad (option_and_then (decimal 0xFFFFFFFF) (field_at fields place))

pair_read : (fields : Fields) → HasFaultOfRow (pair_of fields)
unfolding pair_of
pair_read fields =
    either (length fields == 2) (number_at fields 0 >>= (λ core. number_at fields 1 >>= (λ seq. Ok (record { core = core; seq = seq })))) FieldCount
    (bind (number_at fields 0) (λ core. number_at fields 1 >>= (λ seq. Ok (record { core = core; seq = seq }))) (number_read fields 0)
    (λ core. bind (number_at fields 1) (λ seq. Ok (record { core = core; seq = seq })) (number_read fields 1) (λ seq. tt)))
    (inr (inl refl))

pub item_read : (number : ℕ) (fields : Fields) → HasFaultOfRow (item_of number fields)
item_read number fields = either (nat_lt number PLACE_COUNT) (pair_of fields) TooMany (pair_read fields) (inl refl)

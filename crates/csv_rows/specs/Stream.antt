-- What a stream of rows has left, and what one read takes of it.
use Rattle.std.specs.Prelude.{◌≡◌, ◌+◌, ℕ, List, [], ◌∷◌, Bool, true, false, Option, Some, option_map, length}
use Rattle.csv.specs.Reading.{Ready, default_config, records, records_from, strip_bom, source_of, reader_state, reader_config, reader_trim, is_flexible, has_failed}
use Rattle.csv.specs.declared.reader.Reader.{Reader}
use Rattle.csv.specs.declared.reader.Trim.TheVariants as trim
use Rattle.csv.specs.declared.parser.State.{State}

-- a row: its fields, each by its bytes
abbrev pub Fields : Type 0
Fields = List (List ℕ)

-- the rows of a text: those that `csv` reads from it after a byte order mark, if it has one
abbrev pub rows_of : List ℕ → List Fields
rows_of text = records default_config (strip_bom text)

-- what callers see of a stream: whether it has stopped, for a failed read or because memory was refused, whether its end was reported,
-- whether the source of the text has failed, and the rows that are left, if the bytes are known
pub record Stream : Type 0 where
  pub stopped : Bool
  pub ended : Bool
  pub failed : Bool
  pub left : Option (List Fields)

-- one read: it gives the first row that is left, or no row is left
abbrev pub Takes : Bool → List Fields → Fields → Option (List Fields) → Type 0
Takes true rows fields left = (rest : List Fields) × (rows ≡ fields ∷ rest) × (left ≡ Some rest)
Takes false rows fields left = (rows ≡ []) × (left ≡ Some [])

-- a reader that is set up for these rows and has not failed
pub record IsSet {R : Type 0} (r : Reader R) : Type 0 where
  pub config : reader_config r ≡ default_config
  pub trim : reader_trim r ≡ trim.None
  pub flexible : is_flexible r ≡ true
  pub ready : Ready r
  pub going : has_failed r ≡ false

-- the rows of the bytes that a reader in this state has left
abbrev pub rows_from : State → List ℕ → List Fields
rows_from state text = records_from default_config (length text + 1) state text

-- the rows that a reader has left, if the bytes are known
abbrev pub left_of : {R : Type 0} → (R → Option (List ℕ)) → Reader R → Option (List Fields)
left_of known r = option_map (rows_from (reader_state r)) (source_of known r)

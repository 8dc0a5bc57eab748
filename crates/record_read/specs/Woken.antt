-- Lists of processes, `part:proc` joined by `;`.
use Rattle.std.specs.Prelude.{◌≡◌, ℕ, suc, List, [], ◌∷◌, Bool, true, Option, Some, None, Result, Ok, length, nat_eq, nat_lt, if◌then◌else◌, option_map, option_and_then}
use Rattle.std.specs.List.{slice_split}
use Rattle.std.specs.Option.{ok_or}
use Rattle.std.specs.Result.{result_unwrap_or}
use Rattle.csv_rows.specs.Decimal.{decimal}
use Rattle.apex_types.specs.declared.limits.TheConstants.{GREATEST_NUMBER, GREATEST_PARTITION}
use Rattle.apex_types.specs.declared.record.Who.{Who}
use Rattle.apex_types.specs.Rising.{is_listed_before}
use Rattle.record_read.specs.declared.fault.RowFault.{RowFault}
use Rattle.record_read.specs.declared.fault.RowFault.TheVariants.{BadWoken}
use Rattle.record_read.specs.declared.woken.Processes.{Processes}

-- the bytes before the first separator, or all bytes if there is none
abbrev pub front_of : ℕ → List ℕ → List ℕ
front_of separator [] = []
front_of separator (b ∷ bs) = if nat_eq b separator then [] else b ∷ front_of separator bs

-- the bytes after the first separator, if there is one
abbrev pub rest_of : ℕ → List ℕ → Option (List ℕ)
rest_of separator [] = None
rest_of separator (b ∷ bs) = if nat_eq b separator then Some bs else rest_of separator bs

-- the pieces of a text between its separators
abbrev pub pieces_of : ℕ → List ℕ → List (List ℕ)
pieces_of separator text = slice_split (λ b. nat_eq b separator) text

-- the process of a partition from 0 to 31 and a number from 1 to 2,147,483,647
abbrev pub process : ℕ → ℕ → Option Who
process part number = if nat_lt 0 number then Some (record { part = part; proc = number }) else None

-- a process: the decimals of its partition and of its number, separated by a `:`
unfoldable pub process_of : List ℕ → Option Who
process_of text =
    option_and_then (λ rest. option_and_then (λ part. option_and_then (λ number. process part number) (decimal GREATEST_NUMBER rest)) (decimal GREATEST_PARTITION (front_of 58 text)))
    (rest_of 58 text)

-- whether a process comes after the last one, if there is one
abbrev pub is_after : Option Who → Who → Bool
is_after None who = true
is_after (Some last) who = is_listed_before last who

-- a process that comes after the last one
unfoldable pub next_process : Option Who → List ℕ → Option Who
next_process last text = option_and_then (λ who. if is_after last who then Some who else None) (process_of text)

-- the processes that pieces name, each after the one before it
unfoldable pub processes_after : Option Who → List (List ℕ) → Option (List Who)
processes_after last [] = Some []
processes_after last (piece ∷ pieces) =
    option_and_then (λ who. option_map (λ more. who ∷ more) (processes_after (Some who) pieces)) (next_process last piece)

-- the pieces of what is left of a text, if anything is
abbrev pub pieces_left : ℕ → Option (List ℕ) → List (List ℕ)
pieces_left separator None = []
pieces_left separator (Some text) = pieces_of separator text

-- the bytes that are left of a text, if any are
abbrev pub left_of : Processes → Option (List ℕ)
left_of processes = option_map (λ left. left.now) processes.left

-- the processes that are still to come, if the pieces that are left name such
abbrev pub named_by : Processes → Option (List Who)
named_by processes = processes_after processes.last (pieces_left 59 (left_of processes))

-- what is still named where no process is next: nothing at the end of the text, and else what is left is no list
abbrev pub named_at_stop : Option (List ℕ) → Option (List Who)
named_at_stop None = Some []
named_at_stop (Some text) = None

-- how much is left: with a text that is left, even an empty one, there is a piece to come
abbrev pub length_of_rest : Option (List ℕ) → ℕ
length_of_rest None = 0
length_of_rest (Some text) = suc (length text)

abbrev pub length_left : Processes → ℕ
length_left processes = length_of_rest (left_of processes)

-- a list of processes: none if the field is empty
unfoldable pub woken_of : List ℕ → Result (List Who) RowFault
woken_of [] = Ok []
woken_of (b ∷ bs) = ok_or (processes_after None (pieces_of 59 (b ∷ bs))) BadWoken

-- the processes that a list names
abbrev pub processes_in : List ℕ → List Who
processes_in text = result_unwrap_or (woken_of text) []

-- a text that is such a list
abbrev pub IsList : List ℕ → Type 0
IsList text = woken_of text ≡ Ok (processes_in text)

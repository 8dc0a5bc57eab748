-- Names, and messages in hexadecimal.
use Rattle.std.specs.Prelude.{◌≡◌, ℕ, ℤ, pos, negsuc, zero, suc, List, [], ◌∷◌, Bool, true, false, Result, Ok, Err, length, nat_le, nat_eq, ◌&&◌, if◌then◌else◌}
use Rattle.std.specs.List.{list_all}
use Rattle.std.specs.Result.{result_unwrap_or}
use Rattle.hex.specs.Hex.{decode_of}
use Rattle.hex.specs.declared.error.FromHexError.{FromHexError}
use Rattle.apex_types.specs.declared.limits.TheConstants.{LONGEST_MESSAGE, LONGEST_NAME}
use Rattle.record_read.specs.declared.fault.RowFault.{RowFault}
use Rattle.record_read.specs.declared.fault.RowFault.TheVariants.{FieldNotForKind, BadName, BadHex, BadLength}
use Rattle.record_read.specs.Field.{empty}
use Rattle.record_read.specs.Steps.{◌>>=◌}

-- a byte of printable ASCII
abbrev pub is_printable : ℕ → Bool
is_printable b = nat_le 0x20 b && nat_le b 0x7E

-- a name has at most 32 bytes, all printable
unfoldable pub name_of : List ℕ → Result (List ℕ) RowFault
name_of text = if nat_le (length text) LONGEST_NAME && list_all is_printable text then Ok text else Err BadName

-- a name: given if the service takes one, and else empty
unfoldable pub name_in : Bool → List ℕ → Result (List ℕ) RowFault
name_in true [] = Err FieldNotForKind
name_in true (b ∷ bs) = name_of (b ∷ bs)
name_in false text = empty text >>= (λ u. Ok [])

-- bytes in hexadecimal, two digits of either case for each byte
abbrev pub from_hex : Result (List ℕ) FromHexError → Result (List ℕ) RowFault
from_hex (Ok bytes) = Ok bytes
from_hex (Err e) = Err BadHex

-- the bytes of a text in hexadecimal
abbrev pub hex_bytes : List ℕ → List ℕ
hex_bytes text = result_unwrap_or (decode_of text) []

-- a text in hexadecimal
abbrev pub IsHex : List ℕ → Type 0
IsHex text = decode_of text ≡ Ok (hex_bytes text)

-- a message that may be left out: at most 8,192 bytes
unfoldable pub maybe_message : List ℕ → Result (List ℕ) RowFault
maybe_message text = from_hex (decode_of text) >>= (λ bytes. if nat_le (length bytes) LONGEST_MESSAGE then Ok bytes else Err BadLength)

-- a message that must be given: 1 to 8,192 bytes
unfoldable pub required_message : List ℕ → Result (List ℕ) RowFault
required_message [] = Err FieldNotForKind
required_message (b ∷ bs) = maybe_message (b ∷ bs)

-- whether this many bytes go with this length argument: exactly that many if it is 1 to 8,192, and none if it is not
abbrev pub goes_with : ℤ → ℕ → Bool
goes_with (pos zero) count = nat_eq count 0
goes_with (pos (suc n)) count = if nat_le (suc n) LONGEST_MESSAGE then nat_eq count (suc n) else nat_eq count 0
goes_with (negsuc n) count = nat_eq count 0

-- the message of a service with a length argument
unfoldable pub message_of : ℤ → List ℕ → Result (List ℕ) RowFault
message_of len text = from_hex (decode_of text) >>= (λ bytes. if goes_with len (length bytes) then Ok bytes else Err BadLength)

-- a message: judged by its length argument if the service takes one, and else empty
unfoldable pub message_in : Bool → ℤ → List ℕ → Result (List ℕ) RowFault
message_in true len text = message_of len text
message_in false len text = empty text >>= (λ u. Ok [])

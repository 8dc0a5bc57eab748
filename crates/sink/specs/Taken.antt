-- What one put into a sink takes, and when a put is a failure.
use Rattle.std.specs.Prelude.{◌≡◌, ◌++◌, ◌<◌, ℕ, zero, suc, Bool, true, false, List, [], ◌∷◌, Option, option_map, Result, Ok, Err, take}
use Rattle.sink.specs.declared.output.SinkFault.{SinkFault}

-- the bytes that a sink took, after more of them went in, if it knows them
abbrev pub with_more : Option (List ℕ) → List ℕ → Option (List ℕ)
with_more known more = option_map (λ bytes. bytes ++ more) known

-- a put takes the first bytes of the piece, as many as it answers, and none on an error
abbrev pub taken_of : List ℕ → Result ℕ SinkFault → List ℕ
taken_of piece (Ok count) = take count piece
taken_of piece (Err fault) = []

-- a put fails if it returns an error, or if it takes nothing of a piece that has bytes
abbrev pub has_failed : List ℕ → Result ℕ SinkFault → Bool
has_failed piece (Err fault) = true
has_failed [] (Ok count) = false
has_failed (byte ∷ rest) (Ok zero) = true
has_failed (byte ∷ rest) (Ok (suc count)) = false

-- a failure raises the count of failures, and nothing else changes it
abbrev pub Counts : Bool → ℕ → ℕ → Type 0
Counts true before after = before < after
Counts false before after = after ≡ before

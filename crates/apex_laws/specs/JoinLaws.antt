-- The laws on what a piece finds in one list of records followed by another.
use Rattle.std.specs.Prelude.{◌≡◌, ◌⊎◌, ◌↔◌, List, ◌∷◌, ◌++◌, Option, Some, None}
use Rattle.apex_types.specs.declared.record.Ordered.{Ordered}
use Rattle.apex_machine.specs.Configuration.{Configuration}
use Rattle.apex_machine.specs.Pieces.{Part, Piece}
use Rattle.apex_machine.specs.Runs.{Finds, PieceRun, Refusal, Refuses}

-- a run over one list followed by another is a run over the first and then, from where that ends, a run over the second
abbrev pub RunsJoin : Type 0
RunsJoin =
    (configuration : Configuration) (piece : Piece) (old : Part) (first second : List Ordered) (final : Part)
    → PieceRun configuration piece old (first ++ second) final
    ↔ ((reached : Part) × PieceRun configuration piece old first reached × PieceRun configuration piece reached second final)

-- what a piece finds in one list followed by another is what it finds in the first; if it finds nothing there, it is what the piece finds
-- in the second, from where its run over the first ends
abbrev pub FindingsJoin : Type 0
FindingsJoin =
    (configuration : Configuration) (piece : Piece) (old : Part) (first second : List Ordered) (found : Option Refusal)
    → Finds configuration piece old (first ++ second) found
    ↔ (((refusal : Refusal) × (found ≡ Some refusal) × Finds configuration piece old first found)
    ⊎ ((reached : Part) × PieceRun configuration piece old first reached × Finds configuration piece reached second found))

-- a piece finds nothing exactly if it has a run over all the records
abbrev pub NothingFoundIsARun : Type 0
NothingFoundIsARun =
    (configuration : Configuration) (piece : Piece) (old : Part) (records : List Ordered)
    → Finds configuration piece old records None ↔ ((final : Part) × PieceRun configuration piece old records final)

-- a piece finds a refusal exactly if it runs up to a record and rejects that one, whatever comes after it
abbrev pub FoundIsRefused : Type 0
FoundIsRefused =
    (configuration : Configuration) (piece : Piece) (old : Part) (records : List Ordered) (refusal : Refusal)
    → Finds configuration piece old records (Some refusal)
    ↔ ((before : List Ordered) × (ordered : Ordered) × (after : List Ordered) × (records ≡ before ++ ordered ∷ after) × (refusal.pos ≡ ordered.pos)
    × Refuses configuration piece old before ordered refusal.cause)

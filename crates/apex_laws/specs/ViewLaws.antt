-- The views over a whole recording: those that the judging pieces give are those of the machine's run.
use Rattle.std.specs.Prelude.{◌≡◌, List, [], ◌∷◌, Option, Some, None, IsTrue}
use Rattle.apex_types.specs.declared.record.Ordered.{Ordered}
use Rattle.apex_machine.specs.Configuration.{Configuration, WindowsAreConfigured}
use Rattle.apex_machine.specs.Pieces.{Part, Piece, is_configured, part}
use Rattle.apex_machine.specs.Runs.{ArePlaced, PieceRun}
use Rattle.apex_machine.specs.State.{State}
use Rattle.apex_machine.specs.Step.{Run}
use Rattle.apex_types.specs.declared.view.View.{View}
use Rattle.apex_machine.specs.Views.{judge, run_views, view_in}
use Rattle.apex_laws.specs.Laws.{AreTied}

-- what a piece gives over the records of its run, each from its part before the record
abbrev pub piece_views : (configuration : Configuration) (piece : Piece) (old : Part) (records : List Ordered) (final : Part)
    → PieceRun configuration piece old records final → List (Option View)
piece_views configuration piece old [] final run = []
piece_views configuration piece old (ordered ∷ others) final run = view_in old ordered ∷ piece_views configuration piece run.0 others final run.2

-- record by record, a piece gives the view of each record that it judges, and no view of any other
abbrev pub AreOfItsRecords : Piece → List Ordered → List View → List (Option View) → Type 0
AreOfItsRecords piece [] [] [] = Unit {0}
AreOfItsRecords piece (ordered ∷ others) (view ∷ views) (given ∷ more) =
    (piece ≡ judge ordered → given ≡ Some view) × (¬ (piece ≡ judge ordered) → given ≡ None) × AreOfItsRecords piece others views more
AreOfItsRecords piece records views given = ⊥

-- the piece that judges each record is configured
abbrev pub AreJudged : Configuration → List Ordered → Type 0
AreJudged configuration [] = Unit {0}
AreJudged configuration (ordered ∷ others) = IsTrue (is_configured configuration (judge ordered)) × AreJudged configuration others

-- runs of all pieces are one run of the machine, and the views that the pieces give over their runs are those of the run's records: the one
-- configured piece that judges a record gives its view, and no other piece gives one
abbrev pub ViewsAreOfTheRun : Type 0
ViewsAreOfTheRun =
    (configuration : Configuration) (state : State) (records : List Ordered) (reached : Piece → Part)
    → WindowsAreConfigured configuration → AreTied configuration state → ArePlaced state.count records
    → (runs : (piece : Piece) → IsTrue (is_configured configuration piece) → PieceRun configuration piece (part piece state) records (reached piece))
    → (final : State) × (run : Run configuration state records final)
    × ((piece : Piece) → IsTrue (is_configured configuration piece) → part piece final ≡ reached piece)
    × AreJudged configuration records
    × ((piece : Piece) (is : IsTrue (is_configured configuration piece))
    → AreOfItsRecords piece records (run_views configuration state records final run)
    (piece_views configuration piece (part piece state) records (reached piece) (runs piece is)))

-- A piece goes over one more record.
use Rattle.std.proofs.Common.{◌≡◌, List, [], ◌∷◌, ◌++◌, true, false, refl, sym, subst}
use Rattle.apex_types.specs.declared.record.Ordered.{Ordered}
use Rattle.apex_machine.specs.Configuration.{Configuration}
use Rattle.apex_machine.specs.Demands.{LocalStep}
use Rattle.apex_machine.specs.Pieces.{Part, Piece, touches}
use Rattle.apex_machine.specs.Runs.{Goes, PieceRun}
use Rattle.apex_laws.proofs.Joins.{runs_join}

-- a run goes on over one more record
goes_on : (configuration : Configuration) (piece : Piece) (old now next : Part) (before : List Ordered) (ordered : Ordered)
    → PieceRun configuration piece old before now → Goes (touches configuration piece ordered) configuration now ordered next
    → PieceRun configuration piece old (before ++ ordered ∷ []) next
goes_on configuration piece old now next before ordered run goes =
    (runs_join configuration piece old before (ordered ∷ []) next).1 (now, run, (next, goes, refl))

pub steps_over : (configuration : Configuration) (piece : Piece) (old now next : Part) (before : List Ordered) (ordered : Ordered)
    → PieceRun configuration piece old before now → touches configuration piece ordered ≡ true → LocalStep configuration now ordered next
    → PieceRun configuration piece old (before ++ ordered ∷ []) next
steps_over configuration piece old now next before ordered run touched step =
    goes_on configuration piece old now next before ordered run (subst (λ b. Goes b configuration now ordered next) (sym touched) step)

pub passes_by : (configuration : Configuration) (piece : Piece) (old now : Part) (before : List Ordered) (ordered : Ordered)
    → PieceRun configuration piece old before now → touches configuration piece ordered ≡ false
    → PieceRun configuration piece old (before ++ ordered ∷ []) now
passes_by configuration piece old now before ordered run untouched =
    goes_on configuration piece old now now before ordered run (subst (λ b. Goes b configuration now ordered now) (sym untouched) refl)

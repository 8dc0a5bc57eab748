-- Records placed after one another.
use Rattle.std.proofs.Common.{◌≡◌, ◌<◌, ◌+◌, ℕ, suc, List, [], ◌∷◌, ◌++◌, length, arith}
use Rattle.apex_types.specs.declared.record.Ordered.{Ordered}
use Rattle.apex_machine.specs.Runs.{ArePlaced, AreOfCores}

pub placed_more : (first : ℕ) (placed : List Ordered) (next : Ordered) → ArePlaced first placed → next.pos ≡ first + length placed
    → ArePlaced first (placed ++ next ∷ [])
placed_more first [] next are is = (omega (arith, is), tt)
placed_more first (ordered ∷ others) next are is = (are.0, placed_more (suc first) others next are.1 (omega (arith, is)))

pub of_cores_more : (cores : ℕ) (placed : List Ordered) (next : Ordered) → AreOfCores cores placed → next.core < cores → AreOfCores cores (placed ++ next ∷ [])
of_cores_more cores [] next are below = (below, tt)
of_cores_more cores (ordered ∷ others) next are below = (are.0, of_cores_more cores others next are.1 below)

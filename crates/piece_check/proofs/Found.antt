-- Windows that were looked up.
use Rattle.std.proofs.Common.{◌≡◌, ℕ, zero, suc, List, [], ◌∷◌, All, refl}
use Rattle.std.specs.Prelude.{IfSome, slice_get}
use Rattle.std.proofs.lemmas.List.Elements.{All-head, All-tail}
use Rattle.apex_machine.specs.Configuration.{Configuration, window_at}
use Rattle.piece_check.specs.declared.windows.WindowAt.{WindowAt}
use Rattle.piece_check.specs.Found.{IsWindowAt}

-- a window of the same core at the same time is the same window
pub owner_there : (configuration : Configuration) (window : WindowAt) (core time : ℕ) → IsWindowAt configuration window → window.core ≡ core → window.time ≡ time
    → window.owner ≡ window_at configuration core time
owner_there configuration window core time is same_core same_time = rw (is, same_core, same_time) refl

-- each window of the list is what the configuration says
pub found_in : (configuration : Configuration) (windows : List WindowAt) (index : ℕ) → All (IsWindowAt configuration) windows
    → IfSome (slice_get windows index) (IsWindowAt configuration)
found_in configuration [] index all = tt
found_in configuration (window ∷ others) zero all = All-head (IsWindowAt configuration) window others all
found_in configuration (window ∷ others) (suc index) all = found_in configuration others index (All-tail (IsWindowAt configuration) window others all)

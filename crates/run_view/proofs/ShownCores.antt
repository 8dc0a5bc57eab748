-- The cores that are shown.
use Rattle.std.proofs.Common.{◌≡◌, ◌+◌, ◌∙◌, ℕ, List, [], ◌∷◌, ◌++◌, map, sym, ap, arith}
use Rattle.std.proofs.lemmas.List.FromFn.{map-range_with_len_more}
use Rattle.std.specs.List.{range_with_len}
use Rattle.apex_machine.specs.declared.state.CoreState.{CoreState}
use Rattle.apex_machine.specs.Configuration.{Configuration}
use Rattle.run_view.specs.declared.cores.CoreView.{CoreView}
use Rattle.run_view.specs.Cores.{shown_core}

-- one core more is shown
pub one_more_core : (configuration : Configuration) (cores : List CoreState) (number core : ℕ) (view : CoreView) (shown new : List CoreView) → core ≡ number
    → view ≡ shown_core configuration cores core → shown ≡ map (shown_core configuration cores) (range_with_len 0 number) → new ≡ shown ++ view ∷ []
    → new ≡ map (shown_core configuration cores) (range_with_len 0 (number + 1))
one_more_core configuration cores number core view shown new same is so more =
    more ∙ ap (λ list. list ++ view ∷ []) so
    ∙ ap (λ (one : CoreView). map (shown_core configuration cores) (range_with_len 0 number) ++ one ∷ []) (is ∙ ap (shown_core configuration cores) same)
    ∙ sym (map-range_with_len_more (shown_core configuration cores) 0 number number (omega arith))

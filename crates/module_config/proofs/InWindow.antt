-- Which partition's window holds a time: what is found, and the sentence.
use Rattle.std.proofs.Common.{◌≡◌, ◌<◌, ◌≤◌, ◌+◌, ◌%◌, ◌∷◌, [], ℕ, List, Option, Some, None, Bool, true, false, zero, suc, refl, get_or, length, arith}
use Rattle.std.specs.Prelude.{if◌then◌else◌}
use Rattle.std.specs.List.{list_any}
use Rattle.std.proofs.lemmas.Bool.{or_parts}
use Rattle.std.proofs.lemmas.Bool.Decides.{nat_tests}
use Rattle.std.proofs.lemmas.List.Folds.{list_any_at}
use Rattle.apex_machine.specs.Configuration.{Configuration, Window, is_within, window_among, window_at}
use Rattle.module_config.specs.Whole.{shares_tick, has_overlap}
use Rattle.module_config.specs.WindowLaw.{IsInWindow, WindowAtIsTheSentence}

-- a window of the list that is a partition's and holds a time of the major frame
record FoundIn (core offset partition : ℕ) (windows : List Window) : Type 0 where
  window : Window
  index : ℕ
  below : index < length windows
  at : get_or windows index window ≡ window
  owned : window.partition ≡ partition
  within : is_within core offset window ≡ true

-- the partition that is found has a window that holds the time
found : (core offset partition : ℕ) (windows : List Window) → window_among core offset windows ≡ Some partition → FoundIn core offset partition windows
found core offset partition [] is = cc
found core offset partition (window ∷ windows) is = by (is_within core offset window) refl is (found core offset partition windows)
  where
    by : (b : Bool) → is_within core offset window ≡ b → (if b then Some window.partition else window_among core offset windows) ≡ Some partition
        → (window_among core offset windows ≡ Some partition → FoundIn core offset partition windows) → FoundIn core offset partition (window ∷ windows)
    by true within is later = record { window = window; index = 0; below = omega arith; at = refl; owned = cc; within = within }
    by false outside is later =
        let rest = later is in
        record { window = rest.window; index = suc rest.index; below = omega (arith, rest.below); at = rest.at; owned = rest.owned; within = rest.within }

-- two windows that hold one time share a tick
share : (core offset : ℕ) (window other : Window) → is_within core offset window ≡ true → is_within core offset other ≡ true → shares_tick window other ≡ true
share core offset window other first second = grind (arith, nat_tests)

-- without overlap a window that holds the time is the one that is found
only : (core offset : ℕ) (windows : List Window) (k : ℕ) (window : Window) → has_overlap windows ≡ false → k < length windows → get_or windows k window ≡ window
    → is_within core offset window ≡ true → window_among core offset windows ≡ Some window.partition
only core offset [] k window apart below at within = absurd (omega arith)
only core offset (first ∷ windows) zero window apart below at within = let same : first ≡ window = at in rw (same, within) refl
only core offset (first ∷ windows) (suc k) window apart below at within =
    let (here, later) = or_parts (list_any (shares_tick first) windows) (has_overlap windows) apart in
    let under : k < length windows = omega arith in
    by (is_within core offset first) refl under here (only core offset windows k window later under at within)
  where
    by : (b : Bool) → is_within core offset first ≡ b → k < length windows → list_any (shares_tick first) windows ≡ false → window_among core offset windows ≡ Some window.partition
        → (if b then Some first.partition else window_among core offset windows) ≡ Some window.partition
    by true held under none rest =
        let same : get_or windows k window ≡ window = at in
        let shared : shares_tick first (get_or windows k window) ≡ true = rw same (share core offset first window held within) in
        let any : list_any (shares_tick first) windows ≡ true = list_any_at (shares_tick first) windows k window under shared in
        cc
    by false outside under none rest = rest

-- a window of the core that has begun and not ended holds the time
within-from : (core offset : ℕ) (window : Window) → window.core ≡ core → window.start ≤ offset → offset < window.start + window.span → is_within core offset window ≡ true
within-from core offset window own begun not_ended = grind (arith, nat_tests)

-- what is found is in a window
holds-found : (configuration : Configuration) (core time partition : ℕ) → window_at configuration core time ≡ Some partition → IsInWindow configuration core time partition
holds-found configuration core time partition is =
    let here = found core (time % configuration.frame) partition configuration.windows is in
    let within = here.within in (
      here.window,
      record {
        configured = (here.index, here.below, here.at);
        of_core = grind (arith, nat_tests, within);
        of_partition = here.owned;
        begun = grind (arith, nat_tests, within);
        not_ended = grind (arith, nat_tests, within);
      },
    )

-- and what is in a window is found
found-holds : (configuration : Configuration) (core time partition : ℕ) → has_overlap configuration.windows ≡ false → IsInWindow configuration core time partition
    → window_at configuration core time ≡ Some partition
found-holds configuration core time partition apart in_window =
    let holds = in_window.1 in
    let within = within-from core (time % configuration.frame) in_window.0 holds.of_core holds.begun holds.not_ended in
    let is = only core (time % configuration.frame) configuration.windows holds.configured.0 in_window.0 apart holds.configured.1 holds.configured.2 within in
    rw holds.of_partition at is

-- if no partition is found, and if none has such a window
none-found : (configuration : Configuration) (core time : ℕ) → ((partition : ℕ) → ¬ IsInWindow configuration core time partition) → window_at configuration core time ≡ None
none-found configuration core time none = by (window_at configuration core time) refl
  where
    by : (result : Option ℕ) → window_at configuration core time ≡ result → result ≡ None
    by None is = refl
    by (Some partition) is = absurd (none partition (holds-found configuration core time partition is))

pub window_at_is_the_sentence : WindowAtIsTheSentence
window_at_is_the_sentence configuration core time apart = (
  λ partition. (holds-found configuration core time partition, found-holds configuration core time partition apart),
  (λ none partition in_window. let some = found-holds configuration core time partition apart in_window in cc, none-found configuration core time),
)

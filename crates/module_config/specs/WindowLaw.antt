-- Which partition's window holds a time, in a sentence.
use Rattle.std.specs.Prelude.{◌≡◌, ◌↔◌, ℕ, ◌+◌, ◌%◌, ◌≤◌, ◌<◌, Some, None, false, Contains}
use Rattle.apex_machine.specs.Configuration.{Configuration, Window, window_at}
use Rattle.module_config.specs.Whole.{has_overlap}

-- a window of the configuration is of this core and partition, and holds the time modulo the major frame
pub record HoldsTime (configuration : Configuration) (core time partition : ℕ) (window : Window) : Type 0 where
  pub configured : Contains configuration.windows window
  pub of_core : window.core ≡ core
  pub of_partition : window.partition ≡ partition
  pub begun : window.start ≤ time % configuration.frame
  pub not_ended : time % configuration.frame < window.start + window.span

-- some window of this core and partition holds the time modulo the major frame
abbrev pub IsInWindow : Configuration → ℕ → ℕ → ℕ → Type 0
IsInWindow configuration core time partition = (window : Window) × HoldsTime configuration core time partition window

-- if no two windows overlap, in whatever order they are listed: the partition at a time is the one for which a window of the core holds the
-- time, and there is none exactly if no window of the core holds it
abbrev pub WindowAtIsTheSentence : Type 0
WindowAtIsTheSentence =
    (configuration : Configuration) (core time : ℕ) → has_overlap configuration.windows ≡ false
    → ((partition : ℕ) → (window_at configuration core time ≡ Some partition) ↔ IsInWindow configuration core time partition)
    × ((window_at configuration core time ≡ None) ↔ ((partition : ℕ) → ¬ IsInWindow configuration core time partition))

-- How a run ends, by what is requested.
use Rattle.std.proofs.Common.{◌≡◌, ◌≢◌, ◌⊎◌, ℕ, Bool, List, Option, Result, Ok, Err, refl, subst, sym, inl, inr}
use Rattle.answer_words.specs.Folders.{FolderView}
use Rattle.csv_rows.specs.declared.watched.Watched.{Watched}
use Rattle.program_ends.specs.declared.ending.Ending.{Ending}
use Rattle.program_ends.specs.declared.ending.Ending.TheVariants.{BadMemory, BadRule, BadRules, BadUsage, Own, Unopened}
use Rattle.program_ends.specs.declared.refused.UsageFault.{UsageFault}
use Rattle.program_ends.specs.Endings.{out_of_memory, refused_words}
use Rattle.apexview.specs.declared.usage.Asked.{Asked}
use Rattle.apexview.specs.declared.usage.Asked.TheVariants as asks
use Rattle.shown_run.specs.declared.ending.ViewEnd.{ViewEnd}
use Rattle.shown_run.specs.declared.ending.ViewEnd.TheVariants.{Checked, Help, Unwritten, Version}
use Rattle.shown_run.specs.Endings.{refusing}
use Rattle.apexview.specs.Requests.{EndsBy}

module _ {F : Type 0} (facts : FolderView F) (known : Watched F → Option (List ℕ)) (can_fail : Bool) where
  pub version_printed : (ending : Ending ViewEnd) → (ending ≡ Own Version) ⊎ (ending ≡ Own Unwritten) → EndsBy facts known can_fail (Ok asks.Version) ending
  version_printed ending (inl is) = inr (inr is)
  version_printed ending (inr unwritten) = inl unwritten

  pub help_printed : (ending : Ending ViewEnd) → (ending ≡ Own Help) ⊎ (ending ≡ Own Unwritten) ⊎ (ending ≡ out_of_memory refusing) → EndsBy facts known can_fail (Ok asks.Help) ending
  help_printed ending (inl is) = inr (inr is)
  help_printed ending (inr (inl unwritten)) = inl unwritten
  help_printed ending (inr (inr memory)) = inr (inl memory)

  pub words_refused : (fault : UsageFault) (ending : Ending ViewEnd) → ending ≡ refused_words refusing fault → EndsBy facts known can_fail (Err fault) ending
  words_refused fault ending is = inr (inr is)

  -- what was shown still has to be written out
  pub concluded : (asked : Result Asked UsageFault) (shown ending : Ending ViewEnd) → (ending ≢ Own Unwritten → ending ≡ shown) → EndsBy facts known can_fail asked shown
      → EndsBy facts known can_fail asked ending
  concluded asked shown (Own Unwritten) same by = inl refl
  concluded asked shown (Own (Checked outcome)) same by = subst (λ one. EndsBy facts known can_fail asked one) (sym (same (λ unwritten. cc))) by
  concluded asked shown BadUsage same by = subst (λ one. EndsBy facts known can_fail asked one) (sym (same (λ unwritten. cc))) by
  concluded asked shown Unopened same by = subst (λ one. EndsBy facts known can_fail asked one) (sym (same (λ unwritten. cc))) by
  concluded asked shown (BadRules which) same by = subst (λ one. EndsBy facts known can_fail asked one) (sym (same (λ unwritten. cc))) by
  concluded asked shown (BadMemory number which) same by = subst (λ one. EndsBy facts known can_fail asked one) (sym (same (λ unwritten. cc))) by
  concluded asked shown (BadRule number which) same by = subst (λ one. EndsBy facts known can_fail asked one) (sym (same (λ unwritten. cc))) by
  concluded asked shown (Own Version) same by = subst (λ one. EndsBy facts known can_fail asked one) (sym (same (λ unwritten. cc))) by
  concluded asked shown (Own Help) same by = subst (λ one. EndsBy facts known can_fail asked one) (sym (same (λ unwritten. cc))) by

  -- the words for it may lack memory
  pub explained : (asked : Result Asked UsageFault) (old ending : Ending ViewEnd) → (ending ≡ old) ⊎ (ending ≡ out_of_memory refusing) → EndsBy facts known can_fail asked old
      → EndsBy facts known can_fail asked ending
  explained asked old ending (inl same) by = subst (λ one. EndsBy facts known can_fail asked one) (sym same) by
  explained asked old ending (inr memory) by = inr (inl memory)

-- The processes of a partition that are shown.
use Rattle.std.proofs.Common.{◌≡◌, ◌≤◌, ◌+◌, ◌∙◌, ℕ, List, [], ◌∷◌, ◌++◌, Some, None, length, map, take, sym, ap}
use Rattle.std.proofs.lemmas.List.{map-append, take_all, take_more}
use Rattle.std.specs.List.{slice_get}
use Rattle.apex_machine.specs.declared.state.Process.{Process}
use Rattle.apex_machine.specs.State.{Table}
use Rattle.run_view.specs.declared.seen_process.SeenProcess.{SeenProcess}
use Rattle.run_view.specs.Processes.{shown_entry}
use Rattle.run_view.proofs.Righting.{got, no_more}

-- one process more is shown
pub one_more_process : (table : Table) (index : ℕ) (entry : ℕ × Process) (shown new : List SeenProcess) → Some entry ≡ slice_get table index → shown ≡ map shown_entry (take index table)
    → new ≡ shown ++ shown_entry entry ∷ [] → new ≡ map shown_entry (take (index + 1) table)
one_more_process table index entry shown new is so more =
    let there = got table index entry is in
    more ∙ ap (λ list. list ++ shown_entry entry ∷ []) so ∙ sym (map-append shown_entry (take index table) (entry ∷ []))
    ∙ ap (map shown_entry) (ap (λ one. take index table ++ one ∷ []) there.1 ∙ sym (take_more table index entry there.0))

-- all processes are shown
pub all_processes : (table : Table) (index : ℕ) (shown : List SeenProcess) → length table ≤ index → shown ≡ map shown_entry (take index table) → shown ≡ map shown_entry table
all_processes table index shown all so = so ∙ ap (map shown_entry) (take_all index table all)

-- after the last process there are no more
pub no_more_processes : (table : Table) (index : ℕ) (shown : List SeenProcess) → None ≡ slice_get table index → shown ≡ map shown_entry (take index table) → shown ≡ map shown_entry table
no_more_processes table index shown none so = all_processes table index shown (no_more table index none) so

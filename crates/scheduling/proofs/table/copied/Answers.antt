-- Each copy of a process is that process.
use Rattle.std.proofs.Common.{rules}
use Rattle.std.proofs.lemmas.Map.Entries.{entries_from_clone}
use Rattle.scheduling.proofs.table.copied.Goals as goal

pub returns-then-not-is_empty-clause-entries : goal.returns-then-not-is_empty-clause-entries
returns-then-not-is_empty-clause-entries c =
    entries_from_clone _ _ (λ number copy is. search is) (λ process copy is. grind rules) _ _ c.in_ok-copy.ensures.cases

pub returns-clause-entries : goal.returns-clause-entries
returns-clause-entries c =
    rw c.reserve.ensures.entries (entries_from_clone _ _ (λ number copy is. search is) (λ process copy is. grind rules) _ _ c.in_ok-copy.ensures.cases)

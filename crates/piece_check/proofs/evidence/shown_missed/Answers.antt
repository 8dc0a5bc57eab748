-- A process that has missed its deadline has one.
use Rattle.std.proofs.Common.{◌≡◌, Some, rules}
use Rattle.std.specs.List.{find}
use Rattle.apex_machine.specs.Deadlines.{has_missed}
use Rattle.piece_check.proofs.Shown.{missed_has_one}
use Rattle.piece_check.proofs.evidence.shown_missed.Goals as goal

pub returns-in-None : goal.returns-in-None
returns-in-None c =
    let a = c.args in
    let found : Some (c.in-Some.proc.now, c.in-Some.found.now) ≡ find (λ entry. has_missed a.core a.now entry.1) a.state.now.table = search rules in
    missed_has_one a.part a.core a.now a.state.now.table c.in-Some.proc.now c.in-Some.found.now found c.in-None.is

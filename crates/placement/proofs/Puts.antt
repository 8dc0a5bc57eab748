-- What an answer is that was put into a list of records, by the result.
use Rattle.std.proofs.Common.{◌≡◌, ℕ, List, [], ◌∷◌, ◌++◌, Bool, true, false, Option, Some, None, Result, Ok, Err, refl}
use Rattle.apex_types.specs.declared.record.Ordered.{Ordered}
use Rattle.apex_types.specs.declared.record.Record.{Record}
use Rattle.record_read.specs.declared.fault.RowFault.{RowFault}
use Rattle.core_intake.specs.Answered.{Answer, PutsIn}
use Rattle.placement.specs.declared.fault.PlacingFault.{PlacingFault}
use Rattle.placement.specs.Lanes.{Puts}
use Rattle.placement.specs.Scan.{placed_at}

-- the answer of a core
pub core_record : (core place : ℕ) (answer : Answer) (old new : List Ordered) → PutsIn core place answer old (Ok true) new
    → (rec : Record) × (answer ≡ Ok (Some rec)) × (new ≡ old ++ placed_at place core rec ∷ [])
core_record core place (Ok (Some rec)) old new puts = (rec, refl, puts.1)
core_record core place (Ok None) old new puts = absurd (cc puts.0)
core_record core place (Err fault) old new puts = absurd (cc puts.0)

pub core_end : (core place : ℕ) (answer : Answer) (old new : List Ordered) → PutsIn core place answer old (Ok false) new → (answer ≡ Ok None) × (new ≡ old)
core_end core place (Ok (Some rec)) old new puts = absurd (cc puts.0)
core_end core place (Ok None) old new puts = (refl, puts.1)
core_end core place (Err fault) old new puts = absurd (cc puts.0)

pub core_fault : (core place : ℕ) (answer : Answer) (old new : List Ordered) (fault : RowFault) → PutsIn core place answer old (Err fault) new → (answer ≡ Err fault) × (new ≡ old)
core_fault core place (Ok (Some rec)) old new fault puts = absurd (cc puts.0)
core_fault core place (Ok None) old new fault puts = absurd (cc puts.0)
core_fault core place (Err own) old new fault puts = (cc puts.0, puts.1)

-- the answer of a placer
pub next_record : (next : Result (Option Ordered) PlacingFault) (old new : List Ordered) → Puts next old (Ok true) new
    → (ordered : Ordered) × (next ≡ Ok (Some ordered)) × (new ≡ old ++ ordered ∷ [])
next_record (Ok (Some ordered)) old new puts = (ordered, refl, puts.1)
next_record (Ok None) old new puts = absurd (cc puts.0)
next_record (Err fault) old new puts = absurd (cc puts.0)

pub next_end : (next : Result (Option Ordered) PlacingFault) (old new : List Ordered) → Puts next old (Ok false) new → (next ≡ Ok None) × (new ≡ old)
next_end (Ok (Some ordered)) old new puts = absurd (cc puts.0)
next_end (Ok None) old new puts = (refl, puts.1)
next_end (Err fault) old new puts = absurd (cc puts.0)

pub next_fault : (next : Result (Option Ordered) PlacingFault) (old new : List Ordered) (fault : PlacingFault) → Puts next old (Err fault) new → (next ≡ Err fault) × (new ≡ old)
next_fault (Ok (Some ordered)) old new fault puts = absurd (cc puts.0)
next_fault (Ok None) old new fault puts = absurd (cc puts.0)
next_fault (Err own) old new fault puts = (cc puts.0, puts.1)

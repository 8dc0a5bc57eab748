use Rattle.std.proofs.Common.{◌≡◌, ◌⊎◌, inl, inr, refl}
use Rattle.program_ends.specs.declared.ending.Ending.{Ending}
use Rattle.program_ends.specs.declared.ending.Ending.TheVariants as ending
use Rattle.program_ends.specs.Endings.{out_of_memory}
use Rattle.check_result.specs.declared.ending.CheckEnd.{CheckEnd}
use Rattle.answer_words.specs.declared.opening.OpenFault.{OpenFault}
use Rattle.answer_words.specs.declared.opening.OpenFault.TheVariants.{Unopened, Memory}
use Rattle.check_result.specs.Endings.{refusing}
use Rattle.apexcheck.specs.Files.{ending_of}
use Rattle.apexcheck.proofs.rows_alone.check_rows.Goals as goal

-- a run whose recordings were not all opened ends with the refusal of one of them, or by a lack of memory
unopened : {Refuses Others : Type 0} (fault : OpenFault) (end : Ending CheckEnd) → end ≡ ending_of fault → (fault ≡ Unopened → Refuses)
    → (end ≡ out_of_memory refusing) ⊎ ((end ≡ ending.Unopened) × Refuses) ⊎ Others
unopened Unopened end is refuses = inr (inl (is, refuses refl))
unopened Memory end is refuses = inl is

pub returns-in-Err : goal.returns-in-Err
returns-in-Err g c = unopened c.in-Err.fault c.end_by.result c.end_by.ensures (λ is. rw c.deref.ensures.value at (c.in-Err.ensures.refused is))

pub returns-in-Ok : goal.returns-in-Ok
returns-in-Ok g c = inr (inr (c.in-Ok.sources.items, rw c.deref.ensures.value at c.in-Ok.ensures.cores, c.end_of_rows.ensures))

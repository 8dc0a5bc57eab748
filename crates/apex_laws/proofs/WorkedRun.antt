-- The worked run and the worked facts hold.
use Rattle.std.proofs.Common.{◌≡◌, ℕ, List, [], ◌∷◌, ◌++◌, Option, Some, refl, subst, ap, arith}
use Rattle.apex_laws.specs.ConditionFacts.{ConditionFacts}
use Rattle.apex_laws.specs.Worked.{two_partitions}
use Rattle.apex_laws.specs.WorkedFacts.{LawfulFacts, WorkedFacts}
use Rattle.apex_laws.specs.WorkedRun.{before_return, in_places, message_returns, recording, WorkedRun}
use Rattle.apex_laws.proofs.Common.{IsLawful, Ordered, Outcome, Run, State, after, cold_state}

-- The worked recording is a run, computed record by record.

-- the second byte of a message
second_byte : List ℕ → ℕ
second_byte (first ∷ second ∷ others) = second
second_byte _ = 0

-- the second byte of an outcome's message
byte_due : Option Outcome → ℕ
byte_due (Some outcome) = second_byte outcome.bytes
byte_due _ = 0

-- some final state and a run to it
record Goes (state : State) (records : List Ordered) : Type 0 where
  final : State
  run : Run two_partitions state records final

-- the state after some records
abbrev ends : State → List Ordered → State
ends state [] = state
ends state (ordered ∷ others) = ends (after two_partitions state ordered) others

-- if the last record is not lawful, there is no run
no_run : (state : State) (records : List Ordered) (last : Ordered) (final : State) → ¬ IsLawful two_partitions (ends state records) last
    → ¬ Run two_partitions state (records ++ last ∷ []) final
no_run state [] last final fails run = fails run.1.0
no_run state (ordered ∷ others) last final fails run =
    no_run (after two_partitions state ordered) others last final fails
    (subst (λ next. Run two_partitions next (others ++ last ∷ []) final) run.1.1 run.2)

-- the return of another message
other_return : Ordered
other_return = record { pos = 22; core = 1; rec = record { seq = 0; body = (message_returns (202 ∷ 255 ∷ [])).body } }

-- it is not what is due
no_return : ¬ IsLawful two_partitions (ends (cold_state two_partitions) (in_places 0 before_return)) other_return
unfolding byte_due second_byte other_return
no_return law = let same : ◌≡◌ {A = ℕ} 254 255 = ap byte_due law.claims.due in omega arith

-- so there is no run with it
no_other : (final : State) → ¬ Run two_partitions (cold_state two_partitions) (recording (202 ∷ 255 ∷ [])) final
unfolding other_return
no_other final = no_run (cold_state two_partitions) (in_places 0 before_return) other_return final no_return

-- each record is lawful in the state to which those before it lead
abbrev AllLawful : State → List Ordered → Type 0
AllLawful state [] = Unit {0}
AllLawful state (ordered ∷ others) = IsLawful two_partitions state ordered × AllLawful (after two_partitions state ordered) others

-- so they are a run
goes_by : (state : State) (records : List Ordered) → AllLawful state records → Goes state records
goes_by state [] all = record { final = state; run = refl }
goes_by state (ordered ∷ others) all =
    let goes = goes_by (after two_partitions state ordered) others all.1 in
    record { final = goes.final; run = (after two_partitions state ordered, (all.0, refl), goes.run) }

-- the run, record by record
goes : Goes (cold_state two_partitions) (recording (202 ∷ 254 ∷ []))
goes = goes_by (cold_state two_partitions) (recording (202 ∷ 254 ∷ [])) all
  where
    all : AllLawful (cold_state two_partitions) (recording (202 ∷ 254 ∷ []))
    all = assumption

pub worked_run : WorkedRun
worked_run = record { run = (goes.final, goes.run); no_other = no_other }

-- The worked facts, computed: each is an equation whose sides come to the same.

pub worked_facts : WorkedFacts
worked_facts = assumption

pub lawful_facts : LawfulFacts
lawful_facts = assumption

pub condition_facts : ConditionFacts
condition_facts = assumption

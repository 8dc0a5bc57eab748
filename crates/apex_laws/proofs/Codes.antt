-- No error condition has the code NO_ERROR: a call that is done met none.
use Rattle.std.proofs.Common.{◌≡◌, ℕ, List, [], ◌∷◌, Bool, true, false, Option, refl, sym, ◌∙◌, inl, inr, true≢false}
use Rattle.apex_laws.proofs.Common.{Answer, Claim, Code, Condition, HasCode, HasOutcome, IsCodeOf, Out, code_of, is_done, is_no_error}

-- a call that answers the code of a condition is not done
of_error : (one : Condition) → is_done (Out.Answer (code_of one)) ≡ false
of_error Condition.NotCreated = refl
of_error Condition.TimeOutOutOfRange = refl
of_error Condition.MayNotWait = refl
of_error Condition.InNormal = refl
of_error Condition.NameTaken = refl
of_error Condition.AllCreated = refl
of_error Condition.PriorityOutOfRange = refl
of_error Condition.PeriodOutOfRange = refl
of_error Condition.PeriodNotMultiple = refl
of_error Condition.CoreNotOfPartition = refl
of_error Condition.AlreadyStarted = refl
of_error Condition.NamesItself = refl
of_error Condition.AlreadyDormant = refl
of_error Condition.Dormant = refl
of_error Condition.Periodic = refl
of_error Condition.AlreadySuspended = refl
of_error Condition.NotSuspended = refl
of_error Condition.InitialisingCaller = refl
of_error Condition.PeriodicCaller = refl
of_error Condition.AperiodicCaller = refl
of_error Condition.DelayOutOfRange = refl
of_error Condition.ModeOutOfRange = refl
of_error Condition.AlreadyNormal = refl
of_error Condition.WarmStartInColdStart = refl
of_error Condition.SizeOutOfRange = refl
of_error Condition.CapacityOutOfRange = refl
of_error Condition.DisciplineOutOfRange = refl
of_error Condition.MaximumOutOfRange = refl
of_error Condition.ValueOutOfRange = refl
of_error Condition.NotAsConfigured = refl
of_error Condition.EmptyMessage = refl
of_error Condition.LongerThanObject = refl
of_error Condition.OwnsAnother = refl
of_error Condition.AboveCeiling = refl
of_error Condition.NotOwner = refl
of_error Condition.LongerThanPort = refl
of_error Condition.NotSource = refl
of_error Condition.NotDestination = refl
of_error Condition.NoSuchName = refl
of_error Condition.TimeCapacityOutOfRange = refl
of_error Condition.TimeCapacityAbovePeriod = refl
of_error Condition.DelayNotBelowPeriod = refl
of_error Condition.NoSuchProcess = refl
of_error Condition.ProcessNotOwner = refl
of_error Condition.LengthOutOfRange = refl
of_error Condition.HandlerCreated = refl
of_error Condition.NotNormal = refl
of_error Condition.NotForInitialising = refl
of_error Condition.LevelIsGreatest = refl
of_error Condition.OwnsMutex = refl
of_error Condition.NotLockOwner = refl
of_error Condition.OwnsLock = refl
of_error Condition.ProcessOwnsLock = refl
of_error Condition.BudgetOutOfRange = refl
of_error Condition.BudgetAboveRelease = refl
of_error Condition.ErrorNotOfApplication = refl
of_error Condition.NotHandler = refl
of_error Condition.NoErrorListed = refl
of_error Condition.NoHandler = refl
of_error Condition.ConcurrencyOutOfRange = refl
of_error Condition.HandlerCoreNotOfPartition = refl

of_errors : (conditions : List Condition) (one : Code) → IsCodeOf conditions one → is_done (Out.Answer one) ≡ false
of_errors [] one is = absurd is
of_errors (first ∷ others) one (inl same) = rw same (of_error first)
of_errors (first ∷ others) one (inr later) = of_errors others one later

pub not_done : (conditions : List Condition) (given : Out) → HasCode conditions given → is_done given ≡ false
not_done conditions Out.Waits has = absurd has
not_done conditions Out.Never has = absurd has
not_done conditions (Out.Answer one) has = of_errors conditions one has

-- a call that is done met no condition
pub done_is_lawful : (conditions : List Condition) (channel : Option ℕ) (answer : Answer) (suited : ℕ → Bool) (through : ℕ → Answer) (claim : Claim)
    → HasOutcome conditions channel answer suited through claim → is_done claim.out ≡ true → conditions ≡ []
done_is_lawful [] channel answer suited through claim has done = refl
done_is_lawful (first ∷ others) channel answer suited through claim has done =
    absurd (true≢false (sym done ∙ not_done (first ∷ others) claim.out has.out))

-- what answers NO_ERROR is done, and so is what waits
pub no_error_is_done : (given : Out) → is_no_error given ≡ true → is_done given ≡ true
no_error_is_done (Out.Answer Code.NoError) is = refl
no_error_is_done _ is = absurd (true≢false (sym is))

-- What becomes of processes as errors are taken.
use Rattle.std.proofs.Common.{◌≡◌, ℕ, Bool, true, false, ◌||◌, nat_eq, List, [], ◌∷◌, if◌then◌else◌, refl, sym, ap, ◌∙◌, arith}
use Rattle.std.proofs.lemmas.Bool.Decides.{nat_tests}
use Rattle.std.specs.List.{list_any}
use Rattle.apex_machine.specs.declared.state.ErrorHandler.{ErrorHandler}
use Rattle.apex_machine.specs.declared.state.ListedError.{ListedError}
use Rattle.apex_machine.specs.declared.state.Process.{Process}
use Rattle.apex_machine.specs.Errors.{faulted, handed_over, handler_started, has_error}
use Rattle.scheduling.specs.Changes.{only, with_each}
use Rattle.scheduling.specs.Processes.{Processes}
use Rattle.scheduling.proofs.Tables.{each_item-congr, each_item-same, each_item-twice, with_table}

pub has_error-any : (number : ℕ) (errors : List ListedError) → has_error number errors ≡ list_any (λ error. nat_eq error.process number) errors
has_error-any number [] = refl
has_error-any number (error ∷ errors) = ap (λ rest. nat_eq error.process number || rest) (has_error-any number errors)

-- a change of no process
pub unchanged : (processes : Processes) → processes ≡ with_each (λ number process. process) processes
unchanged processes = ap (with_table processes) (sym (each_item-same (λ number process. process) (λ number process. refl) processes.table))

-- an error of the handler itself makes it ready alone
pub handed-own : (place : ℕ) (handler : ErrorHandler) (failed : ℕ) (old new : Processes) → failed ≡ 0
    → new ≡ with_each (only 0 (handler_started place handler)) old → new ≡ with_each (handed_over place handler failed) old
handed-own place handler failed old new own is = is ∙ ap (with_table old) (each_item-congr _ _ same old.table)
  where
    same : (number : ℕ) (process : Process) → only 0 (handler_started place handler) number process ≡ handed_over place handler failed number process
    same number process = rw own (by (nat_eq number 0) refl)
      where
        by : (b : Bool) → nat_eq number 0 ≡ b
            → (if b then handler_started place handler process else process)
            ≡ (if b then handler_started place handler process else if nat_eq number 0 then faulted process else process)
        by true e = refl
        by false e = rw e refl

-- an error of another process makes the handler ready, and the process faulted
pub handed-other : (place : ℕ) (handler : ErrorHandler) (failed : ℕ) (old middle new : Processes) → nat_eq failed 0 ≡ false
    → middle ≡ with_each (only 0 (handler_started place handler)) old → new ≡ with_each (only failed faulted) middle
    → new ≡ with_each (handed_over place handler failed) old
handed-other place handler failed old middle new other first then_is =
    then_is ∙ ap (with_each (only failed faulted)) first
    ∙ ap (with_table old) (each_item-twice (only 0 (handler_started place handler)) (only failed faulted) old.table ∙ each_item-congr _ _ both old.table)
  where
    both : (number : ℕ) (process : Process)
        → only failed faulted number (only 0 (handler_started place handler) number process) ≡ handed_over place handler failed number process
    both number process = by (nat_eq number 0) (nat_eq number failed) refl refl
      where
        by : (b d : Bool) → nat_eq number 0 ≡ b → nat_eq number failed ≡ d
            → (if d then faulted (if b then handler_started place handler process else process) else (if b then handler_started place handler process else process))
            ≡ (if b then handler_started place handler process else if d then faulted process else process)
        by true true e h = absurd (grind (arith, nat_tests))
        by true false e h = refl
        by false d e h = refl

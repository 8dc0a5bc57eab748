-- Answers in batches.
use Rattle.std.specs.Prelude.{◌≡◌, ◌-◌, Bool, true, false, List, [], ◌∷◌, ◌++◌, Option, Some, None, Result, Ok, Err, length, map, take}
use Rattle.std.specs.List.{flat_map}
use Rattle.apex_types.specs.declared.record.Record.{Record}
use Rattle.csv_rows.specs.Source.{Source}
use Rattle.record_read.specs.declared.fault.RowFault.{RowFault}
use Rattle.record_read.specs.Row.{Item}
use Rattle.core_intake.specs.declared.batch.Batch.{Batch}
use Rattle.core_intake.specs.declared.rule.Log.{Log}
use Rattle.core_intake.specs.Answered.{Answer, AreAnswers}
use Rattle.core_intake.specs.Relay.{log}
use Rattle.atomic_table.specs.declared.badge.Badge.{Badge}
use Rattle.crossbeam_channel.specs.declared.flavors.array.Rows.{Rows}
use Rattle.crossbeam_channel.specs.declared.flavors.array.Key.{Key}
use Rattle.crossbeam_channel.specs.declared.flavors.array.Doing.{Doing}
use Rattle.crossbeam_channel.specs.declared.flavors.array.ruled.Sending.{Sending}
use Rattle.crossbeam_channel.specs.Claims.{Pass, view, IsSeatAt}
use Rattle.crossbeam_channel.specs.Ends.{sends_on}

-- the answer that reports how a recording ends, if it does
abbrev pub end_of : Option (Result (Unit {0}) RowFault) → List Answer
end_of None = []
end_of (Some (Ok ended)) = Ok None ∷ []
end_of (Some (Err fault)) = Err fault ∷ []

-- the answers that give these records
abbrev pub records_answered : List Record → List Answer
records_answered records = map (λ rec. Ok (Some rec)) records

-- the answers of these records, and the end after them
abbrev pub answers_of : List Record → Option (Result (Unit {0}) RowFault) → List Answer
answers_of records end = records_answered records ++ end_of end

-- the answers of a batch
abbrev pub answers_in : Batch → List Answer
answers_in batch = answers_of batch.records.items batch.end

-- the answers of batches one after another
abbrev pub all_answers : List Batch → List Answer
all_answers batches = flat_map answers_in batches

-- what comes before these last answers
abbrev pub before : List Answer → List Answer → List Answer
before last all = take (length all - length last) all

-- what may come after a batch: nothing if it has an end, and else the answers of what is left
abbrev pub GoesOn : Bool → Option (Result (Unit {0}) RowFault) → Option (List Item) → List Answer → Type 0
GoesOn can_fail None left later = AreAnswers can_fail left later
GoesOn can_fail (Some end) left later = later ≡ []

-- a batch was read from a source: its answers, followed by those of what it left, are answers of the source; without an end it goes on
pub record IsRead (can_fail : Bool) (old : Source Item) (batch : Batch) (new : Source Item) : Type 0 where
  pub answers : (later : List Answer) → GoesOn can_fail batch.end new.left later → AreAnswers can_fail old.left (answers_in batch ++ later)
  pub going : batch.end ≡ None → new.stopped ≡ false

-- the answers at hand are what is left of those that were received, as they were before: no answer was given
abbrev pub AreAtHand : List Batch → List Answer → List Batch → List Answer → Type 0
AreAtHand received hand received_now hand_now =
    (given : List Answer) → given ++ hand ≡ all_answers received → given ++ hand_now ≡ all_answers received_now

-- what a pass knows
abbrev pub log_of : Pass Batch Log → Log
log_of side = view side

module _ {Q M L A B : Type 0} where
  -- by the end of the channel that a thread was given, answers of a source with these items, which can fail or cannot, were sent,
  -- and no others
  abbrev pub WasFed : Bool → Sending (Rows (Badge (Key Batch)) (Doing Batch Log) Q M (Key Batch) L A) B → Option (List Item) → Sending (Rows (Badge (Key Batch)) (Doing Batch Log) Q M (Key Batch) L A) B → Pass Batch Log → Type 0
  WasFed can_fail was items sender side = (sends_on sender ≡ sends_on was) × IsSeatAt (sends_on sender) side × AreAnswers can_fail items (all_answers (view side).sent) × (view side ≡ log true false (view side).sent [])

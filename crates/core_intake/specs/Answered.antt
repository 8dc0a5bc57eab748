-- What is answered of a recording that another thread reads.
use Rattle.std.specs.Prelude.{◌≡◌, ◌||◌, ℕ, List, [], ◌∷◌, ◌++◌, Bool, true, false, Option, Some, None, Result, Ok, Err, IfSome, slice_index_or, slice_set}
use Rattle.apex_types.specs.declared.record.Ordered.{Ordered}
use Rattle.apex_types.specs.declared.record.Record.{Record}
use Rattle.csv_rows.specs.Source.{Gives}
use Rattle.record_read.specs.declared.fault.RowFault.{RowFault}
use Rattle.record_read.specs.Row.{Item}
use Rattle.record_read.specs.Steps.{IsOutside}

-- an answer of a source: the next record, the end, or a fault
abbrev pub Answer : Type 0
Answer = Result (Option Record) RowFault

-- what callers see of a core: how the text of its reader is read, if the reader's bytes are known, and the answers so far
pub record Answered : Type 0 where
  pub items : Option (List Item)
  pub given : List Answer

abbrev pub answered : Option (List Item) → List Answer → Answered
answered items given = record { items = items; given = given }

-- what is seen of the core with this number
abbrev pub answered_at : List Answered → ℕ → Answered
answered_at cores core = slice_index_or cores core (answered None [])

-- one more answer
abbrev pub after : Answered → Answer → Answered
after core answer = answered core.items (core.given ++ answer ∷ [])

-- an answer was put into a list of records, with these results: a record of this core comes last, at its place; the end and a fault change
-- nothing
abbrev pub PutsIn : ℕ → ℕ → Answer → List Ordered → Result Bool RowFault → List Ordered → Type 0
PutsIn core place (Ok (Some rec)) old result new = (result ≡ Ok true) × (new ≡ old ++ record { pos = place; core = core; rec = rec } ∷ [])
PutsIn core place (Ok None) old result new = (result ≡ Ok false) × (new ≡ old)
PutsIn core place (Err fault) old result new = (result ≡ Err fault) × (new ≡ old)

-- whether no answer follows one that was put into a list with this result
abbrev pub ends_after : Result Bool RowFault → Bool
ends_after (Ok true) = false
ends_after (Ok false) = true
ends_after (Err fault) = true

-- after the end and after a fault there is no answer
abbrev pub is_last : Answer → Bool
is_last (Ok (Some rec)) = false
is_last (Ok None) = true
is_last (Err fault) = true

-- the end or a fault was answered
abbrev pub has_ended : List Answer → Bool
has_ended [] = false
has_ended (answer ∷ later) = is_last answer || has_ended later

-- a core was asked for its next answer: it is one more; after the end and after a fault it is the end, and nothing changes
pub record IsNextAnswer (old : Answered) (answer : Answer) (new : Answered) : Type 0 where
  pub gives : has_ended old.given ≡ false → new ≡ after old answer
  pub ended : has_ended old.given ≡ true → answer ≡ Ok None
  pub stays : has_ended old.given ≡ true → new ≡ old

-- the same of the core with this number; the other cores stay as they are
pub record IsNextAnswerOf (old : List Answered) (core : ℕ) (answer : Answer) (new : List Answered) : Type 0 where
  pub gives : has_ended (answered_at old core).given ≡ false → new ≡ slice_set old core (after (answered_at old core) answer)
  pub ended : has_ended (answered_at old core).given ≡ true → answer ≡ Ok None
  pub stays : has_ended (answered_at old core).given ≡ true → new ≡ old

-- the answers of a source that can fail, or cannot, and has these items left, if they are known: each answer is one of what the answers
-- before it left, and none follows the end or a fault
abbrev pub AreAnswers : Bool → Option (List Item) → List Answer → Type 0
AreAnswers can_fail left [] = Unit {0}
AreAnswers can_fail left (answer ∷ later) =
    (next : Option (List Item)) × IfSome left (λ items. Gives (IsOutside can_fail) items answer next) × (is_last answer ≡ true → later ≡ [])
    × AreAnswers can_fail next later

-- the answers for a core are answers of a source of its recording, which can fail or cannot
abbrev pub IsHonest : Bool → Answered → Type 0
IsHonest can_fail core = AreAnswers can_fail core.items core.given

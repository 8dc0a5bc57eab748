-- What a service gives its caller, and what an operation on an object gives its caller and makes of the object.
use Rattle.std.specs.Prelude.{◌≡◌, ℕ, List, [], ◌∷◌, Option, Some, None, Bool, true, false, ℤ, pos, negsuc, nat_lt, nat_le, ◌&&◌, if◌then◌else◌}
use Rattle.apex_types.specs.declared.code.Code.{Code}
use Rattle.apex_types.specs.declared.code.Code.TheVariants as code
use Rattle.apex_types.specs.declared.record.Claim.{Claim}
use Rattle.apex_types.specs.declared.record.Out.{Out}
use Rattle.apex_types.specs.declared.record.Out.TheVariants as out
use Rattle.apex_types.specs.declared.record.Who.{Who}
use Rattle.apex_types.specs.declared.limits.TheConstants.{GREATEST_NUMBER}
use Rattle.apex_machine.specs.declared.state.Entry.{Entry}
use Rattle.apex_machine.specs.State.{is_named}
use Rattle.apex_machine.specs.Arguments.{is_over}

-- which value goes with an outcome: none, this number, or, for a creation, any number that nothing of its kind has
pub data Value : Type 0 where
  Nothing : Value
  Number : (number : ℤ) → Value
  NewNumber : (is_free : ℕ → Bool) → Value

-- what a service gives if no error condition holds: the outcome, its value, a second and a third value if it gives more, its message, and
-- the processes whose waits end
pub record Answer : Type 0 where
  pub out : Out
  pub val : Value
  pub val2 : Option ℤ
  pub val3 : Option ℤ
  pub bytes : List ℕ
  pub woken : List Who

-- the service is done at once, with this value
abbrev pub done_with : Value → Answer
done_with value = record { out = out.Answer code.NoError; val = value; val2 = None; val3 = None; bytes = []; woken = [] }

-- the service is done at once
abbrev pub done : Answer
done = done_with Nothing

-- the service is done at once, and the waits of these processes end
abbrev pub waking : List Who → Answer
waking woken = record { out = out.Answer code.NoError; val = Nothing; val2 = None; val3 = None; bytes = []; woken = woken }

-- the service gives a message at once, and the waits of these processes end
abbrev pub giving : List ℕ → List Who → Answer
giving message woken = record { out = out.Answer code.NoError; val = Nothing; val2 = None; val3 = None; bytes = message; woken = woken }

-- the call does not return, and the waits of these processes end
abbrev pub never_waking : List Who → Answer
never_waking woken = record { out = out.Never; val = Nothing; val2 = None; val3 = None; bytes = []; woken = woken }

-- the call does not return
abbrev pub never : Answer
never = never_waking []

-- the caller waits
abbrev pub waiting : Answer
waiting = record { out = out.Waits; val = Nothing; val2 = None; val3 = None; bytes = []; woken = [] }

-- the service answers at once with this code, and does nothing
abbrev pub answering : Code → Answer
answering code = record { out = out.Answer code; val = Nothing; val2 = None; val3 = None; bytes = []; woken = [] }

-- the service cannot have at once what it needs: with a time-out of 0 the code is NOT_AVAILABLE, else the caller waits
abbrev pub unmet : ℤ → Answer
unmet time_out = if is_over time_out then answering code.NotAvailable else waiting

-- an operation on an object: what it gives its caller, and the object after it
pub record Effect (Object : Type 0) : Type 0 where
  pub answer : Answer
  pub next : Object

-- an effect on a part of an object, as an effect on the whole object
abbrev pub effect_on : {Part Object : Type 0} → (Part → Object) → Effect Part → Effect Object
effect_on with_part effect = record { answer = effect.answer; next = with_part effect.next }

-- the processes that wait in a set
abbrev pub waiters_of : List Entry → List Who
waiters_of [] = []
waiters_of (entry ∷ entries) = entry.who ∷ waiters_of entries

-- claims of an answer

-- a new number is from 1 to 2,147,483,647, and free
abbrev pub is_new : (ℕ → Bool) → Option ℤ → Bool
is_new is_free None = false
is_new is_free (Some (negsuc n)) = false
is_new is_free (Some (pos n)) = nat_lt 0 n && (nat_le n GREATEST_NUMBER && is_free n)

-- whether a claimed value is the one that goes with the outcome
abbrev pub HasValue : Value → Option ℤ → Type 0
HasValue Nothing claimed = claimed ≡ None
HasValue (Number number) claimed = claimed ≡ Some number
HasValue (NewNumber is_free) claimed = is_new is_free claimed ≡ true

-- the values of a claim: the one that goes with the outcome, and exactly this second and this third one
pub record HasValues (value : Value) (second third : Option ℤ) (claim : Claim) : Type 0 where
  pub val : HasValue value claim.val
  pub val2 : claim.val2 ≡ second
  pub val3 : claim.val3 ≡ third

-- a claim has no value
abbrev pub HasNoValues : Claim → Type 0
HasNoValues claim = HasValues Nothing None None claim

-- a record names exactly these processes
abbrev pub NamesExactly : List Who → List Who → Type 0
NamesExactly woken claimed = (who : Who) → is_named who claimed ≡ is_named who woken

-- How the value under one key is read.
use Rattle.std.specs.Prelude.{◌≡◌, ◌≢◌, ℕ, suc, List, length, Option, Some, None, Result, Ok, Err, IsOk, Bool, ◌&&◌, nat_le, if◌then◌else◌}
use Rattle.std.specs.List.{list_all}
use Rattle.toml.specs.Data.{Data, string, array, Items, Members, no_members, member}
use Rattle.apex_types.specs.declared.limits.TheConstants.{LONGEST_RULE_NAME}
use Rattle.record_read.specs.Payload.{is_printable}
use Rattle.asked_rules.specs.declared.fault.RuleFault.{RuleFault}
use Rattle.asked_rules.specs.declared.fault.RuleFault.TheVariants.{BadName, Missing, UnknownKey, WrongType}
use Rattle.asked_rules.specs.declared.refusal.RuleKey.{RuleKey}
use Rattle.asked_rules.specs.declared.refusal.RuleKey.TheVariants.{Name}
use Rattle.asked_rules.specs.declared.refusal.RuleRefusal.{RuleRefusal}

infixl 10 ◌>>=◌
-- a reading followed by the next one; the first refusal is the answer
abbrev pub ◌>>=◌ : {A B F : Type 0} → Result A F → (A → Result B F) → Result B F
(Ok value) >>= next = next value
(Err fault) >>= next = Err fault

-- the answer of a call is the reading: its value as the definitions see it, or its refusal
abbrev pub Reads : {A B F : Type 0} → (A → B) → Result A F → Result B F → Type 0
Reads view (Ok value) reading = reading ≡ Ok (view value)
Reads view (Err fault) reading = reading ≡ Err fault

-- what a call built is the reading; if memory ran out it built nothing, and then the reading is not a refusal
abbrev pub Builds : {A B F : Type 0} → (A → B) → Result (Option A) F → Result B F → Type 0
Builds view (Ok (Some value)) reading = reading ≡ Ok (view value)
Builds view (Ok None) reading = IsOk reading
Builds view (Err fault) reading = reading ≡ Err fault

-- the answer of a call is the reading, unless the answer is this fault, a lack of memory
abbrev pub Gives : {A B F : Type 0} → F → (A → B) → Result A F → Result B F → Type 0
Gives memory view (Ok value) reading = reading ≡ Ok (view value)
Gives memory view (Err fault) reading = fault ≢ memory → reading ≡ Err fault

-- a refusal at this key
abbrev pub at : RuleKey → RuleFault → RuleRefusal
at key fault = record { fault = fault; key = Some key }

-- a refusal at no key
abbrev pub nowhere : RuleFault → RuleRefusal
nowhere fault = record { fault = fault; key = None }

-- the value under a key, which is required
abbrev pub required : RuleKey → Option Data → Result Data RuleRefusal
required key None = Err (at key Missing)
required key (Some value) = Ok value

-- 1 if a key is there, else 0
abbrev pub given : Option Data → ℕ
given None = 0
given (Some value) = 1

-- how many keys a table has
abbrev pub member_count : Members → ℕ
member_count no_members = 0
member_count (member key value members) = suc (member_count members)

-- a table has at most this many keys
abbrev pub no_more : ℕ → Members → Result Unit RuleRefusal
no_more count keys = if nat_le (member_count keys) count then Ok tt else Err (nowhere UnknownKey)

-- a string, under this key
abbrev pub text_in : RuleKey → Data → Result (List ℕ) RuleRefusal
text_in key (string text) = Ok text
text_in key _ = Err (at key WrongType)

-- a list
abbrev pub list_in : Data → Result Items RuleRefusal
list_in (array items) = Ok items
list_in _ = Err (nowhere WrongType)

-- a text of 1 to 64 bytes, all printable
abbrev pub is_name : List ℕ → Bool
is_name text = nat_le 1 (length text) && (nat_le (length text) LONGEST_RULE_NAME && list_all is_printable text)

-- the name of a memory or a rule
abbrev pub name_in : Data → Result (List ℕ) RuleRefusal
name_in value = text_in Name value >>= (λ text. if is_name text then Ok text else Err (at Name BadName))

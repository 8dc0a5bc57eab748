-- A relation of some levels, and lists of relations, level by level and item by item.
use Rattle.std.proofs.Common.{◌≡◌, ◌<◌, ◌-◌, ℕ, zero, suc, List, [], ◌∷◌, length, Bool, Ok, Err, Some, None, refl, arith}
use Rattle.std.specs.Prelude.{Option, Result, IsOk}
use Rattle.std.specs.List.{IsFirstAndRest}
use Rattle.std.specs.Result.{IsErrAnd}
use Rattle.toml.specs.Data.{Data, Items, Members, as_table, table}
use Rattle.toml.specs.View.{view, items_view}
use Rattle.toml.specs.declared.value.Value.{Value}
use Rattle.user_rules.specs.Meets.{meets}
use Rattle.user_rules.specs.declared.relation.Relation.{Relation}
use Rattle.asked_rules.specs.declared.refusal.RuleRefusal.{RuleRefusal}
use Rattle.asked_rules.specs.declared.relation.Join.{Join}
use Rattle.asked_rules.specs.Joins.{IsJoined, joins}
use Rattle.asked_rules.specs.Keys.{◌>>=◌, Builds}
use Rattle.asked_rules.specs.Relations.{Holds, joined, relation_in, relation_under}

-- a table with a level and more is read with what is left below it
pub a_level_down : (above : Items) (levels : ℕ) (value : Data) (keys : Members) → 0 < levels → Some keys ≡ as_table value
    → relation_in above levels value ≡ relation_under above (relation_in above (levels - 1)) keys
unfolding relation_in
a_level_down above zero value keys some is = absurd (omega arith)
a_level_down above (suc levels) (table given) keys some is =
    let e : suc levels - 1 ≡ levels = omega arith in
    let same : keys ≡ given = cc in
    rw (e, same) refl
a_level_down above (suc levels) _ keys some is = cc

-- two readings, put together
abbrev pub two_joined : (Bool → Bool → Bool) → Result Holds RuleRefusal → Result Holds RuleRefusal → Result Holds RuleRefusal
two_joined join one other = one >>= (λ first. other >>= (λ others. Ok (λ seen. join (first seen) (others seen))))

-- an item that others come after is put together with them
pub joined-more : (join : Bool → Bool → Bool) (reading : Data → Result Holds RuleRefusal) (values : List Value) (value : Value) (rest : List Value)
    → IsFirstAndRest values value rest → 0 < length rest
    → joined join reading (items_view values) ≡ two_joined join (reading (view value)) (joined join reading (items_view rest))
joined-more join reading values value [] is some = absurd (omega arith)
joined-more join reading values value (next ∷ rest) is some = rw is.0 refl

-- what was built is no refusal
is_read : (found : Option Relation) (reading : Result Holds RuleRefusal) → Builds meets (Ok found) reading → IsOk reading
is_read (Some relation) reading is = rw is refl
is_read None reading is = is

-- nor is what is put together of two that are none
both_read : (join : Bool → Bool → Bool) (one other : Result Holds RuleRefusal) → IsOk one → IsOk other → IsOk (two_joined join one other)
both_read join (Ok first) (Ok others) first_is others_is = refl
both_read join (Ok first) (Err fault) first_is others_is = cc
both_read join (Err fault) other first_is others_is = cc

-- what is built of two that were built
pub both_built : (join : Join) (one other : Result Holds RuleRefusal) (first others both : Option Relation)
    → Builds meets (Ok first) one → Builds meets (Ok others) other → IsJoined join first others both → Builds meets (Ok both) (two_joined (joins join) one other)
both_built join one other first others None first_is others_is together = both_read (joins join) one other (is_read first one first_is) (is_read others other others_is)
both_built join one other (Some first) (Some others) (Some both) first_is others_is together = rw (first_is, others_is, together) refl
both_built join one other (Some first) None (Some both) first_is others_is together = absurd together
both_built join one other None others (Some both) first_is others_is together = absurd together

-- if those after an item are refused, the list is
pub after_refused : (join : Bool → Bool → Bool) (one other : Result Holds RuleRefusal) (first : Option Relation) (fault : RuleRefusal) → Builds meets (Ok first) one → other ≡ Err fault
    → (result : Result (Option Relation) RuleRefusal) → IsErrAnd result (λ given. given ≡ fault) → Builds meets result (two_joined join one other)
after_refused join one other first fault is refused (Ok found) same = absurd same
after_refused join (Ok holds) other first fault is refused (Err given) same = rw (refused, same) refl
after_refused join (Err found) other (Some first) fault is refused (Err given) same = cc
after_refused join (Err found) other None fault is refused (Err given) same = cc

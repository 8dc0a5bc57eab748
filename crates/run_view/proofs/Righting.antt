-- The processes that a record names wrongly, one more each time.
use Rattle.std.proofs.Common.{◌≡◌, ◌<◌, ◌≤◌, ◌+◌, ◌∙◌, ℕ, zero, suc, List, [], ◌∷◌, ◌++◌, Some, None, length, get_or, take, refl, sym, ap, arith}
use Rattle.std.proofs.lemmas.List.{flat_map_more, take_all, take_more}
use Rattle.std.specs.Borrow.{Bor}
use Rattle.std.specs.List.{flat_map, slice_get}
use Rattle.apex_types.specs.declared.record.Who.{Who}
use Rattle.apex_machine.specs.Answer.{NamesExactly}
use Rattle.apex_machine.specs.Pieces.{Part, ChannelPart, ModulePart, PartitionPart}
use Rattle.apex_machine.specs.State.{Partition, Table}
use Rattle.scheduling.specs.Clocks.{Clocks}
use Rattle.piece_check.specs.declared.seen.Seen.{Seen}
use Rattle.piece_check.specs.declared.seen.Seen.TheVariants as seen
use Rattle.piece_check.specs.Seen.{IsSeen}
use Rattle.run_view.specs.declared.lawful.Lawful.{Lawful}
use Rattle.run_view.specs.Lawful.{PutsRight, all_put_right, all_put_right_at_tick, put_right_at_tick}

-- one more of a list
pub one_more : {Item : Type 0} (right : Item → List Lawful) (items : List Item) (index : ℕ) (item : Item) (old shown new : List Lawful) → index < length items
    → item ≡ get_or items index item → shown ≡ old ++ flat_map right (take index items) → new ≡ shown ++ right item
    → new ≡ old ++ flat_map right (take (index + 1) items)
one_more right items index item old shown new less is so more =
    more ∙ ap (λ list. list ++ right item) so ∙ flat_map_more right old (take index items) item
    ∙ ap (λ list. old ++ flat_map right list) (ap (λ one. take index items ++ one ∷ []) is ∙ sym (take_more items index item less))

-- an item of a list, by its index
pub got : {Item : Type 0} (items : List Item) (index : ℕ) (item : Item) → Some item ≡ slice_get items index → (index < length items) × (item ≡ get_or items index item)
got [] index item is = cc
got (first ∷ others) zero item is = (omega arith, (let same : item ≡ first = cc in same))
got (first ∷ others) (suc index) item is =
    let there = got others index item is in
    (omega (arith, there.0), there.1)

-- after the last item of a list there are no more
pub no_more : {Item : Type 0} (items : List Item) (index : ℕ) → None ≡ slice_get items index → length items ≤ index
no_more [] index none = omega arith
no_more (first ∷ others) zero none = cc
no_more (first ∷ others) (suc index) none = let rest = no_more others index none in omega (arith, rest)

-- the processes of a partition that is seen are those of its part
pub at_tick : (part : Part) (number : ℕ) (clock : Bor Clocks) (state : Bor Partition) (core : ℕ) (woken : List Who) → IsSeen part (seen.Partition number clock state)
    → all_put_right_at_tick number part core woken state.now.table ≡ put_right_at_tick part core woken
at_tick (ModulePart cores) number clock state core woken is = absurd is
at_tick (PartitionPart other cores partition) number clock state core woken is =
    ap (λ one. all_put_right_at_tick one (PartitionPart other cores partition) core woken state.now.table) is.0
    ∙ ap (λ held. all_put_right_at_tick other (PartitionPart other cores partition) core woken held.table) is.2
at_tick (ChannelPart other times channel) number clock state core woken is = absurd is

-- a part that is not seen as a partition has no processes
pub not_at_tick : (part : Part) (found : Seen) (core : ℕ) (woken : List Who) → IsSeen part found
    → ((number : ℕ) (clock : Bor Clocks) (state : Bor Partition) → found ≡ seen.Partition number clock state → ⊥) → [] ≡ put_right_at_tick part core woken
not_at_tick (ModulePart cores) found core woken is other = refl
not_at_tick (PartitionPart number cores partition) (seen.Module clock) core woken is other = absurd is
not_at_tick (PartitionPart number cores partition) (seen.Partition shown clock state) core woken is other = absurd (other shown clock state refl)
not_at_tick (PartitionPart number cores partition) (seen.Channel times channel) core woken is other = absurd is
not_at_tick (ChannelPart number times channel) found core woken is other = refl

-- a call's wrong names: first among the processes whose waits it ends, and then among those that it names
pub puts_right : (woken named ended first second : List Who) (none one two : List Lawful) → NamesExactly woken ended → none ≡ [] → first ≡ ended → second ≡ named
    → one ≡ none ++ all_put_right woken named first → two ≡ one ++ all_put_right woken named second → PutsRight woken named two
puts_right woken named ended first second none one two exactly empty of_ended of_named once twice = (
  ended,
  exactly,
  twice
      ∙ ap (λ (list : List Lawful). list ++ all_put_right woken named second)
      (once ∙ ap (λ (list : List Lawful). list ++ all_put_right woken named first) empty ∙ ap (λ (list : List Who). all_put_right woken named list) of_ended)
      ∙ ap (λ (list : List Who). all_put_right woken named ended ++ all_put_right woken named list) of_named,
)

-- after all processes of a partition
pub all_at_tick : (part : Part) (number : ℕ) (clock : Bor Clocks) (state : Bor Partition) (core : ℕ) (woken : List Who) (table : Table) (index : ℕ) (shown : List Lawful)
    → IsSeen part (seen.Partition number clock state) → table ≡ state.now.table → length table ≤ index → shown ≡ all_put_right_at_tick number part core woken (take index table)
    → shown ≡ put_right_at_tick part core woken
all_at_tick part number clock state core woken table index shown is held whole so =
    so ∙ ap (λ (entries : Table). all_put_right_at_tick number part core woken entries) (take_all index table whole ∙ held) ∙ at_tick part number clock state core woken is

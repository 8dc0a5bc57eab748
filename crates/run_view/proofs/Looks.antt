-- What is seen after a look at one piece more, and what is found there.
use Rattle.std.proofs.Common.{◌≡◌, ◌≢◌, ◌<◌, ◌≤◌, ◌+◌, ◌∙◌, inl, inr, ℕ, zero, suc, List, [], ◌∷◌, ◌++◌, Option, Result, true, false, length, get_or, map, refl, sym, ap, subst, arith}
use Rattle.std.proofs.Math.ListN.{set}
use Rattle.std.proofs.lemmas.Bool.{false≢true}
use Rattle.std.proofs.lemmas.List.{get_or-map, get_or-set_other, get_or-set_same, length-map, map-set}
use Rattle.std.proofs.lemmas.Result.{on_ok_weaker}
use Rattle.std.specs.Result.{OnOk}
use Rattle.apex_types.specs.declared.record.Ordered.{Ordered}
use Rattle.apex_machine.specs.Configuration.{Configuration}
use Rattle.apex_machine.specs.Pieces.{Part}
use Rattle.piece_check.specs.Parts.{Holding}
use Rattle.run_view.specs.declared.change.Change.{Change}
use Rattle.run_view.specs.Adds.{Adds}
use Rattle.run_view.specs.declared.last_seen.LastSeen.{LastSeen}
use Rattle.run_view.specs.declared.last_seen.SeenPiece.{SeenPiece}
use Rattle.run_view.specs.Seen.{IsFound, IsFoundAt, IsFoundInPart, IsHolding, PieceSeen, Sees, SeesAfter, SeesAllAfter, looks_at, nothing_seen, piece_seen, seen_of}
use Rattle.run_view.proofs.AddsExactly.{IsBelow, adds_no_change, adds_none_below, adds_same, adds_up, at_or_below, same_item, within}

-- a piece that a look is not at is seen as before
pub passes : (configuration : Configuration) (part : Part) (ordered : Option Ordered) (seen : PieceSeen) → looks_at configuration part ordered ≡ false
    → SeesAfter configuration part ordered seen seen
passes configuration part ordered seen not = record { looked = λ looks. absurd (false≢true (sym not ∙ looks)); passed = λ _. refl }

-- and nothing is found there
pub finds_nothing : (configuration : Configuration) (part : Part) (ordered : Option Ordered) (seen : PieceSeen) (old : List Change) → looks_at configuration part ordered ≡ false
    → Adds (IsFoundAt configuration part ordered seen seen) old old
finds_nothing configuration part ordered seen old not =
    adds_no_change {IsSo = IsFoundAt configuration part ordered seen seen} old (λ change found. absurd (false≢true (sym not ∙ found.0)))

-- a piece that a look is at is seen as it is
pub looks : (configuration : Configuration) (part : Part) (ordered : Option Ordered) (before after : PieceSeen) → looks_at configuration part ordered ≡ true → Sees configuration part after
    → SeesAfter configuration part ordered before after
looks configuration part ordered before after at sees = record { looked = λ _. sees; passed = λ not. absurd (false≢true (sym not ∙ at)) }

-- and what has changed is found there
pub finds : (configuration : Configuration) (part : Part) (ordered : Option Ordered) (before after : PieceSeen) (old new : List Change) → looks_at configuration part ordered ≡ true
    → Adds (IsFoundInPart part before after) old new → Adds (IsFoundAt configuration part ordered before after) old new
finds configuration part ordered before after old new at adds =
    adds_same {IsSo = IsFoundInPart part before after} {AlsoIs = IsFoundAt configuration part ordered before after} (λ change found. (at, found)) (λ change found. found.1) adds

-- what is found in the piece of this number
abbrev pub IsFoundIn : Configuration → List Holding → Option Ordered → (ℕ → PieceSeen) → (ℕ → PieceSeen) → ℕ → Change → Type 0
IsFoundIn configuration holdings ordered before after number change =
    (holding : Holding) × IsHolding holdings number holding × IsFoundAt configuration holding.part ordered (before number) (after number) change

-- after the pieces below this number were looked at
pub record AreLookedAt (configuration : Configuration) (holdings : List Holding) (ordered : Option Ordered) (before now : ℕ → PieceSeen) (end : ℕ) (old new : List Change) : Type 0 where
  pub seen : (number : ℕ) (holding : Holding) → number < end → IsHolding holdings number holding → SeesAfter configuration holding.part ordered (before number) (now number)
  pub later : (number : ℕ) → end ≤ number → now number ≡ before number
  pub changes : Adds (IsBelow (IsFoundIn configuration holdings ordered before now) end) old new

pub none_looked_at : (configuration : Configuration) (holdings : List Holding) (ordered : Option Ordered) (before now : ℕ → PieceSeen) (old : List Change)
    → ((number : ℕ) → now number ≡ before number) → AreLookedAt configuration holdings ordered before now 0 old old
none_looked_at configuration holdings ordered before now old same = record {
  seen = λ number holding less is. absurd (omega (arith, less));
  later = λ number _. same number;
  changes = adds_none_below (IsFoundIn configuration holdings ordered before now) old;
}

below_is_other : (number end : ℕ) → number < end → number ≢ end
below_is_other number end less = omega arith

-- what was found in the pieces below stays so
stays_found : (configuration : Configuration) (holdings : List Holding) (ordered : Option Ordered) (before now next : ℕ → PieceSeen) (end : ℕ) (change : Change)
    → ((other : ℕ) → other ≢ end → now other ≡ next other) → IsBelow (IsFoundIn configuration holdings ordered before now) end change
    → IsBelow (IsFoundIn configuration holdings ordered before next) end change
stays_found configuration holdings ordered before now next end change others found = (
  found.0,
  found.1,
  (found.2.0, found.2.1, subst (λ one. IsFoundAt configuration found.2.0.part ordered (before found.0) one change) (others found.0 (below_is_other found.0 end found.1)) found.2.2),
)

seen_one_more : (configuration : Configuration) (holdings : List Holding) (ordered : Option Ordered) (before now next : ℕ → PieceSeen) (end : ℕ) (holding : Holding)
    → IsHolding holdings end holding
    → ((number : ℕ) (other : Holding) → number < end → IsHolding holdings number other → SeesAfter configuration other.part ordered (before number) (now number))
    → SeesAfter configuration holding.part ordered (before end) (next end) → ((other : ℕ) → other ≢ end → next other ≡ now other) → (number : ℕ) (other : Holding) → number < end + 1
    → IsHolding holdings number other → SeesAfter configuration other.part ordered (before number) (next number)
seen_one_more configuration holdings ordered before now next end holding is seen sees others number other less at = elim (at_or_below number end less) [
  | inl below ↦
      subst (λ one. SeesAfter configuration other.part ordered (before number) one) (sym (others number (below_is_other number end below))) (seen number other below at)
  | inr same ↦
      subst (λ one. SeesAfter configuration other.part ordered (before one) (next one)) (sym same)
      (subst (λ (one : Holding). SeesAfter configuration one.part ordered (before end) (next end))
      (same_item holdings end holding other is (subst (λ one. IsHolding holdings one other) same at)) sees)
]

-- one piece more was looked at
pub one_more_looked_at : (configuration : Configuration) (holdings : List Holding) (ordered : Option Ordered) (before now next : ℕ → PieceSeen) (end : ℕ) (holding : Holding)
    (old mid new : List Change) → IsHolding holdings end holding → AreLookedAt configuration holdings ordered before now end old mid
    → SeesAfter configuration holding.part ordered (now end) (next end) → Adds (IsFoundAt configuration holding.part ordered (now end) (next end)) mid new
    → ((other : ℕ) → other ≢ end → next other ≡ now other) → AreLookedAt configuration holdings ordered before next (end + 1) old new
one_more_looked_at configuration holdings ordered before now next end holding old mid new is looked sees adds others =
    let unseen : now end ≡ before end = looked.later end (omega arith) in
    let first = adds_same {IsSo = IsBelow (IsFoundIn configuration holdings ordered before now) end} {AlsoIs = IsBelow (IsFoundIn configuration holdings ordered before next) end}
    (λ change found. stays_found configuration holdings ordered before now next end change (λ other not. sym (others other not)) found)
    (λ change found. stays_found configuration holdings ordered before next now end change others found) looked.changes in
    let here = adds_same {IsSo = IsFoundAt configuration holding.part ordered (now end) (next end)} {AlsoIs = IsFoundIn configuration holdings ordered before next end}
    (λ change found. (holding, is, subst (λ one. IsFoundAt configuration holding.part ordered one (next end) change) unseen found))
    (λ change found.
    subst (λ (one : Holding). IsFoundAt configuration one.part ordered (now end) (next end) change) (same_item holdings end found.0 holding found.1 is)
    (subst (λ one. IsFoundAt configuration found.0.part ordered one (next end) change) (sym unseen) found.2)) adds in
    record {
      seen = seen_one_more configuration holdings ordered before now next end holding is looked.seen (subst (λ one. SeesAfter configuration holding.part ordered one (next end)) unseen sees) others;
      later = λ number after. others number (omega arith) ∙ looked.later number (omega arith);
      changes = adds_up (IsFoundIn configuration holdings ordered before next) end first here;
    }

-- all pieces were looked at
pub all_seen : (configuration : Configuration) (holdings : List Holding) (ordered : Option Ordered) (before after : LastSeen) (end : ℕ) (old new : List Change) → length holdings ≤ end
    → AreLookedAt configuration holdings ordered (seen_of before) (seen_of after) end old new → SeesAllAfter configuration holdings ordered before after
all_seen configuration holdings ordered before after end old new all looked number holding is =
    looked.seen number holding (let less = within holdings number holding is in omega arith) is

pub all_found : (configuration : Configuration) (holdings : List Holding) (ordered : Option Ordered) (before after : LastSeen) (end : ℕ) (old new : List Change) → length holdings ≤ end
    → AreLookedAt configuration holdings ordered (seen_of before) (seen_of after) end old new → Adds (IsFound configuration holdings ordered before after) old new
all_found configuration holdings ordered before after end old new all looked =
    adds_same {IsSo = IsBelow (IsFoundIn configuration holdings ordered (seen_of before) (seen_of after)) end} {AlsoIs = IsFound configuration holdings ordered before after}
    (λ change found. (found.0, found.2.0, found.2.1, found.2.2))
    (λ change found. (found.0, (let less = within holdings found.0 found.1 found.2 in omega arith), (found.1, found.2, found.3))) looked.changes

-- what is seen of a piece after it was looked at
pub it_is_seen : (pieces : List SeenPiece) (number : ℕ) (piece : SeenPiece) → number < length pieces → get_or (map piece_seen (set pieces number piece)) number nothing_seen ≡ piece_seen piece
it_is_seen pieces number piece less =
    ap (λ list. get_or list number nothing_seen) (map-set piece_seen pieces number piece)
    ∙ get_or-set_same (map piece_seen pieces) number (piece_seen piece) nothing_seen (omega (arith, length-map pieces piece_seen))

-- the others are seen as before
pub others_are_seen : (pieces : List SeenPiece) (number other : ℕ) (piece : SeenPiece) → other ≢ number
    → get_or (map piece_seen (set pieces number piece)) other nothing_seen ≡ get_or (map piece_seen pieces) other nothing_seen
others_are_seen pieces number other piece not =
    ap (λ list. get_or list other nothing_seen) (map-set piece_seen pieces number piece) ∙ get_or-set_other (map piece_seen pieces) number other (piece_seen piece) nothing_seen not

-- room for one piece more leaves what is seen
pub room_is_unseen : (pieces : List SeenPiece) (piece : SeenPiece) (number : ℕ) → piece_seen piece ≡ nothing_seen
    → get_or (map piece_seen (pieces ++ piece ∷ [])) number nothing_seen ≡ get_or (map piece_seen pieces) number nothing_seen
room_is_unseen [] piece zero is = is
room_is_unseen [] piece (suc number) is = refl
room_is_unseen (first ∷ others) piece zero is = refl
room_is_unseen (first ∷ others) piece (suc number) is = room_is_unseen others piece number is

-- what was seen of a piece before it was looked at
it_was_seen : (pieces : List SeenPiece) (number : ℕ) (piece : SeenPiece) → number < length pieces → piece ≡ get_or pieces number piece
    → get_or (map piece_seen pieces) number nothing_seen ≡ piece_seen piece
it_was_seen pieces number piece less is = get_or-map piece_seen pieces number piece nothing_seen less ∙ ap piece_seen (sym is)

-- a piece that is looked at is seen as it is
pub one_is_seen : {T E : Type 0} (configuration : Configuration) (part : Part) (ordered : Option Ordered) (pieces : List SeenPiece) (number : ℕ) (piece : SeenPiece) (result : Result T E)
    → number < length pieces → looks_at configuration part ordered ≡ true → OnOk result (Sees configuration part (piece_seen piece))
    → OnOk result
    (SeesAfter configuration part ordered (get_or (map piece_seen pieces) number nothing_seen) (get_or (map piece_seen (set pieces number piece)) number nothing_seen))
one_is_seen configuration part ordered pieces number piece result less at sees =
    on_ok_weaker result
    (λ (seen : Sees configuration part (piece_seen piece)).
    looks configuration part ordered (get_or (map piece_seen pieces) number nothing_seen) (get_or (map piece_seen (set pieces number piece)) number nothing_seen) at
    (subst (λ one. Sees configuration part one) (sym (it_is_seen pieces number piece less)) seen)) sees

-- and its changes are found
pub one_is_found : {T E : Type 0} (configuration : Configuration) (part : Part) (ordered : Option Ordered) (pieces : List SeenPiece) (number : ℕ) (was piece : SeenPiece) (result : Result T E)
    (old new : List Change) → number < length pieces → was ≡ get_or pieces number was → looks_at configuration part ordered ≡ true
    → OnOk result (Adds (IsFoundInPart part (piece_seen was) (piece_seen piece)) old new)
    → OnOk result
    (Adds
    (IsFoundAt configuration part ordered (get_or (map piece_seen pieces) number nothing_seen) (get_or (map piece_seen (set pieces number piece)) number nothing_seen))
    old new)
one_is_found configuration part ordered pieces number was piece result old new less is at found =
    on_ok_weaker result
    (λ (adds : Adds (IsFoundInPart part (piece_seen was) (piece_seen piece)) old new).
    finds configuration part ordered (get_or (map piece_seen pieces) number nothing_seen) (get_or (map piece_seen (set pieces number piece)) number nothing_seen) old new at
    (subst (λ one. Adds (IsFoundInPart part one (get_or (map piece_seen (set pieces number piece)) number nothing_seen)) old new) (sym (it_was_seen pieces number was less is))
    (subst (λ one. Adds (IsFoundInPart part (piece_seen was) one) old new) (sym (it_is_seen pieces number piece less)) adds))) found

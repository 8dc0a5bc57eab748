-- The views that are kept of the records that a piece judges, to be tested afterwards.
use Rattle.std.specs.Prelude.{◌≡◌, ◌<◌, ◌≤◌, ℕ, List, [], ◌∷◌, ◌++◌, Contains, Option, Some, None, length}
use Rattle.std.specs.Vec.{vec_capacity}
use Rattle.apex_types.specs.declared.view.View.{View}
use Rattle.verdict_merge.specs.declared.breach.Seen.{Seen}
use Rattle.verdict_merge.specs.declared.kept.Kept.{Kept}
use Rattle.verdict_merge.specs.declared.finding.Refused.{Refused}
use Rattle.verdict_merge.specs.Views.{seen_of}

-- these views, each with the index of its record
abbrev pub seen_in : List ℕ → List View → List Seen
seen_in [] views = []
seen_in (index ∷ indices) [] = []
seen_in (index ∷ indices) (view ∷ views) = record { index = index; view = view } ∷ seen_in indices views

-- each view is of an earlier record than the views after it
abbrev pub AreRising : List Seen → Type 0
AreRising [] = Unit {0}
AreRising (one ∷ others) = ((other : Seen) → Contains others other → one.index < other.index) × AreRising others

-- the view of a record, unless the record is rejected
abbrev pub view_unless : Option Refused → Option View → Option View
view_unless None given = given
view_unless (Some refused) given = None

-- the view of the record with this index, if there is one, is kept after the views so far
abbrev pub HasKept : Option View → ℕ → Kept → Kept → Type 0
HasKept given index old new = seen_in new.indices.items new.views.items ≡ seen_in old.indices.items old.views.items ++ seen_of given index

-- there is room for this many views
pub record HasRoom (count : ℕ) (kept : Kept) : Type 0 where
  pub indices : count ≤ vec_capacity kept.indices
  pub views : count ≤ vec_capacity kept.views

-- the room stays as it is
pub record KeepsRoom (old new : Kept) : Type 0 where
  pub indices : vec_capacity new.indices ≡ vec_capacity old.indices
  pub views : vec_capacity new.views ≡ vec_capacity old.views

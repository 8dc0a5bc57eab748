-- Views with the values of memories at them: one fold over the views.
use Rattle.std.specs.Prelude.{ℤ, List, [], ◌∷◌, map}
use Rattle.apex_types.specs.declared.view.View.{View}
use Rattle.user_rules.specs.declared.memory.Cell.{Cell}
use Rattle.user_rules.specs.declared.memory.RuleMemory.{RuleMemory}
use Rattle.user_rules.specs.declared.relation.Relation.{Relation}
use Rattle.user_rules.specs.Meets.{Valued, with_values}
use Rattle.user_rules.specs.Memories.{kept_after_view, nothing, values_at}

-- a view with the values at it, if memories have kept this of the views before it
abbrev pub valued_at : List RuleMemory → List (List Cell) → View → Valued
valued_at memories kept view = with_values view (values_at memories kept view)

-- views with the values at them: the values at a view are read first, and then the memories keep what they keep of it
abbrev pub valued_after : List RuleMemory → List (List Cell) → List View → List Valued
valued_after memories kept [] = []
valued_after memories kept (view ∷ views) =
    valued_at memories kept view ∷ valued_after memories (kept_after_view memories kept (valued_at memories kept view)) views

-- what memories keep after views
abbrev pub kept_after : List RuleMemory → List (List Cell) → List View → List (List Cell)
kept_after memories kept [] = kept
kept_after memories kept (view ∷ views) = kept_after memories (kept_after_view memories kept (valued_at memories kept view)) views

-- the values of memories at each of these views, from the first view on
abbrev pub remembered : List RuleMemory → List View → List (List ℤ)
remembered memories views = map (λ one. one.values) (valued_after memories (nothing memories) views)

-- what a user requires: relations that hold for each view with the values at it, and memories, which have kept this of the views so far
pub record Requirements : Type 0 where
  pub memories : List RuleMemory
  pub kept : List (List Cell)
  pub relations : List Relation

-- views with the values at them
abbrev pub valued : Requirements → List View → List Valued
valued requirements views = valued_after requirements.memories requirements.kept views

-- what is required of the views that come after these
abbrev pub after : Requirements → List View → Requirements
after requirements views = record {
  memories = requirements.memories;
  kept = kept_after requirements.memories requirements.kept views;
  relations = requirements.relations;
}

-- what is required if the memories have kept this
abbrev pub with_kept : Requirements → List (List Cell) → Requirements
with_kept requirements kept = record { memories = requirements.memories; kept = kept; relations = requirements.relations }

-- what is required from the first view on
abbrev pub required_by : List RuleMemory → List Relation → Requirements
required_by memories relations = record { memories = memories; kept = nothing memories; relations = relations }

-- What a search and the machine at its tip agree on.
use Rattle.std.specs.Prelude.{◌≡◌, ◌<◌, ◌≤◌, ◌+◌, ◌*◌, ℕ, List, [], Option, Some, None}
use Rattle.order_search.specs.declared.budget.Effort.{Effort}
use Rattle.order_search.specs.declared.end.End.TheVariants.{EffortUsed}
use Rattle.order_search.specs.declared.end.Step.{Step}
use Rattle.order_search.specs.declared.end.Step.TheVariants.{Next, Over}
use Rattle.order_search.specs.declared.search.Search.{Search}

-- the cores of the records that a search has placed and not decided, in their order
abbrev pub undecided_of : {Thing : Type 0} → Search Thing → List ℕ
undecided_of search = search.placed.cores.items

-- how many cores the module has
abbrev pub cores_of : {Thing : Type 0} → Search Thing → ℕ
cores_of search = search.placed.most

-- how many records a search has tried
abbrev pub tried_of : {Thing : Type 0} → Search Thing → ℕ
tried_of search = search.budget.effort.tried

-- the machine has taken exactly the records that the search has placed
abbrev pub Agrees : {Thing : Type 0} → Search Thing → List ℕ → Type 0
Agrees search undecided = undecided ≡ search.placed.cores.items

-- the search goes on, and the machine has taken exactly the records that it has placed
pub record IsOpen {Thing : Type 0} (search : Search Thing) (undecided : List ℕ) : Type 0 where
  pub taken : undecided ≡ search.placed.cores.items
  pub unfinished : search.finished ≡ None

-- a part of the search decides no record: the search and the machine agree after it, and the module has its cores
pub record DecidesNone {Thing : Type 0} (before : Search Thing) (decided_before : ℕ) (after : Search Thing) (decided_after : ℕ) (undecided : List ℕ) : Type 0 where
  pub agrees : Agrees after undecided
  pub decided : decided_after ≡ decided_before
  pub cores : cores_of after ≡ cores_of before

-- a part of the search tries what it takes from what is left to try, and nothing else changes of that
pub record Spends {Thing : Type 0} (before after : Search Thing) : Type 0 where
  pub sum : tried_of after + after.budget.left ≡ tried_of before + before.budget.left
  pub left : after.budget.left ≤ before.budget.left

-- one try: if there is something left to try, more is tried after it; if not, the search ends for that
abbrev pub IsTry : {Thing : Type 0} → Search Thing → Search Thing → Type 0
IsTry before after = (0 < before.budget.left → tried_of before < tried_of after) × (before.budget.left ≡ 0 → after.finished ≡ Some EffortUsed)

-- as many records were tried as may be: so many for each record placed, and once more; at most the greatest number of 64 bits are counted
abbrev pub HasTriedAll : Effort → Type 0
HasTriedAll effort = effort.tried < 0xFFFFFFFFFFFFFFFF → effort.tried ≡ effort.allowed * (effort.reached + 1)

-- how many records a step decides
abbrev pub decided_by : Step → ℕ
decided_by (Next core) = 1
decided_by (Over end) = 0

-- the core of a step is one of the module
abbrev pub IsOfModule : ℕ → Step → Type 0
IsOfModule cores (Next core) = core < cores
IsOfModule cores (Over end) = Unit {0}

-- if a step ends the search, no record is left undecided
abbrev pub IsOverWith : List ℕ → Step → Type 0
IsOverWith undecided (Next core) = Unit {0}
IsOverWith undecided (Over end) = undecided ≡ []

-- the core of a step is that of the record that was decided last
abbrev pub IsLast : Option ℕ → Step → Type 0
IsLast last (Next core) = last ≡ Some core
IsLast last (Over end) = Unit {0}

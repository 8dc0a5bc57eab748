-- The views of the records that the pieces go over, and the first that breaks a rule.
use Rattle.std.specs.Prelude.{◌≡◌, ◌<◌, ◌-◌, ℕ, suc, List, [], ◌∷◌, ◌++◌, Contains, Option, Some, None, length, nat_lt, if◌then◌else◌}
use Rattle.std.specs.Option.{option_map}
use Rattle.apex_types.specs.declared.record.Ordered.{Ordered}
use Rattle.apex_types.specs.declared.view.View.{View}
use Rattle.apex_machine.specs.Configuration.{Configuration}
use Rattle.apex_machine.specs.Pieces.{Part, Piece, pieces, touches}
use Rattle.apex_machine.specs.Runs.{Goes, PieceRun}
use Rattle.apex_machine.specs.Views.{judge, view_in}
use Rattle.piece_check.specs.Parts.{piece_at}
use Rattle.user_rules.specs.declared.broken.Broken.{Broken}
use Rattle.user_rules.specs.declared.relation.Relation.{Relation}
use Rattle.user_rules.specs.FirstBroken.{IsFirstRuleBroken, MeetsAll}
use Rattle.user_rules.specs.Meets.{alone}
use Rattle.verdict_merge.specs.declared.breach.Breach.{Breach}
use Rattle.verdict_merge.specs.declared.breach.Seen.{Seen}
use Rattle.verdict_merge.specs.declared.finding.Refused.{Refused}

-- what a piece sees

-- the view of the record with this index
abbrev pub seen_of : Option View → ℕ → List Seen
seen_of None index = []
seen_of (Some view) index = record { index = index; view = view } ∷ []

-- the views of one record and of those after it: first its own, at this index, if the piece gives one
abbrev pub SeesNext : Option View → ℕ → List Seen → (List Seen → Type 0) → Type 0
SeesNext None index seen More = More seen
SeesNext (Some view) index seen More = (more : List Seen) × (seen ≡ record { index = index; view = view } ∷ more) × More more

-- what a piece sees of the records that it runs over, counted from this index: the view of each record that it judges
abbrev pub AreSeen : Configuration → Piece → Part → ℕ → List Ordered → List Seen → Type 0
AreSeen configuration piece old index [] seen = seen ≡ []
AreSeen configuration piece old index (ordered ∷ others) seen =
    (next : Part) × Goes (touches configuration piece ordered) configuration old ordered next
    × SeesNext (view_in old ordered) index seen (AreSeen configuration piece next (suc index) others)

-- the records before this place
abbrev pub before_place : ℕ → List Ordered → List Ordered
before_place place [] = []
before_place place (ordered ∷ others) = if nat_lt ordered.pos place then ordered ∷ before_place place others else []

-- the records before the rejected one, or all of them
abbrev pub up_to : Option Refused → List Ordered → List Ordered
up_to None records = records
up_to (Some found) records = before_place found.pos records

-- how many records, counted from this place on, come before the rejected one
abbrev pub count_before : ℕ → List Ordered → Option Refused → ℕ
count_before first records None = length records
count_before first records (Some found) = found.pos - first

-- what breaks a rule, where there are no memories

-- the first of these views that breaks a rule, with the first rule that it breaks; none if each meets every rule
abbrev pub IsFirstBreach : List Relation → List Seen → Option Breach → Type 0
IsFirstBreach relations seen None = (one : Seen) → Contains seen one → MeetsAll relations (alone one.view)
IsFirstBreach relations seen (Some breach) =
    Contains seen breach.seen
    × ((one : Seen) → Contains seen one → one.index < breach.seen.index → MeetsAll relations (alone one.view))
    × IsFirstRuleBroken relations (alone breach.seen.view) breach.rule

-- the breach so far, or else the next one
abbrev pub first_some : Option Breach → Option Breach → Option Breach
first_some None next = next
first_some (Some breach) next = Some breach

-- the breach after the record with this index is judged: the one so far, or else that of its view; if the record is rejected, the one so far
abbrev pub HasTested : List Relation → Option View → ℕ → Option Refused → Option Breach → Option Breach → Type 0
HasTested relations given index None old new = (next : Option Breach) × IsFirstBreach relations (seen_of given index) next × (new ≡ first_some old next)
HasTested relations given index (Some refused) old new = new ≡ old

-- the breach of the earlier record of two
abbrev pub earlier : Option Breach → Option Breach → Option Breach
earlier None other = other
earlier (Some one) None = Some one
earlier (Some one) (Some other) = if nat_lt other.seen.index one.seen.index then Some other else Some one

-- the breach, if its record is among this many of the first records
abbrev pub breach_before : ℕ → Option Breach → Option Breach
breach_before count None = None
breach_before count (Some breach) = if nat_lt breach.seen.index count then Some breach else None

-- which view of the records is broken, and which rule
abbrev pub broken_of : Option Breach → Option Broken
broken_of breach = option_map (λ one. record { view = one.seen.index; rule = one.rule }) breach

-- the views of all records

-- this is the view of a record after these ones: what the piece that judges it sees in it once it has run over them
pub record IsViewOf (configuration : Configuration) (parts : ℕ → Part) (before : List Ordered) (ordered : Ordered) (view : View) : Type 0 where
  pub number : ℕ
  pub within : number < length (pieces configuration)
  pub judges : piece_at configuration number ≡ judge ordered
  pub reached : Part
  pub run : PieceRun configuration (piece_at configuration number) (parts number) before reached
  pub seen : view_in reached ordered ≡ Some view

-- these are the views of these records, one for each in their order, after these other records
abbrev pub AreViewsAfter : Configuration → (ℕ → Part) → List Ordered → List Ordered → List View → Type 0
AreViewsAfter configuration parts before [] views = views ≡ []
AreViewsAfter configuration parts before (ordered ∷ others) views =
    (view : View) × (more : List View) × (views ≡ view ∷ more) × IsViewOf configuration parts before ordered view
    × AreViewsAfter configuration parts (before ++ ordered ∷ []) others more

-- these are the views of the next records, one for each in their order
abbrev pub AreViews : Configuration → (ℕ → Part) → List Ordered → List View → Type 0
AreViews configuration parts records views = AreViewsAfter configuration parts [] records views

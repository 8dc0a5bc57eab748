-- What a round is, and the results of its pieces.
use Rattle.std.specs.Prelude.{◌≡◌, ◌<◌, ℕ, zero, suc, List, [], ◌∷◌, None, Bool, false, length, map, slice_index_or}
use Rattle.apex_types.specs.declared.record.Ordered.{Ordered}
use Rattle.apex_machine.specs.Configuration.{Configuration}
use Rattle.apex_machine.specs.Pieces.{ModulePart, Part, pieces}
use Rattle.apex_machine.specs.Runs.{ArePlaced, AreOfCores}
use Rattle.piece_check.specs.Parts.{Holding}
use Rattle.user_rules.specs.declared.relation.Relation.{Relation}
use Rattle.verdict_merge.specs.declared.outcome.Lent.{Lent}
use Rattle.verdict_merge.specs.Rounds.{IsGoing, IsPieceJudged}
use Rattle.verdict_merge.specs.declared.judged.Judged.{Judged}

-- a round: the module, the place of its first record, its records, what the rules mean, whether views are kept, and the parts of the pieces
-- before it
pub record Content : Type 0 where
  pub configuration : Configuration
  pub first : ℕ
  pub records : List Ordered
  pub relations : List Relation
  pub keeps : Bool
  pub parts : List Part

-- the parts that pieces hold
abbrev pub parts_held : List Holding → List Part
parts_held pieces = map (λ piece. piece.part) pieces

-- a part by the number of its piece
abbrev pub part_at : List Part → ℕ → Part
part_at [] number = ModulePart []
part_at (part ∷ others) zero = part
part_at (part ∷ others) (suc number) = part_at others number

-- the round of what is lent to pieces of these parts, under rules that mean this
abbrev pub content_of : Lent → List Relation → List Part → Content
content_of lent relations parts = record {
  configuration = lent.config.now;
  first = lent.first;
  records = lent.records.now;
  relations = relations;
  keeps = lent.keeps;
  parts = parts;
}

-- the round of no records, no rules and no pieces
abbrev pub no_content : Content
no_content = record {
  configuration = record { cores = 0; frame = 0; skew = 0; partitions = []; windows = []; sampling = []; queuing = [] };
  first = 0;
  records = [];
  relations = [];
  keeps = false;
  parts = [];
}

-- the round may be judged: all pieces are there, and its records are in order and of configured cores
pub record IsOpen (content : Content) : Type 0 where
  pub whole : length content.parts ≡ length (pieces content.configuration)
  pub placed : ArePlaced content.first content.records
  pub cores : AreOfCores content.configuration.cores content.records

-- the pieces from this number on may judge records from this place on
abbrev pub AreGoingFrom : Configuration → ℕ → ℕ → List Holding → Type 0
AreGoingFrom configuration place number [] = Unit {0}
AreGoingFrom configuration place number (holding ∷ others) = IsGoing configuration number place holding × AreGoingFrom configuration place (suc number) others

-- a piece of which no more than the part is known
abbrev pub holding_of : Part → Holding
holding_of part = record { part = part; settings = None; exhausted = false }

-- the piece of this number judged the records of the round, with this result
abbrev pub IsJudged : Content → ℕ → Judged → Type 0
IsJudged content number judged =
    IsPieceJudged content.configuration number content.first content.records content.relations content.keeps (holding_of (part_at content.parts number)) judged

-- each piece of the round judged its records; there is one result for each, at its number
pub record AreJudged (content : Content) (judged : List Judged) : Type 0 where
  pub whole : length judged ≡ length content.parts
  pub each : (number : ℕ) → number < length content.parts → (one : Judged) → one ≡ slice_index_or judged number one → IsJudged content number one

-- what callers see of a claimed piece: the worker that has claimed it, its number, and the piece
pub record Claimed : Type 0 where
  pub worker : ℕ
  pub number : ℕ
  pub piece : Holding

-- what callers see of a piece that judged the records: the worker that has claimed it, its number, and its result
pub record Finished : Type 0 where
  pub worker : ℕ
  pub number : ℕ
  pub judged : Judged

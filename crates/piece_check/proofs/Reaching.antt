-- A piece that goes over the records that touch it has judged all.
use Rattle.std.proofs.Common.{◌≡◌, ◌∙◌, ◌<◌, ◌≤◌, ◌+◌, ℕ, zero, suc, List, [], ◌∷◌, Bool, true, false, if◌then◌else◌, length, get_or, refl, ap, subst, arith}
use Rattle.std.proofs.lemmas.List.{get_or_default}
use Rattle.apex_types.specs.declared.record.Ordered.{Ordered}
use Rattle.apex_machine.specs.Configuration.{Configuration}
use Rattle.apex_machine.specs.Pieces.{Piece, pieces, touches}
use Rattle.apex_machine.specs.Runs.{AreOfCores, ArePlaced}
use Rattle.piece_check.specs.Parts.{piece_at}
use Rattle.piece_check.specs.Touching.{AreSortedOut, HasList, reached, touching}

-- the records that touch a piece, by their places in its list

-- the index of one is none before the first record
at_least : (configuration : Configuration) (piece : Piece) (first passed end : ℕ) (records : List Ordered) → end ≡ first + length records
    → first ≤ get_or (touching configuration piece first records) passed end
at_least configuration piece first passed end [] is = omega arith
at_least configuration piece first passed end (ordered ∷ others) is =
    by (touches configuration piece ordered) passed (λ later. at_least configuration piece (suc first) later end others (omega arith))
  where
    by : (touched : Bool) (passed : ℕ) → ((later : ℕ) → suc first ≤ get_or (touching configuration piece (suc first) others) later end)
        → first ≤ get_or (if touched then first ∷ touching configuration piece (suc first) others else touching configuration piece (suc first) others) passed end
    by true zero rest = omega arith
    by true (suc passed) rest = omega (arith, rest passed)
    by false passed rest = omega (arith, rest passed)

-- each is a record, and touches the piece
touched_at : (configuration : Configuration) (piece : Piece) (first passed end at : ℕ) (default : Ordered) (records : List Ordered) → end ≡ first + length records
    → passed < length (touching configuration piece first records) → first + at ≡ get_or (touching configuration piece first records) passed end
    → (at < length records) × (touches configuration piece (get_or records at default) ≡ true)
touched_at configuration piece first passed end at default [] is one here = absurd (omega arith)
touched_at configuration piece first passed end at default (ordered ∷ others) is one here =
    by (touches configuration piece ordered) refl passed at one here
    (λ later. at_least configuration piece (suc first) later end others (omega arith))
    (λ later before there same. touched_at configuration piece (suc first) later end before default others (omega arith) there same)
  where
    rest : List ℕ
    rest = touching configuration piece (suc first) others

    by : (touched : Bool) → touches configuration piece ordered ≡ touched → (passed at : ℕ) → passed < length (if touched then first ∷ rest else rest)
        → first + at ≡ get_or (if touched then first ∷ rest else rest) passed end → ((later : ℕ) → suc first ≤ get_or rest later end)
        → ((later before : ℕ) → later < length rest → suc first + before ≡ get_or rest later end
        → (before < length others) × (touches configuration piece (get_or others before default) ≡ true))
        → (at < length (ordered ∷ others)) × (touches configuration piece (get_or (ordered ∷ others) at default) ≡ true)
    by true touched zero zero one here least more = (omega arith, touched)
    by true touched zero (suc at) one here least more = absurd (omega arith)
    by true touched (suc passed) zero one here least more = absurd (omega (arith, least passed))
    by true touched (suc passed) (suc at) one here least more =
        let found = more passed at (omega arith) (omega (arith, here)) in
        (omega (arith, found.0), found.1)
    by false untouched passed zero one here least more = absurd (omega (arith, least passed))
    by false untouched passed (suc at) one here least more =
        let found = more passed at one (omega (arith, here)) in
        (omega (arith, found.0), found.1)

-- for a loop over the list of a piece

-- the list of the piece of a number
pub sorted_at : (configuration : Configuration) (records : List Ordered) (indices : Piece → List ℕ) (number : ℕ) (piece : Piece) → AreSortedOut configuration records indices
    → number < length (pieces configuration) → piece ≡ piece_at configuration number → HasList piece → indices piece ≡ touching configuration (piece_at configuration number) 0 records
sorted_at configuration records indices number piece sorted there is has = ap indices is ∙ sorted number there (subst HasList is has)

-- each record is at a place of its own, and of a core of the module
pub placed_at : (place index : ℕ) (default : Ordered) (records : List Ordered) → ArePlaced place records → index < length records → (get_or records index default).pos ≡ place + index
placed_at place index default [] placed within = absurd (omega arith)
placed_at place zero default (ordered ∷ others) placed within = placed.0 ∙ omega arith
placed_at place (suc index) default (ordered ∷ others) placed within = placed_at (suc place) index default others placed.1 (omega arith) ∙ omega arith

pub of_core_at : (cores index : ℕ) (default : Ordered) (records : List Ordered) → AreOfCores cores records → index < length records → (get_or records index default).core < cores
of_core_at cores index default [] of_cores within = absurd (omega arith)
of_core_at cores zero default (ordered ∷ others) of_cores within = of_cores.0
of_core_at cores (suc index) default (ordered ∷ others) of_cores within = of_core_at cores index default others of_cores.1 (omega arith)

-- what a loop over the list finds at a place of it
pub reached_at : (configuration : Configuration) (piece : Piece) (records : List Ordered) (list : List ℕ) (passed : ℕ) → list ≡ touching configuration piece 0 records
    → passed < length list → (passed < length (touching configuration piece 0 records)) × (get_or list passed 0 ≡ reached configuration piece records passed)
reached_at configuration piece records list passed is one =
    (omega (arith, one, ap length is), get_or_default list passed 0 (length records) one ∙ ap (λ indices. get_or indices passed (length records)) is)

-- what is at a place of the list is a record, and touches the piece
pub reached_is_touched : (configuration : Configuration) (piece : Piece) (records : List Ordered) (passed : ℕ) (default : Ordered) → passed < length (touching configuration piece 0 records)
    → (reached configuration piece records passed < length records) × (touches configuration piece (get_or records (reached configuration piece records passed) default) ≡ true)
reached_is_touched configuration piece records passed default one =
    touched_at configuration piece 0 passed (length records) (reached configuration piece records passed) default records (omega arith) one (omega arith)

pub reached_within : (configuration : Configuration) (piece : Piece) (records : List Ordered) (passed : ℕ) → passed < length (touching configuration piece 0 records)
    → reached configuration piece records passed < length records
reached_within configuration piece [] passed one = absurd (omega arith)
reached_within configuration piece (ordered ∷ others) passed one = (reached_is_touched configuration piece (ordered ∷ others) passed ordered one).0

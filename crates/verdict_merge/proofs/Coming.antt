-- How far a piece has come among the records of a round, and what it has seen on the way.
use Rattle.std.proofs.Common.{◌≡◌, ◌<◌, ◌+◌, ◌∙◌, ℕ, suc, List, [], ◌∷◌, ◌++◌, true, Some, None, length, take, drop, get_or, refl, sym, ap, subst, arith, add-one}
use Rattle.std.proofs.lemmas.List.{append-nil, length-append, length-take, take-append-drop, take_more}
use Rattle.std.proofs.Math.Seq.{drop-cons, get_or-append_seam, take-length}
use Rattle.apex_types.specs.declared.record.Ordered.{Ordered}
use Rattle.apex_machine.specs.Configuration.{Configuration}
use Rattle.apex_machine.specs.Demands.{FirstFails, LocalStep, demands}
use Rattle.apex_machine.specs.Pieces.{Part, Piece, touches}
use Rattle.apex_machine.specs.Runs.{ArePlaced, AreOfCores, Goes, PieceRun}
use Rattle.apex_machine.specs.Views.{view_in}
use Rattle.piece_check.proofs.Parting.{HoldsBefore_later}
use Rattle.piece_check.proofs.Reaching.{of_core_at, placed_at, reached_at, reached_is_touched}
use Rattle.piece_check.proofs.Viewing.{view_of_untouched}
use Rattle.piece_check.specs.Parts.{Holding, HoldsBefore, IsOf, IsPartOf, piece_at}
use Rattle.piece_check.specs.Touching.{reached, touching}
use Rattle.user_rules.specs.declared.relation.Relation.{Relation}
use Rattle.verdict_merge.specs.declared.breach.Seen.{Seen}
use Rattle.verdict_merge.specs.declared.finding.Refused.{Refused}
use Rattle.verdict_merge.specs.declared.outcome.PieceOutcome.{PieceOutcome}
use Rattle.verdict_merge.specs.Rounds.{HasRunOver, IsJudgedOver, Rejects}
use Rattle.verdict_merge.specs.Views.{AreSeen, IsFirstBreach, before_place, seen_of, up_to}
use Rattle.verdict_merge.proofs.Between.{Keeps}
use Rattle.verdict_merge.proofs.Going.{passes_by, steps_over}
use Rattle.verdict_merge.proofs.Seeing.{sees_on}
use Rattle.verdict_merge.proofs.Viewing.{before_of}

-- the piece of this number has come to an index: it ran over the records before it, and has seen those of them that it judges
pub record HasCome (configuration : Configuration) (number : ℕ) (old : Holding) (records : List Ordered) (now : Holding) (kept : List Seen) (index : ℕ) : Type 0 where
  pub run : PieceRun configuration (piece_at configuration number) old.part (take index records) now.part
  pub seen : AreSeen configuration (piece_at configuration number) old.part 0 (take index records) kept
  pub of_module : IsOf configuration now
  pub whose : IsPartOf (piece_at configuration number) now.part
  pub holds_before : (place : ℕ) → ArePlaced place records → HoldsBefore place old.part → HoldsBefore (place + index) now.part

take_on : (records : List Ordered) (index : ℕ) (ordered : Ordered) → index < length records → get_or records index ordered ≡ ordered
    → take (suc index) records ≡ take index records ++ ordered ∷ []
take_on records index ordered within is =
    ap (λ n. take n records) (sym (add-one index)) ∙ take_more records index ordered within ∙ ap (λ one. take index records ++ one ∷ []) is

-- what is seen if one more record is judged
seen_more : (configuration : Configuration) (piece : Piece) (old now next : Part) (records : List Ordered) (index : ℕ) (ordered : Ordered) (seen : List Seen)
    → index < length records → take (suc index) records ≡ take index records ++ ordered ∷ []
    → PieceRun configuration piece old (take index records) now → Goes (touches configuration piece ordered) configuration now ordered next
    → AreSeen configuration piece old 0 (take index records) seen
    → AreSeen configuration piece old 0 (take (suc index) records) (seen ++ seen_of (view_in now ordered) index)
seen_more configuration piece old now next records index ordered seen within more run goes are =
    let many : 0 + length (take index records) ≡ index = omega (arith, length-take index records, within) in
    subst (λ list. AreSeen configuration piece old 0 list (seen ++ seen_of (view_in now ordered) index)) (sym more)
    (subst (λ n. AreSeen configuration piece old 0 (take index records ++ ordered ∷ []) (seen ++ seen_of (view_in now ordered) n)) many
    (sees_on configuration piece old now next 0 (take index records) ordered seen are run goes))

-- a record that does not touch the piece leaves it as it is
pub come_past : (configuration : Configuration) (number : ℕ) (old : Holding) (records : List Ordered) (now : Holding) (seen : List Seen)
    → Keeps configuration (piece_at configuration number) 0 records (HasCome configuration number old records now seen)
come_past configuration number old records now seen index ordered within is untouched come =
    let piece = piece_at configuration number in
    let more = take_on records index ordered within is in
    let at : 0 + index ≡ index = omega arith in
    let here : HasCome configuration number old records now seen index = subst (HasCome configuration number old records now seen) at come in
    let none : view_in now.part ordered ≡ None = view_of_untouched configuration piece now.part ordered here.whose untouched in
    let goes : Goes (touches configuration piece ordered) configuration now.part ordered now.part =
    subst (λ touched. Goes touched configuration now.part ordered now.part) (sym untouched) refl in
    subst (HasCome configuration number old records now seen) (let e : suc index ≡ 0 + suc index = omega arith in e)
    (record {
      run = subst (λ list. PieceRun configuration piece old.part list now.part) (sym more) (passes_by configuration piece old.part now.part (take index records) ordered here.run untouched);
      seen = subst (AreSeen configuration piece old.part 0 (take (suc index) records)) (ap (λ view. seen ++ seen_of view index) none ∙ append-nil seen)
          (seen_more configuration piece old.part now.part now.part records index ordered seen within more here.run goes here.seen);
      of_module = here.of_module;
      whose = here.whose;
      holds_before = λ place placed above. HoldsBefore_later (place + index) (place + suc index) now.part (omega arith) (here.holds_before place placed above);
    })

-- a record that it accepts
pub come_over : (configuration : Configuration) (number : ℕ) (old : Holding) (records : List Ordered) (now next : Holding) (seen : List Seen) (index : ℕ) (ordered : Ordered)
    → HasCome configuration number old records now seen index → index < length records → get_or records index ordered ≡ ordered
    → touches configuration (piece_at configuration number) ordered ≡ true → LocalStep configuration now.part ordered next.part
    → IsOf configuration next → IsPartOf (piece_at configuration number) next.part
    → ((place : ℕ) → ArePlaced place records → HoldsBefore (place + suc index) next.part)
    → HasCome configuration number old records next (seen ++ seen_of (view_in now.part ordered) index) (suc index)
come_over configuration number old records now next seen index ordered come within is touched step of_module whose holds_before =
    let piece = piece_at configuration number in
    let more = take_on records index ordered within is in
    let goes : Goes (touches configuration piece ordered) configuration now.part ordered next.part =
    subst (λ touched. Goes touched configuration now.part ordered next.part) (sym touched) step in
    record {
      run = subst (λ list. PieceRun configuration piece old.part list next.part) (sym more) (steps_over configuration piece old.part now.part next.part (take index records) ordered come.run touched step);
      seen = seen_more configuration piece old.part now.part next.part records index ordered seen within more come.run goes come.seen;
      of_module = of_module;
      whose = whose;
      holds_before = λ place placed above. holds_before place placed;
    }

-- before the first record
pub come_nowhere : (configuration : Configuration) (number : ℕ) (old : Holding) (records : List Ordered) → IsOf configuration old
    → IsPartOf (piece_at configuration number) old.part → HasCome configuration number old records old [] 0
come_nowhere configuration number old records of_module whose = record {
  run = refl;
  seen = refl;
  of_module = of_module;
  whose = whose;
  holds_before = λ place placed above. HoldsBefore_later place (place + 0) old.part (omega arith) above;
}

-- the place of the record that comes after this many of a piece's list: it is the next that touches the piece
pub record IsAtPlace (configuration : Configuration) (number first : ℕ) (records : List Ordered) (outcome index : ℕ) (ordered : Ordered) : Type 0 where
  pub listed : outcome < length (touching configuration (piece_at configuration number) 0 records)
  pub reaches : index ≡ reached configuration (piece_at configuration number) records outcome
  pub within : reached configuration (piece_at configuration number) records outcome < length records
  pub is : get_or records (reached configuration (piece_at configuration number) records outcome) ordered ≡ ordered
  pub touched : touches configuration (piece_at configuration number) ordered ≡ true
  pub place : ordered.pos ≡ first + reached configuration (piece_at configuration number) records outcome
  pub core : ordered.core < configuration.cores

-- the next index of a list is that of a record
pub next_within : (configuration : Configuration) (number : ℕ) (records : List Ordered) (outcome : List ℕ) {left next : List ℕ} {index : ℕ}
    → touching configuration (piece_at configuration number) 0 records ≡ outcome ++ left → left ≡ index ∷ next
    → (length outcome < length (touching configuration (piece_at configuration number) 0 records)) × (index ≡ reached configuration (piece_at configuration number) records (length outcome))
next_within configuration number records outcome {left} {next} {index} listed steps =
    let split = listed ∙ ap (λ list. outcome ++ list) steps in
    let one : length outcome < length (outcome ++ index ∷ next) = omega (arith, length-append outcome (index ∷ next)) in
    let at = reached_at configuration (piece_at configuration number) records (outcome ++ index ∷ next) (length outcome) (sym split) one in
    (at.0, sym (get_or-append_seam outcome index next 0) ∙ at.1)

pub is_shown : (configuration : Configuration) (number first : ℕ) (records : List Ordered) (outcome : List ℕ) {left next : List ℕ} {index : ℕ} {ordered : Ordered}
    → touching configuration (piece_at configuration number) 0 records ≡ outcome ++ left → left ≡ index ∷ next → ordered ≡ get_or records index ordered
    → ArePlaced first records → AreOfCores configuration.cores records → IsAtPlace configuration number first records (length outcome) index ordered
is_shown configuration number first records outcome {left} {next} {index} {ordered} listed steps is placed cores =
    let piece = piece_at configuration number in
    let at = next_within configuration number records outcome listed steps in
    let place = reached configuration piece records (length outcome) in
    let here : ordered ≡ get_or records place ordered = is ∙ ap (λ n. get_or records n ordered) at.1 in
    let found = reached_is_touched configuration piece records (length outcome) ordered at.0 in
    record {
      listed = at.0;
      reaches = at.1;
      within = found.0;
      is = sym here;
      touched = ap (touches configuration piece) here ∙ found.1;
      place = ap (λ one. one.pos) here ∙ placed_at first place ordered records placed found.0;
      core = rw here (of_core_at configuration.cores place ordered records cores found.0);
    }

-- the piece refuses the record that it has come to
pub refuses_there : (configuration : Configuration) (number first : ℕ) (records : List Ordered) (relations : List Relation) (old now next : Holding) (outcome : PieceOutcome) (seen : List Seen) (refused : Refused) (index : ℕ)
    (ordered : Ordered) → outcome.found ≡ Some refused → HasCome configuration number old records now seen index → IsFirstBreach relations seen outcome.breach → ArePlaced first records
    → HoldsBefore first old.part → index < length records → get_or records index ordered ≡ ordered → touches configuration (piece_at configuration number) ordered ≡ true
    → (refused.pos ≡ ordered.pos) × (refused.piece ≡ number) × FirstFails (demands configuration now.part ordered) refused.cause × (next.part ≡ now.part)
    → IsOf configuration next → (over : IsJudgedOver configuration number first records relations old outcome next) × (over.seen ≡ seen)
refuses_there configuration number first records relations old now next outcome seen refused index ordered found come breach placed holds_before within is touched (place, whose, fails, same) of_module =
    let piece = piece_at configuration number in
    let cut : drop index records ≡ ordered ∷ drop (suc index) records = subst (λ one. drop index records ≡ one ∷ drop (suc index) records) is (drop-cons records index ordered within) in
    let split : records ≡ take index records ++ ordered ∷ drop (suc index) records = sym (take-append-drop index records) ∙ ap (λ rest. take index records ++ rest) cut in
    let left : PieceRun configuration piece old.part (take index records) next.part × Rejects configuration piece next.part ordered refused.cause =
    subst (λ part. PieceRun configuration piece old.part (take index records) part × Rejects configuration piece part ordered refused.cause) (sym same) (come.run, (touched, fails)) in
    let before : up_to outcome.found records ≡ take index records =
    ap (λ one. up_to one records) found ∙ ap (before_place refused.pos) split
    ∙ before_of first (take index records) ordered (drop (suc index) records) refused.pos (subst (ArePlaced first) split placed) place in (
      record {
        found = subst (λ one. HasRunOver configuration number old.part records one next.part) (sym found)
            (whose, (take index records, ordered, drop (suc index) records, split, place, left.0, left.1));
        seen = seen;
        are = subst (λ list. AreSeen configuration piece old.part 0 list seen) (sym before) come.seen;
        breach = breach;
        going = record {
          of_module = of_module;
          whose = subst (IsPartOf piece) (sym same) come.whose;
          holds_before = HoldsBefore_later (first + index) (first + length records) next.part (omega (arith, within)) (subst (HoldsBefore (first + index)) (sym same) (come.holds_before first placed holds_before));
        };
      },
      refl,
    )

-- the piece has come after the last record
pub goes_through : (configuration : Configuration) (number first : ℕ) (records : List Ordered) (relations : List Relation) (old now : Holding) (outcome : PieceOutcome) (seen : List Seen) (index : ℕ)
    → outcome.found ≡ None → HasCome configuration number old records now seen index → IsFirstBreach relations seen outcome.breach → index ≡ length records → ArePlaced first records
    → HoldsBefore first old.part → (over : IsJudgedOver configuration number first records relations old outcome now) × (over.seen ≡ seen)
goes_through configuration number first records relations old now outcome seen index none come breach all placed holds_before =
    let piece = piece_at configuration number in
    let whole : take index records ≡ records = ap (λ n. take n records) all ∙ take-length records in (
      record {
        found = subst (λ one. HasRunOver configuration number old.part records one now.part) (sym none) (subst (λ list. PieceRun configuration piece old.part list now.part) whole come.run);
        seen = seen;
        are = subst (λ list. AreSeen configuration piece old.part 0 list seen) (whole ∙ sym (ap (λ one. up_to one records) none)) come.seen;
        breach = breach;
        going = record {
          of_module = come.of_module;
          whose = come.whose;
          holds_before = subst (λ n. HoldsBefore (first + n) now.part) all (come.holds_before first placed holds_before);
        };
      },
      refl,
    )

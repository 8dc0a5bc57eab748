-- Records that are kept, with more of them or fewer.
use Rattle.std.proofs.Common.{◌≡◌, ◌<◌, ◌≤◌, ◌+◌, ◌∙◌, ℕ, suc, List, [], ◌∷◌, ◌++◌, length, take, drop, refl, ap, arith, append-nil, append_assoc, length-append, length-take-le, subst, sym}
use Rattle.std.proofs.lemmas.List.{take-append-drop}
use Rattle.apex_types.specs.declared.record.Ordered.{Ordered}
use Rattle.apex_machine.specs.Configuration.{Configuration}
use Rattle.apex_machine.specs.Pieces.{Part}
use Rattle.apex_machine.specs.Runs.{AreOfCores, ArePlaced, PieceRun}
use Rattle.piece_check.specs.Parts.{Holding, piece_at}
use Rattle.apex_laws.proofs.Joins.{runs_join}
use Rattle.verdict_merge.proofs.Rounds.{all_run_on, runs_on}
use Rattle.verdict_merge.proofs.Seeing.{one_end}
use Rattle.verdict_merge.proofs.Splits.{placed_front}
use Rattle.verdict_merge.specs.Rounds.{AllRun, AreGoing, Runs, cold_parts, parts_in}
use Rattle.shown_run.specs.Kept.{AreRecent, IsKept}
use Rattle.shown_run.specs.Walks.{EachRuns}
use Rattle.shown_run.specs.declared.recent.Recent.{Recent}
use Rattle.shown_run.specs.declared.span.Span.{Span}

placed_joined : (place : ℕ) (front back : List Ordered) → ArePlaced place front → ArePlaced (place + length front) back → ArePlaced place (front ++ back)
placed_joined place [] back placed after = subst (λ n. ArePlaced n back) (let e : place + 0 ≡ place = omega arith in e) after
placed_joined place (one ∷ front) back (here, placed) after =
    (here, placed_joined (suc place) front back placed (subst (λ n. ArePlaced n back) (let e : place + suc (length front) ≡ suc place + length front = omega arith in e) after))

cores_joined : (cores : ℕ) (front back : List Ordered) → AreOfCores cores front → AreOfCores cores back → AreOfCores cores (front ++ back)
cores_joined cores [] back of_cores after = after
cores_joined cores (one ∷ front) back (here, of_cores) after = (here, cores_joined cores front back of_cores after)

cores_front : (cores : ℕ) (front back : List Ordered) → AreOfCores cores (front ++ back) → AreOfCores cores front
cores_front cores [] back of_cores = tt
cores_front cores (one ∷ front) back (here, of_cores) = (here, cores_front cores front back of_cores)

-- over no record each piece stays as it is
none_run : (configuration : Configuration) (parts : ℕ → Part) → EachRuns configuration parts []
none_run configuration parts = λ number within. (parts number, refl)

-- a piece that runs on from where it has come to
run_from : (configuration : Configuration) (parts next : ℕ → Part) (number : ℕ) (front back : List Ordered) (final : Part)
    → PieceRun configuration (piece_at configuration number) (parts number) front (next number) → PieceRun configuration (piece_at configuration number) (parts number) (front ++ back) final
    → PieceRun configuration (piece_at configuration number) (next number) back final
run_from configuration parts next number front back final first whole =
    let piece = piece_at configuration number in
    let parted = (runs_join configuration piece (parts number) front back final).0 whole in
    subst (λ (part : Part). PieceRun configuration piece part back final) (one_end configuration piece (parts number) front parted.0 (next number) parted.1 first) parted.2

-- what each piece has still to run over, once all have run over the front
each_from : (configuration : Configuration) (parts next : ℕ → Part) (front back : List Ordered) → AllRun configuration parts front next → EachRuns configuration parts (front ++ back)
    → EachRuns configuration next back
each_from configuration parts next front back first whole = λ number within.
    let run = whole number within in
    (run.0, run_from configuration parts next number front back run.0 (first number within) run.1)

-- no record is kept, and these pieces are those that the run has reached after what was taken
kept_none : (configuration : Configuration) (taken : List Ordered) (before : List Holding) (kept : List Ordered) → kept ≡ [] → AreGoing configuration (length taken) before
    → AllRun configuration (cold_parts configuration) taken (parts_in before) → IsKept configuration taken before kept
kept_none configuration taken before kept none going reached = record {
  earlier = taken;
  split = sym (ap (λ (list : List Ordered). taken ++ list) none ∙ append-nil taken);
  going = going;
  reached = reached;
  placed = subst (λ (list : List Ordered). ArePlaced (length taken) list) (sym none) tt;
  cores = subst (λ (list : List Ordered). AreOfCores configuration.cores list) (sym none) tt;
  runs = subst (λ (list : List Ordered). EachRuns configuration (parts_in before) list) (sym none) (none_run configuration (parts_in before));
}

-- no record is kept before the first one
pub recent_none : (configuration : Configuration) (recent : Recent) → AreGoing configuration 0 recent.earlier.before
    → AllRun configuration (cold_parts configuration) [] (parts_in recent.earlier.before) → recent.earlier.records.items ≡ []
    → AreGoing configuration 0 recent.later.before → AllRun configuration (cold_parts configuration) [] (parts_in recent.later.before) → recent.later.records.items ≡ []
    → AreRecent configuration [] recent
unfolding kept_none
recent_none configuration recent earlier earlier_cold no_earlier later later_cold no_later = record {
  later = kept_none configuration [] recent.later.before recent.later.records.items no_later later later_cold;
  earlier = kept_none configuration [] recent.earlier.before recent.earlier.records.items no_earlier earlier earlier_cold;
}

-- if none is kept, all that was taken is earlier
all_earlier : (configuration : Configuration) (taken : List Ordered) (before : List Holding) (kept : List Ordered) → kept ≡ []
    → (is : IsKept configuration taken before kept) → is.earlier ≡ taken
all_earlier configuration taken before kept none is = sym (is.split ∙ ap (λ (list : List Ordered). is.earlier ++ list) none ∙ append-nil is.earlier)

-- records are kept after what was taken, of which none was kept
kept_next : (configuration : Configuration) (taken records : List Ordered) (before : List Holding) (kept : List Ordered) → kept ≡ []
    → IsKept configuration taken before kept → ArePlaced (length taken) records → AreOfCores configuration.cores records
    → EachRuns configuration (cold_parts configuration) (taken ++ records)
    → (next : List Holding) (list : List Ordered) → next ≡ before → list ≡ records → IsKept configuration (taken ++ records) next list
kept_next configuration taken records before kept none is placed cores run next list same items =
    let all = all_earlier configuration taken before kept none is in
    let reached = subst (λ (front : List Ordered). AllRun configuration (cold_parts configuration) front (parts_in before)) all is.reached in
    let here : IsKept configuration (taken ++ records) before records = record {
      earlier = taken;
      split = refl;
      going = subst (λ (front : List Ordered). AreGoing configuration (length front) before) all is.going;
      reached = reached;
      placed = placed;
      cores = cores;
      runs = each_from configuration (cold_parts configuration) (parts_in before) taken records reached run;
    } in
    record {
      earlier = taken;
      split = ap (λ (more : List Ordered). taken ++ more) (sym items);
      going = subst (λ (holdings : List Holding). AreGoing configuration (length taken) holdings) (sym same) here.going;
      reached = subst (λ (holdings : List Holding). AllRun configuration (cold_parts configuration) taken (parts_in holdings)) (sym same) reached;
      placed = subst (λ (more : List Ordered). ArePlaced (length taken) more) (sym items) placed;
      cores = subst (λ (more : List Ordered). AreOfCores configuration.cores more) (sym items) cores;
      runs = subst (λ (holdings : List Holding). EachRuns configuration (parts_in holdings) list) (sym same)
          (subst (λ (more : List Ordered). EachRuns configuration (parts_in before) more) (sym items) here.runs);
    }

-- a run to these parts is a run
some_run : (configuration : Configuration) (parts final : ℕ → Part) (records : List Ordered) → AllRun configuration parts records final → EachRuns configuration parts records
some_run configuration parts final records all = λ number within. (final number, all number within)

-- a round of records is kept as a span, and another span begins with the pieces that took it
pub recent_round : (configuration : Configuration) (old new : Recent) (taken records : List Ordered) → new.earlier.before ≡ old.later.before
    → new.earlier.records.items ≡ records → old.later.records.items ≡ [] → new.later.records.items ≡ [] → AreRecent configuration taken old → ArePlaced (length taken) records
    → AreOfCores configuration.cores records → AllRun configuration (cold_parts configuration) (taken ++ records) (parts_in new.later.before)
    → AreGoing configuration (length taken + length records) new.later.before → AreRecent configuration (taken ++ records) new
unfolding kept_none
recent_round configuration old new taken records before items begun none are placed cores run going = record {
  later = kept_none configuration (taken ++ records) new.later.before new.later.records.items none
      (subst (λ (place : ℕ). AreGoing configuration place new.later.before) (sym (length-append taken records)) going) run;
  earlier = kept_next configuration taken records old.later.before old.later.records.items begun are.later placed cores
      (some_run configuration (cold_parts configuration) (parts_in new.later.before) (taken ++ records) run) new.earlier.before new.earlier.records.items before items;
}

-- the first records of a round are kept, as many as this, and no other span begins
pub recent_last : (configuration : Configuration) (old new : Recent) (taken : List Ordered) (count : ℕ) (records : List Ordered) → new.earlier ≡ old.earlier
    → new.later.before ≡ old.later.before → new.later.records.items ≡ take count records → old.later.records.items ≡ [] → AreRecent configuration taken old
    → ArePlaced (length taken) records → AreOfCores configuration.cores records → EachRuns configuration (cold_parts configuration) (taken ++ take count records)
    → AreRecent configuration (taken ++ take count records) new
unfolding kept_next
recent_last configuration old new taken count records earlier before items begun are placed cores run =
    let kept = take count records in
    let left = drop count records in
    let whole : records ≡ kept ++ left = sym (take-append-drop count records) in
    let all = all_earlier configuration taken old.later.before old.later.records.items begun are.later in
    record {
      later = kept_next configuration taken kept old.later.before old.later.records.items begun are.later
          (placed_front (length taken) kept left (subst (λ (list : List Ordered). ArePlaced (length taken) list) whole placed))
          (cores_front configuration.cores kept left (subst (λ (list : List Ordered). AreOfCores configuration.cores list) whole cores)) run
          new.later.before new.later.records.items before items;
      earlier = subst (λ (span : Span). IsKept configuration taken span.before span.records.items) (sym earlier)
          (subst (λ (front : List Ordered). IsKept configuration front old.earlier.before old.earlier.records.items) all are.earlier);
    }

-- the records of both spans are those of one
pub joined : (configuration : Configuration) (taken : List Ordered) (recent : Recent) (records : List Ordered)
    → records ≡ recent.earlier.records.items ++ recent.later.records.items → AreRecent configuration taken recent → IsKept configuration taken recent.earlier.before records
joined configuration taken recent records items are =
    let front = recent.earlier.records.items in
    let back = recent.later.records.items in
    let earlier = are.earlier.earlier in
    let before = parts_in recent.earlier.before in
    let reaches : length are.later.earlier ≡ length earlier + length front = ap (λ (list : List Ordered). length list) are.earlier.split ∙ length-append earlier front in
    let whole = subst (λ (list : List Ordered). AllRun configuration (cold_parts configuration) list (parts_in recent.later.before)) are.earlier.split are.later.reached in
    let middle : AllRun configuration before front (parts_in recent.later.before) =
    λ number within. run_from configuration (cold_parts configuration) before number earlier front (parts_in recent.later.before number) (are.earlier.reached number within) (whole number within) in
    record {
      earlier = earlier;
      split = are.later.split ∙ ap (λ (list : List Ordered). list ++ back) are.earlier.split ∙ append_assoc earlier front back ∙ ap (λ (list : List Ordered). earlier ++ list) (sym items);
      going = are.earlier.going;
      reached = are.earlier.reached;
      placed = subst (λ (list : List Ordered). ArePlaced (length earlier) list) (sym items)
          (placed_joined (length earlier) front back are.earlier.placed (subst (λ n. ArePlaced n back) reaches are.later.placed));
      cores = subst (λ (list : List Ordered). AreOfCores configuration.cores list) (sym items) (cores_joined configuration.cores front back are.earlier.cores are.later.cores);
      runs = subst (λ (list : List Ordered). EachRuns configuration before list) (sym items)
          (λ number within. runs_on configuration before (parts_in recent.later.before) number front back (middle number within) (are.later.runs number within));
    }

-- the first record that is kept is taken again by the pieces

pub first_going : (configuration : Configuration) (taken : List Ordered) (before : List Holding) (first : Ordered) (kept : List Ordered)
    → IsKept configuration taken before (first ∷ kept) → AreGoing configuration first.pos before
first_going configuration taken before first kept is = subst (λ place. AreGoing configuration place before) (sym is.placed.0) is.going

pub first_core : (configuration : Configuration) (taken : List Ordered) (before : List Holding) (first : Ordered) (kept : List Ordered)
    → IsKept configuration taken before (first ∷ kept) → first.core < configuration.cores
first_core configuration taken before first kept is = is.cores.0

pub first_taken : (configuration : Configuration) (taken : List Ordered) (before : List Holding) (first : Ordered) (kept : List Ordered)
    → IsKept configuration taken before (first ∷ kept) → EachRuns configuration (parts_in before) (first ∷ [])
first_taken configuration taken before first kept is = λ number within. let run = is.runs number within in (run.1.0, (run.1.0, run.1.1, refl))

-- after they take it, the others are kept
pub kept_on : (configuration : Configuration) (taken : List Ordered) (before next : List Holding) (first : Ordered) (kept : List Ordered)
    → IsKept configuration taken before (first ∷ kept) → AreGoing configuration (first.pos + 1) next → AllRun configuration (parts_in before) (first ∷ []) (parts_in next)
    → IsKept configuration taken next kept
kept_on configuration taken before next first kept is going run =
    let reaches : length (is.earlier ++ first ∷ []) ≡ first.pos + 1 = omega (arith, length-append is.earlier (first ∷ []), is.placed.0) in
    record {
      earlier = is.earlier ++ first ∷ [];
      split = is.split ∙ sym (append_assoc is.earlier (first ∷ []) kept);
      going = subst (λ place. AreGoing configuration place next) (sym reaches) going;
      reached = all_run_on configuration (cold_parts configuration) (parts_in before) (parts_in next) is.earlier (first ∷ []) is.reached run;
      placed = subst (λ place. ArePlaced place kept) (omega (arith, reaches, is.placed.0)) is.placed.1;
      cores = is.cores.1;
      runs = each_from configuration (parts_in before) (parts_in next) (first ∷ []) kept run is.runs;
    }

-- Runs and findings over one list of records after another.
use Rattle.std.proofs.Common.{◌≡◌, ◌⊎◌, List, [], ◌∷◌, ◌++◌, Bool, true, false, IsTrue, Option, Some, None, refl, sym, ap, subst, ◌∙◌, inl, inr}
use Rattle.apex_laws.specs.JoinLaws.{FindingsJoin, FoundIsRefused, NothingFoundIsARun, RunsJoin}
use Rattle.apex_laws.proofs.Common.{Configuration, Finds, FindsNext, FirstFails, Goes, Ordered, Part, Piece, PieceRun, Refusal, Refuses, demands, touches}
use Rattle.apex_laws.proofs.Booleans.{never_found, one_item}
use Rattle.apex_laws.proofs.Refusals.{silent_piece_runs}

-- runs

run_parts : (configuration : Configuration) (piece : Piece) (old : Part) (first second : List Ordered) (final : Part)
    → PieceRun configuration piece old (first ++ second) final
    → (reached : Part) × PieceRun configuration piece old first reached × PieceRun configuration piece reached second final
run_parts configuration piece old [] second final run = (old, refl, run)
run_parts configuration piece old (ordered ∷ others) second final (next, goes, run) =
    let rest = run_parts configuration piece next others second final run in
    (rest.0, (next, goes, rest.1), rest.2)

run_whole : (configuration : Configuration) (piece : Piece) (old : Part) (first second : List Ordered) (reached final : Part)
    → PieceRun configuration piece old first reached → PieceRun configuration piece reached second final
    → PieceRun configuration piece old (first ++ second) final
run_whole configuration piece old [] second reached final none run =
    subst (λ part. PieceRun configuration piece part second final) none run
run_whole configuration piece old (ordered ∷ others) second reached final (next, goes, before) run =
    (next, goes, run_whole configuration piece next others second reached final before run)

pub runs_join : RunsJoin
runs_join configuration piece old first second final = (
  run_parts configuration piece old first second final,
  λ parts. run_whole configuration piece old first second parts.0 final parts.1 parts.2,
)

-- findings, record by record

-- what is found after a record over which the piece goes is found from there
goes_finding : (touched : Bool) (configuration : Configuration) (old : Part) (ordered : Ordered) (next : Part) (More : Part → Type 0) (found : Option Refusal)
    → Goes touched configuration old ordered next → More next → FindsNext touched configuration old ordered More found
goes_finding true configuration old ordered next More found step more = inl (next, step, more)
goes_finding false configuration old ordered next More found stays more = subst More stays more

-- what is found at a record and after it: the piece goes over the record, or refuses it
found_next : (touched : Bool) (configuration : Configuration) (old : Part) (ordered : Ordered) (More : Part → Type 0) (found : Option Refusal)
    → FindsNext touched configuration old ordered More found
    → ((next : Part) × Goes touched configuration old ordered next × More next)
    ⊎ ((refusal : Refusal) × (found ≡ Some refusal) × (refusal.pos ≡ ordered.pos) × IsTrue touched × FirstFails (demands configuration old ordered) refusal.cause)
found_next true configuration old ordered More found (inl goes) = inl goes
found_next true configuration old ordered More found (inr (cause, fails, is)) = inr (record { pos = ordered.pos; cause = cause }, is, refl, refl, fails)
found_next false configuration old ordered More found more = inl (old, refl, more)

-- a record that is refused is found
refused_next : (touched : Bool) (configuration : Configuration) (old : Part) (ordered : Ordered) (More : Part → Type 0) (refusal : Refusal)
    → IsTrue touched → refusal.pos ≡ ordered.pos → FirstFails (demands configuration old ordered) refusal.cause
    → FindsNext touched configuration old ordered More (Some refusal)
refused_next true configuration old ordered More refusal is place fails =
    inr (refusal.cause, fails, ap (λ pos. Some (record { pos = pos; cause = refusal.cause })) place)
refused_next false configuration old ordered More refusal is place fails = cc

-- a refusal

pub refused_found : (configuration : Configuration) (piece : Piece) (old : Part) (before : List Ordered) (ordered : Ordered) (after : List Ordered) (refusal : Refusal)
    → refusal.pos ≡ ordered.pos → Refuses configuration piece old before ordered refusal.cause
    → Finds configuration piece old (before ++ ordered ∷ after) (Some refusal)
refused_found configuration piece old [] ordered after refusal place (reached, run, touched, fails) =
    refused_next (touches configuration piece ordered) configuration old ordered (λ next. Finds configuration piece next after (Some refusal)) refusal touched place
    (subst (λ part. FirstFails (demands configuration part ordered) refusal.cause) run fails)
refused_found configuration piece old (first ∷ others) ordered after refusal place (reached, (next, goes, run), touched, fails) =
    goes_finding (touches configuration piece first) configuration old first next (λ part. Finds configuration piece part (others ++ ordered ∷ after) (Some refusal)) (Some refusal) goes
    (refused_found configuration piece next others ordered after refusal place (reached, run, touched, fails))

-- the place of a refusal
abbrev WaitsInSet : Configuration → Piece → Part → List Ordered → Refusal → Type 0
WaitsInSet configuration piece old records refusal =
    (before : List Ordered) × (ordered : Ordered) × (after : List Ordered) × (records ≡ before ++ ordered ∷ after) × (refusal.pos ≡ ordered.pos)
    × Refuses configuration piece old before ordered refusal.cause

found_refused : (configuration : Configuration) (piece : Piece) (old : Part) (records : List Ordered) (refusal : Refusal)
    → Finds configuration piece old records (Some refusal) → WaitsInSet configuration piece old records refusal
found_refused configuration piece old [] refusal finds = never_found (sym finds)
found_refused configuration piece old (ordered ∷ others) refusal finds =
    elim (found_next (touches configuration piece ordered) configuration old ordered (λ next. Finds configuration piece next others (Some refusal)) (Some refusal) finds) [
      | inl (next, goes, more) ↦
          let rest = found_refused configuration piece next others refusal more in
          (ordered ∷ rest.0, rest.1, rest.2, ap (λ list. ordered ∷ list) rest.3, rest.4, (rest.5.0, (next, goes, rest.5.1), rest.5.2, rest.5.3))
      | inr (first, is, place, touched, fails) ↦
          let same = one_item is in
          ([], ordered, others, refl, ap (λ one. one.pos) same ∙ place, (old, refl, touched, subst (λ one. FirstFails (demands configuration old ordered) one.cause) (sym same) fails))
    ]

pub found_is_refused : FoundIsRefused
found_is_refused configuration piece old records refusal = (
  found_refused configuration piece old records refusal,
  λ is_member. subst (λ list. Finds configuration piece old list (Some refusal)) (sym is_member.3)
      (refused_found configuration piece old is_member.0 is_member.1 is_member.2 refusal is_member.4 is_member.5),
)

-- nothing found

pub run_finds_nothing : (configuration : Configuration) (piece : Piece) (old : Part) (records : List Ordered) (final : Part)
    → PieceRun configuration piece old records final → Finds configuration piece old records None
run_finds_nothing configuration piece old [] final run = refl
run_finds_nothing configuration piece old (ordered ∷ others) final (next, goes, run) =
    goes_finding (touches configuration piece ordered) configuration old ordered next (λ part. Finds configuration piece part others None) None goes
    (run_finds_nothing configuration piece next others final run)

pub nothing_found_is_a_run : NothingFoundIsARun
nothing_found_is_a_run configuration piece old records = (
  silent_piece_runs configuration piece old records,
  λ run. run_finds_nothing configuration piece old records run.0 run.1,
)

-- findings over one list after another

find_parts : (configuration : Configuration) (piece : Piece) (old : Part) (first second : List Ordered) (found : Option Refusal)
    → Finds configuration piece old (first ++ second) found
    → ((refusal : Refusal) × (found ≡ Some refusal) × Finds configuration piece old first found)
    ⊎ ((reached : Part) × PieceRun configuration piece old first reached × Finds configuration piece reached second found)
find_parts configuration piece old [] second found finds = inr (old, refl, finds)
find_parts configuration piece old (ordered ∷ others) second found finds =
    elim (found_next (touches configuration piece ordered) configuration old ordered (λ next. Finds configuration piece next (others ++ second) found) found finds) [
      | inl (next, goes, more) ↦ elim (find_parts configuration piece next others second found more) [
        | inl (refusal, is, rest) ↦ inl (refusal, is, goes_finding (touches configuration piece ordered) configuration old ordered next (λ part. Finds configuration piece part others found) found goes rest)
        | inr (reached, run, rest) ↦ inr (reached, (next, goes, run), rest)
      ]
      | inr (refusal, is, place, touched, fails) ↦
          inl (
            refusal,
            is,
            subst (FindsNext (touches configuration piece ordered) configuration old ordered (λ part. Finds configuration piece part others found)) (sym is)
                (refused_next (touches configuration piece ordered) configuration old ordered (λ part. Finds configuration piece part others found) refusal touched place fails),
          )
    ]

find_second : (configuration : Configuration) (piece : Piece) (old : Part) (first second : List Ordered) (reached : Part) (found : Option Refusal)
    → PieceRun configuration piece old first reached → Finds configuration piece reached second found
    → Finds configuration piece old (first ++ second) found
find_second configuration piece old [] second reached found run finds = subst (λ part. Finds configuration piece part second found) run finds
find_second configuration piece old (ordered ∷ others) second reached found (next, goes, run) finds =
    goes_finding (touches configuration piece ordered) configuration old ordered next (λ part. Finds configuration piece part (others ++ second) found) found goes
    (find_second configuration piece next others second reached found run finds)

find_first : (configuration : Configuration) (piece : Piece) (old : Part) (first second : List Ordered) (refusal : Refusal)
    → Finds configuration piece old first (Some refusal) → Finds configuration piece old (first ++ second) (Some refusal)
find_first configuration piece old [] second refusal finds = never_found (sym finds)
find_first configuration piece old (ordered ∷ others) second refusal finds =
    elim (found_next (touches configuration piece ordered) configuration old ordered (λ next. Finds configuration piece next others (Some refusal)) (Some refusal) finds) [
      | inl (next, goes, more) ↦
          goes_finding (touches configuration piece ordered) configuration old ordered next (λ part. Finds configuration piece part (others ++ second) (Some refusal)) (Some refusal) goes
          (find_first configuration piece next others second refusal more)
      | inr (first, is, place, touched, fails) ↦
          let same = one_item is in
          refused_next (touches configuration piece ordered) configuration old ordered (λ part. Finds configuration piece part (others ++ second) (Some refusal)) refusal touched
          (ap (λ one. one.pos) same ∙ place) (subst (λ one. FirstFails (demands configuration old ordered) one.cause) (sym same) fails)
    ]

pub findings_join : FindingsJoin
findings_join configuration piece old first second found = (
  find_parts configuration piece old first second found,
  λ either. elim either [
    | inl (refusal, is, finds) ↦ subst (Finds configuration piece old (first ++ second)) (sym is)
        (find_first configuration piece old first second refusal (subst (Finds configuration piece old first) is finds))
    | inr (reached, run, finds) ↦ find_second configuration piece old first second reached found run finds
  ],
)

-- One round after another, and a No whatever comes after it.
use Rattle.std.proofs.Common.{below_more, ◌≡◌, ◌⊎◌, ◌<◌, ◌≤◌, ◌+◌, ◌∙◌, ℕ, List, [], ◌∷◌, ◌++◌, Option, Some, None, length, refl, sym, ap, subst, arith, append_assoc, inl, inr}
use Rattle.std.proofs.lemmas.List.{length-append}
use Rattle.apex_types.specs.declared.cause.Cause.{Cause}
use Rattle.apex_types.specs.declared.record.Ordered.{Ordered}
use Rattle.apex_machine.specs.Configuration.{Configuration}
use Rattle.apex_machine.specs.Pieces.{Part, Piece, pieces}
use Rattle.apex_machine.specs.Runs.{ArePlaced, PieceRun, Refuses}
use Rattle.apex_laws.proofs.Joins.{runs_join}
use Rattle.piece_check.specs.Parts.{piece_at}
use Rattle.verdict_merge.specs.declared.finding.Refused.{Refused}
use Rattle.verdict_merge.specs.Findings.{IsLeastWith, IsLesser, Precedes}
use Rattle.verdict_merge.specs.Rounds.{AllRun, HasRunOver, IsNo, RefusesAmong, Runs}
use Rattle.verdict_merge.proofs.Least.{IsNoSooner, greater, no_smaller, no_sooner_next, no_sooner_stays}
use Rattle.verdict_merge.proofs.Splits.{begins, place_after}

-- runs

-- a run over the front of the records
pub runs_front : (configuration : Configuration) (parts : ℕ → Part) (number : ℕ) (front back : List Ordered)
    → Runs configuration parts number (front ++ back) → Runs configuration parts number front
runs_front configuration parts number front back (final, run) =
    let parted = (runs_join configuration (piece_at configuration number) (parts number) front back final).0 run in
    (parted.0, parted.1)

-- a run after a run
pub runs_on : (configuration : Configuration) (parts next : ℕ → Part) (number : ℕ) (front back : List Ordered)
    → PieceRun configuration (piece_at configuration number) (parts number) front (next number) → Runs configuration next number back
    → Runs configuration parts number (front ++ back)
runs_on configuration parts next number front back run (final, more) =
    (final, (runs_join configuration (piece_at configuration number) (parts number) front back final).1 (next number, run, more))

pub all_run_on : (configuration : Configuration) (old next new : ℕ → Part) (front back : List Ordered)
    → AllRun configuration old front next → AllRun configuration next back new → AllRun configuration old (front ++ back) new
all_run_on configuration old next new front back first second = λ number within.
    (runs_join configuration (piece_at configuration number) (old number) front back (new number)).1 (next number, first number within, second number within)

-- a No

-- a No after runs of all pieces
abbrev pub no_on : (configuration : Configuration) (old next : ℕ → Part) (front records : List Ordered) (found : Refused)
    → AllRun configuration old front next → IsNo configuration next records found → IsNo configuration old (front ++ records) found
no_on configuration old next front records found all is_shown = record {
  before = front ++ is_shown.before;
  ordered = is_shown.ordered;
  after = is_shown.after;
  split = ap (λ list. front ++ list) is_shown.split ∙ sym (append_assoc front is_shown.before (is_shown.ordered ∷ is_shown.after));
  place = is_shown.place;
  piece = is_shown.piece;
  refused = let reached = is_shown.refused in (
    reached.0,
    (runs_join configuration (piece_at configuration found.piece) (old found.piece) front is_shown.before reached.0).1 (next found.piece, all found.piece is_shown.piece, reached.1),
    reached.2,
    reached.3,
  );
  smaller = λ number less. subst (Runs configuration old number) (sym (append_assoc front is_shown.before (is_shown.ordered ∷ [])))
      (runs_on configuration old next number front (is_shown.before ++ is_shown.ordered ∷ []) (all number (omega (arith, less, is_shown.piece))) (is_shown.smaller number less));
  larger = λ number more within. runs_on configuration old next number front is_shown.before (all number within) (is_shown.larger number more within);
}

-- a No holds whatever comes after it
abbrev pub no_after : (configuration : Configuration) (parts : ℕ → Part) (records more : List Ordered) (found : Refused)
    → IsNo configuration parts records found → IsNo configuration parts (records ++ more) found
no_after configuration parts records more found is_shown = record {
  before = is_shown.before;
  ordered = is_shown.ordered;
  after = is_shown.after ++ more;
  split = ap (λ list. list ++ more) is_shown.split ∙ append_assoc is_shown.before (is_shown.ordered ∷ is_shown.after) more;
  place = is_shown.place;
  piece = is_shown.piece;
  refused = is_shown.refused;
  smaller = is_shown.smaller;
  larger = is_shown.larger;
}

-- a piece that refuses one of the records does so in the part that it has come to
pub refuses_in : (configuration : Configuration) (piece : Piece) (old : Part) (records : List Ordered) (place : ℕ) (cause : Cause)
    → (before : List Ordered) × (ordered : Ordered) × (after : List Ordered) × (records ≡ before ++ ordered ∷ after) × (place ≡ ordered.pos)
    × Refuses configuration piece old before ordered cause
    → (reached : Part) × RefusesAmong configuration piece old records place cause reached
refuses_in configuration piece old records place cause (before, ordered, after, split, there, (reached, run, touched, fails)) =
    (reached, (before, ordered, after, split, there, run, (touched, fails)))

-- the least of what the pieces found

-- what became of a piece, by the least finding so far: it ran over the records, or found what is no sooner
abbrev pub HasBeen : Configuration → (ℕ → Part) → List Ordered → (ℕ → Part) → Option Refused → ℕ → Type 0
HasBeen configuration old records new least number =
    PieceRun configuration (piece_at configuration number) (old number) records (new number)
    ⊎ ((other : Refused) × HasRunOver configuration number (old number) records (Some other) (new number) × IsNoSooner least other)

-- a piece runs over a front of the records that ends before each place where it may have refused one
runs_to : (configuration : Configuration) (old new : ℕ → Part) (records : List Ordered) (first : ℕ) (found : Refused) (number : ℕ) → ArePlaced first records
    → (front back : List Ordered) → records ≡ front ++ back → ((other : Refused) → other.piece ≡ number → ¬ Precedes other found → first + length front ≤ other.pos)
    → HasBeen configuration old records new (Some found) number → Runs configuration old number front
runs_to configuration old new records first found number placed front back split past (inl run) =
    runs_front configuration old number front back (subst (Runs configuration old number) split (new number, run))
runs_to configuration old new records first found number placed front back split past (inr (other, (of, (before, ordered, after, split', place, run, rejects)), later)) =
    let there : ordered.pos ≡ first + length before = place_after first before ordered after (subst (ArePlaced first) split' placed) in
    let long = begins front back before (ordered ∷ after) (sym split ∙ split') (let most = past other of later in omega (arith, most, there, place)) in
    runs_front configuration old number front long.0 (subst (Runs configuration old number) long.1 (new number, run))

-- the least finding is a No among the records
pub least_is_no : (configuration : Configuration) (old new : ℕ → Part) (records : List Ordered) (first : ℕ) (found : Refused) (part : Part) → ArePlaced first records
    → found.piece < length (pieces configuration) → HasRunOver configuration found.piece (old found.piece) records (Some found) part
    → ((number : ℕ) → number < length (pieces configuration) → HasBeen configuration old records new (Some found) number)
    → IsNo configuration old records found
least_is_no configuration old new records first found part placed within (of, (before, ordered, after, split, place, run, rejects)) been =
    let at : ordered.pos ≡ first + length before = place_after first before ordered after (subst (ArePlaced first) split placed) in
    record {
      before = before;
      ordered = ordered;
      after = after;
      split = split;
      place = place;
      piece = within;
      refused = (part, run, rejects.0, rejects.1);
      smaller = λ number less.
          runs_to configuration old new records first found number placed (before ++ ordered ∷ []) after (split ∙ sym (append_assoc before (ordered ∷ []) after))
          (λ other of not. omega (arith, at, place, length-append before (ordered ∷ []), greater other found not (omega (arith, of, less)))) (been number (omega (arith, less, within)));
      larger = λ number more inside.
          runs_to configuration old new records first found number placed before (ordered ∷ after) split
          (λ other of not. omega (arith, at, place, no_smaller other found not)) (been number inside);
    }

-- if nothing was found, each piece ran over the records
pub none_ran : (configuration : Configuration) (old new : ℕ → Part) (records : List Ordered)
    → ((number : ℕ) → number < length (pieces configuration) → HasBeen configuration old records new None number) → AllRun configuration old records new
none_ran configuration old new records been = λ number within. elim (been number within) [
  | inl run ↦ run
  | inr (other, outcome, later) ↦ absurd later
]

-- the least finding so far is of one of the pieces below this number
abbrev pub IsFound : Configuration → (ℕ → Part) → (ℕ → Part) → List Ordered → ℕ → Option Refused → Type 0
IsFound configuration old new records number None = Unit {0}
IsFound configuration old new records number (Some found) =
    (found.piece < number) × HasRunOver configuration found.piece (old found.piece) records (Some found) (new found.piece)

-- one more piece

no_sooner_with : (least found now : Option Refused) (other : Refused) → IsLeastWith least found now → IsNoSooner least other → IsNoSooner now other
no_sooner_with least None now other is later = subst (λ one. IsNoSooner one other) (sym is) later
no_sooner_with least (Some next) now other (one, is, lesser) later = subst (λ found. IsNoSooner found other) (sym is) (no_sooner_stays least next one other lesser later)

has_been : (configuration : Configuration) (old next : ℕ → Part) (records : List Ordered) (least found now : Option Refused) (number : ℕ) → IsLeastWith least found now
    → HasRunOver configuration number (old number) records found (next number) → HasBeen configuration old records next now number
has_been configuration old next records least None now number is outcome = inl outcome
has_been configuration old next records least (Some found) now number (one, is, lesser) outcome =
    inr (found, outcome, subst (λ now. IsNoSooner now found) (sym is) (no_sooner_next least found one lesser))

pub been_more : (configuration : Configuration) (old now next : ℕ → Part) (records : List Ordered) (least found after : Option Refused) (number : ℕ) → IsLeastWith least found after
    → ((one : ℕ) → one < number → HasBeen configuration old records now least one) → ((one : ℕ) → one < number → next one ≡ now one)
    → HasRunOver configuration number (old number) records found (next number)
    → (one : ℕ) → one < number + 1 → HasBeen configuration old records next after one
been_more configuration old now next records least found after number is been same outcome =
    below_more (HasBeen configuration old records next after) number (λ one less. stays one less (been one less)) (has_been configuration old next records least found after number is outcome)
  where
    stays : (one : ℕ) → one < number → HasBeen configuration old records now least one → HasBeen configuration old records next after one
    stays one less (inl run) = inl (subst (λ part. PieceRun configuration (piece_at configuration one) (old one) records part) (sym (same one less)) run)
    stays one less (inr (other, went, later)) =
        inr (other, subst (λ part. HasRunOver configuration one (old one) records (Some other) part) (sym (same one less)) went, no_sooner_with least found after other is later)

-- what was found below a number was found below the next one
found_below : (configuration : Configuration) (old new : ℕ → Part) (records : List Ordered) (number : ℕ) (least : Option Refused)
    → IsFound configuration old new records number least → IsFound configuration old new records (number + 1) least
found_below configuration old new records number None found = tt
found_below configuration old new records number (Some least) found = (omega (arith, found.0), found.1)

found_next : (configuration : Configuration) (old new : ℕ → Part) (records : List Ordered) (number : ℕ) (next : Refused)
    → HasRunOver configuration number (old number) records (Some next) (new number) → IsFound configuration old new records (number + 1) (Some next)
found_next configuration old new records number next (of, among) =
    (omega (arith, of), (refl, subst (λ one. RefusesAmong configuration (piece_at configuration one) (old one) records next.pos next.cause (new one)) (sym of) among))

found_lesser : (configuration : Configuration) (old new : ℕ → Part) (records : List Ordered) (number : ℕ) (least : Option Refused) (next one : Refused)
    → IsLesser Precedes least next one → IsFound configuration old new records number least → HasRunOver configuration number (old number) records (Some next) (new number)
    → IsFound configuration old new records (number + 1) (Some one)
found_lesser configuration old new records number None next one is found outcome =
    subst (λ f. IsFound configuration old new records (number + 1) (Some f)) (sym is) (found_next configuration old new records number next outcome)
found_lesser configuration old new records number (Some least) next one (inl (is, sooner)) found outcome =
    subst (λ f. IsFound configuration old new records (number + 1) (Some f)) (sym is) (found_next configuration old new records number next outcome)
found_lesser configuration old new records number (Some least) next one (inr (is, kept)) found outcome =
    subst (λ f. IsFound configuration old new records (number + 1) (Some f)) (sym is) (found_below configuration old new records number (Some least) found)

pub found_more : (configuration : Configuration) (old new : ℕ → Part) (records : List Ordered) (number : ℕ) (least found after : Option Refused)
    → IsLeastWith least found after → IsFound configuration old new records number least → HasRunOver configuration number (old number) records found (new number)
    → IsFound configuration old new records (number + 1) after
found_more configuration old new records number least None after is found outcome =
    subst (IsFound configuration old new records (number + 1)) (sym is) (found_below configuration old new records number least found)
found_more configuration old new records number least (Some next) after (one, is, lesser) found outcome =
    subst (IsFound configuration old new records (number + 1)) (sym is) (found_lesser configuration old new records number least next one lesser found outcome)

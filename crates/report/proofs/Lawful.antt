-- What a Yes, a No and a broken rule mean, from the scan of the texts and the verdict over the records placed.
use Rattle.std.proofs.Common.{◌≡◌, ◌≢◌, ◌<◌, ℕ, suc, List, [], ◌∷◌, ◌++◌, Bool, true, false, Option, Some, None, Result, Ok, Err, length, map, take, refl, sym, ap, ◌∙◌, subst, inl, inr, nat_eq, eqb-true, eq-eqb}
use Rattle.std.specs.Prelude.{if◌then◌else◌}
use Rattle.std.proofs.lemmas.Bool.{cases_eq}
use Rattle.std.proofs.lemmas.List.{append-nil}
use Rattle.apex_machine.specs.Configuration.{Configuration}
use Rattle.apex_machine.specs.Runs.{ArePlaced}
use Rattle.apex_types.specs.declared.record.Ordered.{Ordered}
use Rattle.apex_types.specs.declared.record.Pair.{Pair}
use Rattle.apex_types.specs.declared.record.Record.{Record}
use Rattle.module_config.specs.Reading.{configuration_of}
use Rattle.order_cert.specs.declared.fault.CertFault.TheVariants as cert
use Rattle.order_cert.specs.declared.fault.OrderFault.{OrderFault}
use Rattle.order_cert.specs.declared.fault.OrderFault.TheVariants as order
use Rattle.order_cert.specs.Kept.{none_taken, put}
use Rattle.order_cert.specs.Order.{AllKnown, following, misplaced, numbers_of}
use Rattle.order_cert.specs.Row.{Item as CertItem, pairs_of}
use Rattle.placement.specs.declared.fault.InputFault.{InputFault}
use Rattle.placement.specs.declared.fault.InputFault.TheVariants as input
use Rattle.placement.specs.Lanes.{IsScanOf}
use Rattle.placement.specs.Reading.{CanFail, Reads}
use Rattle.placement.specs.Scan.{Scan, ends_of, ends_so, keeping, led_by, placed_at, scan, taking}
use Rattle.placement.proofs.Readings.{put-here, put-other, put-back}
use Rattle.placement.proofs.Refusal.{Decides, Fits, IsWhy, ends_decide, front, why}
use Rattle.record_read.specs.declared.fault.RowFault.TheVariants as row
use Rattle.record_read.specs.Row.{Item}
use Rattle.user_rules.specs.Remembered.{Requirements}
use Rattle.verdict_merge.specs.declared.verdict.Verdict.{Verdict}
use Rattle.verdict_merge.specs.declared.verdict.Verdict.TheVariants.{Yes, No, Broken}
use Rattle.verdict_merge.specs.Refusals.{IsBrokenAt, IsRefusedAt, IsRunUpToNo}
use Rattle.verdict_merge.specs.Verdicts.{IsRunWhereYes}
use Rattle.report.specs.declared.fault.CheckFault.{CheckFault}
use Rattle.report.specs.declared.last.LastItem.{LastItem}
use Rattle.report.specs.Last.{IsLastOf, last_before, last_of, settled}
use Rattle.report.specs.No.{IsLawfulUpTo, NoMeansRefusal}
use Rattle.report.specs.Inputs.{Texts, items_at}
use Rattle.report.specs.Outcome.{answer_with}
use Rattle.report.specs.Yes.{AreInOrder, YesMeansRun}

-- a reading that begins with no fault is of items that begin so
reads_begun : {Value Fault : Type 0} (can_fail : Bool) (failure : Fault) (items : List (Result Value Fault)) (good : List Value) (more given : List (Result Value Fault))
    → given ≡ map Ok good ++ more → Reads can_fail failure items given → take (length good) items ≡ map Ok good
reads_begun can_fail failure items good more given e (inl f) = ap (take (length good)) (sym f ∙ e) ∙ front good more
reads_begun {Value} {Fault} can_fail failure items good more given e (inr (can, before, rest, f, h)) = ap (take (length good)) f ∙ within before good (sym h ∙ e)
  where
    within : (before good : List Value) → map Ok before ++ Err failure ∷ [] ≡ map Ok good ++ more → take (length good) (map Ok before ++ rest) ≡ map Ok good
    within before [] e = refl
    within [] (g ∷ gs) e = cc
    within (x ∷ xs) (g ∷ gs) e =
        let head : ◌≡◌ {A = Result Value Fault} (Ok x) (Ok g) = cc in
        ap (λ (one : Result Value Fault). one ∷ take (length gs) (map Ok xs ++ rest)) head ∙ ap (λ (list : List (Result Value Fault)). Ok g ∷ list) (within xs gs (cc))

-- one with no fault at all is of items with none
reads_good : {Value Fault : Type 0} (can_fail : Bool) (failure : Fault) (items : List (Result Value Fault)) (good : List Value) (given : List (Result Value Fault))
    → given ≡ map Ok good → Reads can_fail failure items given → items ≡ map Ok good
reads_good can_fail failure items good given e (inl f) = sym f ∙ e
reads_good {Value} {Fault} can_fail failure items good given e (inr (can, before, rest, f, h)) = absurd (no_fault before good (sym h ∙ e))
  where
    no_fault : (before good : List Value) → map Ok before ++ Err failure ∷ [] ≡ map Ok good → ⊥
    no_fault [] [] e = cc
    no_fault [] (g ∷ gs) e = cc
    no_fault (x ∷ xs) [] e = cc
    no_fault (x ∷ xs) (g ∷ gs) e = no_fault xs gs (cc)

-- what a scan has placed, from this place on: the first pairs name the first records of each core; after a scan that ends well
-- nothing is left
record Placed (cores : ℕ) (taken : ℕ → ℕ) (place : ℕ) (scanned : Scan) (left : ℕ → List Item) (items : List CertItem) : Type 0 where
  pub pairs : List Pair
  pub later_pairs : List CertItem
  pub items_are : items ≡ map Ok pairs ++ later_pairs
  pub recordings : ℕ → List Record
  pub later_records : ℕ → List Item
  pub left_is : (core : ℕ) → core < cores → left core ≡ map Ok (recordings core) ++ later_records core
  pub numbers : (core : ℕ) → core < cores → numbers_of core pairs ≡ following (taken core) (length (recordings core))
  pub known : AllKnown cores pairs
  pub ordered : AreInOrder cores place pairs recordings scanned.placed
  pub ended : scanned.end ≡ Ok tt → (later_pairs ≡ []) × ((core : ℕ) → core < cores → later_records core ≡ [])

one_more : (cores : ℕ) (taken : ℕ → ℕ) (place : ℕ) (scanned : Scan) (left : ℕ → List Item) (pair : Pair) (rec : Record) (more : List Item) (rest : List CertItem)
    → Fits cores taken pair → left pair.core ≡ Ok rec ∷ more
    → Placed cores (put taken pair.core (suc (taken pair.core))) (suc place) scanned (put left pair.core more) rest
    → Placed cores taken place (led_by (placed_at place pair.core rec ∷ []) scanned) left (Ok pair ∷ rest)
one_more cores taken place scanned left pair rec more rest fits here r = record {
  pairs = pair ∷ r.pairs;
  later_pairs = r.later_pairs;
  recordings = put r.recordings pair.core (rec ∷ r.recordings pair.core);
  later_records = r.later_records;
  items_are = ap (λ l. Ok pair ∷ l) r.items_are;
  left_is = λ core h. elim (cases_eq core pair.core) [
    | inl s ↦ rw (s, put-here r.recordings pair.core (rec ∷ r.recordings pair.core)) (here ∙ ap (λ l. Ok rec ∷ l) (sym (put-here left pair.core more) ∙ r.left_is pair.core fits.known))
    | inr d ↦ sym (put-other left pair.core core more d) ∙ r.left_is core h ∙ ap (λ l. map Ok l ++ r.later_records core) (sym (put-other r.recordings pair.core core (rec ∷ r.recordings pair.core) d))
  ];
  numbers = λ core h. elim (cases_eq pair.core core) [
    | inl s ↦ subst (λ j. numbers_of j (pair ∷ r.pairs) ≡ following (taken j) (length (put r.recordings pair.core (rec ∷ r.recordings pair.core) j))) s
        (rw (put-here r.recordings pair.core (rec ∷ r.recordings pair.core), eq-eqb pair.core pair.core refl)
        (ap (λ n. n ∷ numbers_of pair.core r.pairs) fits.seq ∙ ap (λ l. taken pair.core ∷ l)
        (r.numbers pair.core fits.known ∙ ap (λ n. following n (length (r.recordings pair.core))) (put-here taken pair.core (suc (taken pair.core))))))
    | inr d ↦ apart core h d (nat_eq pair.core core) refl
  ];
  known = (fits.known, r.known);
  ordered = (
    rec,
    r.recordings pair.core,
    scanned.placed,
    put-here r.recordings pair.core (rec ∷ r.recordings pair.core),
    refl,
    subst (λ f. AreInOrder cores (suc place) r.pairs f scanned.placed) (sym (put-back r.recordings pair.core (rec ∷ r.recordings pair.core))) r.ordered,
  );
  ended = r.ended;
}
  where
    apart : (core : ℕ) → core < cores → pair.core ≢ core → (b : Bool) → nat_eq pair.core core ≡ b
        → (if b then pair.seq ∷ numbers_of core r.pairs else numbers_of core r.pairs) ≡ following (taken core) (length (put r.recordings pair.core (rec ∷ r.recordings pair.core) core))
    apart core h d true e = absurd (d (eqb-true pair.core core e))
    apart core h d false e =
        let o : core ≢ pair.core = λ f. d (sym f) in
        rw (put-other r.recordings pair.core core (rec ∷ r.recordings pair.core) o) (r.numbers core h ∙ ap (λ n. following n (length (r.recordings core))) (put-other taken pair.core core (suc (taken pair.core)) o))

-- if nothing more is placed, all is left
stopped : (cores : ℕ) (taken : ℕ → ℕ) (place : ℕ) (end : Result (Unit {0}) InputFault) (left : ℕ → List Item) (items : List CertItem)
    → (end ≡ Ok tt → (items ≡ []) × ((core : ℕ) → core < cores → left core ≡ [])) → Placed cores taken place (ends_so end) left items
stopped cores taken place end left items ended = record {
  pairs = [];
  later_pairs = items;
  items_are = refl;
  recordings = λ core. [];
  later_records = left;
  left_is = λ core h. refl;
  numbers = λ core h. refl;
  known = tt;
  ordered = (refl, λ core h. refl);
  ended = ended;
}

-- a fault is no good end
no_good_end : {Fact : Type 0} (fault : InputFault) → ◌≡◌ {A = Result (Unit {0}) InputFault} (Err fault) (Ok tt) → Fact
no_good_end fault e = cc

step_placed : (cores : ℕ) (taken : ℕ → ℕ) (place : ℕ) (left : ℕ → List Item) (pair : Pair) (rest : List CertItem)
    (wrong : Option OrderFault) → misplaced cores taken pair ≡ wrong → (items : List Item) → left pair.core ≡ items
    → ((more : List Item) → Placed cores (put taken pair.core (suc (taken pair.core))) (suc place)
    (scan cores (put taken pair.core (suc (taken pair.core))) (suc place) (put left pair.core more) rest) (put left pair.core more) rest)
    → Placed cores taken place (keeping wrong place pair (taking place pair items (λ rec more.
    scan cores (put taken pair.core (suc (taken pair.core))) (suc place) (put left pair.core more) rest))) left (Ok pair ∷ rest)
step_placed cores taken place left pair rest (Some fault) a items b later = stopped cores taken place (Err (input.Order place pair.core fault)) left (Ok pair ∷ rest) (λ e. no_good_end _ e)
step_placed cores taken place left pair rest None a [] b later = stopped cores taken place (Err (input.Order place pair.core order.Absent)) left (Ok pair ∷ rest) (λ e. no_good_end _ e)
step_placed cores taken place left pair rest None a (Err fault ∷ more) b later = stopped cores taken place (Err (input.Row pair.core pair.seq fault)) left (Ok pair ∷ rest) (λ e. no_good_end _ e)
step_placed cores taken place left pair rest None a (Ok rec ∷ more) b later =
    one_more cores taken place (scan cores (put taken pair.core (suc (taken pair.core))) (suc place) (put left pair.core more) rest) left pair rec more rest (subst (IsWhy cores taken pair) a (why cores taken pair)) b (later more)

scan_places_first : (cores : ℕ) (taken : ℕ → ℕ) (place : ℕ) (left : ℕ → List Item) (items : List CertItem) → Placed cores taken place (scan cores taken place left items) left items
unfolding scan
scan_places_first cores taken place left [] = stopped cores taken place (ends_of cores place taken left) left [] (λ e. (refl, subst (Decides cores place taken left) e (ends_decide cores place taken left)))
scan_places_first cores taken place left (Err fault ∷ rest) = stopped cores taken place (Err (input.Cert place fault)) left (Err fault ∷ rest) (λ e. no_good_end _ e)
scan_places_first cores taken place left (Ok pair ∷ rest) =
    step_placed cores taken place left pair rest (misplaced cores taken pair) refl (left pair.core) refl
    (λ more. scan_places_first cores (put taken pair.core (suc (taken pair.core))) (suc place) (put left pair.core more) rest)

-- records in order are at this place and those after it
in_order_placed : (cores place : ℕ) (pairs : List Pair) (rest : ℕ → List Record) (records : List Ordered) → AreInOrder cores place pairs rest records → ArePlaced place records
in_order_placed cores place [] rest records (is, none) = subst (ArePlaced place) (sym is) tt
in_order_placed cores place (pair ∷ pairs) rest records (rec, more, later, here, is, on) =
    subst (ArePlaced place) (sym is) (refl, in_order_placed cores (suc place) pairs (put rest pair.core more) later on)

-- and so do those of a scan
pub scan_places : (cores : ℕ) (taken : ℕ → ℕ) (place : ℕ) (left : ℕ → List Item) (items : List CertItem) → ArePlaced place (scan cores taken place left items).placed
scan_places cores taken place left items =
    let placed = scan_places_first cores taken place left items in in_order_placed cores place placed.pairs placed.recordings (scan cores taken place left items).placed placed.ordered

pub scan_placed : (can_fail : CanFail) (cores : ℕ) (items : ℕ → List Item) (certificate : List CertItem) (scanned : Scan) → IsScanOf can_fail cores none_taken 0 items certificate scanned → ArePlaced 0 scanned.placed
scan_placed can_fail cores items certificate scanned (left, pairs, reads, certs, is) = subst (λ one. ArePlaced 0 one.placed) is (scan_places cores none_taken 0 left pairs)

-- what was placed of the texts

-- what a scan of the texts has placed, from the first place on
placed_of : (configuration : Configuration) (scanned : Scan) (left : ℕ → List Item) (items : List CertItem) (cores : ℕ) → cores ≡ configuration.cores → scan cores none_taken 0 left items ≡ scanned
    → Placed configuration.cores none_taken 0 scanned left items
placed_of configuration scanned left items cores count is =
    subst (λ one. Placed configuration.cores none_taken 0 one left items) (subst (λ n. scan n none_taken 0 left items ≡ scanned) count is)
    (scan_places_first configuration.cores none_taken 0 left items)

yes_of : (verdict : Verdict) (end : Result (Unit {0}) InputFault) (count : ℕ) → ◌≡◌ {A = Result Verdict CheckFault} (Ok (Yes count)) (answer_with verdict end)
    → (verdict ≡ Yes count) × (end ≡ Ok tt)
yes_of (Yes records) (Ok u) count e = (cc, refl)
yes_of _ _ count e = cc

-- a No and a broken rule are answered as they were found
found_of : (verdict found : Verdict) (end : Result (Unit {0}) InputFault) → ((count : ℕ) → ¬ (found ≡ Yes count)) → ◌≡◌ {A = Result Verdict CheckFault} (Ok found) (answer_with verdict end) → verdict ≡ found
found_of (Yes records) found (Ok u) other e = absurd (other records (cc))
found_of _ found _ other e = cc

module _ (can_fail : CanFail) (texts : Texts) (requirements : Requirements) (configuration : Configuration) (scanned : Scan)
    (read : configuration_of texts.config ≡ Ok configuration) (count : length texts.recordings ≡ configuration.cores)
    (scan_is : IsScanOf can_fail (length texts.recordings) none_taken 0 (items_at texts.recordings) (pairs_of texts.certificate) scanned)
    (verdict : Verdict) where
  pub yes_means : (result : Result Verdict CheckFault) → IsRunWhereYes configuration requirements scanned.placed verdict → result ≡ answer_with verdict scanned.end → YesMeansRun texts requirements result
  yes_means (Ok (Yes records)) run e =
      let (left, items, reads, certs, is) = scan_is in
      let yes = yes_of verdict scanned.end records e in
      let p = placed_of configuration scanned left items (length texts.recordings) count is in
      let none = p.ended yes.1 in
      let final = subst (IsRunWhereYes configuration requirements scanned.placed) yes.0 run in
      record {
        configuration = configuration;
        configured = read;
        readers = count;
        pairs = p.pairs;
        proposed = reads_good can_fail.certificate cert.Read (pairs_of texts.certificate) p.pairs items (p.items_are ∙ ap (λ list. map Ok p.pairs ++ list) none.0 ∙ append-nil (map Ok p.pairs)) certs;
        recordings = p.recordings;
        recorded = λ core h. reads_good can_fail.recordings row.Read (items_at texts.recordings core) (p.recordings core) (left core)
            (p.left_is core h ∙ ap (λ list. map Ok (p.recordings core) ++ list) (none.1 core h) ∙ append-nil (map Ok (p.recordings core))) (reads core);
        lawful = record { numbers = p.numbers; known = p.known };
        records = scanned.placed;
        ordered = p.ordered;
        final = final.0;
        run = final.1;
        meets = final.2;
        counted = final.3;
      }
  yes_means _ run e = tt

  -- a fact about the records that were placed is one about the first records of the recordings, in the order of the certificate
  lawful_up_to : (Fact : Configuration → List Ordered → Type 0) → Fact configuration scanned.placed → IsLawfulUpTo texts Fact
  lawful_up_to Fact holds =
      let (left, items, reads, certs, is) = scan_is in
      let p = placed_of configuration scanned left items (length texts.recordings) count is in
      record {
        configuration = configuration;
        configured = read;
        readers = count;
        pairs = p.pairs;
        proposed = reads_begun can_fail.certificate cert.Read (pairs_of texts.certificate) p.pairs p.later_pairs items p.items_are certs;
        recordings = p.recordings;
        recorded = λ core h. reads_begun can_fail.recordings row.Read (items_at texts.recordings core) (p.recordings core) (p.later_records core) (left core) (p.left_is core h) (reads core);
        lawful = record { numbers = p.numbers; known = p.known };
        records = scanned.placed;
        ordered = p.ordered;
        holds = holds;
      }

  -- what a No and a broken rule mean, and that the last records that are reported are of the records that they are about
  pub no_means : (result : Result Verdict CheckFault) (last : List LastItem) → IsRunUpToNo configuration requirements scanned.placed verdict → result ≡ answer_with verdict scanned.end
      → last ≡ last_of result scanned.placed → NoMeansRefusal texts requirements result × IsLastOf texts requirements result (settled result last)
  no_means (Err fault) last run e reported = (tt, refl)
  no_means (Ok (Yes records)) last run e reported = (tt, reported)
  no_means (Ok (No place piece cause)) last run e reported =
      let no = subst (IsRunUpToNo configuration requirements scanned.placed) (found_of verdict (No place piece cause) scanned.end (λ count yes. cc) e) run in (
        lawful_up_to (λ one records. IsRefusedAt one requirements records place) no,
        lawful_up_to (λ one records. IsRefusedAt one requirements records place × (last ≡ last_before place records)) (no, reported),
      )
  no_means (Ok (Broken place rule)) last run e reported =
      let no = subst (IsRunUpToNo configuration requirements scanned.placed) (found_of verdict (Broken place rule) scanned.end (λ count yes. cc) e) run in (
        lawful_up_to (λ one records. IsBrokenAt one requirements records place rule) no,
        lawful_up_to (λ one records. IsBrokenAt one requirements records place rule × (last ≡ last_before place records)) (no, reported),
      )

-- A scan that ends with a fault: all before its place is good, and the fault is there; and the converse.
use Rattle.std.proofs.Common.{◌≡◌, ◌≢◌, ◌<◌, ◌≤◌, ◌+◌, ◌∙◌, ◌||◌, ◌⊎◌, ℕ, zero, suc, List, [], ◌∷◌, ◌++◌, Bool, true, false, Option, Some, None, Result, Ok, Err, length, map, take, replicate, set, refl, sym, ap, subst, inl, inr, arith, nat_lt, nat_le, append_assoc, length-append, length-set}
use Rattle.std.proofs.lemmas.Bool.{cases_eq}
use Rattle.std.specs.Prelude.{if◌then◌else◌, slice_get}
use Rattle.std.proofs.lemmas.Bool.Decides.{nat_tests}
use Rattle.std.proofs.lemmas.List.{append-nil, length-replicate}
use mathlib.Core.Path.{fun_ext}
use Rattle.apex_types.specs.declared.limits.TheConstants.{MOST_RECORDS}
use Rattle.apex_types.specs.declared.record.Pair.{Pair}
use Rattle.apex_types.specs.declared.record.Record.{Record}
use Rattle.order_cert.specs.declared.fault.OrderFault.{OrderFault}
use Rattle.order_cert.specs.declared.fault.OrderFault.TheVariants.{Absent, Missing, NoSuchCore, Repeated, Skipped}
use Rattle.order_cert.specs.Kept.{Follows, Kept, put, taken_of}
use Rattle.order_cert.specs.Order.{IsLawfulOrder, IsPrefixOfLawful, misplaced, numbers_of, pair_of}
use Rattle.order_cert.specs.Row.{Item as CertItem}
use Rattle.order_cert.proofs.Lawful.{follows_none, follows_taken, next_from_prefix, numbers_append, numbers_other, numbers_same, zeros}
use Rattle.record_read.specs.Row.{Item}
use Rattle.placement.specs.declared.fault.InputFault.{InputFault}
use Rattle.placement.specs.declared.fault.InputFault.TheVariants as input
use Rattle.placement.specs.Refusal.{AreTaken, FirstFaultIsRefused, IsFirstFault, IsLeastLeft, IsOrderFault, MayComeNext, RefusedAtTheFirstFault, next_item, next_row, taken_by}
use Rattle.placement.specs.Scan.{Scan, and_then, end_of, ends_of, ends_so, keeping, led_by, placed_at, scan, taking}
use Rattle.placement.proofs.Ends.{ends_of-first}
use Rattle.placement.proofs.Readings.{put-here, put-other}

-- values without a fault, and the items after them

pub front : {Value Fault : Type 0} (good : List Value) (more : List (Result Value Fault)) → take (length good) (map Ok good ++ more) ≡ map Ok good
front [] more = refl
front {Value} {Fault} (g ∷ good) more = ap (λ (list : List (Result Value Fault)). Ok g ∷ list) (front good more)

after : {Value Fault : Type 0} (good : List Value) (more : List (Result Value Fault)) → slice_get (map Ok good ++ more) (length good) ≡ slice_get more 0
after [] more = refl
after (g ∷ good) more = after good more

one_on : {Value Fault : Type 0} (good : List Value) (value : Value) (more : List (Result Value Fault))
    → map Ok good ++ Ok value ∷ more ≡ map Ok (good ++ value ∷ []) ++ more
one_on [] value more = refl
one_on {Value} {Fault} (g ∷ good) value more = ap (λ (list : List (Result Value Fault)). Ok g ∷ list) (one_on good value more)

-- the next item, after these, is the next value of all
record OneLeft {Value Fault : Type 0} (good all : List Value) (items : List (Result Value Fault)) : Type 0 where
  pub value : Value
  pub later : List (Result Value Fault)
  pub items_are : items ≡ Ok value ∷ later
  pub listed : slice_get all (length good) ≡ Some value

one_left : {Value Fault : Type 0} (good all : List Value) (items : List (Result Value Fault)) → length good < length all
    → take (length all) (map Ok good ++ items) ≡ map Ok all → OneLeft good all items
one_left good [] items fewer e = absurd (omega arith)
one_left [] (value ∷ all) [] fewer e = cc
one_left {Value} {Fault} [] (value ∷ all) (item ∷ later) fewer e =
    let same : item ≡ Ok value = cc in
    record { value = value; later = later; items_are = ap (λ (one : Result Value Fault). one ∷ later) same; listed = refl }
one_left (g ∷ good) (value ∷ all) items fewer e =
    let more = one_left good all items (omega arith) (cc) in
    record { value = more.value; later = more.later; items_are = more.items_are; listed = more.listed }

seam : {A : Type 0} (front : List A) (x : A) (more : List A) → slice_get (front ++ x ∷ more) (length front) ≡ Some x
seam [] x more = refl
seam (y ∷ front) x more = seam front x more

head_of : {A : Type 0} (items : List A) (item : A) → slice_get items 0 ≡ Some item → (later : List A) × (items ≡ item ∷ later)
head_of [] item e = cc
head_of (first ∷ later) item e = (later, ap (λ one. one ∷ later) (cc))

none_of : {A : Type 0} (items : List A) → slice_get items 0 ≡ None → items ≡ []
none_of [] e = refl
none_of (first ∷ later) e = cc

-- what pairs take

taken_append : (core : ℕ) (ps qs : List Pair) → taken_by (ps ++ qs) core ≡ taken_by ps core + taken_by qs core
taken_append core ps qs = ap length (numbers_append core ps qs) ∙ length-append (numbers_of core ps) (numbers_of core qs)

taken_first : (pair : Pair) (more : List Pair) → taken_by (pair ∷ more) pair.core ≡ suc (taken_by more pair.core)
taken_first pair more = ap length (numbers_same pair more)

taken_apart : (core : ℕ) (pair : Pair) → core ≢ pair.core → taken_by (pair ∷ []) core ≡ 0
taken_apart core pair apart = ap length (numbers_other core pair [] (λ same. apart (sym same)))

taken_on : (pairs : List Pair) (pair : Pair) (core : ℕ)
    → put (taken_by pairs) pair.core (suc (taken_by pairs pair.core)) core ≡ taken_by (pairs ++ pair ∷ []) core
taken_on pairs pair core = elim (cases_eq core pair.core) [
  | inl s ↦ rw (s, put-here (taken_by pairs) pair.core (suc (taken_by pairs pair.core)))
      (omega (arith, taken_append pair.core pairs (pair ∷ []), taken_first pair []))
  | inr apart ↦ put-other (taken_by pairs) pair.core core (suc (taken_by pairs pair.core)) apart
      ∙ omega (arith, taken_append core pairs (pair ∷ []), taken_apart core pair apart)
]

taken_next : (pairs : List Pair) (pair : Pair) → put (taken_by pairs) pair.core (suc (taken_by pairs pair.core)) ≡ taken_by (pairs ++ pair ∷ [])
taken_next pairs pair = fun_ext (taken_on pairs pair)

lawful_before : (cores : ℕ) (ps qs : List Pair) → IsPrefixOfLawful cores (ps ++ qs) → IsPrefixOfLawful cores ps
lawful_before cores ps qs h = record {
  lens = h.lens;
  more = qs ++ h.more;
  bound = h.bound;
  lawful = subst (IsLawfulOrder cores h.lens) (append_assoc ps qs h.more) h.lawful;
}

-- why a pair may not come next, or that it fits

pub record Fits (cores : ℕ) (taken : ℕ → ℕ) (pair : Pair) : Type 0 where
  pub known : pair.core < cores
  pub seq : pair.seq ≡ taken pair.core
  pub below : pair.seq < MOST_RECORDS

abbrev pub IsAbove : (ℕ → ℕ) → Pair → Type 0
IsAbove taken pair = (taken pair.core < pair.seq) ⊎ ((pair.seq ≡ taken pair.core) × (MOST_RECORDS ≤ pair.seq))

abbrev pub IsWhy : ℕ → (ℕ → ℕ) → Pair → Option OrderFault → Type 0
IsWhy cores taken pair None = Fits cores taken pair
IsWhy cores taken pair (Some NoSuchCore) = cores ≤ pair.core
IsWhy cores taken pair (Some Repeated) = (pair.core < cores) × (pair.seq < taken pair.core)
IsWhy cores taken pair (Some Skipped) = (pair.core < cores) × IsAbove taken pair
IsWhy cores taken pair (Some Absent) = ⊥
IsWhy cores taken pair (Some Missing) = ⊥

pub why : (cores : ℕ) (taken : ℕ → ℕ) (pair : Pair) → IsWhy cores taken pair (misplaced cores taken pair)
why cores taken pair =
    by (nat_lt pair.core cores) (nat_lt pair.seq (taken pair.core)) (nat_lt (taken pair.core) pair.seq) (nat_le MOST_RECORDS pair.seq) refl refl refl refl
  where
    by : (a b c d : Bool) → nat_lt pair.core cores ≡ a → nat_lt pair.seq (taken pair.core) ≡ b → nat_lt (taken pair.core) pair.seq ≡ c
        → nat_le MOST_RECORDS pair.seq ≡ d → IsWhy cores taken pair (if a then (if b then Some Repeated else (if c || d then Some Skipped else None)) else Some NoSuchCore)
    by false b c d x y z w = grind (arith, nat_tests)
    by true true c d x y z w = (grind (arith, nat_tests), grind (arith, nat_tests))
    by true false true d x y z w = (grind (arith, nat_tests), inl (grind (arith, nat_tests)))
    by true false false true x y z w = (grind (arith, nat_tests), inr (grind (arith, nat_tests), grind (arith, nat_tests)))
    by true false false false x y z w = record { known = grind (arith, nat_tests); seq = grind (arith, nat_tests); below = grind (arith, nat_tests) }

fits_pass : (cores : ℕ) (pairs : List Pair) (pair : Pair) → Fits cores (taken_by pairs) pair → misplaced cores (taken_by pairs) pair ≡ None
fits_pass cores pairs pair f = grind (arith, nat_tests, f.known, f.seq, f.below)

unknown_fails : (cores : ℕ) (pairs : List Pair) (pair : Pair) → cores ≤ pair.core → misplaced cores (taken_by pairs) pair ≡ Some NoSuchCore
unknown_fails cores pairs pair h = grind (arith, nat_tests)

repeated_fails : (cores : ℕ) (pairs : List Pair) (pair : Pair) → pair.core < cores → pair.seq < taken_by pairs pair.core
    → misplaced cores (taken_by pairs) pair ≡ Some Repeated
repeated_fails cores pairs pair known low = grind (arith, nat_tests)

skipped_fails : (cores : ℕ) (pairs : List Pair) (pair : Pair) → pair.core < cores → IsAbove (taken_by pairs) pair → misplaced cores (taken_by pairs) pair ≡ Some Skipped
skipped_fails cores pairs pair known (inl high) = grind (arith, nat_tests)
skipped_fails cores pairs pair known (inr (same, most)) = grind (arith, nat_tests)

-- how the recordings end: each has ended, or the least core that has not decides
abbrev pub Decides : ℕ → ℕ → (ℕ → ℕ) → (ℕ → List Item) → Result (Unit {0}) InputFault → Type 0
Decides cores place taken left (Ok ended) = (core : ℕ) → core < cores → left core ≡ []
Decides cores place taken left (Err fault) =
    (core : ℕ) × (core < cores) × ((below : ℕ) → below < core → left below ≡ []) × (end_of place core (taken core) (left core) ≡ Err fault)

pub ends_decide : (cores place : ℕ) (taken : ℕ → ℕ) (left : ℕ → List Item) → Decides cores place taken left (ends_of cores place taken left)
ends_decide zero place taken left = λ core within. absurd (omega arith)
ends_decide (suc cores) place taken left = by (ends_of cores place taken left) (left cores) refl (ends_decide cores place taken left)
  where
    by : (low : Result (Unit {0}) InputFault) (items : List Item) → left cores ≡ items → Decides cores place taken left low
        → Decides (suc cores) place taken left (and_then low (end_of place cores (taken cores) items))
    by (Err fault) items e (core, within, ended, is) = (core, omega arith, ended, is)
    by (Ok u) [] e ended = λ core within. elim (cases_eq core cores) [ inl s ↦ rw s e | inr apart ↦ ended core (omega arith) ]
    by (Ok u) (Ok rec ∷ more) e ended = (cores, omega arith, ended, ap (end_of place cores (taken cores)) e)
    by (Ok u) (Err fault ∷ more) e ended = (cores, omega arith, ended, ap (end_of place cores (taken cores)) e)

-- these pairs were taken, and these items are left of the recordings and of the certificate; a keeper has counted the pairs
record Taken (cores : ℕ) (whole : ℕ → List Item) (certificate : List CertItem) (pairs : List Pair) (left : ℕ → List Item) (rest : List CertItem) : Type 0 where
  pub kept : Kept
  pub cores_are : kept.cores ≡ cores
  pub long : cores ≤ length kept.counts
  pub follows : Follows kept pairs
  pub rows : certificate ≡ map Ok pairs ++ rest
  pub recordings : ℕ → List Record
  pub counts : (core : ℕ) → core < cores → length (recordings core) ≡ taken_by pairs core
  pub recorded : (core : ℕ) → core < cores → whole core ≡ map Ok (recordings core) ++ left core

-- the scan of what is left after these pairs
abbrev scan_after : ℕ → List Pair → (ℕ → List Item) → List CertItem → Scan
scan_after cores pairs left rest = scan cores (taken_by pairs) (length pairs) left rest

-- what a refusal by the rest means
abbrev Refused : ℕ → (ℕ → List Item) → List CertItem → List Pair → Scan → Type 0
Refused cores whole certificate before scanned =
    (fault : InputFault) → scanned.end ≡ Err fault
    → (pairs : List Pair) × AreTaken cores whole certificate pairs × (length before + length scanned.placed ≡ length pairs)
    × IsFirstFault cores whole certificate pairs fault

module _ {cores : ℕ} {whole : ℕ → List Item} {certificate : List CertItem} {pairs : List Pair} {left : ℕ → List Item} {rest : List CertItem}
    (t : Taken cores whole certificate pairs left rest) where
  are_taken : AreTaken cores whole certificate pairs
  are_taken = record {
    rows = ap (take (length pairs)) t.rows ∙ front pairs rest;
    lawful = subst (λ n. IsPrefixOfLawful n pairs) t.cores_are t.follows.lawful;
    recordings = t.recordings;
    counts = t.counts;
    recorded = λ core within. ap (take (length (t.recordings core))) (t.recorded core within) ∙ front (t.recordings core) (left core);
  }

  row_is : next_row certificate pairs ≡ slice_get rest 0
  row_is = ap (λ l. slice_get l (length pairs)) t.rows ∙ after pairs rest

  item_is : (core : ℕ) → core < cores → next_item whole pairs core ≡ slice_get (left core) 0
  item_is core within =
      ap (λ l. slice_get l (taken_by pairs core)) (t.recorded core within)
      ∙ ap (slice_get (map Ok (t.recordings core) ++ left core)) (sym (t.counts core within)) ∙ after (t.recordings core) (left core)

  lawful_fits : (pair : Pair) → IsPrefixOfLawful cores (pairs ++ pair ∷ []) → Fits cores (taken_by pairs) pair
  lawful_fits pair lawful =
      let n = next_from_prefix t.kept pairs pair t.follows (subst (λ n. IsPrefixOfLawful n (pairs ++ pair ∷ [])) (sym t.cores_are) lawful) in
      record { known = omega (arith, n.known, t.cores_are); seq = n.seq ∙ t.follows.counts pair.core; below = n.below }

  -- a scan that ends here with the first fault
  stopped : (found : InputFault) → IsFirstFault cores whole certificate pairs found → Refused cores whole certificate pairs (ends_so (Err found))
  stopped found is fault e =
      let same : found ≡ fault = cc in
      (pairs, are_taken, omega arith, subst (IsFirstFault cores whole certificate pairs) same is)

  at_end : (end : Result (Unit {0}) InputFault) → Decides cores (length pairs) (taken_by pairs) left end → rest ≡ []
      → Refused cores whole certificate pairs (ends_so end)
  at_end (Ok u) ended none fault e = cc
  at_end (Err found) (core, within, ended, is) none fault e = by (left core) refl is fault e
    where
      least : (item : Item) (more : List Item) → left core ≡ item ∷ more → IsLeastLeft cores whole certificate pairs core item
      least item more e = (
        row_is ∙ ap (λ l. slice_get l 0) none,
        within,
        (λ below low. item_is below (omega arith) ∙ ap (λ l. slice_get l 0) (ended below low)),
        item_is core within ∙ ap (λ l. slice_get l 0) e,
      )

      found_as : (one : InputFault) → one ≡ found → IsFirstFault cores whole certificate pairs one → Refused cores whole certificate pairs (ends_so (Err found))
      found_as one same is = stopped found (subst (IsFirstFault cores whole certificate pairs) same is)

      by : (items : List Item) → left core ≡ items → end_of (length pairs) core (taken_by pairs core) items ≡ Err found
          → Refused cores whole certificate pairs (ends_so (Err found))
      by [] e is = cc
      by (Ok rec ∷ more) e is = found_as (input.Order (length pairs) core Missing) (cc) (refl, (rec, least (Ok rec) more e))
      by (Err fault ∷ more) e is = found_as (input.Row core (taken_by pairs core) fault) (cc) (inr (refl, least (Err fault) more e))

module _ {cores : ℕ} {whole : ℕ → List Item} {certificate : List CertItem} {pairs : List Pair} {left : ℕ → List Item} {rest : List CertItem}
    (pair : Pair) (t : Taken cores whole certificate pairs left (Ok pair ∷ rest)) where
  unlawful : ¬ Fits cores (taken_by pairs) pair → ¬ IsPrefixOfLawful cores (pairs ++ pair ∷ [])
  unlawful misfit lawful = misfit (lawful_fits t pair lawful)

  order_fault : (fault : OrderFault) → IsWhy cores (taken_by pairs) pair (Some fault) → IsOrderFault cores whole certificate pairs pair.core fault
  order_fault NoSuchCore high = (pair.seq, (row_is t, unlawful (λ f. absurd (omega (arith, f.known)))), high)
  order_fault Repeated (known, low) = (pair.seq, (row_is t, unlawful (λ f. absurd (omega (arith, f.seq)))), known, low)
  order_fault Skipped (known, inl high) = (pair.seq, (row_is t, unlawful (λ f. absurd (omega (arith, f.seq)))), known, inl high)
  order_fault Skipped (known, inr most) = (pair.seq, (row_is t, unlawful (λ f. absurd (omega (arith, f.below, most.1)))), known, inr most)
  order_fault Absent none = absurd none
  order_fault Missing none = absurd none

module _ {cores : ℕ} {whole : ℕ → List Item} {certificate : List CertItem} {pairs : List Pair} {left : ℕ → List Item} {rest : List CertItem}
    (pair : Pair) (t : Taken cores whole certificate pairs left (Ok pair ∷ rest)) (fits : Fits cores (taken_by pairs) pair) where
  next_kept : Kept
  next_kept = record { cores = t.kept.cores; counts = set t.kept.counts pair.core (taken_of t.kept pair.core + 1) }

  follows_next : Follows next_kept (pairs ++ pair ∷ [])
  unfolding next_kept
  follows_next =
      follows_taken t.kept next_kept pairs pair refl refl (omega (arith, t.long, fits.known)) (omega (arith, t.cores_are, fits.known))
      (fits.seq ∙ sym (t.follows.counts pair.core)) fits.below t.follows

  may_come_next : MayComeNext cores certificate pairs pair.core pair.seq
  unfolding next_kept
  may_come_next = (row_is t, subst (λ n. IsPrefixOfLawful n (pairs ++ pair ∷ [])) t.cores_are follows_next.lawful)

  -- one record more is taken
  one_more : (rec : Record) (more : List Item) → left pair.core ≡ Ok rec ∷ more
      → Taken cores whole certificate (pairs ++ pair ∷ []) (put left pair.core more) rest
  unfolding next_kept
  one_more rec more here = record {
    kept = next_kept;
    cores_are = t.cores_are;
    long = rw length-set t.long;
    follows = follows_next;
    rows = t.rows ∙ one_on pairs pair rest;
    recordings = put t.recordings pair.core longer;
    counts = λ core within. elim (cases_eq core pair.core) [
      | inl s ↦ rw (s, put-here t.recordings pair.core longer) (omega (
        arith,
        length-append (t.recordings pair.core) (rec ∷ []),
        t.counts pair.core fits.known,
        put-here (taken_by pairs) pair.core (suc (taken_by pairs pair.core)),
        taken_on pairs pair pair.core,
      ))
      | inr d ↦ rw (put-other t.recordings pair.core core longer d)
          (t.counts core within ∙ sym (put-other (taken_by pairs) pair.core core (suc (taken_by pairs pair.core)) d) ∙ taken_on pairs pair core)
    ];
    recorded = λ core within. elim (cases_eq core pair.core) [
      | inl s ↦ rw (s, put-here t.recordings pair.core longer, put-here left pair.core more)
          (t.recorded pair.core fits.known ∙ ap (λ l. map Ok (t.recordings pair.core) ++ l) here ∙ one_on (t.recordings pair.core) rec more)
      | inr d ↦ rw (put-other t.recordings pair.core core longer d, put-other left pair.core core more d) (t.recorded core within)
    ];
  }
    where
      longer : List Record
      longer = t.recordings pair.core ++ rec ∷ []

-- the scan after one pair more
next_scan : (cores : ℕ) (pairs : List Pair) (pair : Pair) (left : ℕ → List Item) (rest : List CertItem)
    → scan cores (put (taken_by pairs) pair.core (suc (taken_by pairs pair.core))) (suc (length pairs)) left rest
    ≡ scan_after cores (pairs ++ pair ∷ []) left rest
next_scan cores pairs pair left rest =
    let place : length (pairs ++ pair ∷ []) ≡ suc (length pairs) = simp length-append (omega arith) in
    rw (taken_next pairs pair, place) refl

refused_more : (cores : ℕ) (whole : ℕ → List Item) (certificate : List CertItem) (pairs : List Pair) (pair : Pair) (rec : Record) (scanned : Scan)
    → Refused cores whole certificate (pairs ++ pair ∷ []) scanned
    → Refused cores whole certificate pairs (led_by (placed_at (length pairs) pair.core rec ∷ []) scanned)
refused_more cores whole certificate pairs pair rec scanned refused fault e =
    let (all, are, count, first) = refused fault e in
    (all, are, omega (arith, length-append pairs (pair ∷ []), count), first)

scan_refused : (cores : ℕ) (whole : ℕ → List Item) (certificate : List CertItem) (pairs : List Pair) (left : ℕ → List Item) (rest : List CertItem)
    → Taken cores whole certificate pairs left rest → Refused cores whole certificate pairs (scan_after cores pairs left rest)
unfolding scan
scan_refused cores whole certificate pairs left [] t =
    at_end t (ends_of cores (length pairs) (taken_by pairs) left) (ends_decide cores (length pairs) (taken_by pairs) left) refl
scan_refused cores whole certificate pairs left (Err fault ∷ rest) t = stopped t (input.Cert (length pairs) fault) (refl, row_is t)
scan_refused cores whole certificate pairs left (Ok pair ∷ rest) t =
    step (misplaced cores (taken_by pairs) pair) (why cores (taken_by pairs) pair) (left pair.core) refl
    (λ more next. subst (Refused cores whole certificate (pairs ++ pair ∷ [])) (sym (next_scan cores pairs pair (put left pair.core more) rest))
    (scan_refused cores whole certificate (pairs ++ pair ∷ []) (put left pair.core more) rest next))
  where
    later : List Item → Scan
    later more = scan cores (put (taken_by pairs) pair.core (suc (taken_by pairs pair.core))) (suc (length pairs)) (put left pair.core more) rest

    step : (wrong : Option OrderFault) → IsWhy cores (taken_by pairs) pair wrong → (items : List Item) → left pair.core ≡ items
        → ((more : List Item) → Taken cores whole certificate (pairs ++ pair ∷ []) (put left pair.core more) rest
        → Refused cores whole certificate (pairs ++ pair ∷ []) (later more))
        → Refused cores whole certificate pairs (keeping wrong (length pairs) pair (taking (length pairs) pair items (λ rec more. later more)))
    step (Some fault) is items e on = stopped t (input.Order (length pairs) pair.core fault) (refl, order_fault pair t fault is)
    step None fits [] e on =
        stopped t (input.Order (length pairs) pair.core Absent)
        (refl, (pair.seq, may_come_next pair t fits, item_is t pair.core fits.known ∙ ap (λ l. slice_get l 0) e))
    step None fits (Err fault ∷ more) e on =
        stopped t (input.Row pair.core pair.seq fault) (inl (may_come_next pair t fits, item_is t pair.core fits.known ∙ ap (λ l. slice_get l 0) e))
    step None fits (Ok rec ∷ more) e on = refused_more cores whole certificate pairs pair rec (later more) (on more (one_more pair t fits rec more e))

at_start : (cores : ℕ) (left : ℕ → List Item) (certificate : List CertItem) → Taken cores left certificate [] left certificate
at_start cores left certificate = record {
  kept = record { cores = cores; counts = replicate cores 0 };
  cores_are = refl;
  long = omega (arith, length-replicate {A = ℕ} cores 0);
  follows = follows_none (record { cores = cores; counts = replicate cores 0 }) (zeros cores);
  rows = refl;
  recordings = λ core. [];
  counts = λ core within. refl;
  recorded = λ core within. refl;
}

pub refused_at_first : RefusedAtTheFirstFault
refused_at_first cores left certificate scanned fault is e =
    let (pairs, are, count, first) =
    scan_refused cores left certificate [] left certificate (at_start cores left certificate) fault (ap (λ one. one.end) is ∙ e) in
    (pairs, are, ap (λ one. length one.placed) (sym is) ∙ omega (arith, count), first)

-- the converse

module _ {cores : ℕ} {whole : ℕ → List Item} {certificate : List CertItem} {pairs : List Pair} {left : ℕ → List Item} {rest : List CertItem}
    (t : Taken cores whole certificate pairs left rest) where
  row_left : (item : CertItem) → next_row certificate pairs ≡ Some item → (later : List CertItem) × (rest ≡ item ∷ later)
  row_left item e = head_of rest item (sym (row_is t) ∙ e)

  none_left : (core : ℕ) → core < cores → next_item whole pairs core ≡ None → left core ≡ []
  none_left core within e = none_of (left core) (sym (item_is t core within) ∙ e)

  item_left : (core : ℕ) (item : Item) → core < cores → next_item whole pairs core ≡ Some item → (more : List Item) × (left core ≡ item ∷ more)
  item_left core item within e = head_of (left core) item (sym (item_is t core within) ∙ e)

  -- the scan ends here, with a pair that may not be there
  pair_ends : (core seq : ℕ) (fault : OrderFault) → next_row certificate pairs ≡ Some (Ok (pair_of core seq))
      → misplaced cores (taken_by pairs) (pair_of core seq) ≡ Some fault
      → scan_after cores pairs left rest ≡ ends_so (Err (input.Order (length pairs) core fault))
  unfolding scan
  pair_ends core seq fault row wrong =
      let (later, is) = row_left (Ok (pair_of core seq)) row in
      rw (is, wrong) refl

  -- or with the least core of which an item is left
  least_ends : (core : ℕ) (item : Item) (fault : InputFault) → IsLeastLeft cores whole certificate pairs core item
      → ((more : List Item) → end_of (length pairs) core (taken_by pairs core) (item ∷ more) ≡ Err fault)
      → scan_after cores pairs left rest ≡ ends_so (Err fault)
  unfolding scan
  least_ends core item fault (row, within, below, here) is =
      let none : rest ≡ [] = none_of rest (sym (row_is t) ∙ row) in
      let (more, first) = item_left core item within here in
      rw none (ap ends_so (ends_of-first cores core (length pairs) (taken_by pairs) left fault within
      (λ one low. none_left one (omega arith) (below one low)) (ap (end_of (length pairs) core (taken_by pairs core)) first ∙ is more)))

  first_ends : (fault : InputFault) → IsFirstFault cores whole certificate pairs fault → scan_after cores pairs left rest ≡ ends_so (Err fault)
  unfolding scan
  first_ends (input.Cert place fault) (here, row) =
      let (later, is) = row_left (Err fault) row in
      rw (is, here) refl
  first_ends (input.Order place core NoSuchCore) (here, (seq, (row, unlawful), high)) =
      rw here (pair_ends core seq NoSuchCore row (unknown_fails cores pairs (pair_of core seq) high))
  first_ends (input.Order place core Repeated) (here, (seq, (row, unlawful), known, low)) =
      rw here (pair_ends core seq Repeated row (repeated_fails cores pairs (pair_of core seq) known low))
  first_ends (input.Order place core Skipped) (here, (seq, (row, unlawful), known, above)) =
      rw here (pair_ends core seq Skipped row (skipped_fails cores pairs (pair_of core seq) known above))
  first_ends (input.Order place core Absent) (here, (seq, (row, lawful), none)) =
      let fits = lawful_fits t (pair_of core seq) lawful in
      let (later, is) = row_left (Ok (pair_of core seq)) row in
      rw (is, fits_pass cores pairs (pair_of core seq) fits, none_left core fits.known none, here) refl
  first_ends (input.Order place core Missing) (here, (rec, least)) =
      rw here (least_ends core (Ok rec) (input.Order (length pairs) core Missing) least (λ more. refl))
  first_ends (input.Row core seq fault) (inl ((row, lawful), item)) =
      let fits = lawful_fits t (pair_of core seq) lawful in
      let (later, is) = row_left (Ok (pair_of core seq)) row in
      let (more, first) = item_left core (Err fault) fits.known item in
      rw (is, fits_pass cores pairs (pair_of core seq) fits, first) refl
  first_ends (input.Row core seq fault) (inr (here, least)) =
      rw here (least_ends core (Err fault) (input.Row core (taken_by pairs core) fault) least (λ more. refl))

-- the next pair of those that are taken comes next, and its record is there
record Passes (cores : ℕ) (pairs : List Pair) (left : ℕ → List Item) (rest : List CertItem) (pair : Pair) : Type 0 where
  pub fits : Fits cores (taken_by pairs) pair
  pub later : List CertItem
  pub row : rest ≡ Ok pair ∷ later
  pub rec : Record
  pub more : List Item
  pub item : left pair.core ≡ Ok rec ∷ more

next_passes : {cores : ℕ} {whole : ℕ → List Item} {certificate : List CertItem} {before : List Pair} {left : ℕ → List Item} {rest : List CertItem}
    (pair : Pair) (more : List Pair) → Taken cores whole certificate before left rest → AreTaken cores whole certificate (before ++ pair ∷ more)
    → Passes cores before left rest pair
next_passes {cores} {whole} {certificate} {before} {left} {rest} pair more t a = record {
  fits = fits;
  later = row.later;
  row = row.items_are ∙ ap (λ one. Ok one ∷ row.later) same;
  rec = item.value;
  more = item.later;
  item = item.items_are;
}
  where
    all : List Pair
    all = before ++ pair ∷ more

    fits : Fits cores (taken_by before) pair
    fits = lawful_fits t pair
        (lawful_before cores (before ++ pair ∷ []) more (subst (IsPrefixOfLawful cores) (sym (append_assoc before (pair ∷ []) more)) a.lawful))

    row : OneLeft before all rest
    row = one_left before all rest (simp length-append (omega arith)) (ap (take (length all)) (sym t.rows) ∙ a.rows)

    same : row.value ≡ pair
    same = let s = seam before pair more in let e = row.listed in cc

    fewer : length (t.recordings pair.core) < length (a.recordings pair.core)
    fewer = omega (arith, t.counts pair.core fits.known, a.counts pair.core fits.known, taken_append pair.core before (pair ∷ more), taken_first pair more)

    item : OneLeft (t.recordings pair.core) (a.recordings pair.core) (left pair.core)
    item = one_left (t.recordings pair.core) (a.recordings pair.core) (left pair.core) fewer
        (ap (take (length (a.recordings pair.core))) (sym (t.recorded pair.core fits.known)) ∙ a.recorded pair.core fits.known)

-- a scan that passes these pairs and then ends so
abbrev EndsAfter : List Pair → InputFault → Scan → Type 0
EndsAfter pairs fault scanned = (scanned.end ≡ Err fault) × (length scanned.placed ≡ length pairs)

ends_later : (cores : ℕ) (pairs : List Pair) (left : ℕ → List Item) (rest : List CertItem) (pair : Pair) (more : List Pair) (fault : InputFault)
    (p : Passes cores pairs left rest pair) → EndsAfter more fault (scan_after cores (pairs ++ pair ∷ []) (put left pair.core p.more) p.later)
    → EndsAfter (pair ∷ more) fault (scan_after cores pairs left rest)
unfolding scan
ends_later cores pairs left rest pair more fault p on =
    let here = subst (EndsAfter more fault) (sym (next_scan cores pairs pair (put left pair.core p.more) p.later)) on in
    rw (p.row, fits_pass cores pairs pair p.fits, p.item) (here.0, ap suc here.1)

passes : (cores : ℕ) (whole : ℕ → List Item) (certificate : List CertItem) (before more : List Pair) (left : ℕ → List Item) (rest : List CertItem)
    (fault : InputFault) → Taken cores whole certificate before left rest → AreTaken cores whole certificate (before ++ more)
    → IsFirstFault cores whole certificate (before ++ more) fault → EndsAfter more fault (scan_after cores before left rest)
passes cores whole certificate before [] left rest fault t a first =
    rw (first_ends t fault (subst (λ all. IsFirstFault cores whole certificate all fault) (append-nil before) first)) (refl, refl)
passes cores whole certificate before (pair ∷ more) left rest fault t a first =
    ends_later cores before left rest pair more fault p
    (passes cores whole certificate (before ++ pair ∷ []) more (put left pair.core p.more) p.later fault
    (one_more pair (subst (Taken cores whole certificate before left) p.row t) p.fits p.rec p.more p.item)
    (subst (AreTaken cores whole certificate) regrouped a) (subst (λ all. IsFirstFault cores whole certificate all fault) regrouped first))
  where
    p : Passes cores before left rest pair
    p = next_passes pair more t a

    regrouped : before ++ pair ∷ more ≡ (before ++ pair ∷ []) ++ more
    regrouped = sym (append_assoc before (pair ∷ []) more)

pub first_is_refused : FirstFaultIsRefused
first_is_refused cores left certificate scanned fault pairs is a first =
    subst (EndsAfter pairs fault) is (passes cores left certificate [] pairs left certificate fault (at_start cores left certificate) a first)

-- A record that is put next is the record that a scan of the recordings takes next.
use Rattle.std.proofs.Common.{◌≡◌, ◌≢◌, ◌<◌, ◌∙◌, ℕ, zero, suc, List, [], ◌∷◌, ◌++◌, length, map, Option, Some, None, Result, Ok, refl, sym, ap, subst, inl, inr, arith, append_assoc, append-nil, length-append}
use Rattle.std.specs.Prelude.{IfSome}
use Rattle.std.proofs.lemmas.Bool.{cases_eq}
use Rattle.apex_types.specs.declared.record.Ordered.{Ordered}
use Rattle.apex_types.specs.declared.record.Pair.{Pair}
use Rattle.apex_types.specs.declared.record.Record.{Record}
use Rattle.order_cert.specs.Kept.{Kept, none_taken, place_of, put, taken_of}
use Rattle.order_cert.specs.Order.{misplaced, pair_of}
use Rattle.order_cert.specs.Row.{Item as CertItem}
use Rattle.placement.specs.declared.fault.InputFault.{InputFault}
use Rattle.placement.specs.Scan.{Scan, ends_of, ends_so, keeping, led_by, placed_at, scan, taking}
use Rattle.placement.proofs.Readings.{put-here, put-other}
use Rattle.record_read.specs.Row.{Item}
use Rattle.order_run.specs.Left.{HasEnded, IsTaken, Lefts, Takes, TakesFirst, left_at}
use Rattle.order_run.specs.UnderWay.{Leads}

-- one value more
one_on : {Value Fault : Type 0} (values : List Value) (value : Value) (more : List (Result Value Fault)) → map Ok values ++ Ok value ∷ more ≡ map Ok (values ++ value ∷ []) ++ more
one_on [] value more = refl
one_on {Value} {Fault} (first ∷ values) value more = ap (λ (list : List (Result Value Fault)). Ok first ∷ list) (one_on values value more)

-- one pair of a scan
one_scanned : (cores : ℕ) (taken : ℕ → ℕ) (place : ℕ) (left : ℕ → List Item) (pair : Pair) (rec : Record) (rest : List Item) (more : List CertItem)
    → misplaced cores taken pair ≡ None → left pair.core ≡ Ok rec ∷ rest
    → scan cores taken place left (Ok pair ∷ more)
    ≡ led_by (placed_at place pair.core rec ∷ []) (scan cores (put taken pair.core (suc (taken pair.core))) (suc place) (put left pair.core rest) more)
unfolding scan
one_scanned cores taken place left pair rec rest more fits here =
    let later : Record → List Item → Scan = λ rec left_over. scan cores (put taken pair.core (suc (taken pair.core))) (suc place) (put left pair.core left_over) more in
    ap (λ wrong. keeping wrong place pair (taking place pair (left pair.core) later)) fits ∙ ap (λ items. taking place pair items later) here

led_twice : (front back : List Ordered) (scanned : Scan) → led_by front (led_by back scanned) ≡ led_by (front ++ back) scanned
led_twice front back scanned = ap (λ placed. record { placed = placed; end = scanned.end }) (sym (append_assoc front back scanned.placed))

led_nothing : (records : List Ordered) (end : Result (Unit {0}) InputFault) → led_by records (ends_so end) ≡ record { placed = records; end = end }
led_nothing records end = ap (λ placed. record { placed = placed; end = end }) (append-nil records)

-- the next record of a core is put next

known_on : (left : ℕ → List Item) (lefts after : Lefts) (core : ℕ) (rest : List Item) → ((other : ℕ) → left_at lefts other ≡ Some (left other))
    → ((other : ℕ) → other ≢ core → left_at after other ≡ left_at lefts other) → left_at after core ≡ Some rest
    → (other : ℕ) → left_at after other ≡ Some (put left core rest other)
known_on left lefts after core rest known others here other = elim (cases_eq other core) [
  | inl same ↦ rw (same, put-here left core rest) here
  | inr apart ↦ others other apart ∙ known other ∙ ap (λ items. Some items) (sym (put-other left core other rest apart))
]

split_on : (items left : ℕ → List Item) (taken : ℕ → List Record) (core : ℕ) (rec : Record) (rest : List Item) → ((other : ℕ) → items other ≡ map Ok (taken other) ++ left other)
    → left core ≡ Ok rec ∷ rest → (other : ℕ) → items other ≡ map Ok (put taken core (taken core ++ rec ∷ []) other) ++ put left core rest other
split_on items left taken core rec rest split here other = elim (cases_eq other core) [
  | inl same ↦ rw (same, put-here left core rest, put-here taken core (taken core ++ rec ∷ []))
      (split core ∙ ap (λ (all : List Item). map Ok (taken core) ++ all) here ∙ one_on (taken core) rec rest)
  | inr apart ↦ rw (put-other left core other rest apart, put-other taken core other (taken core ++ rec ∷ []) apart) (split other)
]

counts_on : (taken : ℕ → List Record) (counted : ℕ → ℕ) (core : ℕ) (rec : Record) → ((other : ℕ) → length (taken other) ≡ counted other)
    → (other : ℕ) → length (put taken core (taken core ++ rec ∷ []) other) ≡ put counted core (suc (counted core)) other
counts_on taken counted core rec counts other = elim (cases_eq other core) [
  | inl same ↦ rw (same, put-here taken core (taken core ++ rec ∷ []), put-here counted core (suc (counted core)))
      (omega (arith, length-append (taken core) (rec ∷ []), counts core))
  | inr apart ↦ rw (put-other taken core other (taken core ++ rec ∷ []) apart, put-other counted core other (suc (counted core)) apart) (counts other)
]

scans_on : (cores : ℕ) (items : ℕ → List Item) (counted : ℕ → ℕ) (place : ℕ) (left : ℕ → List Item) (pairs : List Pair) (records : List Ordered) (core : ℕ) (rec : Record) (rest : List Item)
    → ((more : List CertItem) → scan cores none_taken 0 items (map Ok pairs ++ more) ≡ led_by records (scan cores counted place left more))
    → misplaced cores counted (pair_of core (counted core)) ≡ None → left core ≡ Ok rec ∷ rest → (more : List CertItem)
    → scan cores none_taken 0 items (map Ok (pairs ++ pair_of core (counted core) ∷ []) ++ more)
    ≡ led_by (records ++ placed_at place core rec ∷ []) (scan cores (put counted core (suc (counted core))) (suc place) (put left core rest) more)
scans_on cores items counted place left pairs records core rec rest scans fits here more =
    let pair : Pair = pair_of core (counted core) in
    ap (scan cores none_taken 0 items) (sym (one_on pairs pair more)) ∙ scans (Ok pair ∷ more)
    ∙ ap (led_by records) (one_scanned cores counted place left pair rec rest more fits here)
    ∙ led_twice records (placed_at place core rec ∷ []) (scan cores (put counted core (suc (counted core))) (suc place) (put left core rest) more)

pub leads_on : (cores : ℕ) (items : ℕ → List Item) (old new : Kept) (lefts after : Lefts) (pairs : List Pair) (records : List Ordered) (core : ℕ) (rec : Record)
    → Leads cores items old lefts pairs records → IsTaken core lefts (Some rec) after → misplaced cores (taken_of old) (pair_of core (taken_of old core)) ≡ None
    → taken_of new ≡ put (taken_of old) core (suc (taken_of old core)) → place_of new ≡ suc (place_of old)
    → Leads cores items new after (pairs ++ pair_of core (taken_of old core) ∷ []) (records ++ placed_at (place_of old) core rec ∷ [])
leads_on cores items old new lefts after pairs records core rec leads is fits took place =
    by (subst (λ known. Takes known (Some rec) (left_at after core)) (leads.known core) is.takes)
  where
    by : TakesFirst (leads.left core) (Some rec) (left_at after core)
        → Leads cores items new after (pairs ++ pair_of core (taken_of old core) ∷ []) (records ++ placed_at (place_of old) core rec ∷ [])
    by (rest, here, now) = record {
      left = put leads.left core rest;
      taken = put leads.taken core (leads.taken core ++ rec ∷ []);
      known = known_on leads.left lefts after core rest leads.known is.others now;
      split = split_on items leads.left leads.taken core rec rest leads.split here;
      counts = subst (λ (counted : ℕ → ℕ). (other : ℕ) → length (put leads.taken core (leads.taken core ++ rec ∷ []) other) ≡ counted other) (sym took)
          (counts_on leads.taken (taken_of old) core rec leads.counts);
      scans = subst (λ (counted : ℕ → ℕ). (more : List CertItem) → scan cores none_taken 0 items (map Ok (pairs ++ pair_of core (taken_of old core) ∷ []) ++ more)
          ≡ led_by (records ++ placed_at (place_of old) core rec ∷ []) (scan cores counted (place_of new) (put leads.left core rest) more)) (sym took)
          (subst (λ (next : ℕ). (more : List CertItem) → scan cores none_taken 0 items (map Ok (pairs ++ pair_of core (taken_of old core) ∷ []) ++ more)
          ≡ led_by (records ++ placed_at (place_of old) core rec ∷ []) (scan cores (put (taken_of old) core (suc (taken_of old core))) next (put leads.left core rest) more)) (sym place)
          (scans_on cores items (taken_of old) (place_of old) leads.left pairs records core rec rest leads.scans fits here));
    }

-- at first nothing is taken
pub leads_first : (cores : ℕ) (items : ℕ → List Item) (kept : Kept) (lefts : Lefts) → ((core : ℕ) → left_at lefts core ≡ Some (items core))
    → taken_of kept ≡ none_taken → place_of kept ≡ 0 → Leads cores items kept lefts [] []
leads_first cores items kept lefts known none place = record {
  left = items;
  taken = λ core. [];
  known = known;
  split = λ core. refl;
  counts = λ core. sym (ap (λ (counted : ℕ → ℕ). counted core) none);
  scans = λ more.
      subst (λ (counted : ℕ → ℕ). scan cores none_taken 0 items more ≡ scan cores counted (place_of kept) items more) (sym none)
      (subst (λ (next : ℕ). scan cores none_taken 0 items more ≡ scan cores none_taken next items more) (sym place) refl);
}

-- where a recording has ended, nothing changes
pub leads_end : (cores : ℕ) (items : ℕ → List Item) (kept : Kept) (lefts after : Lefts) (pairs : List Pair) (records : List Ordered) (core : ℕ)
    → Leads cores items kept lefts pairs records → IsTaken core lefts None after → Leads cores items kept after pairs records
leads_end cores items kept lefts after pairs records core leads is = record {
  left = leads.left;
  taken = leads.taken;
  known = λ other. elim (cases_eq other core) [
    | inl same ↦ rw same (by (subst (λ known. Takes known None (left_at after core)) (leads.known core) is.takes))
    | inr apart ↦ is.others other apart ∙ leads.known other
  ];
  split = leads.split;
  counts = leads.counts;
  scans = leads.scans;
}
  where
    by : TakesFirst (leads.left core) None (left_at after core) → left_at after core ≡ Some (leads.left core)
    by (none, now) = now ∙ ap (λ items. Some items) (sym none)

-- a recording of which no record was left has ended
pub has_ended : (core : ℕ) (lefts after : Lefts) → IsTaken core lefts None after → HasEnded after core
has_ended core lefts after is = by (left_at lefts core) (left_at after core) is.takes
  where
    by : (old new : Option (List Item)) → Takes old None new → IfSome new (λ items. items ≡ [])
    by None new takes = subst (λ one. IfSome one (λ items. items ≡ [])) (sym takes) tt
    by (Some items) new (none, now) = subst (λ one. IfSome one (λ left. left ≡ [])) (sym now) refl

-- the end, where each recording has ended

ends_well : (cores place : ℕ) (taken : ℕ → ℕ) (left : ℕ → List Item) → ((core : ℕ) → core < cores → left core ≡ []) → ends_of cores place taken left ≡ Ok tt
ends_well zero place taken left none = refl
ends_well (suc core) place taken left none =
    rw (ends_well core place taken left (λ other within. none other (omega (arith, within))), none core (omega arith)) refl

-- a scan of these pairs alone
pub scanned_whole : (cores : ℕ) (items : ℕ → List Item) (kept : Kept) (lefts : Lefts) (pairs : List Pair) (records : List Ordered)
    → (leads : Leads cores items kept lefts pairs records) → ((core : ℕ) → core < cores → leads.left core ≡ [])
    → scan cores none_taken 0 items (map Ok pairs) ≡ record { placed = records; end = Ok tt }
unfolding scan
scanned_whole cores items kept lefts pairs records leads none =
    ap (scan cores none_taken 0 items) (sym (append-nil (map Ok pairs))) ∙ leads.scans []
    ∙ ap (λ end. led_by records (ends_so end)) (ends_well cores (place_of kept) (taken_of kept) leads.left none) ∙ led_nothing records (Ok tt)

-- where a recording has ended nothing is left of it
pub none_left : (cores : ℕ) (items : ℕ → List Item) (kept : Kept) (lefts : Lefts) (pairs : List Pair) (records : List Ordered) (core : ℕ)
    → (leads : Leads cores items kept lefts pairs records) → HasEnded lefts core → leads.left core ≡ []
none_left cores items kept lefts pairs records core leads ended = subst (λ one. IfSome one (λ left. left ≡ [])) (leads.known core) ended

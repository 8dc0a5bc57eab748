-- When pairs begin a lawful order, and when they are one.
use Rattle.std.proofs.Common.{◌≡◌, ◌≢◌, ◌<◌, ◌≤◌, ◌+◌, ◌∙◌, ◌↔◌, ◌++◌, ℕ, zero, suc, List, [], ◌∷◌, Bool, true, false, length, get_or, replicate, set, sum, refl, sym, ap, subst, inl, inr, arith, nat_eq, eq-eqb, length-append, length-set, get_or-set_same, get_or-set_other}
use Rattle.std.specs.Prelude.{if◌then◌else◌}
use Rattle.std.proofs.lemmas.Bool.{cases_eq, ne_eqb}
use Rattle.std.proofs.lemmas.List.{append-nil}
use Rattle.apex_types.specs.declared.record.Pair.{Pair}
use Rattle.apex_types.specs.declared.limits.TheConstants.{MOST_RECORDS}
use Rattle.order_cert.specs.Order.{numbers_of, following, AllKnown, IsLawfulOrder, IsPrefixOfLawful}
use Rattle.order_cert.specs.Kept.{Kept, Follows, taken_of}
use Rattle.order_cert.proofs.Counts.{sum_zero, sum_lowered}

-- the numbers of a core in a pair in front, of that core and of another
pub numbers_same : (p : Pair) (ps : List Pair) → numbers_of p.core (p ∷ ps) ≡ p.seq ∷ numbers_of p.core ps
numbers_same p ps = rw (eq-eqb p.core p.core refl) refl

pub numbers_other : (core : ℕ) (p : Pair) (ps : List Pair) → p.core ≢ core → numbers_of core (p ∷ ps) ≡ numbers_of core ps
numbers_other core p ps h = rw (ne_eqb p.core core h) refl

pub numbers_append : (core : ℕ) (ps qs : List Pair) → numbers_of core (ps ++ qs) ≡ numbers_of core ps ++ numbers_of core qs
numbers_append core [] qs = refl
numbers_append core (p ∷ ps) qs = by (nat_eq p.core core) (numbers_append core ps qs)
  where
    by : (b : Bool) → numbers_of core (ps ++ qs) ≡ numbers_of core ps ++ numbers_of core qs
        → (if b then p.seq ∷ numbers_of core (ps ++ qs) else numbers_of core (ps ++ qs)) ≡ (if b then p.seq ∷ numbers_of core ps else numbers_of core ps) ++ numbers_of core qs
    by true e = ap (λ ns. p.seq ∷ ns) e
    by false e = e

numbers_push : (pairs : List Pair) (p : Pair) → numbers_of p.core (pairs ++ p ∷ []) ≡ numbers_of p.core pairs ++ p.seq ∷ []
numbers_push pairs p = numbers_append p.core pairs (p ∷ []) ∙ ap (λ ns. numbers_of p.core pairs ++ ns) (numbers_same p [])

longer : (pairs : List Pair) (p : Pair) → length (numbers_of p.core (pairs ++ p ∷ [])) ≡ suc (length (numbers_of p.core pairs))
longer pairs p = ap length (numbers_push pairs p) ∙ length-append (numbers_of p.core pairs) (p.seq ∷ []) ∙ omega arith

known_left : (cores : ℕ) (ps qs : List Pair) → AllKnown cores (ps ++ qs) → AllKnown cores ps
known_left cores [] qs h = tt
known_left cores (p ∷ ps) qs h = (h.0, known_left cores ps qs h.1)

known_last : (cores : ℕ) (ps : List Pair) (p : Pair) → AllKnown cores (ps ++ p ∷ []) → p.core < cores
known_last cores [] p h = h.0
known_last cores (q ∷ qs) p h = known_last cores qs p h.1

known_push : (cores : ℕ) (ps : List Pair) (p : Pair) → AllKnown cores ps → p.core < cores → AllKnown cores (ps ++ p ∷ [])
known_push cores [] p h b = (b, tt)
known_push cores (q ∷ qs) p h b = (h.0, known_push cores qs p h.1 b)

known_more : (cores more : ℕ) (ps : List Pair) → cores ≤ more → AllKnown cores ps → AllKnown more ps
known_more cores more [] le h = tt
known_more cores more (p ∷ ps) le h = (omega (arith, h.0), known_more cores more ps le h.1)

following_push : (first n : ℕ) → following first n ++ (first + n) ∷ [] ≡ following first (suc n)
following_push first zero = let e : first + zero ≡ first = omega arith in ap (λ k. k ∷ []) e
following_push first (suc n) =
    let e : first + suc n ≡ suc first + n = omega arith in
    ap (λ k. first ∷ (following (suc first) n ++ k ∷ [])) e ∙ ap (λ ks. first ∷ ks) (following_push (suc first) n)

length_following : (first n : ℕ) → length (following first n) ≡ n
length_following first zero = refl
length_following first (suc n) = ap suc (length_following (suc first) n)

head_is : (x y : ℕ) (xs ys : List ℕ) → x ∷ xs ≡ y ∷ ys → x ≡ y
head_is x y xs ys e = cc

tail_is : (x y : ℕ) (xs ys : List ℕ) → x ∷ xs ≡ y ∷ ys → xs ≡ ys
tail_is x y xs ys e = cc

-- what begins a run of numbers is a run
following_prefix : (first n : ℕ) (xs ys : List ℕ) → xs ++ ys ≡ following first n → (xs ≡ following first (length xs)) × (length xs ≤ n)
following_prefix first n [] ys e = (refl, omega arith)
following_prefix first zero (x ∷ xs) ys e = absurd (impossible x (xs ++ ys) e)
  where
    impossible : (x : ℕ) (xs : List ℕ) → x ∷ xs ≡ [] → ⊥
    impossible x xs e = cc
following_prefix first (suc n) (x ∷ xs) ys e =
    let more = following_prefix (suc first) n xs ys (tail_is x first (xs ++ ys) (following (suc first) n) e) in
    let same : x ≡ first = head_is x first (xs ++ ys) (following (suc first) n) e in
    (rw (← more.0) (ap (λ y. y ∷ xs) same), omega (arith, more.1))

-- the last of a run of numbers
last_of_following : (first : ℕ) (xs : List ℕ) (x : ℕ) → xs ++ x ∷ [] ≡ following first (length (xs ++ x ∷ [])) → x ≡ first + length xs
last_of_following first [] x e = let z : first + 0 ≡ first = omega arith in head_is x first [] [] e ∙ sym z
last_of_following first (y ∷ xs) x e =
    omega (arith, last_of_following (suc first) xs x (tail_is y first (xs ++ x ∷ []) (following (suc first) (length (xs ++ x ∷ []))) e))

-- pairs that begin a lawful order, without the pairs that could follow
pub record IsTidy (cores : ℕ) (pairs : List Pair) : Type 0 where
  pub numbers : (core : ℕ) → core < cores → numbers_of core pairs ≡ following 0 (length (numbers_of core pairs))
  pub bound : (core : ℕ) → core < cores → length (numbers_of core pairs) ≤ MOST_RECORDS
  pub known : AllKnown cores pairs

pub tidy_from_prefix : (cores : ℕ) (pairs : List Pair) → IsPrefixOfLawful cores pairs → IsTidy cores pairs
tidy_from_prefix cores pairs h = record {
  numbers = λ core b. (begun core b).0;
  bound = λ core b. omega (arith, (begun core b).1, h.bound core b);
  known = known_left cores pairs h.more h.lawful.known;
}
  where
    begun : (core : ℕ) → core < cores → (numbers_of core pairs ≡ following 0 (length (numbers_of core pairs))) × (length (numbers_of core pairs) ≤ h.lens core)
    begun core b = following_prefix 0 (h.lens core) (numbers_of core pairs) (numbers_of core h.more) (sym (numbers_append core pairs h.more) ∙ h.lawful.numbers core b)

pub prefix_from_tidy : (cores : ℕ) (pairs : List Pair) → IsTidy cores pairs → IsPrefixOfLawful cores pairs
prefix_from_tidy cores pairs h = record {
  lens = λ core. length (numbers_of core pairs);
  more = [];
  bound = h.bound;
  lawful = rw append-nil (record { numbers = h.numbers; known = h.known });
}

-- if all counts are zero, nothing was taken
pub zeros : (cores core : ℕ) → ◌≡◌ {A = ℕ} (get_or (replicate cores 0) core 0) 0
zeros zero core = refl
zeros (suc cores) zero = refl
zeros (suc cores) (suc core) = zeros cores core

-- with no pair, nothing was taken
pub follows_none : (kept : Kept) → ((core : ℕ) → taken_of kept core ≡ 0) → Follows kept []
follows_none kept h = record {
  lawful = prefix_from_tidy kept.cores [] (record { numbers = λ core b. refl; bound = λ core b. omega arith; known = tt });
  counts = h;
}

-- a pair that may come next
pub follows_taken : (kept next : Kept) (pairs : List Pair) (p : Pair) → next.cores ≡ kept.cores → next.counts ≡ set kept.counts p.core (taken_of kept p.core + 1)
    → p.core < length kept.counts → p.core < kept.cores → p.seq ≡ taken_of kept p.core → p.seq < MOST_RECORDS → Follows kept pairs → Follows next (pairs ++ p ∷ [])
follows_taken kept next pairs p cores counts within known is_next below f =
    record { lawful = rw cores (prefix_from_tidy kept.cores (pairs ++ p ∷ []) tidy); counts = λ core. rw counts (count core) }
  where
    old : IsTidy kept.cores pairs
    old = tidy_from_prefix kept.cores pairs f.lawful

    there : (core : ℕ) → core ≢ p.core → numbers_of core (pairs ++ p ∷ []) ≡ numbers_of core pairs
    there core h =
        numbers_append core pairs (p ∷ []) ∙ ap (λ ns. numbers_of core pairs ++ ns) (numbers_other core p [] (λ e. h (sym e))) ∙ append-nil (numbers_of core pairs)

    seq_is : p.seq ≡ length (numbers_of p.core pairs)
    seq_is = is_next ∙ f.counts p.core

    run : numbers_of p.core (pairs ++ p ∷ []) ≡ following 0 (suc (length (numbers_of p.core pairs)))
    run =
        let seq : p.seq ≡ 0 + length (numbers_of p.core pairs) = omega (arith, seq_is) in
        numbers_push pairs p ∙ ap (λ n. numbers_of p.core pairs ++ n ∷ []) seq
        ∙ ap (λ ns. ns ++ (0 + length (numbers_of p.core pairs)) ∷ []) (old.numbers p.core known)
        ∙ following_push 0 (length (numbers_of p.core pairs))

    tidy : IsTidy kept.cores (pairs ++ p ∷ [])
    tidy = record {
      numbers = λ core b. elim (cases_eq core p.core) [
        | inl e ↦ subst (λ k. numbers_of k (pairs ++ p ∷ []) ≡ following 0 (length (numbers_of k (pairs ++ p ∷ [])))) (sym e) (run ∙ ap (following 0) (sym (longer pairs p)))
        | inr h ↦ there core h ∙ old.numbers core b ∙ ap (λ ns. following 0 (length ns)) (sym (there core h))
      ];
      bound = λ core b. elim (cases_eq core p.core) [
        | inl e ↦ subst (λ k. length (numbers_of k (pairs ++ p ∷ [])) ≤ MOST_RECORDS) (sym e) (omega (arith, longer pairs p, seq_is, below))
        | inr h ↦ subst (λ ns. length ns ≤ MOST_RECORDS) (sym (there core h)) (old.bound core b)
      ];
      known = known_push kept.cores pairs p old.known known;
    }

    count : (core : ℕ) → get_or (set kept.counts p.core (taken_of kept p.core + 1)) core 0 ≡ length (numbers_of core (pairs ++ p ∷ []))
    count core = elim (cases_eq core p.core) [
      | inl e ↦ subst (λ k. get_or (set kept.counts p.core (taken_of kept p.core + 1)) k 0 ≡ length (numbers_of k (pairs ++ p ∷ []))) (sym e)
          (get_or-set_same kept.counts p.core (taken_of kept p.core + 1) 0 within ∙ omega (arith, longer pairs p, f.counts p.core))
      | inr h ↦ get_or-set_other kept.counts p.core core (taken_of kept p.core + 1) 0 h ∙ f.counts core ∙ ap length (sym (there core h))
    ]

-- which pairs may come next
pub record IsNext (kept : Kept) (p : Pair) : Type 0 where
  pub known : p.core < kept.cores
  pub seq : p.seq ≡ taken_of kept p.core
  pub below : p.seq < MOST_RECORDS

pub next_from_prefix : (kept : Kept) (pairs : List Pair) (p : Pair) → Follows kept pairs → IsPrefixOfLawful kept.cores (pairs ++ p ∷ []) → IsNext kept p
next_from_prefix kept pairs p f h = record { known = known; seq = seq_is ∙ sym (f.counts p.core); below = omega (arith, seq_is, longer pairs p, tidy.bound p.core known) }
  where
    tidy : IsTidy kept.cores (pairs ++ p ∷ [])
    tidy = tidy_from_prefix kept.cores (pairs ++ p ∷ []) h

    known : p.core < kept.cores
    known = known_last kept.cores pairs p tidy.known

    seq_is : p.seq ≡ length (numbers_of p.core pairs)
    seq_is = omega (arith, last_of_following 0 (numbers_of p.core pairs) p.seq (sym (numbers_push pairs p) ∙ tidy.numbers p.core known ∙ ap (λ ns. following 0 (length ns)) (numbers_push pairs p)))

-- there are as many pairs as the counts say
pub counted : (pairs : List Pair) (counts : List ℕ) → ((core : ℕ) → get_or counts core 0 ≡ length (numbers_of core pairs)) → AllKnown (length counts) pairs → sum counts ≡ length pairs
counted [] counts h known = sum_zero counts h
counted (p ∷ ps) counts h known =
    let here : get_or counts p.core 0 ≡ suc (length (numbers_of p.core ps)) = h p.core ∙ ap length (numbers_same p ps) in
    let lower : List ℕ = set counts p.core (length (numbers_of p.core ps)) in
    let lower_is : sum lower ≡ length ps = counted ps lower each (rw length-set known.1) in
    sum_lowered counts p.core (length (numbers_of p.core ps)) known.0 here ∙ ap suc lower_is
  where
    each : (core : ℕ) → get_or (set counts p.core (length (numbers_of p.core ps))) core 0 ≡ length (numbers_of core ps)
    each core = elim (cases_eq core p.core) [
      | inl e ↦ subst (λ k. get_or (set counts p.core (length (numbers_of p.core ps))) k 0 ≡ length (numbers_of k ps)) (sym e)
          (get_or-set_same counts p.core (length (numbers_of p.core ps)) 0 known.0)
      | inr d ↦ get_or-set_other counts p.core core (length (numbers_of p.core ps)) 0 d ∙ h core ∙ ap length (numbers_other core p ps (λ e. d (sym e)))
    ]

pub place_is : (kept : Kept) (pairs : List Pair) → kept.cores ≤ length kept.counts → Follows kept pairs → sum kept.counts ≡ length pairs
place_is kept pairs long f = counted pairs kept.counts f.counts (known_more kept.cores (length kept.counts) pairs long (tidy_from_prefix kept.cores pairs f.lawful).known)

-- the pairs are a lawful order of recordings of these lengths exactly if every record was taken
pub whole_is_lawful : (kept : Kept) (pairs : List Pair) (lens : ℕ → ℕ) → Follows kept pairs
    → ((core : ℕ) → core < kept.cores → taken_of kept core ≡ lens core) ↔ IsLawfulOrder kept.cores lens pairs
whole_is_lawful kept pairs lens f = (
  (λ h. record {
    numbers = λ core b. tidy.numbers core b ∙ ap (following 0) (sym (f.counts core) ∙ h core b);
    known = tidy.known;
  }),
  λ h core b. f.counts core ∙ ap length (h.numbers core b) ∙ length_following 0 (lens core),
)
  where
    tidy : IsTidy kept.cores pairs
    tidy = tidy_from_prefix kept.cores pairs f.lawful

-- What one piece sees of the records that it runs over.
use Rattle.std.proofs.Common.{◌≡◌, ◌<◌, ◌+◌, ◌∙◌, ℕ, suc, List, [], ◌∷◌, ◌++◌, Bool, true, false, Option, Some, None, length, refl, sym, ap, subst, inl, inr, arith}
use Rattle.std.specs.Prelude.{Contains}
use Rattle.std.proofs.lemmas.List.{length-append}
use Rattle.apex_types.specs.declared.record.Ordered.{Ordered}
use Rattle.apex_types.specs.declared.view.View.{View}
use Rattle.apex_machine.specs.Configuration.{Configuration}
use Rattle.apex_machine.specs.Pieces.{Part, Piece, touches}
use Rattle.apex_machine.specs.Runs.{Goes, PieceRun}
use Rattle.apex_machine.specs.Views.{view_in}
use Rattle.verdict_merge.specs.declared.breach.Seen.{Seen}
use Rattle.verdict_merge.specs.Views.{AreSeen, SeesNext, seen_of}
use Rattle.verdict_merge.proofs.Among.{contains_after, contains_cases, contains_here, contains_none}

-- a record leaves one part
one_next : (touched : Bool) (configuration : Configuration) (old : Part) (ordered : Ordered) (one other : Part)
    → Goes touched configuration old ordered one → Goes touched configuration old ordered other → one ≡ other
one_next true configuration old ordered one other goes also = goes.1 ∙ sym also.1
one_next false configuration old ordered one other goes also = goes ∙ sym also

-- a run ends in one part
pub one_end : (configuration : Configuration) (piece : Piece) (old : Part) (records : List Ordered) (one other : Part)
    → PieceRun configuration piece old records one → PieceRun configuration piece old records other → one ≡ other
one_end configuration piece old [] one other run also = run ∙ sym also
one_end configuration piece old (ordered ∷ others) one other (next, goes, rest) (next', goes', rest') =
    one_end configuration piece next others one other rest
    (subst (λ part. PieceRun configuration piece part others other) (sym (one_next (touches configuration piece ordered) configuration old ordered next next' goes goes')) rest')

sees_one : (given : Option View) (index : ℕ) (More : List Seen → Type 0) → More [] → SeesNext given index (seen_of given index) More
sees_one None index More more = more
sees_one (Some view) index More more = ([], refl, more)

-- what more is seen, if more is seen after the first record
further : (given : Option View) (index : ℕ) (seen last : List Seen) (Old New : List Seen → Type 0) → ((more : List Seen) → Old more → New (more ++ last))
    → SeesNext given index seen Old → SeesNext given index (seen ++ last) New
further None index seen last Old New goes_on sees = goes_on seen sees
further (Some view) index seen last Old New goes_on (more, is, sees) = (more ++ last, ap (λ list. list ++ last) is, goes_on more sees)

-- one more record is seen after the others
pub sees_on : (configuration : Configuration) (piece : Piece) (old now next : Part) (index : ℕ) (before : List Ordered) (ordered : Ordered) (seen : List Seen)
    → AreSeen configuration piece old index before seen → PieceRun configuration piece old before now
    → Goes (touches configuration piece ordered) configuration now ordered next
    → AreSeen configuration piece old index (before ++ ordered ∷ []) (seen ++ seen_of (view_in now ordered) (index + length before))
sees_on configuration piece old now next index [] ordered seen none run goes = (
  next,
  subst (λ part. Goes (touches configuration piece ordered) configuration part ordered next) run goes,
  subst (λ part. SeesNext (view_in old ordered) index (seen ++ seen_of (view_in part ordered) (index + 0)) (λ more. more ≡ [])) (sym run)
      (subst (λ list. SeesNext (view_in old ordered) index (list ++ seen_of (view_in old ordered) (index + 0)) (λ more. more ≡ [])) (sym none)
      (subst (λ n. SeesNext (view_in old ordered) index (seen_of (view_in old ordered) n) (λ more. more ≡ [])) (let e : index ≡ index + 0 = omega arith in e)
      (sees_one (view_in old ordered) index (λ more. more ≡ []) refl))),
)
sees_on configuration piece old now next index (first ∷ before) ordered seen (then, goes', sees) (then', goes'', run) goes = (
  then,
  goes',
  further (view_in old first) index seen (seen_of (view_in now ordered) (index + length (first ∷ before)))
      (AreSeen configuration piece then (suc index) before) (AreSeen configuration piece then (suc index) (before ++ ordered ∷ []))
      (λ more holds_before.
      subst (λ n. AreSeen configuration piece then (suc index) (before ++ ordered ∷ []) (more ++ seen_of (view_in now ordered) n))
      (let e : suc index + length before ≡ index + suc (length before) = omega arith in e)
      (sees_on configuration piece then now next (suc index) before ordered more holds_before
      (subst (λ part. PieceRun configuration piece part before now) (one_next (touches configuration piece first) configuration old first then' then goes'' goes') run) goes))
      sees,
)

-- what was seen of a record: it comes after this many others, and the piece that has run over these gives its view
pub record SeenAt (configuration : Configuration) (piece : Piece) (old : Part) (index : ℕ) (records : List Ordered) (one : Seen) : Type 0 where
  pub before : List Ordered
  pub ordered : Ordered
  pub after : List Ordered
  pub split : records ≡ before ++ ordered ∷ after
  pub at : one.index ≡ index + length before
  pub reached : Part
  pub run : PieceRun configuration piece old before reached
  pub view : view_in reached ordered ≡ Some one.view

-- one record before what was seen
seen_later : (configuration : Configuration) (piece : Piece) (old next : Part) (index : ℕ) (first : Ordered) (others : List Ordered) (one : Seen)
    → Goes (touches configuration piece first) configuration old first next
    → SeenAt configuration piece next (suc index) others one → SeenAt configuration piece old index (first ∷ others) one
seen_later configuration piece old next index first others one goes at = record {
  before = first ∷ at.before;
  ordered = at.ordered;
  after = at.after;
  split = ap (λ list. first ∷ list) at.split;
  at = omega (arith, at.at);
  reached = at.reached;
  run = (next, goes, at.run);
  view = at.view;
}

-- one of those seen is that of the first record, or was seen after it
first_or_later : (configuration : Configuration) (piece : Piece) (old : Part) (index : ℕ) (first : Ordered) (others : List Ordered) (seen : List Seen) (one : Seen)
    (given : Option View) (More : List Seen → Type 0) → view_in old first ≡ given → SeesNext given index seen More
    → ((more : List Seen) → More more → Contains more one → SeenAt configuration piece old index (first ∷ others) one)
    → Contains seen one → SeenAt configuration piece old index (first ∷ others) one
first_or_later configuration piece old index first others seen one None More is sees later there = later seen sees there
first_or_later configuration piece old index first others seen one (Some view) More is (more, split, sees) later there =
    elim (contains_cases (record { index = index; view = view }) one more (subst (λ list. Contains list one) split there)) [
      | inl same ↦ record {
        before = [];
        ordered = first;
        after = others;
        split = refl;
        at = ap (λ (seen : Seen). seen.index) same ∙ omega arith;
        reached = old;
        run = refl;
        view = is ∙ ap (λ (seen : Seen). Some seen.view) (sym same);
      }
      | inr holds_before ↦ later more sees holds_before
    ]

-- each view that was seen is that of a record
pub seen_is : (configuration : Configuration) (piece : Piece) (old : Part) (index : ℕ) (records : List Ordered) (seen : List Seen)
    → AreSeen configuration piece old index records seen → (one : Seen) → Contains seen one → SeenAt configuration piece old index records one
seen_is configuration piece old index [] seen none one there = absurd (contains_none one (subst (λ list. Contains list one) none there))
seen_is configuration piece old index (first ∷ others) seen (next, goes, sees) one there =
    first_or_later configuration piece old index first others seen one (view_in old first) (AreSeen configuration piece next (suc index) others) refl sees
    (λ more holds_before within. seen_later configuration piece old next index first others one goes (seen_is configuration piece next (suc index) others more holds_before one within))
    there

-- a fact about what was seen after a record, said of all that was seen
seen_further : (given : Option View) (index : ℕ) (seen : List Seen) (More Fact : List Seen → Type 0)
    → ((view : View) (more : List Seen) → More more → Fact more → Fact (record { index = index; view = view } ∷ more))
    → ((more list : List Seen) → list ≡ more → Fact more → Fact list)
    → ((more : List Seen) → More more → Fact more) → SeesNext given index seen More → Fact seen
seen_further None index seen More Fact holds_before same fact sees = fact seen sees
seen_further (Some view) index seen More Fact holds_before same fact (more, is, sees) =
    same (record { index = index; view = view } ∷ more) seen is (holds_before view more sees (fact more sees))

-- each record of which the piece has a view is seen
pub is_seen : (configuration : Configuration) (piece : Piece) (old : Part) (index : ℕ) (records : List Ordered) (seen : List Seen)
    → AreSeen configuration piece old index records seen → (before : List Ordered) (ordered : Ordered) (after : List Ordered) → records ≡ before ++ ordered ∷ after
    → (reached : Part) × PieceRun configuration piece old before reached
    × ((view : View) → view_in reached ordered ≡ Some view → Contains seen (record { index = index + length before; view = view }))
is_seen configuration piece old index [] seen none [] ordered after split = absurd cc
is_seen configuration piece old index [] seen none (one ∷ before) ordered after split = absurd cc
is_seen configuration piece old index (first ∷ others) seen (next, goes, sees) [] ordered after split = (old, refl, λ view is. by view (view_in old first) (sym (ap (view_in old) same) ∙ is) refl sees)
  where
    same : ordered ≡ first
    same = cc

    by : (view : View) (given : Option View) → view_in old first ≡ Some view → view_in old first ≡ given
        → SeesNext given index seen (AreSeen configuration piece next (suc index) others) → Contains seen (record { index = index + 0; view = view })
    by view None is also sees = let none : ◌≡◌ {A = Option View} None (Some view) = sym also ∙ is in cc
    by view (Some given) is also (more, split, sees) =
        let alike : ◌≡◌ {A = Option View} (Some given) (Some view) = sym also ∙ is in
        let same_view : given ≡ view = cc in
        subst (λ list. Contains list (record { index = index + 0; view = view })) (sym split)
        (subst (λ one. Contains (record { index = index; view = one } ∷ more) (record { index = index + 0; view = view })) (sym same_view)
        (subst (λ n. Contains (record { index = index; view = view } ∷ more) (record { index = n; view = view })) (let e : index ≡ index + 0 = omega arith in e)
        (contains_here (record { index = index; view = view }) more)))
is_seen configuration piece old index (first ∷ others) seen (next, goes, sees) (one ∷ before) ordered after split =
    let same : first ≡ one = cc in
    let tail : others ≡ before ++ ordered ∷ after = cc in
    let rest = seen_further (view_in old first) index seen (AreSeen configuration piece next (suc index) others)
    (λ more. (reached : Part) × PieceRun configuration piece next before reached
    × ((view : View) → view_in reached ordered ≡ Some view → Contains more (record { index = suc index + length before; view = view })))
    (λ view more given there. (there.0, there.1, λ one is. contains_after (record { index = index; view = view }) (record { index = suc index + length before; view = one }) more (there.2 one is)))
    (λ more list is there. (there.0, there.1, λ one given. subst (λ all. Contains all (record { index = suc index + length before; view = one })) (sym is) (there.2 one given)))
    (λ more holds_before. is_seen configuration piece next (suc index) others more holds_before before ordered after tail) sees in (
      rest.0,
      (next, subst (λ record_. Goes (touches configuration piece record_) configuration old record_ next) same goes, rest.1),
      λ view is. subst (λ n. Contains seen (record { index = n; view = view })) (let e : suc index + length before ≡ index + suc (length before) = omega arith in e) (rest.2 view is),
    )

-- those that are seen are of the records that were run over
pub seen_less : (configuration : Configuration) (piece : Piece) (old : Part) (records : List Ordered) (seen : List Seen)
    → AreSeen configuration piece old 0 records seen → (one : Seen) → Contains seen one → one.index < length records
seen_less configuration piece old records seen are one there =
    let at = seen_is configuration piece old 0 records seen are one there in
    omega (arith, at.at, ap length at.split, length-append at.before (at.ordered ∷ at.after))

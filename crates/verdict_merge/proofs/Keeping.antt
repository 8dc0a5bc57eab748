-- The views that were kept of the records that a piece judges, and the first of them that breaks a rule.
use Rattle.std.proofs.Common.{◌≡◌, ◌⊎◌, ◌<◌, ◌≤◌, ◌∙◌, ℕ, zero, suc, List, [], ◌∷◌, ◌++◌, Option, Some, None, get_or, length, map, refl, sym, ap, subst, inl, inr, arith}
use Rattle.std.specs.List.{All}
use Rattle.std.specs.Prelude.{Contains}
use Rattle.std.proofs.lemmas.List.{append-nil, length-append, length-map}
use Rattle.std.proofs.lemmas.List.Elements.{Contains-append_cases}
use Rattle.apex_types.specs.declared.record.Ordered.{Ordered}
use Rattle.apex_types.specs.declared.view.View.{View}
use Rattle.apex_machine.specs.Configuration.{Configuration}
use Rattle.apex_machine.specs.Pieces.{Part, Piece}
use Rattle.apex_machine.specs.Views.{view_in}
use Rattle.user_rules.proofs.Firsts.{all_after}
use Rattle.user_rules.specs.declared.broken.Broken.{Broken}
use Rattle.user_rules.specs.declared.relation.Relation.{Relation}
use Rattle.user_rules.specs.FirstBroken.{IsFirstRuleBroken, IsFirstViewBroken, MeetsAll}
use Rattle.user_rules.specs.Meets.{Valued, alone}
use Rattle.verdict_merge.specs.declared.breach.Seen.{Seen}
use Rattle.verdict_merge.specs.declared.kept.Kept.{Kept}
use Rattle.verdict_merge.specs.Keeping.{AreRising, HasKept, seen_in}
use Rattle.verdict_merge.specs.Views.{AreSeen, IsFirstBreach, SeesNext, seen_of}
use Rattle.verdict_merge.proofs.Among.{contains_after, contains_cases, contains_here, contains_none}

-- no more are seen than records are run over
pub seen_count : (configuration : Configuration) (piece : Piece) (old : Part) (index : ℕ) (records : List Ordered) (seen : List Seen)
    → AreSeen configuration piece old index records seen → length seen ≤ length records
seen_count configuration piece old index [] seen none = omega (arith, ap length none)
seen_count configuration piece old index (first ∷ others) seen (next, goes, sees) =
    by (view_in old first) sees (λ more are. seen_count configuration piece next (suc index) others more are)
  where
    by : (given : Option View) → SeesNext given index seen (AreSeen configuration piece next (suc index) others)
        → ((more : List Seen) → AreSeen configuration piece next (suc index) others more → length more ≤ length others)
        → length seen ≤ suc (length others)
    by None sees rest = let most = rest seen sees in omega (arith, most)
    by (Some view) (more, is, sees) rest = let most = rest more sees in omega (arith, ap length is, most)

-- the lists of indices and of views

pub length-seen_in : (indices : List ℕ) (views : List View) → length indices ≡ length views → length (seen_in indices views) ≡ length views
length-seen_in [] [] even = refl
length-seen_in [] (view ∷ views) even = absurd (omega (arith, even))
length-seen_in (index ∷ indices) [] even = absurd (omega (arith, even))
length-seen_in (index ∷ indices) (view ∷ views) even = ap suc (length-seen_in indices views (omega (arith, even)))

-- one more view is kept
pub kept_one : (indices : List ℕ) (views : List View) (index : ℕ) (view : View) → length indices ≡ length views
    → seen_in (indices ++ index ∷ []) (views ++ view ∷ []) ≡ seen_in indices views ++ record { index = index; view = view } ∷ []
kept_one [] [] index view even = refl
kept_one [] (first ∷ views) index view even = absurd (omega (arith, even))
kept_one (first ∷ indices) [] index view even = absurd (omega (arith, even))
kept_one (place ∷ indices) (first ∷ views) index view even =
    ap (λ list. record { index = place; view = first } ∷ list) (kept_one indices views index view (omega (arith, even)))

pub has_kept : (given : Option View) (index : ℕ) (one : View) (old : Kept) (indices : List ℕ) (views : List View) → given ≡ Some one
    → indices ≡ old.indices.items ++ index ∷ [] → views ≡ old.views.items ++ one ∷ [] → seen_in indices views ≡ seen_in old.indices.items old.views.items ++ seen_of given index
has_kept given index one old indices views is more_indices more_views =
    ap (λ list. seen_in list views) more_indices ∙ ap (λ list. seen_in (old.indices.items ++ index ∷ []) list) more_views
    ∙ kept_one old.indices.items old.views.items index one old.even
    ∙ ap (λ view. seen_in old.indices.items old.views.items ++ seen_of view index) (sym is)

-- without a view, none is kept
pub none_more : (given : Option View) (index : ℕ) (kept : Kept) → given ≡ None → HasKept given index kept kept
none_more given index kept none =
    sym (append-nil (seen_in kept.indices.items kept.views.items)) ∙ ap (λ view. seen_in kept.indices.items kept.views.items ++ seen_of view index) (sym none)

-- the views that are kept, and the index of each

kept_views : (indices : List ℕ) (views : List View) → length indices ≡ length views → map (λ (one : Seen). alone one.view) (seen_in indices views) ≡ map alone views
kept_views [] [] even = refl
kept_views [] (view ∷ views) even = absurd (omega (arith, even))
kept_views (index ∷ indices) [] even = absurd (omega (arith, even))
kept_views (index ∷ indices) (view ∷ views) even = ap (λ list. alone view ∷ list) (kept_views indices views (omega (arith, even)))

pub kept_at : (indices : List ℕ) (views : List View) (place index : ℕ) (view : View) → length indices ≡ length views → place < length views
    → get_or (seen_in indices views) place (record { index = index; view = view }) ≡ record { index = get_or indices place index; view = get_or views place view }
kept_at [] [] place index view even within = absurd (omega (arith, within))
kept_at [] (one ∷ views) place index view even within = absurd (omega (arith, even))
kept_at (one ∷ indices) [] place index view even within = absurd (omega (arith, within))
kept_at (one ∷ indices) (first ∷ views) zero index view even within = refl
kept_at (one ∷ indices) (first ∷ views) (suc place) index view even within = kept_at indices views place index view (omega (arith, even)) (omega (arith, within))

-- what is seen of one record comes after what was seen of earlier ones
pub rising_on : (seen : List Seen) (given : Option View) (index : ℕ) → ((one : Seen) → Contains seen one → one.index < index) → AreRising seen
    → AreRising (seen ++ seen_of given index)
rising_on [] None index less rising = tt
rising_on [] (Some view) index less rising = ((λ other there. absurd (contains_none other there)), tt)
rising_on (first ∷ others) given index less (rises, rising) = (
  (λ other there. elim (later_cases given other there) [
    | inl old ↦ rises other old
    | inr at ↦ let below = less first (contains_here first others) in omega (arith, below, at)
  ]),
  rising_on others given index (λ one there. less one (contains_after first one others there)) rising,
)
  where
    of_one : (given : Option View) (other : Seen) → Contains (seen_of given index) other → other.index ≡ index
    of_one None other there = absurd (contains_none other there)
    of_one (Some view) other there = elim (contains_cases (record { index = index; view = view }) other [] there) [
      | inl same ↦ ap (λ (seen : Seen). seen.index) same
      | inr none ↦ absurd (contains_none other none)
    ]

    later_cases : (given : Option View) (other : Seen) → Contains (others ++ seen_of given index) other → Contains others other ⊎ (other.index ≡ index)
    later_cases given other there = elim (Contains-append_cases others (seen_of given index) other there) [
      | inl old ↦ inl old
      | inr new ↦ inr (of_one given other new)
    ]

-- the first view that breaks a rule is that of the first record whose view does
first_among : (relations : List Relation) (seen : List Seen) (before : List Valued) (view : Valued) (after : List Valued) (rule : ℕ) (default : Seen)
    → map (λ (one : Seen). alone one.view) seen ≡ before ++ view ∷ after → AreRising seen → All (MeetsAll relations) before → IsFirstRuleBroken relations view rule
    → IsFirstBreach relations seen (Some (record { seen = get_or seen (length before) default; rule = rule }))
first_among relations [] [] view after rule default split rising met first = absurd cc
first_among relations [] (one ∷ before) view after rule default split rising met first = absurd cc
first_among relations (one ∷ others) [] view after rule default split (rises, rising) met first =
    let same : alone one.view ≡ view = cc in (
      contains_here one others,
      (λ other there smaller. elim (contains_cases one other others there) [
        | inl is ↦ absurd (omega (arith, smaller, ap (λ (seen : Seen). seen.index) is))
        | inr later ↦ let more = rises other later in absurd (omega (arith, smaller, more))
      ]),
      subst (λ view. IsFirstRuleBroken relations view rule) (sym same) first,
    )
first_among relations (one ∷ others) (front ∷ before) view after rule default split (rises, rising) met first =
    let same : alone one.view ≡ front = cc in
    let tail : map (λ (one : Seen). alone one.view) others ≡ before ++ view ∷ after = cc in
    let rest = first_among relations others before view after rule default tail rising (all_after (MeetsAll relations) front before met) first in (
      contains_after one (get_or others (length before) default) others rest.0,
      (λ other there smaller. elim (contains_cases one other others there) [
        | inl is ↦ subst (MeetsAll relations) (sym (ap (λ (seen : Seen). alone seen.view) is ∙ same)) (met 0 front (omega arith))
        | inr later ↦ rest.1 other later smaller
      ]),
      rest.2,
    )

-- a view that is found is one of the list
pub broken_within : (relations : List Relation) (views : List View) (broken : Broken) → IsFirstViewBroken relations (map alone views) broken
    → broken.view < length views
broken_within relations views broken first =
    omega (arith, length-map views alone, first.counted, ap length first.split, length-append first.before (first.view ∷ first.after))

pub first_kept : (relations : List Relation) (indices : List ℕ) (views : List View) (broken : Broken) (index : ℕ) (view : View) → length indices ≡ length views
    → AreRising (seen_in indices views) → IsFirstViewBroken relations (map alone views) broken
    → index ≡ get_or indices broken.view index → view ≡ get_or views broken.view view
    → IsFirstBreach relations (seen_in indices views) (Some (record { seen = record { index = index; view = view }; rule = broken.rule }))
first_kept relations indices views broken index view even rising first is same =
    let within = broken_within relations views broken first in
    let split = kept_views indices views even ∙ first.split in
    let default : Seen = record { index = index; view = view } in
    let breach = first_among relations (seen_in indices views) first.before first.view first.after broken.rule default split rising first.met first.first in
    let here : get_or (seen_in indices views) (length first.before) default ≡ default =
    ap (λ place. get_or (seen_in indices views) place default) first.counted ∙ kept_at indices views broken.view index view even within
    ∙ (λ i. record { index = sym is i; view = sym same i }) in
    subst (λ one. IsFirstBreach relations (seen_in indices views) (Some (record { seen = one; rule = broken.rule }))) here breach

-- if each view meets every rule, no record has one that does not
pub none_kept : (relations : List Relation) (indices : List ℕ) (views : List View) → All (MeetsAll relations) (map alone views) → IsFirstBreach relations (seen_in indices views) None
none_kept relations [] views all one there = absurd (contains_none one there)
none_kept relations (index ∷ indices) [] all one there = absurd (contains_none one there)
none_kept relations (index ∷ indices) (view ∷ views) all one there = elim (contains_cases (record { index = index; view = view }) one (seen_in indices views) there) [
  | inl same ↦ subst (MeetsAll relations) (sym (ap (λ (seen : Seen). alone seen.view) same)) (all 0 (alone view) (omega arith))
  | inr later ↦ none_kept relations indices views (all_after (MeetsAll relations) (alone view) (map alone views) all) one later
]

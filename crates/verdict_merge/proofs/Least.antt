-- The least finding of a list that grows by one.
use Rattle.std.proofs.Common.{◌<◌, ◌≤◌, ◌∙◌, List, [], ◌∷◌, ◌++◌, Option, Some, None, arith, inl, inr, sym, subst}
use Rattle.std.specs.Prelude.{Contains}
use Rattle.std.proofs.lemmas.Bool.{cases_lt}
use Rattle.std.proofs.lemmas.List.Elements.{Contains-append_left, Contains-push, Contains-push_cases}
use Rattle.verdict_merge.specs.declared.finding.Finding.{Finding}
use Rattle.verdict_merge.specs.declared.finding.Finding.TheVariants as finding
use Rattle.verdict_merge.specs.declared.finding.Refused.{Refused}
use Rattle.verdict_merge.specs.Findings.{ComesBefore, Precedes, IsLeast, IsLesser}

pub not_itself : (finding : Refused) → ¬ Precedes finding finding
not_itself finding (inl sooner) = absurd (omega arith)
not_itself finding (inr (same, less)) = absurd (omega arith)

-- what does not precede another is at no smaller place
pub no_smaller : (one other : Refused) → ¬ Precedes one other → other.pos ≤ one.pos
no_smaller one other not = elim (cases_lt one.pos other.pos) [ inl sooner ↦ absurd (not (inl sooner)) | inr most ↦ most ]

-- and at a greater one if its piece has the smaller number
pub greater : (one other : Refused) → ¬ Precedes one other → one.piece < other.piece → other.pos < one.pos
greater one other not less = elim (cases_lt other.pos one.pos) [ inl later ↦ later | inr most ↦ absurd (not (inr (omega (arith, most, no_smaller one other not), less))) ]

pub through : (a b c : Refused) → Precedes a b → Precedes b c → Precedes a c
through a b c (inl x) (inl y) = inl (omega arith)
through a b c (inl x) (inr y) = inl (omega (arith, y.0))
through a b c (inr x) (inl y) = inl (omega (arith, x.0))
through a b c (inr x) (inr y) = inr (x.0 ∙ y.0, omega (arith, x.1, y.1))

module _ {A : Type 0} (Before : A → A → Type 0) (irreflexive : (one : A) → ¬ Before one one) (transitive : (a b c : A) → Before a b → Before b c → Before a c) where
  -- the least of a list that grows by one
  pub least_more : (front : List A) (least : Option A) (next found : A) → IsLeast Before front least → IsLesser Before least next found
      → IsLeast Before (front ++ next ∷ []) (Some found)
  least_more front None next found none is = (
    subst (λ f. Contains (front ++ next ∷ []) f) (sym is) (Contains-push front next),
    λ other among sooner. elim (Contains-push_cases front next other among) [
      | inl earlier ↦ absurd (empty other (subst (λ l. Contains l other) none earlier))
      | inr same ↦ irreflexive found (subst (λ f. Before f found) (sym same ∙ sym is) sooner)
    ],
  )
    where
      empty : (other : A) → ¬ Contains [] other
      empty other (k, within, is) = absurd (omega arith)
  least_more front (Some least) next found first (inl (is, sooner)) = (
    subst (λ f. Contains (front ++ next ∷ []) f) (sym is) (Contains-push front next),
    λ other among before. elim (Contains-push_cases front next other among) [
      | inl earlier ↦ first.1 other earlier (transitive other next least (subst (λ f. Before other f) is before) sooner)
      | inr same ↦ irreflexive found (subst (λ f. Before f found) (sym same ∙ sym is) before)
    ],
  )
  least_more front (Some least) next found first (inr (is, later)) = (
    subst (λ f. Contains (front ++ next ∷ []) f) (sym is) (Contains-append_left front (next ∷ []) least first.0),
    λ other among before. elim (Contains-push_cases front next other among) [
      | inl earlier ↦ first.1 other earlier (subst (λ f. Before other f) is before)
      | inr same ↦ later (subst (λ f. Before f least) (sym same) (subst (λ f. Before other f) is before))
    ],
  )

-- findings

pub comes_not_before_itself : (finding : Finding) → ¬ ComesBefore finding finding
comes_not_before_itself (finding.Piece refused) before = not_itself refused before
comes_not_before_itself (finding.Rule pos rule) (inl sooner) = absurd (omega arith)
comes_not_before_itself (finding.Rule pos rule) (inr (same, less)) = absurd (omega arith)

pub comes_through : (a b c : Finding) → ComesBefore a b → ComesBefore b c → ComesBefore a c
comes_through (finding.Piece a) (finding.Piece b) (finding.Piece c) x y = through a b c x y
comes_through (finding.Piece a) (finding.Piece b) (finding.Rule pos rule) (inl x) y = omega (arith, x, y)
comes_through (finding.Piece a) (finding.Piece b) (finding.Rule pos rule) (inr x) y = omega (arith, x.0, y)
comes_through (finding.Piece a) (finding.Rule pos rule) (finding.Piece c) x y = inl (omega (arith, x, y))
comes_through (finding.Piece a) (finding.Rule pos rule) (finding.Rule place number) x (inl y) = omega (arith, x, y)
comes_through (finding.Piece a) (finding.Rule pos rule) (finding.Rule place number) x (inr y) = omega (arith, x, y.0)
comes_through (finding.Rule pos rule) (finding.Piece b) (finding.Piece c) x (inl y) = omega (arith, x, y)
comes_through (finding.Rule pos rule) (finding.Piece b) (finding.Piece c) x (inr y) = omega (arith, x, y.0)
comes_through (finding.Rule pos rule) (finding.Piece b) (finding.Rule place number) x y = inl (omega (arith, x, y))
comes_through (finding.Rule pos rule) (finding.Rule place number) (finding.Piece c) (inl x) y = omega (arith, x, y)
comes_through (finding.Rule pos rule) (finding.Rule place number) (finding.Piece c) (inr x) y = omega (arith, x.0, y)
comes_through (finding.Rule pos rule) (finding.Rule place number) (finding.Rule last final) (inl x) (inl y) = inl (omega (arith, x, y))
comes_through (finding.Rule pos rule) (finding.Rule place number) (finding.Rule last final) (inl x) (inr y) = inl (omega (arith, x, y.0))
comes_through (finding.Rule pos rule) (finding.Rule place number) (finding.Rule last final) (inr x) (inl y) = inl (omega (arith, x.0, y))
comes_through (finding.Rule pos rule) (finding.Rule place number) (finding.Rule last final) (inr x) (inr y) = inr (x.0 ∙ y.0, omega (arith, x.1, y.1))

-- the least finding so far, of which another is not sooner
abbrev pub IsNoSooner : Option Refused → Refused → Type 0
IsNoSooner None other = ⊥
IsNoSooner (Some least) other = ¬ Precedes other least

pub no_sooner_stays : (least : Option Refused) (next found other : Refused) → IsLesser Precedes least next found → IsNoSooner least other → IsNoSooner (Some found) other
no_sooner_stays None next found other is later = absurd later
no_sooner_stays (Some least) next found other (inl (is, sooner)) later =
    λ before. later (through other next least (subst (λ f. Precedes other f) is before) sooner)
no_sooner_stays (Some least) next found other (inr (is, kept)) later = λ before. later (subst (λ f. Precedes other f) is before)

pub no_sooner_next : (least : Option Refused) (next found : Refused) → IsLesser Precedes least next found → IsNoSooner (Some found) next
no_sooner_next None next found is = λ before. not_itself next (subst (λ f. Precedes next f) is before)
no_sooner_next (Some least) next found (inl (is, sooner)) = λ before. not_itself next (subst (λ f. Precedes next f) is before)
no_sooner_next (Some least) next found (inr (is, kept)) = λ before. kept (subst (λ f. Precedes next f) is before)

-- What is not tested: a record of which the piece gives no view, and every record if there are no rules.
use Rattle.std.proofs.Common.{◌≡◌, ℕ, List, [], Option, Some, None, refl, arith}
use Rattle.apex_types.specs.declared.view.View.{View}
use Rattle.user_rules.specs.declared.relation.Relation.{Relation}
use Rattle.user_rules.specs.FirstBroken.{MeetsAll}
use Rattle.user_rules.specs.Meets.{alone}
use Rattle.verdict_merge.specs.declared.breach.Breach.{Breach}
use Rattle.verdict_merge.specs.declared.finding.Refused.{Refused}
use Rattle.verdict_merge.specs.Views.{HasTested}
use Rattle.verdict_merge.proofs.Among.{contains_none}

-- without a view, the breach so far is kept
pub untested : (relations : List Relation) (given : Option View) (index : ℕ) (breach : Option Breach) → given ≡ None → HasTested relations given index None breach breach
untested relations given index None none = rw none (None, (λ one there. absurd (contains_none one there)), refl)
untested relations given index (Some breach) none = rw none (None, (λ one there. absurd (contains_none one there)), refl)

-- a view meets no rules
meets_none : (view : View) → MeetsAll [] (alone view)
meets_none view = λ k default below. absurd (omega (arith, below))

-- without rules, the breach so far is kept
pub unruled : (relations : List Relation) (given : Option View) (index : ℕ) (refused : Option Refused) (breach : Option Breach) → relations ≡ []
    → HasTested relations given index refused breach breach
unruled relations given index None None none = rw none (None, (λ one there. meets_none one.view), refl)
unruled relations given index None (Some breach) none = rw none (None, (λ one there. meets_none one.view), refl)
unruled relations given index (Some refused) breach none = refl

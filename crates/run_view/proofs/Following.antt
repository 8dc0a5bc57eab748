-- What follows from evidence that a picture does not show.
use Rattle.std.proofs.Common.{◌≡◌, ℕ, List, [], Option, refl}
use Rattle.apex_types.specs.declared.cause.Cause.{Cause}
use Rattle.apex_types.specs.declared.record.Body.{Body}
use Rattle.apex_types.specs.declared.record.Ordered.{Ordered}
use Rattle.apex_types.specs.declared.record.Who.{Who}
use Rattle.apex_machine.specs.Configuration.{Configuration}
use Rattle.apex_machine.specs.Pieces.{Part}
use Rattle.wait_set.specs.declared.given.Given.{Given}
use Rattle.piece_check.specs.declared.evidence.Evidence.{Evidence}
use Rattle.piece_check.specs.declared.evidence.Evidence.TheVariants as evidence
use Rattle.piece_check.specs.Evidence.{IsEvidence}
use Rattle.run_view.specs.declared.lawful.Lawful.{Lawful}
use Rattle.run_view.specs.Lawful.{FollowsFrom, IsLawful}

pub nothing_follows : (found : Evidence) (part : Part) (core : ℕ) (body : Body) (cause : Cause)
    → ((choice occupant : Option Who) → found ≡ evidence.Choice choice occupant → ⊥)
    → ((who : Who) (deadline : ℕ) → found ≡ evidence.Missed who deadline → ⊥)
    → ((current base before : ℕ) (owned elsewhere : Option ℕ) → found ≡ evidence.Priority current base before owned elsewhere → ⊥)
    → ((given : Given) → found ≡ evidence.Answer given → ⊥)
    → (found ≡ evidence.Named → ⊥)
    → FollowsFrom found part core body cause []
nothing_follows (evidence.Choice choice occupant) part core body cause no_choice no_missed no_priority no_answer not_named = absurd (no_choice choice occupant refl)
nothing_follows (evidence.Missed who deadline) part core body cause no_choice no_missed no_priority no_answer not_named = absurd (no_missed who deadline refl)
nothing_follows (evidence.Priority current base before owned elsewhere) part core body cause no_choice no_missed no_priority no_answer not_named =
    absurd (no_priority current base before owned elsewhere refl)
nothing_follows (evidence.Answer given) part core body cause no_choice no_missed no_priority no_answer not_named = absurd (no_answer given refl)
nothing_follows evidence.Named part core body cause no_choice no_missed no_priority no_answer not_named = absurd (not_named refl)
nothing_follows other part core body cause no_choice no_missed no_priority no_answer not_named = refl

-- what follows from the evidence is lawful
pub lawful_by : (configuration : Configuration) (part : Part) (ordered : Ordered) (cause : Cause) (found : Evidence) (shown : List Lawful) → IsEvidence configuration part ordered cause found
    → FollowsFrom found part ordered.core ordered.rec.body cause shown → IsLawful configuration part ordered cause shown
lawful_by configuration part ordered cause found shown is follows = (found, is, follows)

-- What the recordings have left, after a call of one of them.
use Rattle.std.proofs.Common.{◌≡◌, ◌≢◌, ◌<◌, ◌∙◌, ℕ, zero, suc, List, [], ◌∷◌, ◌++◌, Bool, true, false, true≢false, Option, Some, None, Ok, Err, length, get_or, set, refl, sym, ap, subst, inl, inr, arith}
use Rattle.std.proofs.lemmas.Bool.{cases_eq}
use Rattle.std.specs.Prelude.{IfSome, drop}
use Rattle.std.proofs.lemmas.List.{get_or-set_same, get_or-set_other, get_or_default, length-set}
use Rattle.csv_rows.specs.Source.{Gives}
use Rattle.record_read.specs.Row.{Item}
use Rattle.record_read.specs.Steps.{IsOutside}
use Rattle.core_intake.specs.Answered.{Answer, AreAnswers, IsHonest, Answered, after, has_ended, answered, answered_at}
use Rattle.core_intake.proofs.Chains.{first_answers}
use Rattle.placement.specs.Lanes.{AreHonest, left_at, left_after_all, remaining_in}

none_after : (given : List Answer) → left_after_all None given ≡ None
none_after [] = refl
none_after (answer ∷ given) = none_after given

-- what is left if nothing is known
unknown : (can_fail : Bool) (left : Option (List Item)) (answer : Answer) (next : Option (List Item)) → left ≡ None → IfSome left (λ items. Gives (IsOutside can_fail) items answer next)
unknown can_fail left answer next e = rw e tt

-- after the others, an answer is the first item that is left, or an outside fault
pub gives_after : (can_fail : Bool) (left : Option (List Item)) (given : List Answer) (answer : Answer) → AreAnswers can_fail left (given ++ answer ∷ [])
    → IfSome (left_after_all left given) (λ items. Gives (IsOutside can_fail) items answer (left_after_all left (given ++ answer ∷ [])))
gives_after can_fail None given answer are = unknown can_fail (left_after_all None given) answer (left_after_all None (given ++ answer ∷ [])) (none_after given)
gives_after can_fail (Some items) [] (Ok None) are = (are.1.0, ap (λ l. Some l) are.1.0)
gives_after can_fail (Some items) [] (Ok (Some rec)) are = (are.1.0, are.1.1, ap (λ l. Some (drop 1 l)) are.1.1)
gives_after can_fail (Some items) [] (Err fault) are = are.1
gives_after can_fail (Some items) (Ok None ∷ given) answer are =
    gives_after can_fail (Some items) given answer (subst (λ left. AreAnswers can_fail left (given ++ answer ∷ [])) (are.1.1 ∙ ap (λ l. Some l) (sym are.1.0)) are.3)
gives_after can_fail (Some items) (Ok (Some rec) ∷ given) answer are =
    gives_after can_fail (Some (drop 1 items)) given answer
    (subst (λ left. AreAnswers can_fail left (given ++ answer ∷ [])) (are.1.2 ∙ ap (λ l. Some (drop 1 l)) (sym are.1.1)) are.3)
gives_after can_fail (Some items) (Err fault ∷ given) answer are = unknown can_fail (left_after_all None given) answer (left_after_all None (given ++ answer ∷ [])) (none_after given)

-- after the end nothing is left, and after a fault nothing is known
nothing_after_end : (can_fail : Bool) (left : Option (List Item)) (given : List Answer) → has_ended given ≡ true → AreAnswers can_fail left given
    → IfSome (left_after_all left given) (λ items. Gives (IsOutside can_fail) items (Ok None) (left_after_all left given))
nothing_after_end can_fail None given ended are = unknown can_fail (left_after_all None given) (Ok None) (left_after_all None given) (none_after given)
nothing_after_end can_fail (Some items) [] ended are = absurd (true≢false (sym ended))
nothing_after_end can_fail (Some items) (Ok None ∷ given) ended are =
    subst (λ later. IfSome (left_after_all (Some items) later) (λ left. Gives (IsOutside can_fail) left (Ok None) (left_after_all (Some items) later))) (sym (are.2 refl))
    (are.1.0, ap (λ l. Some l) are.1.0)
nothing_after_end can_fail (Some items) (Ok (Some rec) ∷ given) ended are =
    nothing_after_end can_fail (Some (drop 1 items)) given ended (subst (λ left. AreAnswers can_fail left given) (are.1.2 ∙ ap (λ l. Some (drop 1 l)) (sym are.1.1)) are.3)
nothing_after_end can_fail (Some items) (Err fault ∷ given) ended are = unknown can_fail (left_after_all None given) (Ok None) (left_after_all None given) (none_after given)

left_at-get : (lanes : List Answered) (core : ℕ) → core < length lanes → left_at lanes core ≡ remaining_in (answered_at lanes core)
left_at-get [] core within = absurd (omega arith)
left_at-get (lane ∷ lanes) zero within = refl
left_at-get (lane ∷ lanes) (suc core) within = left_at-get lanes core (omega arith)

left_at-set : (lanes : List Answered) (core : ℕ) (new : Answered) → core < length lanes → left_at (set lanes core new) core ≡ remaining_in new
left_at-set [] core new within = absurd (omega arith)
left_at-set (lane ∷ lanes) zero new within = refl
left_at-set (lane ∷ lanes) (suc core) new within = left_at-set lanes core new (omega arith)

left_at-other : (lanes : List Answered) (core : ℕ) (new : Answered) (other : ℕ) → other ≢ core → left_at (set lanes core new) other ≡ left_at lanes other
left_at-other [] core new other apart = refl
left_at-other (lane ∷ lanes) zero new zero apart = absurd (apart refl)
left_at-other (lane ∷ lanes) zero new (suc other) apart = refl
left_at-other (lane ∷ lanes) (suc core) new zero apart = refl
left_at-other (lane ∷ lanes) (suc core) new (suc other) apart = left_at-other lanes core new other (λ e. apart (ap suc e))

-- the core's answers are honest with this one
honest_there : (can_fail : Bool) (lanes : List Answered) (core : ℕ) (new : Answered) → core < length lanes → AreHonest can_fail (set lanes core new) → IsHonest can_fail new
honest_there can_fail lanes core new within honest = subst (IsHonest can_fail) (get_or-set_same lanes core new new within) (honest core new (omega (arith, length-set lanes core new)))

-- if one more answer is honest, those before it are
honest_before : (can_fail : Bool) (lanes : List Answered) (core : ℕ) (answer : Answer) → core < length lanes → AreHonest can_fail (set lanes core (after (answered_at lanes core) answer)) → AreHonest can_fail lanes
honest_before can_fail lanes core answer within honest other default below =
    let now : Answered = answered_at lanes core in
    let new : Answered = after now answer in
    elim (cases_eq other core) [
      | inl e ↦
          let first : IsHonest can_fail now = first_answers can_fail now.items now.given (answer ∷ []) (honest_there can_fail lanes core new within honest) in
          subst (λ n. IsHonest can_fail (get_or lanes n default)) (sym e) (subst (IsHonest can_fail) (get_or_default lanes core (answered None []) default within) first)
      | inr apart ↦ subst (IsHonest can_fail) (get_or-set_other lanes core other new default apart) (honest other default (omega (arith, below, length-set lanes core new)))
    ]

-- a call of a core shows this, if what was answered of every core is honest, and changes nothing of the others
pub record IsAsked (can_fail : Bool) (old : List Answered) (core : ℕ) (answer : Answer) (new : List Answered) : Type 0 where
  pub gives : AreHonest can_fail new → IfSome (left_at old core) (λ items. Gives (IsOutside can_fail) items answer (left_at new core))
  pub honest : AreHonest can_fail new → AreHonest can_fail old
  pub others : (other : ℕ) → other ≢ core → left_at new other ≡ left_at old other

asked_on : (can_fail : Bool) (old : List Answered) (core : ℕ) (answer : Answer) → core < length old → IsAsked can_fail old core answer (set old core (after (answered_at old core) answer))
asked_on can_fail old core answer within =
    let now : Answered = answered_at old core in
    let new : Answered = after now answer in
    record {
      gives = λ honest. rw (left_at-get old core within, left_at-set old core new within) (gives_after can_fail now.items now.given answer (honest_there can_fail old core new within honest));
      honest = honest_before can_fail old core answer within;
      others = left_at-other old core new;
    }

asked_after_end : (can_fail : Bool) (old : List Answered) (core : ℕ) → core < length old → has_ended (answered_at old core).given ≡ true → IsAsked can_fail old core (Ok None) old
asked_after_end can_fail old core within ended =
    let now : Answered = answered_at old core in
    record {
      gives = λ honest. rw (left_at-get old core within) (nothing_after_end can_fail now.items now.given ended (honest core (answered None []) within));
      honest = λ honest. honest;
      others = λ other apart. refl;
    }

pub is_asked : (can_fail : Bool) (old : List Answered) (core : ℕ) (answer : Answer) (new : List Answered) → core < length old
    → (has_ended (answered_at old core).given ≡ false → new ≡ set old core (after (answered_at old core) answer))
    → (has_ended (answered_at old core).given ≡ true → answer ≡ Ok None) → (has_ended (answered_at old core).given ≡ true → new ≡ old) → IsAsked can_fail old core answer new
is_asked can_fail old core answer new within gives ended stays = by (has_ended (answered_at old core).given) refl
  where
    by : (b : Bool) → has_ended (answered_at old core).given ≡ b → IsAsked can_fail old core answer new
    by false going = subst (IsAsked can_fail old core answer) (sym (gives going)) (asked_on can_fail old core answer within)
    by true passed = subst (λ one. IsAsked can_fail old core one new) (sym (ended passed)) (subst (IsAsked can_fail old core (Ok None)) (sym (stays passed)) (asked_after_end can_fail old core within passed))

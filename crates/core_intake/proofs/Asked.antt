-- One of several cores is asked for its next answer.
use Rattle.std.proofs.Common.{◌≡◌, ◌<◌, ℕ, List, [], None, length, get_or, set, ap, subst, ◌∙◌}
use Rattle.std.proofs.lemmas.List.{get_or_default, set-get_or}
use Rattle.core_intake.specs.Answered.{Answer, Answered, IsNextAnswer, IsNextAnswerOf, answered, answered_at}

pub asked_at : (old lanes : List Answered) (core number : ℕ) (lane : Answered) (answer : Answer) (now : Answered) → lanes ≡ old → number ≡ core → core < length old
    → lane ≡ get_or lanes number lane → IsNextAnswer lane answer now → IsNextAnswerOf old core answer (set lanes number now)
asked_at old lanes core number lane answer now all same within is asked =
    let was : lane ≡ answered_at old core = is ∙ (λ i. get_or (all i) (same i) lane) ∙ get_or_default old core lane (answered None []) within in
    let new : set lanes number now ≡ set old core now = λ i. set (all i) (same i) now in
    let here : IsNextAnswer (answered_at old core) answer now = subst (λ one. IsNextAnswer one answer now) was asked in
    record {
      gives = λ going. new ∙ ap (set old core) (here.gives going);
      ended = here.ended;
      stays = λ ended. new ∙ ap (set old core) (here.stays ended) ∙ set-get_or old core (answered None []);
    }

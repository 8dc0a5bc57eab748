-- The views over rounds, and over a run of the machine.
use Rattle.std.proofs.Common.{◌≡◌, ◌∙◌, ℕ, List, [], ◌∷◌, ◌++◌, refl, sym, ap, subst, append_assoc}
use Rattle.std.specs.Prelude.{IsTrue}
use Rattle.std.proofs.lemmas.List.{append-nil}
use Rattle.std.proofs.lemmas.Option.{same_Some}
use Rattle.apex_types.specs.declared.record.Body.{Body}
use Rattle.apex_types.specs.declared.record.Body.TheVariants.{Arrive, Call, Depart, Error, Ret, Disp, Tick}
use Rattle.apex_types.specs.declared.record.Ordered.{Ordered}
use Rattle.apex_types.specs.declared.view.View.{View}
use Rattle.apex_machine.specs.Channels.{EndsAreApart}
use Rattle.apex_machine.specs.Configuration.{Configuration}
use Rattle.apex_machine.specs.Pieces.{Part, Piece, is_configured, part}
use Rattle.apex_machine.specs.Runs.{PieceRun}
use Rattle.apex_machine.specs.State.{State, cold_state}
use Rattle.apex_machine.specs.Step.{IsLawfulBody, Run}
use Rattle.apex_machine.specs.Views.{judge, judge_by, run_views, view_in, view_of}
use Rattle.apex_laws.specs.Laws.{AreTied}
use Rattle.apex_laws.proofs.Joins.{runs_join}
use Rattle.apex_laws.proofs.Runs.{run_of_each}
use Rattle.apex_laws.proofs.Stays.{step_tied}
use Rattle.apex_laws.proofs.Viewed.{view_is_of_the_run}
use Rattle.piece_check.specs.Parts.{piece_at}
use Rattle.verdict_merge.specs.Rounds.{AllRun, cold_parts}
use Rattle.verdict_merge.specs.Views.{AreViewsAfter, IsViewOf}
use Rattle.verdict_merge.proofs.Seeing.{one_end}

-- views after runs of all pieces
pub views_on : (configuration : Configuration) (old next : ℕ → Part) (front before records : List Ordered) (views : List View)
    → AllRun configuration old front next → AreViewsAfter configuration next before records views → AreViewsAfter configuration old (front ++ before) records views
views_on configuration old next front before [] views all none = none
views_on configuration old next front before (ordered ∷ others) views all (view, more, is, here, rest) = (
  view,
  more,
  is,
  record {
    number = here.number;
    within = here.within;
    judges = here.judges;
    reached = here.reached;
    run = (runs_join configuration (piece_at configuration here.number) (old here.number) front before here.reached).1 (next here.number, all here.number here.within, here.run);
    seen = here.seen;
  },
  subst (λ list. AreViewsAfter configuration old list others more) (sym (append_assoc front before (ordered ∷ [])))
      (views_on configuration old next front (before ++ ordered ∷ []) others more all rest),
)

-- views of records, and of those after them
pub views_join : (configuration : Configuration) (parts : ℕ → Part) (before first second : List Ordered) (views more : List View)
    → AreViewsAfter configuration parts before first views → AreViewsAfter configuration parts (before ++ first) second more
    → AreViewsAfter configuration parts before (first ++ second) (views ++ more)
views_join configuration parts before [] second views more none rest =
    subst (λ list. AreViewsAfter configuration parts before second (list ++ more)) (sym none)
    (subst (λ list. AreViewsAfter configuration parts list second more) (append-nil before) rest)
views_join configuration parts before (ordered ∷ first) second views more (view, later, is, here, holds_before) rest = (
  view,
  later ++ more,
  ap (λ list. list ++ more) is,
  here,
  views_join configuration parts (before ++ ordered ∷ []) first second later more holds_before
      (subst (λ list. AreViewsAfter configuration parts list second more) (sym (append_assoc before (ordered ∷ []) first)) rest),
)

-- the view of a record after these, from the cold state
one_view : (configuration : Configuration) (before : List Ordered) (ordered : Ordered) (one other : View)
    → IsViewOf configuration (cold_parts configuration) before ordered one → IsViewOf configuration (cold_parts configuration) before ordered other → one ≡ other
one_view configuration before ordered one other here also =
    let run_of : (number : ℕ) (reached : Part) → piece_at configuration number ≡ judge ordered → PieceRun configuration (piece_at configuration number) (cold_parts configuration number) before reached
    → PieceRun configuration (judge ordered) (part (judge ordered) (cold_state configuration)) before reached =
    λ number reached judges run. subst (λ piece. PieceRun configuration piece (part piece (cold_state configuration)) before reached) judges run in
    let same : here.reached ≡ also.reached = one_end configuration (judge ordered) (part (judge ordered) (cold_state configuration)) before here.reached also.reached
    (run_of here.number here.reached here.judges here.run) (run_of also.number also.reached also.judges also.run) in
    same_Some one other (sym here.seen ∙ ap (λ reached. view_in reached ordered) same ∙ also.seen)

-- records have one list of views
pub one_list_of_views : (configuration : Configuration) (before records : List Ordered) (one other : List View)
    → AreViewsAfter configuration (cold_parts configuration) before records one → AreViewsAfter configuration (cold_parts configuration) before records other → one ≡ other
one_list_of_views configuration before [] one other none also = none ∙ sym also
one_list_of_views configuration before (ordered ∷ others) one other (view, more, is, here, rest) (view', more', is', here', rest') =
    is ∙ ap (λ first. first ∷ more) (one_view configuration before ordered view view' here here')
    ∙ ap (λ list. view' ∷ list) (one_list_of_views configuration (before ++ ordered ∷ []) others more more' rest rest') ∙ sym is'

-- the judge of a lawful record is configured
judge_configured : (configuration : Configuration) (state : State) (ordered : Ordered) (body : Body) → IsLawfulBody configuration state ordered.core body
    → IsTrue (is_configured configuration (judge_by body))
judge_configured configuration state ordered (Call call) law = law.names.0
judge_configured configuration state ordered (Ret ret) law = law.names
judge_configured configuration state ordered (Disp who) law = refl
judge_configured configuration state ordered (Tick woken) law = refl
judge_configured configuration state ordered (Arrive crossing) law = refl
judge_configured configuration state ordered (Depart crossing) law = refl
judge_configured configuration state ordered (Error report) law = refl

-- the views are those of the machine's run
pub views_are_of_the_run : (configuration : Configuration) (state : State) (before records : List Ordered) (final : State) (views : List View)
    → EndsAreApart configuration → AreTied configuration state
    → ((piece : Piece) → IsTrue (is_configured configuration piece) → PieceRun configuration piece (part piece (cold_state configuration)) before (part piece state))
    → AreViewsAfter configuration (cold_parts configuration) before records views
    → (run : Run configuration state records final) → views ≡ run_views configuration state records final run
views_are_of_the_run configuration state before [] final views ends tied runs none run = none
views_are_of_the_run configuration state before (ordered ∷ others) final views ends tied runs (view, more, is, here, rest) (next, step, run) =
    let piece = piece_at configuration here.number in
    let known = subst (λ one. IsTrue (is_configured configuration one)) (sym here.judges) (judge_configured configuration state ordered ordered.rec.body step.0.claims) in
    let same : here.reached ≡ part piece state =
    one_end configuration piece (part piece (cold_state configuration)) before here.reached (part piece state) here.run (runs piece known) in
    let seen : view ≡ view_of state ordered =
    same_Some view (view_of state ordered) (sym here.seen ∙ ap (λ reached. view_in reached ordered) same ∙ (view_is_of_the_run state ordered piece).0 here.judges) in
    let further : (one : Piece) → IsTrue (is_configured configuration one) → PieceRun configuration one (part one (cold_state configuration)) (before ++ ordered ∷ []) (part one next) =
    λ one has. (runs_join configuration one (part one (cold_state configuration)) before (ordered ∷ []) (part one next)).1
    (part one state, runs one has, run_of_each configuration state (ordered ∷ []) next ends tied (next, step, refl) one has) in
    is ∙ ap (λ first. first ∷ more) seen
    ∙ ap (λ list. view_of state ordered ∷ list)
    (views_are_of_the_run configuration next (before ++ ordered ∷ []) others final more ends (step_tied configuration state ordered next tied step) further rest run)

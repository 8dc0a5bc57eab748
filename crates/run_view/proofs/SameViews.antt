-- Views that are equal.
use Rattle.std.proofs.Common.{◌≡◌, ◌==◌, ℕ, Option, Decides, rules, refl, ap, ◌∙◌}
use Rattle.std.proofs.lemmas.Bool.Decides.{Decides-and, Decides-eqb}
use Rattle.apex_types.specs.contracts.service.ServicePartialEq.TheImpl as services
use Rattle.apex_types.specs.declared.record.Who.{Who}
use Rattle.apex_types.specs.declared.service.Service.{Service}
use Rattle.apex_types.specs.contracts.record.WhoPartialEq.TheImpl as whos
use Rattle.run_view.specs.declared.cores.CoreView.{CoreView}
use Rattle.run_view.specs.declared.process.ProcessState.{ProcessState}
use Rattle.run_view.specs.declared.process.ProcessState.TheVariants as state
use Rattle.run_view.specs.declared.process.ProcessView.{ProcessView}
use Rattle.run_view.specs.declared.seen_process.SeenProcess.{SeenProcess}
use Rattle.run_view.specs.declared.waiter.Waiter.{Waiter}
use Rattle.run_view.specs.contracts.cores.CoreViewPartialEq.TheImpl as core_views
use Rattle.run_view.specs.contracts.process.ProcessStatePartialEq.TheImpl as process_states
use Rattle.run_view.specs.contracts.process.ProcessViewPartialEq.TheImpl as process_views
use Rattle.run_view.specs.contracts.seen_process.SeenProcessPartialEq.TheImpl as seen_processes
use Rattle.run_view.specs.contracts.waiter.WaiterPartialEq.TheImpl as waiters
use Rattle.run_view.proofs.SameWaits.{same_option, same_service, same_wait}

-- processes of a module are equal exactly if they are the same
same_who : (a b : Who) → Decides (whos.eq-value.it a b) (a ≡ b)
same_who a b = search rules

-- processes that wait are equal exactly if they are the same
pub same_waiter : (a b : Waiter) → Decides (waiters.eq-value.it a b) (a ≡ b)
same_waiter a b = search (rules, same_who)

-- cores are equal exactly if they are the same
pub same_core : (a b : CoreView) → Decides (core_views.eq-value.it a b) (a ≡ b)
same_core a b = search rules

same_state : (a b : ProcessState) → Decides (process_states.eq-value.it a b) (a ≡ b)
same_state state.Dormant state.Dormant = (λ _. refl, λ _. refl)
same_state state.Ready state.Ready = (λ _. refl, λ _. refl)
same_state (state.Waiting a) (state.Waiting b) = (λ holds. ap state.Waiting ((same_wait a b).0 holds), λ same. (same_wait a b).1 cc)
same_state (state.Suspended a) (state.Suspended b) = (λ holds. ap state.Suspended ((same_wait a b).0 holds), λ same. (same_wait a b).1 cc)
same_state (state.Faulted a) (state.Faulted b) = (λ holds. ap state.Faulted ((same_wait a b).0 holds), λ same. (same_wait a b).1 cc)
same_state a b = (λ holds. cc, λ same. cc)

-- a view of a process with these fields
abbrev view_of : ProcessState → ℕ → ℕ → ℕ → ℕ → Option Service → Option ℕ → ProcessView
view_of state current base affinity position due deadline =
    record { state = state; current_priority = current; base_priority = base; affinity = affinity; ready_position = position; due = due; deadline = deadline }

same_fields : (a b : ProcessState) (c d e f g h i j : ℕ) (k l : Option Service) (m n : Option ℕ) → a ≡ b → c ≡ d → e ≡ f → g ≡ h → i ≡ j → k ≡ l → m ≡ n → view_of a c e g i k m ≡ view_of b d f h j l n
same_fields a b c d e f g h i j k l m n states currents bases affinities positions dues deadlines =
    ap (λ one. view_of one c e g i k m) states ∙ ap (λ one. view_of b one e g i k m) currents ∙ ap (λ one. view_of b d one g i k m) bases
    ∙ ap (λ one. view_of b d f one i k m) affinities ∙ ap (λ one. view_of b d f h one k m) positions ∙ ap (λ one. view_of b d f h j one m) dues
    ∙ ap (view_of b d f h j l) deadlines

-- views of a process are equal exactly if they are the same
same_view : (a b : ProcessView) → Decides (process_views.eq-value.it a b) (a ≡ b)
same_view a b =
    let fields = Decides-and _ _ (same_state a.state b.state)
    (Decides-and _ _ (Decides-eqb a.current_priority b.current_priority)
    (Decides-and _ _ (Decides-eqb a.base_priority b.base_priority)
    (Decides-and _ _ (Decides-eqb a.affinity b.affinity)
    (Decides-and _ _ (Decides-eqb a.ready_position b.ready_position)
    (Decides-and _ _ (same_option services.eq-value.it same_service a.due b.due) (same_option ◌==◌ Decides-eqb a.deadline b.deadline)))))) in (
      λ holds. (let found = fields.0 holds in
          same_fields a.state b.state a.current_priority b.current_priority a.base_priority b.base_priority a.affinity b.affinity a.ready_position b.ready_position a.due b.due a.deadline b.deadline found.0 found.1.0
          found.1.1.0 found.1.1.1.0 found.1.1.1.1.0 found.1.1.1.1.1.0 found.1.1.1.1.1.1),
      λ same. fields.1 (
        ap (λ (one : ProcessView). one.state) same,
        (
          ap (λ (one : ProcessView). one.current_priority) same,
          (
            ap (λ (one : ProcessView). one.base_priority) same,
            (
              ap (λ (one : ProcessView). one.affinity) same,
              (
                ap (λ (one : ProcessView). one.ready_position) same,
                (ap (λ (one : ProcessView). one.due) same, ap (λ (one : ProcessView). one.deadline) same),
              ),
            ),
          ),
        ),
      ),
    )

-- a process with this number and this view
abbrev seen_as : ℕ → ProcessView → SeenProcess
seen_as number view = record { number = number; view = view }

-- processes that were seen are equal exactly if they are the same
pub same_process : (a b : SeenProcess) → Decides (seen_processes.eq-value.it a b) (a ≡ b)
same_process a b =
    let fields = Decides-and _ _ (Decides-eqb a.number b.number) (same_view a.view b.view) in (
      λ holds. (let found = fields.0 holds in ap (λ number. seen_as number a.view) found.0 ∙ ap (seen_as b.number) found.1),
      λ same. fields.1 (ap (λ (one : SeenProcess). one.number) same, ap (λ (one : SeenProcess). one.view) same),
    )

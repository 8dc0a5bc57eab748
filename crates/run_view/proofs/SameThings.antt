-- Objects and channels that are equal.
use Rattle.std.proofs.Common.{◌≡◌, ◌&&◌, ◌==◌, ℕ, List, Bool, true, false, Option, option_map, Vec, Global, Decides, refl, ap, ◌∙◌}
use Rattle.std.proofs.lemmas.Bool.{false≢true}
use Rattle.std.proofs.lemmas.Bool.Decides.{Decides-and, Decides-eqb}
use Rattle.std.proofs.lemmas.Slice.Eq.{bytes_eq-Decides, slice_eq-Decides}
use Rattle.std.specs.Cmp.Lexicographic.{pointwise}
use Rattle.run_view.specs.declared.seen_object.SeenObject.{SeenObject}
use Rattle.run_view.specs.declared.thing.Contents.{Contents}
use Rattle.run_view.specs.declared.thing.Contents.TheVariants as held
use Rattle.run_view.specs.declared.thing.ThingView.{ThingView}
use Rattle.run_view.specs.declared.waiter.Waiter.{Waiter}
use Rattle.run_view.specs.contracts.seen_object.SeenObjectPartialEq.TheImpl as seen_objects
use Rattle.run_view.specs.contracts.thing.ContentsPartialEq.TheImpl as contents
use Rattle.run_view.specs.contracts.thing.ThingViewPartialEq.TheImpl as thing_views
use Rattle.run_view.specs.contracts.waiter.WaiterPartialEq.TheImpl as waiters
use Rattle.run_view.specs.Plain.{PlainContents, PlainObject, PlainThing, board, event, lock, mutex, plain, plain_contents, plain_object, queue, sampled, semaphore}
use Rattle.run_view.proofs.SameViews.{same_waiter}
use Rattle.run_view.proofs.SameWaits.{same_option, same_shown_option}

abbrev Bytes : Type 0
Bytes = Vec ℕ Global

abbrev bytes_alike : Bytes → Bytes → Bool
bytes_alike a b = pointwise ◌==◌ a.items b.items

same_bytes : (a b : Bytes) → Decides (bytes_alike a b) (a.items ≡ b.items)
same_bytes a b = bytes_eq-Decides a.items b.items

same_waiters : (a b : List Waiter) → Decides (pointwise waiters.eq-value.it a b) (a ≡ b)
same_waiters a b = slice_eq-Decides same_waiter a b (pointwise waiters.eq-value.it a b) refl

abbrev samples_alike : Bytes × ℕ → Bytes × ℕ → Bool
samples_alike a b = bytes_alike a.0 b.0 && (a.1 == b.1)

abbrev pair : List ℕ → ℕ → List ℕ × ℕ
pair text time = (text, time)

abbrev plain_sample : Bytes × ℕ → List ℕ × ℕ
plain_sample sample = (sample.0.items, sample.1)

same_sample : (a b : Bytes × ℕ) → Decides (samples_alike a b) (plain_sample a ≡ plain_sample b)
same_sample a b =
    let both = Decides-and _ _ (same_bytes a.0 b.0) (Decides-eqb a.1 b.1) in (
      λ holds. (let found = both.0 holds in ap (λ text. pair text a.1) found.0 ∙ ap (pair b.0.items) found.1),
      λ same. both.1 (ap (λ (one : List ℕ × ℕ). one.0) same, ap (λ (one : List ℕ × ℕ). one.1) same),
    )

-- contents are the same exactly if their parts are

queue_of : {c d k l : ℕ} {o p : Option (List ℕ)} → (c ≡ d) × ((k ≡ l) × (o ≡ p)) → queue c k o ≡ queue d l p
queue_of {c} {d} {k} {l} {o} {p} parts = ap (λ one. queue one k o) parts.0 ∙ ap (λ one. queue d one o) parts.1.0 ∙ ap (λ one. queue d l one) parts.1.1

of_queue : (c d k l : ℕ) (o p : Option (List ℕ)) → queue c k o ≡ queue d l p → (c ≡ d) × ((k ≡ l) × (o ≡ p))
of_queue c d k l o p same = (cc, (cc, cc))

of_board : (o p : Option (List ℕ)) → board o ≡ board p → o ≡ p
of_board o p same = cc

semaphore_of : {c d k l : ℕ} → (c ≡ d) × (k ≡ l) → semaphore c k ≡ semaphore d l
semaphore_of {c} {d} {k} {l} parts = ap (λ one. semaphore one k) parts.0 ∙ ap (λ one. semaphore d one) parts.1

of_semaphore : (c d k l : ℕ) → semaphore c k ≡ semaphore d l → (c ≡ d) × (k ≡ l)
of_semaphore c d k l same = (cc, cc)

same_flag : (a b : Bool) → Decides (contents.eq-value.it (held.Event a) (held.Event b)) (event a ≡ event b)
same_flag true true = (λ _. refl, λ _. refl)
same_flag false false = (λ _. refl, λ _. refl)
same_flag true false = (λ holds. absurd (false≢true holds), λ same. cc)
same_flag false true = (λ holds. absurd (false≢true holds), λ same. cc)

mutex_of : {o p : Option ℕ} {c d k l : ℕ} → (o ≡ p) × ((c ≡ d) × (k ≡ l)) → mutex o c k ≡ mutex p d l
mutex_of {o} {p} {c} {d} {k} {l} parts = ap (λ one. mutex one c k) parts.0 ∙ ap (λ one. mutex p one k) parts.1.0 ∙ ap (λ one. mutex p d one) parts.1.1

of_mutex : (o p : Option ℕ) (c d k l : ℕ) → mutex o c k ≡ mutex p d l → (o ≡ p) × ((c ≡ d) × (k ≡ l))
of_mutex o p c d k l same = (cc, (cc, cc))

lock_of : {o p : Option ℕ} {k l : ℕ} → (o ≡ p) × (k ≡ l) → lock o k ≡ lock p l
lock_of {o} {p} {k} {l} parts = ap (λ one. lock one k) parts.0 ∙ ap (λ one. lock p one) parts.1

of_lock : (o p : Option ℕ) (k l : ℕ) → lock o k ≡ lock p l → (o ≡ p) × (k ≡ l)
of_lock o p k l same = (cc, cc)

of_sampled : (o p : Option (List ℕ × ℕ)) → sampled o ≡ sampled p → o ≡ p
of_sampled o p same = cc

abbrev items_of : Bytes → List ℕ
items_of bytes = bytes.items

same_contents : (a b : Contents) → Decides (contents.eq-value.it a b) (plain_contents a ≡ plain_contents b)
same_contents (held.Queue count capacity oldest) (held.Queue other room first) =
    let all = Decides-and _ _ (Decides-eqb count other) (Decides-and _ _ (Decides-eqb capacity room) (same_shown_option bytes_alike items_of same_bytes oldest first)) in
    (λ holds. queue_of (all.0 holds), λ same. all.1 (of_queue count other capacity room (option_map items_of oldest) (option_map items_of first) same))
same_contents (held.Board shown) (held.Board other) =
    let text = same_shown_option bytes_alike items_of same_bytes shown other in
    (λ holds. ap board (text.0 holds), λ same. text.1 (of_board (option_map items_of shown) (option_map items_of other) same))
same_contents (held.Semaphore value maximum) (held.Semaphore other most) =
    let all = Decides-and _ _ (Decides-eqb value other) (Decides-eqb maximum most) in
    (λ holds. semaphore_of (all.0 holds), λ same. all.1 (of_semaphore value other maximum most same))
same_contents (held.Event up) (held.Event other) = same_flag up other
same_contents (held.Mutex owner count priority) (held.Mutex other times ceiling) =
    let all = Decides-and _ _ (same_option ◌==◌ Decides-eqb owner other) (Decides-and _ _ (Decides-eqb count times) (Decides-eqb priority ceiling)) in
    (λ holds. mutex_of (all.0 holds), λ same. all.1 (of_mutex owner other count times priority ceiling same))
same_contents (held.Lock owner level) (held.Lock other depth) =
    let all = Decides-and _ _ (same_option ◌==◌ Decides-eqb owner other) (Decides-eqb level depth) in
    (λ holds. lock_of (all.0 holds), λ same. all.1 (of_lock owner other level depth same))
same_contents (held.Sampled written) (held.Sampled other) =
    let sample = same_shown_option samples_alike plain_sample same_sample written other in
    (λ holds. ap sampled (sample.0 holds), λ same. sample.1 (of_sampled (option_map plain_sample written) (option_map plain_sample other) same))
same_contents a b = (λ holds. cc, λ same. cc)

abbrev thing_of : List ℕ → PlainContents → List Waiter → List Waiter → PlainThing
thing_of name holds senders others = record { name = name; contents = holds; senders = senders; waiters = others }

-- objects or channels are equal exactly if they are shown alike
pub same_thing : (a b : ThingView) → Decides (thing_views.eq-value.it a b) (plain a ≡ plain b)
same_thing a b =
    let all = Decides-and _ _ (same_bytes a.name b.name)
    (Decides-and _ _ (same_contents a.contents b.contents) (Decides-and _ _ (same_waiters a.senders.items b.senders.items) (same_waiters a.waiters.items b.waiters.items))) in (
      λ holds. (let found = all.0 holds in
          ap (λ one. thing_of one (plain_contents a.contents) a.senders.items a.waiters.items) found.0
          ∙ ap (λ one. thing_of b.name.items one a.senders.items a.waiters.items) found.1.0
          ∙ ap (λ one. thing_of b.name.items (plain_contents b.contents) one a.waiters.items) found.1.1.0
          ∙ ap (λ one. thing_of b.name.items (plain_contents b.contents) b.senders.items one) found.1.1.1),
      λ same. all.1 (
        ap (λ (one : PlainThing). one.name) same,
        (ap (λ (one : PlainThing). one.contents) same, (ap (λ (one : PlainThing). one.senders) same, ap (λ (one : PlainThing). one.waiters) same)),
      ),
    )

abbrev object_of : ℕ → PlainThing → PlainObject
object_of number thing = record { number = number; thing = thing }

-- objects that were seen are equal exactly if they are shown alike, under the same number
pub same_object : (a b : SeenObject) → Decides (seen_objects.eq-value.it a b) (plain_object a ≡ plain_object b)
same_object a b =
    let both = Decides-and _ _ (Decides-eqb a.number b.number) (same_thing a.view b.view) in (
      λ holds. (let found = both.0 holds in ap (λ number. object_of number (plain a.view)) found.0 ∙ ap (object_of b.number) found.1),
      λ same. both.1 (ap (λ (one : PlainObject). one.number) same, ap (λ (one : PlainObject). one.thing) same),
    )

-- Each step of a channel keeps its rule.
use Rattle.std.proofs.Common.{◌≡◌, ◌≢◌, ℕ, zero, suc, true, false, true≢false, List, [], ◌∷◌, ◌++◌, length, set, sym, refl, ap, ◌∙◌, subst, ⊎_elim, append_assoc}
use mathlib.Core.Option.{some, some-ne-none}
use lib.ListN.{get_elem?}
use Rattle.crossbeam_channel.specs.Fifo.{Pushes, Pops, Forks, Merges, Learns}
use Rattle.atomic_table.proofs.Lists.{at_set, at_snoc}
use Rattle.core_intake.specs.declared.rule.Log.{Log}
use Rattle.core_intake.specs.declared.batch.Batch.{Batch}
use Rattle.core_intake.specs.Relay.{log, Knows, IsRelayed}

-- only the end of a list holds what none of its first part does
at_end : (passes : List Log) (last pass : Log) (port : ℕ) → get_elem? passes port ≢ some pass → get_elem? (passes ++ last ∷ []) port ≡ some pass → port ≡ length passes
at_end [] last pass zero not_before here = refl
at_end [] last pass (suc port) not_before here = absurd (some-ne-none pass (sym here))
at_end (first ∷ passes) last pass zero not_before here = absurd (not_before here)
at_end (first ∷ passes) last pass (suc port) not_before here = ap suc (at_end passes last pass port not_before here)

-- a fact of each pass
abbrev Each : (ℕ → Log → Type 0) → List Log → Type 0
Each Fact passes = (port : ℕ) (pass : Log) → get_elem? passes port ≡ some pass → Fact port pass

-- it stays if one pass changes
each_set : (Fact : ℕ → Log → Type 0) (passes : List Log) (port : ℕ) (now : Log) → Fact port now
    → ((other : ℕ) (pass : Log) → other ≢ port → get_elem? passes other ≡ some pass → Fact other pass) → Each Fact (set passes port now)
each_set Fact passes port now mine others other pass here = ⊎_elim (λ (is : (other ≡ port) × (now ≡ pass)). subst (λ (both : ℕ × Log). Fact both.0 both.1) (λ i. (sym is.0 i, is.1 i)) mine)
    (λ (is : (other ≢ port) × (get_elem? passes other ≡ some pass)). others other pass is.0 is.1) (at_set passes port other now pass here)

pub begins : IsRelayed [] (log true true [] [] ∷ [])
begins = (
  0,
  0,
  [],
  [],
  refl,
  each_set (Knows 0 0 [] []) (log true true [] [] ∷ []) 0 (log true true [] []) ((λ _. (refl, refl)), λ _. (refl, refl))
      (λ other pass apart here. absurd (apart (at_end [] _ pass other (λ none. some-ne-none pass (sym none)) here))),
)

pub sends : (most port : ℕ) (old : Log) (batch : Batch) → old.sends ≡ true
    → Pushes IsRelayed most port old batch (λ new. new ≡ log old.sends old.receives (old.sent ++ batch ∷ []) old.received)
sends most port old batch may held passes _ kept here =
    let new : Log = log old.sends old.receives (old.sent ++ batch ∷ []) old.received in let mine = kept.5 port old here in let sent = kept.2 ++ batch ∷ [] in (
      new,
      (
        kept.0,
        kept.1,
        sent,
        kept.3,
        ap (λ all. all ++ batch ∷ []) kept.4 ∙ append_assoc kept.3 held (batch ∷ []),
        each_set (Knows kept.0 kept.1 sent kept.3) passes port new ((λ _. ((mine.0 may).0, ap (λ all. all ++ batch ∷ []) (mine.0 may).1)), mine.1)
            (λ other pass apart there. ((λ may_too. absurd (apart (((kept.5 other pass there).0 may_too).0 ∙ sym (mine.0 may).0))), (kept.5 other pass there).1)),
      ),
      refl,
    )

pub receives : (port : ℕ) (old : Log) → old.receives ≡ true → Pops IsRelayed port old (λ batch new. new ≡ log old.sends old.receives old.sent (old.received ++ batch ∷ []))
receives port old may batch held passes kept here =
    let new : Log = log old.sends old.receives old.sent (old.received ++ batch ∷ []) in let mine = kept.5 port old here in let received = kept.3 ++ batch ∷ [] in (
      new,
      (
        kept.0,
        kept.1,
        kept.2,
        received,
        kept.4 ∙ sym (append_assoc kept.3 (batch ∷ []) held),
        each_set (Knows kept.0 kept.1 kept.2 received) passes port new (mine.0, λ _. ((mine.1 may).0, ap (λ all. all ++ batch ∷ []) (mine.1 may).1))
            (λ other pass apart there. ((kept.5 other pass there).0, λ may_too. absurd (apart (((kept.5 other pass there).1 may_too).0 ∙ sym (mine.1 may).0)))),
      ),
      refl,
    )

-- a pass that may do both is cut in two
pub forks : (port : ℕ) (old : Log) → old.sends ≡ true → old.receives ≡ true → Forks IsRelayed port old (log true false old.sent []) (log false true [] old.received)
forks port old may_send may_receive held passes kept here =
    let left : Log = log true false old.sent [] in let right : Log = log false true [] old.received in let mine = kept.5 port old here in let now : List Log = set passes port left in
    let Sender : ℕ → Log → Type 0 = λ other pass. (pass.sends ≡ true → (other ≡ kept.0) × (pass.sent ≡ kept.2)) × (pass.receives ≢ true) in
    let senders : Each Sender now = each_set Sender passes port left ((λ _. mine.0 may_send), λ may. true≢false (sym may))
    (λ other pass apart there. ((kept.5 other pass there).0, λ may. apart (((kept.5 other pass there).1 may).0 ∙ sym (mine.1 may_receive).0))) in (
      kept.0,
      length now,
      kept.2,
      kept.3,
      kept.4,
      λ other pass there. ⊎_elim (λ first. ((senders other pass first).0, λ may. absurd ((senders other pass first).1 may)))
          (λ (is : right ≡ pass). (
            (λ may. absurd (true≢false (sym (ap (λ (one : Log). one.sends) is ∙ may)))),
            λ may. (at_end now right pass other (λ first. (senders other pass first).1 may) there, ap (λ (one : Log). one.received) (sym is) ∙ (mine.1 may_receive).1),
          )) (at_snoc now right pass other there),
    )

-- the two parts are put together again
pub merges : (port : ℕ) (sender : Log) (port' : ℕ) (receiver : Log) → sender.sends ≡ true → receiver.receives ≡ true
    → Merges IsRelayed port sender port' receiver (log true true sender.sent receiver.received) (log false false [] [])
merges port sender port' receiver may_send may_receive held passes kept here apart there =
    let both : Log = log true true sender.sent receiver.received in let mine = kept.5 port sender here in let now : List Log = set passes port both in
    let was : get_elem? passes port' ≡ some receiver = ⊎_elim (λ is. absurd (apart is.0)) (λ is. is.1) (at_set passes port port' both receiver there) in
    let theirs = (kept.5 port' receiver was).1 may_receive in
    let Other : ℕ → Log → Type 0 = λ other pass. other ≢ port' → Knows kept.0 port kept.2 kept.3 other pass in
    let others : Each Other now = each_set Other passes port both (λ _. ((λ _. mine.0 may_send), (λ _. (refl, theirs.1))))
    (λ other pass _ at aside. ((kept.5 other pass at).0, λ may. absurd (aside (((kept.5 other pass at).1 may).0 ∙ sym theirs.0)))) in (
      kept.0,
      port,
      kept.2,
      kept.3,
      kept.4,
      each_set (Knows kept.0 port kept.2 kept.3) now port' (log false false [] []) ((λ may. absurd (true≢false (sym may))), λ may. absurd (true≢false (sym may)))
          (λ other pass aside at. others other pass at aside),
    )

-- who may do both knows what the channel holds
pub totals : (port : ℕ) (pass : Log) → pass.sends ≡ true → pass.receives ≡ true → Learns IsRelayed port pass (λ held. pass.sent ≡ pass.received ++ held)
totals port pass may_send may_receive held passes kept here =
    let mine = kept.5 port pass here in (mine.0 may_send).1 ∙ kept.4 ∙ ap (λ all. all ++ held) (sym (mine.1 may_receive).1)

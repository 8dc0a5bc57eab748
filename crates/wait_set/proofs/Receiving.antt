-- The queue after a message is received.
use Rattle.std.proofs.Common.{◌≡◌, ℤ, List, [], ◌∷◌, ◌||◌, Option, Some, None, Bool, true, false, refl, ◌∙◌, subst, drop, slice_get, if◌then◌else◌}
use Rattle.std.specs.Option.{is_some}
use Rattle.apex_types.specs.declared.code.Code.TheVariants as code
use Rattle.apex_types.specs.declared.record.Who.{Who}
use Rattle.apex_machine.specs.declared.state.Entry.{Entry}
use Rattle.apex_machine.specs.Answer.{NamesExactly, answering, unmet, waiting}
use Rattle.apex_machine.specs.Arguments.{is_over}
use Rattle.apex_machine.specs.Queue.{Messages, received}
use Rattle.apex_machine.specs.State.{is_named, is_same}
use Rattle.wait_set.specs.Sets.{Waiters, without_named, without_one}
use Rattle.wait_set.proofs.Calls.{same_without}
use Rattle.wait_set.proofs.Leaving.{without-unnamed}
use Rattle.wait_set.specs.Queues.{Queue, moved_up}

-- a test or false is the test
or_false : (test : Bool) → (test || false) ≡ test
or_false true = refl
or_false false = refl

-- a list that names exactly one process lets that one go
left_one : (woken : List Who) (one : Who) (entries : List Entry) → NamesExactly (one ∷ []) woken
    → without_named woken entries ≡ without_one one entries
left_one woken one entries named =
    same_without (λ who. is_named who woken) (λ who. is_same who one) entries (λ who. named who ∙ or_false (is_same who one))

-- a call that is unmet wakes no process
unmet_alone : (time_out : ℤ) → (unmet time_out).woken ≡ []
unmet_alone time_out = go (is_over time_out)
  where
    go : (over : Bool) → (if over then answering code.NotAvailable else waiting).woken ≡ []
    go true = refl
    go false = refl

-- if there is a message, the oldest is taken, and the message of the first sender that waits moves up
pub after_taking : (time_out : ℤ) (woken : List Who) (queue : Queue) (receivers : Waiters) (first : Option Entry) (messages : Messages)
    → is_some (slice_get messages 0) ≡ true → NamesExactly (received time_out first messages).answer.woken woken
    → moved_up first (record queue { messages = drop 1 messages; receivers = receivers })
    ≡ record queue {
      messages = (received time_out first messages).next;
      senders = record queue.senders { entries = without_named woken queue.senders.entries };
      receivers = receivers;
    }
after_taking time_out woken queue receivers None [] some named = cc
after_taking time_out woken queue receivers (Some sender) [] some named = cc
after_taking time_out woken queue receivers None (message ∷ others) some named =
    rw (without-unnamed woken queue.senders.entries named) refl
after_taking time_out woken queue receivers (Some sender) (message ∷ others) some named =
    rw (left_one woken sender.who queue.senders.entries named) refl

-- if there is no message, no process leaves the set of senders
pub after_none : (time_out : ℤ) (woken : List Who) (queue : Queue) (receivers : Waiters) (first : Option Entry) (messages : Messages)
    → is_some (slice_get messages 0) ≡ false → NamesExactly (received time_out first messages).answer.woken woken
    → (record queue { messages = drop 1 messages; receivers = receivers })
    ≡ record queue {
      messages = (received time_out first messages).next;
      senders = record queue.senders { entries = without_named woken queue.senders.entries };
      receivers = receivers;
    }
after_none time_out woken queue receivers first [] none named =
    let nobody : NamesExactly [] woken = subst (λ one. NamesExactly one woken) (unmet_alone time_out) named in
    rw (without-unnamed woken queue.senders.entries nobody) refl
after_none time_out woken queue receivers first (message ∷ others) none named = cc

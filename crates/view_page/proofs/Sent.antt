-- Markup that goes to a sink, piece after piece.
use Rattle.std.proofs.Common.{◌≡◌, ◌<◌, ℕ, List, ◌++◌, Option, Some, None, Result, Ok, Err, subst, refl, sym, ap, ◌∙◌, append_assoc}
use Rattle.sink.specs.Taken.{with_more}
use Rattle.sink.proofs.Parts.{IsMarkup-append}
use Rattle.std.specs.Prelude.{OnOk}
use Rattle.sink.specs.Written.{IsWritten}
use Rattle.view_page.specs.Sent.{Ends, IsBetween, Sends, SendsFront, Taken}
use Rattle.view_page.specs.declared.fault.PageFault.{PageFault}
use Rattle.view_page.specs.declared.fault.PageFault.TheVariants.{Memory, Unwritten}

with_more_twice : (known : Option (List ℕ)) (first second : List ℕ) → with_more (with_more known first) second ≡ with_more known (first ++ second)
with_more_twice None first second = refl
with_more_twice (Some bytes) first second = ap (λ l. Some l) (append_assoc bytes first second)

-- markup went out, and then more
pub sends_then : {a b c : Taken} → Sends a b → Sends b c → Sends a c
sends_then {a} {b} {c} h k = record {
  sent = h.sent ++ k.sent;
  is_markup = IsMarkup-append h.sent k.sent h.is_markup k.is_markup;
  is_written = k.is_written ∙ ap (λ known. with_more known k.sent) h.is_written ∙ with_more_twice a.bytes h.sent k.sent;
  has_not_failed = k.has_not_failed ∙ h.has_not_failed;
}

-- markup went out, and then the first bytes of more
pub front_after : {a b c : Taken} → Sends a b → SendsFront b c → SendsFront a c
front_after {a} {b} {c} h k = record {
  whole = h.sent ++ k.whole;
  is_markup = IsMarkup-append h.sent k.whole h.is_markup k.is_markup;
  is_cut = (
    h.sent ++ k.is_cut.0,
    k.is_cut.1,
    ap (λ l. h.sent ++ l) k.is_cut.2 ∙ sym (append_assoc h.sent k.is_cut.0 k.is_cut.1),
    k.is_cut.3 ∙ ap (λ known. with_more known k.is_cut.0) h.is_written ∙ with_more_twice a.bytes h.sent k.is_cut.0,
  );
  has_failed = subst (λ (n : ℕ). n < c.failures) h.has_not_failed k.has_failed;
}

-- markup went out, and then the writing ends
pub ends_after : (a b c : Taken) (r : Result (Unit {0}) PageFault) → Sends a b → Ends r b c → Ends r a c
ends_after a b c (Ok done) h k = sends_then h k
ends_after a b c (Err Memory) h k = sends_then h k
ends_after a b c (Err Unwritten) h k = front_after h k

-- what went out at first, then inside, and at last: with the markup before it
pub between : {b c : Taken} (a d : Option (List ℕ)) (first left last : List ℕ) → IsWritten a first b.bytes → Sends b c → IsWritten c.bytes (left ++ last) d → IsBetween first last a d
between {b} {c} a d first left last begun sends ended = record {
  inside = sends.sent ++ left;
  is_written =
      ended ∙ ap (λ known. with_more known (left ++ last)) (sends.is_written ∙ ap (λ known. with_more known sends.sent) begun ∙ with_more_twice a first sends.sent)
      ∙ with_more_twice a (first ++ sends.sent) (left ++ last)
      ∙ ap (λ text. with_more a text) (append_assoc first sends.sent (left ++ last) ∙ ap (λ text. first ++ text) (sym (append_assoc sends.sent left last)));
}

-- what follows from a fact that holds if a call comes to an end
pub on_ok : {A E Fact Other : Type 0} (result : Result A E) → OnOk result Fact → (Fact → Other) → OnOk result Other
on_ok (Ok value) is gives = gives is
on_ok (Err fault) is gives = tt

-- the same of two facts
pub on_both : {A E Fact More Other : Type 0} (result : Result A E) → OnOk result Fact → OnOk result More → (Fact → More → Other) → OnOk result Other
on_both (Ok value) is also gives = gives is also
on_both (Err fault) is also gives = tt

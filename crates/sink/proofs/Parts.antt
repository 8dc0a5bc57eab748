-- Markup that grows by a part.
use Rattle.std.proofs.Common.{◌≡◌, ℕ, Bool, true, false, cond, List, [], ◌∷◌, ◌++◌, subst, refl, sym, ap, ◌∙◌, append-nil}
use Rattle.std.specs.List.{AllByRecursion, concat}
use Rattle.std.proofs.lemmas.List.Folds.{concat-append}
use Rattle.sink.specs.Markup.{IsMarkup, IsPart}

all_append : (parts more : List (List ℕ)) → AllByRecursion IsPart parts → AllByRecursion IsPart more → AllByRecursion IsPart (parts ++ more)
all_append [] more h k = k
all_append (part ∷ parts) more h k = (h.0, all_append parts more h.1 k)

pub nothing_is_markup : IsMarkup []
nothing_is_markup = record { parts = []; are_parts = tt; are_joined = refl }

-- markup, and then other markup
pub IsMarkup-append : (a b : List ℕ) → IsMarkup a → IsMarkup b → IsMarkup (a ++ b)
IsMarkup-append a b h k = record {
  parts = h.parts ++ k.parts;
  are_parts = all_append h.parts k.parts h.are_parts k.are_parts;
  are_joined = ap (λ l. l ++ b) h.are_joined ∙ ap (λ l. concat h.parts ++ l) k.are_joined ∙ sym (concat-append h.parts k.parts);
}

one_part : (part : List ℕ) → IsPart part → IsMarkup part
one_part part h = record { parts = part ∷ []; are_parts = (h, tt); are_joined = sym (append-nil part) }

-- markup, and then a part, if memory was given for it
pub grown : (was now part : List ℕ) (b : Bool) → IsMarkup was → IsPart part → now ≡ cond b (was ++ part) was → IsMarkup now
grown was now part true h k e = subst IsMarkup (sym e) (IsMarkup-append was part h (one_part part k))
grown was now part false h k e = subst IsMarkup (sym e) h

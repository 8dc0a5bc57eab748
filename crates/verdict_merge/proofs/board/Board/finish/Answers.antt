use Rattle.std.proofs.Common.{◌≡◌, ◌∷◌, ◌++◌, ◌∙◌, [], Some, length, slice_index_or, ap, append_assoc, subst, sym, arith}
use Rattle.std.proofs.lemmas.List.{length-append}
use Rattle.verdict_merge.specs.Contents.{IsJudged, parts_held}
use Rattle.verdict_merge.proofs.RoundPieces.{judged_more, next_judged}
use Rattle.verdict_merge.proofs.board.Board.finish.Goals as goal

pub places-preserved : goal.places-preserved
places-preserved g c =
    let round = g.J.Naming.round in
    let before = c.places.invariant in
    let yielded = c.places.yielded in
    let new = c.in-Some-place.one in
    let rest = c.next.new.self.rest.items in
    let step : c.places.place-iterator.rest.items ≡ c.in-Some.place ∷ rest = c.in-Some.ensures.steps.0 in
    let given : (yielded ++ c.in-Some.place ∷ []) ++ rest ≡ c.self.inside.places.items =
    append_assoc yielded (c.in-Some.place ∷ []) rest ∙ ap (λ list. yielded ++ list) (sym step) ∙ before.given in
    let own : (yielded ++ Some new ∷ []) ++ rest ≡ c.self.inside.places.items = subst (λ place. (yielded ++ place ∷ []) ++ rest ≡ c.self.inside.places.items) c.in-Some-place.is given in
    let grown : c.push_reserved.new.self.items ≡ c.places.judged.items ++ new ∷ [] = c.push_reserved.ensures.items in
    let last : IsJudged round (length yielded) new =
    next_judged round (parts_held c.self.inside.left.items) c.self.inside.claimed c.self.inside.log.items c.self.inside.places.items yielded rest new own c.self.invariant.4 in
    record {
      given = given;
      count = ap length grown ∙ length-append c.places.judged.items (new ∷ []) ∙ omega (arith, before.count, length-append yielded (c.in-Some.place ∷ []));
      room = c.push_reserved.ensures.capacity ∙ before.room;
      each = λ one less judged is.
          judged_more round c.places.judged.items new (length yielded) before.count before.each last one (omega (arith, less, length-append yielded (c.in-Some.place ∷ []))) judged
          (is ∙ ap (λ list. slice_index_or list one judged) grown);
    }

pub returns : goal.returns
returns g c =
    let before = c.places.invariant in
    let yielded = c.places.yielded in
    let rest = c.places.place-iterator.rest in
    let all : length yielded ≡ length c.self.inside.places.items = omega (arith, ap length before.given, length-append yielded rest.items, c.in-None.ensures.steps.0, rest.ok) in
    let whole = c.self.invariant.4.place in
    record {
      whole = before.count ∙ all ∙ whole;
      each = λ number less one is. before.each number (omega (arith, less, all, whole)) one is;
    }

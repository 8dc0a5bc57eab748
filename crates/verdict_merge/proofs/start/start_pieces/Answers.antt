use Rattle.std.proofs.Common.{below_more, ◌≡◌, ◌<◌, ◌+◌, ◌++◌, ◌∷◌, ◌∙◌, [], ℕ, length, sym, ap, subst, rules, arith}
use Rattle.std.proofs.lemmas.List.{length-append}
use Rattle.apex_machine.specs.Pieces.{pieces}
use Rattle.apex_machine.specs.State.{cold_state}
use Rattle.piece_check.proofs.Viewing.{IsPartOf_state}
use Rattle.piece_check.specs.Parts.{HoldsBefore, IsOf, IsPartOf, piece_at}
use Rattle.verdict_merge.specs.Rounds.{cold_parts, holding_at}
use Rattle.verdict_merge.proofs.Holdings.{holding_at-front, holding_at-last}
use Rattle.verdict_merge.proofs.start.start_pieces.Goals as goal

pub pieces-preserved : goal.pieces-preserved
pieces-preserved c =
    let config = c.args.config.now in
    let items = c.pieces.pieces.items in
    let number = c.pieces.number in
    let piece = c.in-Ok-start.piece in
    let grown : c.push_reserved.new.self.items ≡ items ++ piece ∷ [] = c.push_reserved.ensures.items in
    let last : holding_at (items ++ piece ∷ []) number ≡ piece = subst (λ n. holding_at (items ++ piece ∷ []) n ≡ piece) c.pieces.invariant.count (holding_at-last items piece) in
    record {
      count = ap length grown ∙ length-append items (piece ∷ []) ∙ omega (arith, c.pieces.invariant.count);
      room = omega (arith, c.push_reserved.ensures.capacity, c.pieces.invariant.room);
      cold = subst (λ all. (one : ℕ) → one < number + 1 → (holding_at all one).part ≡ cold_parts config one) (sym grown)
          (below_more (λ one. (holding_at (items ++ piece ∷ []) one).part ≡ cold_parts config one) number
          (λ one less. ap (λ holding. holding.part) (holding_at-front items piece one (omega (arith, less, c.pieces.invariant.count))) ∙ c.pieces.invariant.cold one less)
          (ap (λ holding. holding.part) last ∙ c.in-Ok-start.ensures.part));
      of_module = subst (λ all. (one : ℕ) → one < number + 1 → IsOf config (holding_at all one)) (sym grown)
          (below_more (λ one. IsOf config (holding_at (items ++ piece ∷ []) one)) number
          (λ one less. subst (IsOf config) (sym (holding_at-front items piece one (omega (arith, less, c.pieces.invariant.count)))) (c.pieces.invariant.of_module one less))
          (subst (IsOf config) (sym last) c.in-Ok-start.ensures.of_module));
      holds_before = below_more (λ one. HoldsBefore 0 (cold_parts config one)) number c.pieces.invariant.holds_before (subst (HoldsBefore 0) c.in-Ok-start.ensures.part c.in-Ok-start.ensures.holds_before);
    }

pub returns-clause-going : goal.returns-clause-going
returns-clause-going c =
    let config = c.args.config.now in
    let all : c.pieces.number ≡ length (pieces config) = search rules in
    record {
      whole = c.pieces.invariant.count ∙ all;
      each = λ number within.
          let less : number < c.pieces.number = omega (arith, within, all) in
          record {
            of_module = c.pieces.invariant.of_module number less;
            whose = subst (IsPartOf (piece_at config number)) (sym (c.pieces.invariant.cold number less)) (IsPartOf_state (piece_at config number) (cold_state config));
            holds_before = subst (HoldsBefore 0) (sym (c.pieces.invariant.cold number less)) (c.pieces.invariant.holds_before number less);
          };
    }

use Rattle.std.proofs.Common.{rules, ◌≡◌, ◌<◌, ◌+◌, ◌++◌, ◌∷◌, ◌∙◌, ℕ, [], suc, length, take, refl, sym, ap, subst, arith}
use Rattle.std.specs.Prelude.{Contains}
use Rattle.std.proofs.lemmas.List.{append_assoc, append-nil, get_or_past, length-append, length-take-le}
use Rattle.piece_check.proofs.Parting.{HoldsBefore_later}
use Rattle.piece_check.proofs.Reaching.{placed_at, reached_within, sorted_at}
use Rattle.piece_check.specs.Parts.{HoldsBefore, IsPartOf, piece_at}
use Rattle.piece_check.specs.Subjects.{piece_of}
use Rattle.piece_check.specs.Touching.{indices_of, reached, touching}
use Rattle.apex_machine.specs.Runs.{ArePlaced}
use Rattle.apex_machine.specs.Views.{view_in}
use Rattle.user_rules.specs.Rules.{relations_of}
use Rattle.verdict_merge.specs.declared.breach.Seen.{Seen}
use Rattle.verdict_merge.specs.Views.{IsFirstBreach, seen_of}
use Rattle.verdict_merge.proofs.Among.{contains_none}
use Rattle.verdict_merge.proofs.Between.{holds_at_first, holds_at_next}
use Rattle.verdict_merge.proofs.Breaking.{breach_on}
use Rattle.verdict_merge.proofs.Coming.{HasCome, come_nowhere, come_over, come_past, goes_through, next_within, refuses_there, is_shown}
use Rattle.verdict_merge.proofs.Seeing.{seen_less}
use Rattle.verdict_merge.proofs.outcome.go_over.Goals as goal

pub loop-index-init : goal.loop-index-init
loop-index-init g c =
    let old = c.args.piece.now in
    let number = c.args.number in
    let lent = c.args.lent.now in
    let config = lent.config.now in
    let records = lent.records.now in
    let list : c.of-index-items.result ≡ touching config (piece_at config number) 0 records =
    c.of-index-items.ensures ∙ sorted_at config records (indices_of lent.touched.now) number (piece_of c.subject_of-subject.result) lent.sorted c.requires.piece c.subject_of-subject.ensures.value c.subject_of-subject.ensures.listed in (
      [],
      [],
      sym (c.into_iter-index-iterator.ensures.into_iter_gives ∙ list),
      holds_at_first config (piece_at config number) records (HasCome config number old records old []) (come_past config number old records old [])
          (come_nowhere config number old records c.requires.going.of_module c.requires.going.whose),
      λ one there. absurd (contains_none one there),
    )

pub bounds-records-index : goal.bounds-records-index
bounds-records-index g c =
    let lent = c.args.lent.now in
    let at = next_within lent.config.now c.args.number lent.records.now c.loop-index.invariant.1 c.loop-index.invariant.2 c.in-Some.ensures.steps in
    rw at.1 (reached_within lent.config.now (piece_at lent.config.now c.args.number) lent.records.now (length c.loop-index.invariant.1) at.0)

pub offset_bounds-records-index : goal.offset_bounds-records-index
offset_bounds-records-index g c = let within = bounds-records-index g c in search rules

pub judge_one-requires : goal.judge_one-requires
judge_one-requires g c =
    let lent = c.args.lent.now in
    let come = c.loop-index.invariant.3 in
    let at = is_shown lent.config.now c.args.number lent.first lent.records.now c.loop-index.invariant.1 c.loop-index.invariant.2 c.in-Some.ensures.steps c.index-records-index.is c.requires.placed c.requires.cores in
    record {
      core = at.core;
      of_module = come.of_module;
      holds_before = subst (λ place. HoldsBefore place c.loop-index.piece.part) (sym at.place) (come.holds_before lent.first c.requires.placed c.requires.going.holds_before);
    }

pub returns-in-Ok-Some-clause-outcome : goal.returns-in-Ok-Some-clause-outcome
returns-in-Ok-Some-clause-outcome g c =
    let lent = c.args.lent.now in
    let relations = relations_of c.args.rules.now in
    let seen = c.loop-index.invariant.0 in
    let at = is_shown lent.config.now c.args.number lent.first lent.records.now c.loop-index.invariant.1 c.loop-index.invariant.2 c.in-Some.ensures.steps c.index-records-index.is c.requires.placed c.requires.cores in
    let index = reached lent.config.now (piece_at lent.config.now c.args.number) lent.records.now (length c.loop-index.invariant.1) in
    (refuses_there lent.config.now c.args.number lent.first lent.records.now relations c.args.piece.now c.loop-index.piece c.judge_one.new.piece _ seen c.in-Ok-Some.refused index c.index-records-index.result
    refl c.loop-index.invariant.3 (subst (IsFirstBreach relations seen) (sym (rw c.in-Ok-Some.field-0-is at c.in-Ok-Some.ensures.tested)) c.loop-index.invariant.4) c.requires.placed c.requires.going.holds_before at.within at.is at.touched (rw c.in-Ok-Some.field-0-is at c.in-Ok-Some.ensures.judged) c.in-Ok-Some.ensures.of_module).0

pub loop-index-preserved : goal.loop-index-preserved
loop-index-preserved g c =
    let lent = c.args.lent.now in
    let config = lent.config.now in
    let records = lent.records.now in
    let number = c.args.number in
    let piece = piece_at config number in
    let ordered = c.index-records-index.result in
    let outcome = c.loop-index.invariant.1 in
    let come = c.loop-index.invariant.3 in
    let at = is_shown lent.config.now c.args.number lent.first lent.records.now c.loop-index.invariant.1 c.loop-index.invariant.2 c.in-Some.ensures.steps c.index-records-index.is c.requires.placed c.requires.cores in
    let index = reached config piece records (length outcome) in
    let judged = rw c.in-Ok-None.field-0-is at c.in-Ok-None.ensures.judged in
    let old = c.args.piece.now in
    let next = c.judge_one.new.piece in
    let whose : IsPartOf piece next.part = c.in-Ok-None.ensures.whose ∙ come.whose in
    let holds_before : (place : ℕ) → ArePlaced place records → HoldsBefore (place + suc index) next.part =
    λ place placed. HoldsBefore_later (ordered.pos + 1) (place + suc index) next.part (omega (arith, ap (λ one. one.pos) at.is, placed_at place index ordered records placed at.within)) judged.1 in
    let seen = c.loop-index.invariant.0 in
    let given = view_in c.loop-index.piece.part ordered in
    let over = come_over config number old records c.loop-index.piece next seen index ordered come at.within at.is at.touched judged.0
    c.in-Ok-None.ensures.of_module whose holds_before in
    let tested = rw c.in-Ok-None.field-0-is at c.in-Ok-None.ensures.tested in
    let first : IsFirstBreach (relations_of c.args.rules.now) (seen_of given index) tested.0 =
    subst (λ n. IsFirstBreach (relations_of c.args.rules.now) (seen_of given n) tested.0) at.reaches tested.1 in
    let less : (one : Seen) → Contains seen one → one.index < index =
    λ one there. let below = seen_less config piece old.part (take index records) seen come.seen one there in omega (arith, below, length-take-le index records (omega (arith, at.within))) in
    let longer : suc (length outcome) ≡ length (outcome ++ c.in-Some.index ∷ []) = omega (arith, length-append outcome (c.in-Some.index ∷ [])) in (
      seen ++ seen_of given index,
      outcome ++ c.in-Some.index ∷ [],
      c.loop-index.invariant.2 ∙ ap (λ left. outcome ++ left) c.in-Some.ensures.steps ∙ sym (append_assoc outcome (c.in-Some.index ∷ []) c.next.new.self),
      subst (λ n. HasCome config number old records next (seen ++ seen_of given index) (reached config piece records n)) longer
          (holds_at_next config piece records (HasCome config number old records next (seen ++ seen_of given index)) (length outcome) at.listed
          (come_past config number old records next (seen ++ seen_of given index)) over),
      rw tested.2 (breach_on (relations_of c.args.rules.now) seen given index c.loop-index.breach tested.0 less c.loop-index.invariant.4 first),
    )

pub returns-clause-outcome : goal.returns-clause-outcome
returns-clause-outcome g c =
    let lent = c.args.lent.now in
    let records = lent.records.now in
    let outcome = c.loop-index.invariant.1 in
    let piece = piece_at lent.config.now c.args.number in
    let all : touching lent.config.now piece 0 records ≡ outcome = c.loop-index.invariant.2 ∙ ap (λ left. outcome ++ left) c.in-None.ensures.steps.0 ∙ append-nil outcome in
    let end : reached lent.config.now piece records (length outcome) ≡ length records =
    get_or_past (touching lent.config.now piece 0 records) (length outcome) (length records) (omega (arith, ap length all)) in
    (goes_through lent.config.now c.args.number lent.first records (relations_of c.args.rules.now) c.args.piece.now c.loop-index.piece _ c.loop-index.invariant.0
    (reached lent.config.now piece records (length outcome)) refl c.loop-index.invariant.3 c.loop-index.invariant.4 end c.requires.placed c.requires.going.holds_before).0

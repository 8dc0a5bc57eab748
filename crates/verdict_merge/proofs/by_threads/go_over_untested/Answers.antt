use Rattle.std.proofs.Common.{rules, ◌≡◌, ◌<◌, ◌+◌, ◌++◌, ◌∷◌, ◌∙◌, ℕ, [], suc, length, take, refl, sym, ap, subst, arith}
use Rattle.std.specs.Prelude.{Contains}
use Rattle.std.proofs.lemmas.List.{append_assoc, append-nil, get_or_past, length-append, length-take-le}
use Rattle.piece_check.proofs.Parting.{HoldsBefore_later}
use Rattle.piece_check.proofs.Reaching.{placed_at, reached_within, sorted_at}
use Rattle.piece_check.specs.Parts.{HoldsBefore, IsPartOf, piece_at}
use Rattle.piece_check.specs.Subjects.{piece_of}
use Rattle.piece_check.specs.Touching.{indices_of, reached, touching}
use Rattle.apex_machine.specs.Runs.{ArePlaced}
use Rattle.apex_machine.specs.Views.{view_in}
use Rattle.verdict_merge.specs.declared.breach.Seen.{Seen}
use Rattle.verdict_merge.specs.Keeping.{AreRising, seen_in}
use Rattle.verdict_merge.specs.Views.{IsFirstBreach, seen_of}
use Rattle.verdict_merge.proofs.Between.{holds_at_first, holds_at_next}
use Rattle.verdict_merge.proofs.Coming.{HasCome, come_nowhere, come_over, come_past, goes_through, next_within, refuses_there, is_shown}
use Rattle.verdict_merge.proofs.Keeping.{length-seen_in, rising_on, seen_count}
use Rattle.verdict_merge.proofs.Seeing.{seen_less}
use Rattle.verdict_merge.proofs.by_threads.go_over_untested.Goals as goal

pub loop-index-init : goal.loop-index-init
loop-index-init c =
    let old = c.args.piece.now in
    let number = c.args.seat.now.number in
    let lent = c.args.seat.now.lent in
    let config = lent.config.now in
    let records = lent.records.now in
    let kept = c.args.kept.now in
    let none : seen_in kept.indices.items kept.views.items ≡ [] = ap (λ list. seen_in list kept.views.items) c.requires.none in
    let list : c.of-index-items.result ≡ touching config (piece_at config number) 0 records =
    c.of-index-items.ensures ∙ sorted_at config records (indices_of lent.touched.now) number (piece_of c.subject_of-subject.result) lent.sorted c.requires.may.piece c.subject_of-subject.ensures.value c.subject_of-subject.ensures.listed in (
      [],
      sym (c.into_iter-index-iterator.ensures.into_iter_gives ∙ list),
      subst (λ seen. HasCome config number old records old seen (reached config (piece_at config number) records 0)) (sym none)
          (holds_at_first config (piece_at config number) records (HasCome config number old records old []) (come_past config number old records old [])
          (come_nowhere config number old records c.requires.may.going.of_module c.requires.may.going.whose)),
      subst AreRising (sym none) tt,
      c.requires.room,
    )

pub bounds-records-index : goal.bounds-records-index
bounds-records-index c =
    let lent = c.args.seat.now.lent in
    let at = next_within lent.config.now c.args.seat.now.number lent.records.now c.loop-index.invariant.0 c.loop-index.invariant.1 c.in-Some.ensures.steps in
    rw at.1 (reached_within lent.config.now (piece_at lent.config.now c.args.seat.now.number) lent.records.now (length c.loop-index.invariant.0) at.0)

pub offset_bounds-records-index : goal.offset_bounds-records-index
offset_bounds-records-index c = let within = bounds-records-index c in search rules

pub judge_and_keep-requires-clause-step : goal.judge_and_keep-requires-clause-step
judge_and_keep-requires-clause-step c =
    let lent = c.args.seat.now.lent in
    let come = c.loop-index.invariant.2 in
    let at = is_shown lent.config.now c.args.seat.now.number lent.first lent.records.now c.loop-index.invariant.0 c.loop-index.invariant.1 c.in-Some.ensures.steps c.index-records-index.is c.requires.may.placed c.requires.may.cores in
    record {
      core = at.core;
      of_module = come.of_module;
      holds_before = subst (λ place. HoldsBefore place c.loop-index.piece.part) (sym at.place) (come.holds_before lent.first c.requires.may.placed c.requires.may.going.holds_before);
    }

pub judge_and_keep-requires-clause-room : goal.judge_and_keep-requires-clause-room
judge_and_keep-requires-clause-room c =
    let lent = c.args.seat.now.lent in
    let config = lent.config.now in
    let records = lent.records.now in
    let piece = piece_at config c.args.seat.now.number in
    let kept = c.loop-index.kept in
    let at = is_shown config c.args.seat.now.number lent.first records c.loop-index.invariant.0 c.loop-index.invariant.1 c.in-Some.ensures.steps c.index-records-index.is c.requires.may.placed c.requires.may.cores in
    let index = reached config piece records (length c.loop-index.invariant.0) in
    let most = seen_count config piece c.args.piece.now.part 0 (take index records) (seen_in kept.indices.items kept.views.items) c.loop-index.invariant.2.seen in
    let counted = length-seen_in kept.indices.items kept.views.items kept.even in
    let taken = length-take-le index records (omega (arith, at.within)) in
    let room = c.loop-index.invariant.4 in
    record {
      indices = omega (arith, most, counted, taken, at.within, kept.even, room.indices);
      views = omega (arith, most, counted, taken, at.within, kept.even, room.views);
    }

pub returns-in-Ok-Some-clause-outcome : goal.returns-in-Ok-Some-clause-outcome
returns-in-Ok-Some-clause-outcome c = λ relations breach first.
    let lent = c.args.seat.now.lent in
    let kept = c.loop-index.kept in
    let seen = seen_in kept.indices.items kept.views.items in
    let at = is_shown lent.config.now c.args.seat.now.number lent.first lent.records.now c.loop-index.invariant.0 c.loop-index.invariant.1 c.in-Some.ensures.steps c.index-records-index.is c.requires.may.placed c.requires.may.cores in
    let index = reached lent.config.now (piece_at lent.config.now c.args.seat.now.number) lent.records.now (length c.loop-index.invariant.0) in
    let none = rw c.in-Ok-Some.field-0-is at c.in-Ok-Some.ensures.kept in
    let there = refuses_there lent.config.now c.args.seat.now.number lent.first lent.records.now relations c.args.piece.now c.loop-index.piece c.judge_and_keep.new.piece _ seen c.in-Ok-Some.refused index c.index-records-index.result
    refl c.loop-index.invariant.2 (subst (λ list. IsFirstBreach relations list breach) (none ∙ append-nil seen) first) c.requires.may.placed c.requires.may.going.holds_before at.within at.is at.touched (rw c.in-Ok-Some.field-0-is at c.in-Ok-Some.ensures.judged) c.in-Ok-Some.ensures.of_module in
    (there.0, none ∙ append-nil seen ∙ sym there.1)

pub returns-in-Ok-Some-clause-rising : goal.returns-in-Ok-Some-clause-rising
returns-in-Ok-Some-clause-rising c =
    let kept = c.loop-index.kept in
    let seen = seen_in kept.indices.items kept.views.items in
    let none = rw c.in-Ok-Some.field-0-is at c.in-Ok-Some.ensures.kept in
    subst AreRising (sym (none ∙ append-nil seen)) c.loop-index.invariant.3

pub loop-index-preserved : goal.loop-index-preserved
loop-index-preserved c =
    let lent = c.args.seat.now.lent in
    let config = lent.config.now in
    let records = lent.records.now in
    let number = c.args.seat.now.number in
    let piece = piece_at config number in
    let ordered = c.index-records-index.result in
    let outcome = c.loop-index.invariant.0 in
    let come = c.loop-index.invariant.2 in
    let at = is_shown config number lent.first records outcome c.loop-index.invariant.1 c.in-Some.ensures.steps c.index-records-index.is c.requires.may.placed c.requires.may.cores in
    let index = reached config piece records (length outcome) in
    let judged = rw c.in-Ok-None.field-0-is at c.in-Ok-None.ensures.judged in
    let kept = rw c.in-Ok-None.field-0-is at c.in-Ok-None.ensures.kept in
    let old = c.args.piece.now in
    let next = c.judge_and_keep.new.piece in
    let whose : IsPartOf piece next.part = c.in-Ok-None.ensures.whose ∙ come.whose in
    let holds_before : (place : ℕ) → ArePlaced place records → HoldsBefore (place + suc index) next.part =
    λ place placed. HoldsBefore_later (ordered.pos + 1) (place + suc index) next.part (omega (arith, ap (λ one. one.pos) at.is, placed_at place index ordered records placed at.within)) judged.1 in
    let seen = seen_in c.loop-index.kept.indices.items c.loop-index.kept.views.items in
    let given = view_in c.loop-index.piece.part ordered in
    let more = seen ++ seen_of given index in
    let over = come_over config number old records c.loop-index.piece next seen index ordered come at.within at.is at.touched judged.0
    c.in-Ok-None.ensures.of_module whose holds_before in
    let is : seen_in c.judge_and_keep.new.kept.indices.items c.judge_and_keep.new.kept.views.items ≡ more = kept ∙ ap (λ n. seen ++ seen_of given n) at.reaches in
    let less : (one : Seen) → Contains seen one → one.index < index =
    λ one there. let below = seen_less config piece old.part (take index records) seen come.seen one there in omega (arith, below, length-take-le index records (omega (arith, at.within))) in
    let longer : suc (length outcome) ≡ length (outcome ++ c.in-Some.index ∷ []) = omega (arith, length-append outcome (c.in-Some.index ∷ [])) in (
      outcome ++ c.in-Some.index ∷ [],
      c.loop-index.invariant.1 ∙ ap (λ left. outcome ++ left) c.in-Some.ensures.steps ∙ sym (append_assoc outcome (c.in-Some.index ∷ []) c.next.new.self),
      subst (λ list. HasCome config number old records next list (reached config piece records (length (outcome ++ c.in-Some.index ∷ [])))) (sym is)
          (subst (λ n. HasCome config number old records next more (reached config piece records n)) longer
          (holds_at_next config piece records (HasCome config number old records next more) (length outcome) at.listed
          (come_past config number old records next more) over)),
      subst AreRising (sym is) (rising_on seen given index less c.loop-index.invariant.3),
      record {
        indices = omega (arith, c.judge_and_keep.ensures.room.indices, c.loop-index.invariant.4.indices);
        views = omega (arith, c.judge_and_keep.ensures.room.views, c.loop-index.invariant.4.views);
      },
    )

pub returns-clause-outcome : goal.returns-clause-outcome
returns-clause-outcome c = λ relations breach first.
    let lent = c.args.seat.now.lent in
    let records = lent.records.now in
    let outcome = c.loop-index.invariant.0 in
    let piece = piece_at lent.config.now c.args.seat.now.number in
    let kept = c.loop-index.kept in
    let all : touching lent.config.now piece 0 records ≡ outcome = c.loop-index.invariant.1 ∙ ap (λ left. outcome ++ left) c.in-None.ensures.steps.0 ∙ append-nil outcome in
    let end : reached lent.config.now piece records (length outcome) ≡ length records =
    get_or_past (touching lent.config.now piece 0 records) (length outcome) (length records) (omega (arith, ap length all)) in
    let through = goes_through lent.config.now c.args.seat.now.number lent.first records relations c.args.piece.now c.loop-index.piece _ (seen_in kept.indices.items kept.views.items)
    (reached lent.config.now piece records (length outcome)) refl c.loop-index.invariant.2 first end c.requires.may.placed c.requires.may.going.holds_before in
    (through.0, sym through.1)

pub returns-clause-rising : goal.returns-clause-rising
returns-clause-rising c = c.loop-index.invariant.3

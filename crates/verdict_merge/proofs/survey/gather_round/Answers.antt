use Rattle.std.proofs.Common.{below_more, ◌≡◌, ◌<◌, ◌+◌, ◌∙◌, ℕ, None, length, refl, sym, subst, arith}
use Rattle.std.specs.Prelude.{replicate}
use Rattle.std.proofs.lemmas.List.{length-map, length-replicate}
use Rattle.apex_machine.specs.Pieces.{pieces}
use Rattle.verdict_merge.specs.Rounds.{AreGoing, HasRunOver, HaveRunOver, IsGoing, IsTestedAlone, holding_at, parts_in, pieces_in}
use Rattle.verdict_merge.proofs.Breaking.{IsFirstIn, first_more, is_tested}
use Rattle.verdict_merge.proofs.Giving.{gives}
use Rattle.verdict_merge.proofs.Holdings.{holding_left, left_each}
use Rattle.verdict_merge.proofs.Rounds.{HasBeen, IsFound, been_more, found_more}
use Rattle.verdict_merge.proofs.Slotted.{length-put_in, none_held, put_in}
use Rattle.verdict_merge.proofs.Viewing.{HasFilled, filled_more, filled_stays, seen_have_slots, sound_more}
use Rattle.verdict_merge.proofs.Watching.{outcome_of_piece, have_run_over, refused_within, wanted_filled}
use Rattle.verdict_merge.proofs.survey.gather_round.Goals as goal

pub pieces-init : goal.pieces-init
pieces-init c = λ relations old going outcome.
    let records = c.args.lent.now.records.now in
    record {
      been = λ number less. absurd (omega (arith, less));
      least = rw c.new-gathering.ensures.found tt;
      slots = replicate (length records) None;
      whole = length-replicate (length records) None;
      sound = λ view before ordered after split held. absurd (none_held (length records) (length before) view held);
      filled = λ number less. absurd (omega (arith, less));
      first = rw c.new-gathering.ensures.breach (λ index view held. absurd (none_held (length records) index view held));
    }

pub pieces-preserved : goal.pieces-preserved
pieces-preserved c = λ relations start going over.
    let lent = c.args.lent.now in
    let config = lent.config.now in
    let records = lent.records.now in
    let judged = c.args.judged.items in
    let number = c.pieces.number in
    let before = c.pieces.invariant relations start going over in
    let one = c.index.result.now in
    let within : number < length (pieces config) = omega (arith, c.pieces-test.true, over.whole, going.whole, c.args.judged.ok) in
    let here = (over.each number (omega (arith, within, going.whole)) one c.index.ensures).over in
    let old = c.pieces.gathering in
    let now = c.take_in.new.self in
    let left = parts_in (pieces_in judged) in
    let last : holding_at (pieces_in judged) number ≡ one.piece = holding_left judged number one (omega (arith, within, over.whole, going.whole)) c.index.ensures in
    let outcome : HasRunOver config number (parts_in start number) records one.outcome.found (left number) =
    subst (λ holding. HasRunOver config number (parts_in start number) records one.outcome.found holding.part) (sym last) here.found in
    let give = gives config (parts_in start) number (going.each number within).whose in
    let have = seen_have_slots config (parts_in start) number records one.outcome.found here.seen before.slots before.whole here.are in
    record {
      been = been_more config (parts_in start) left left records old.found one.outcome.found now.found number c.take_in.ensures.found before.been (λ other less. refl) outcome;
      least = found_more config (parts_in start) left records number old.found one.outcome.found now.found c.take_in.ensures.found before.least outcome;
      slots = put_in here.seen before.slots;
      whole = length-put_in here.seen before.slots ∙ before.whole;
      sound = sound_more config (parts_in start) number records one.outcome.found here.seen before.slots within give before.whole here.are before.sound;
      filled = below_more (HasFilled config (parts_in start) records (put_in here.seen before.slots)) number
          (λ other less. filled_stays config (parts_in start) records here.seen before.slots other have (before.filled other less))
          (filled_more config (parts_in start) number lent.first records one.outcome.found (left number) here.seen before.slots c.requires.placed give before.whole outcome here.are);
      first = subst (IsFirstIn config (parts_in start) relations records (put_in here.seen before.slots)) (sym c.take_in.ensures.breach)
          (first_more config (parts_in start) relations number records one.outcome.found here.seen before.slots old.breach one.outcome.breach within give before.whole here.are before.first here.breach);
    }

pub breach_in-breach-requires : goal.breach_in-breach-requires
breach_in-breach-requires c =
    let lent = c.args.lent.now in
    let config = lent.config.now in
    let records = lent.records.now in
    let relations = c.requires.outcome.0 in
    let start = c.requires.outcome.1 in
    let left = parts_in (pieces_in c.args.judged.items) in
    let after = c.pieces.invariant relations start c.requires.outcome.2 c.requires.outcome.3 in
    let all : length (pieces config) ≡ c.pieces.number = omega (arith, c.pieces-test.false, c.pieces.auto.number-end, c.requires.outcome.3.whole, c.requires.outcome.2.whole, c.args.judged.ok) in
    let found = subst (λ count. IsFound config (parts_in start) left records count c.pieces.gathering.found) (sym all) after.least in
    refused_within config (parts_in start) left records lent.first (length (pieces config)) c.pieces.gathering.found c.requires.placed found

pub returns-in-Ok : goal.returns-in-Ok
returns-in-Ok c = λ relations start going over.
    let lent = c.args.lent.now in
    let config = lent.config.now in
    let records = lent.records.now in
    let judged = c.args.judged.items in
    let gathering = c.pieces.gathering in
    let left = parts_in (pieces_in judged) in
    let after = c.pieces.invariant relations start going over in
    let all : length (pieces config) ≡ c.pieces.number = omega (arith, c.pieces-test.false, c.pieces.auto.number-end, over.whole, going.whole, c.args.judged.ok) in
    let found = subst (λ count. IsFound config (parts_in start) left records count gathering.found) (sym all) after.least in
    let been : (number : ℕ) → number < length (pieces config) → HasBeen config (parts_in start) records left gathering.found number =
    λ number within. after.been number (omega (arith, within, all)) in
    let is_shown = outcome_of_piece config start (pieces_in judged) records lent.first gathering.found c.requires.placed been found in
    let outcome = have_run_over config start (pieces_in judged) records gathering.found is_shown in
    let filled = wanted_filled config (parts_in start) lent.first records gathering.found after.slots c.requires.placed (going.each 0 (omega arith)).whose (omega arith) outcome
    (λ number within. after.filled number (omega (arith, within, all))) in
    record {
      outcome = subst (HaveRunOver config start records gathering.found) (sym c.in-Ok.ensures) is_shown;
      tested = subst (IsTestedAlone config relations (parts_in start) records gathering.found) (sym c.breach_in-breach.ensures)
          (is_tested config (parts_in start) relations lent.first records gathering.found c.requires.placed outcome after.slots gathering.breach after.whole after.sound filled after.first);
      going = subst (AreGoing config (lent.first + length records)) (sym c.in-Ok.ensures) (record {
        whole = length-map judged (λ one. one.piece) ∙ over.whole ∙ going.whole;
        each = λ number within. left_each (IsGoing config number (lent.first + length records)) judged number (omega (arith, within, over.whole, going.whole))
            (λ one is. (over.each number (omega (arith, within, going.whole)) one is).over.going);
      });
    }

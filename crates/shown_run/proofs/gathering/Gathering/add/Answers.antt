-- A round is added: it is kept whole, or the picture ends in it, or it ended before.
use Rattle.std.proofs.Common.{◌≡◌, ◌++◌, ◌∙◌, List, Option, true, false, arith, length, refl, subst, sym, take}
use Rattle.apex_types.specs.declared.record.Ordered.{Ordered}
use Rattle.apex_machine.specs.Configuration.{Configuration}
use Rattle.apex_machine.specs.Runs.{AreOfCores, ArePlaced}
use Rattle.shown_run.specs.declared.stretch.Asked.{Asked}
use Rattle.shown_run.specs.Kept.{AreRecent}
use Rattle.verdict_merge.specs.declared.verdict.Verdict.{Verdict}
use Rattle.shown_run.specs.Stretches.{GoesOn, HaveTaken, IsGathered, ReachTheLast, accepted_by, asked_of, up_to, with_accepted}
use Rattle.shown_run.proofs.FewerRecords.{is_none_of, none_of}
use Rattle.shown_run.proofs.Judging.{on_three, whenever}
use Rattle.shown_run.proofs.UpTo.{gathered_full, gathered_same, none_after, reach_last, reach_on, up_to_all, with_all}
use Rattle.shown_run.proofs.gathering.Gathering.add.Goals as goal
use Rattle.shown_run.proofs.gathering.Gathering.add.Goals.{else-is_none-via-then-is_none+then-is_none-2+else-len-asked, else-is_none-via-then-is_none+else-is_none-2, else-is_none-via-else-is_none}

pub returns-then-self-clause-gathered : goal.returns-then-self-clause-gathered
returns-then-self-clause-gathered c = whenever c.show_after.result _ (λ configuration taken goes first placed cores have.
    let records = c.args.round.records.items in
    gathered_same configuration (with_accepted taken records c.args.verdict.now) c.args.self.now c.show_after.new.self c.show_after.ensures.same
    (gathered_full configuration taken (take (accepted_by (length taken) (length records) c.args.verdict.now) records) c.args.self.now (goes.full c.if-self.true) goes.gathered))

pub returns-then-self-clause-goes_on : goal.returns-then-self-clause-goes_on
returns-then-self-clause-goes_on c = whenever c.show_after.result _ (λ configuration taken goes first placed cores have undecided open_end.
    let records = c.args.round.records.items in
    let ended : c.show_after.new.self.has_ended ≡ true = c.show_after.ensures.ended ∙ c.if-self.true in
    record {
      gathered = gathered_same configuration (taken ++ records) c.args.self.now c.show_after.new.self c.show_after.ensures.same (gathered_full configuration taken records c.args.self.now (goes.full c.if-self.true) goes.gathered);
      few = λ going. let e : true ≡ false = sym ended ∙ going in absurd cc;
      begun = λ going. let e : true ≡ false = sym ended ∙ going in absurd cc;
      full = λ _. subst (λ (asked : Asked). ReachTheLast asked.at (length (taken ++ records))) (sym c.show_after.ensures.same.1) (reach_on c.args.self.now.asked.at taken records (goes.full c.if-self.true));
    })

pub returns-then-len-asked : goal.returns-then-len-asked
returns-then-len-asked c =
    let records = c.args.round.records.items in
    let asked = c.args.self.now.asked.at in
    let none = none_of c.args.verdict.now c.is_none.result c.is_none.ensures c.if-is_none.true in
    let many : c.len.result ≡ length records = omega (arith, c.len.ensures, c.args.round.records.ok) in
    let all = λ (taken : List Ordered) (first : c.args.round.first ≡ length taken).
    let count : asked_of asked (length taken) (length records) ≡ c.count_of-asked.result =
    sym (rw (← first, ← many) c.count_of-asked.ensures) in
    let same : asked_of asked (length taken) (length records) ≡ length records = omega (arith, count, c.if-len-asked.true, c.len-then-is_none-2.ensures, c.args.round.records.ok) in
    same in
    let recent = λ (configuration : Configuration) (taken : List Ordered) (goes : GoesOn configuration taken c.args.self.now) (first : c.args.round.first ≡ length taken)
    (placed : ArePlaced (length taken) records) (cores : AreOfCores configuration.cores records) (have : HaveTaken configuration taken records c.args.verdict.now c.args.walk.now).
    let run = subst (λ (verdict : Option Verdict). HaveTaken configuration taken records verdict c.args.walk.now) none have in
    let before = subst (λ list. AreRecent configuration list c.args.self.now.recent) (up_to_all asked taken (goes.few c.if-self.false)) goes.gathered in
    let after = none_after asked taken records (goes.few c.if-self.false) (all taken first) in
    subst (λ list. AreRecent configuration list c.keep_round.new.self) (sym (up_to_all asked (taken ++ records) after))
    (c.in_ok-keep_round.ensures.recent configuration taken before placed cores run.0 run.1) in
    record {
      gathered = λ configuration taken goes first placed cores have.
          subst (λ list. AreRecent configuration (up_to asked list) c.keep_round.new.self) (sym (with_all taken records c.args.verdict.now none)) (recent configuration taken goes first placed cores have);
      goes_on = λ configuration taken goes first placed cores have undecided open_end. record {
        gathered = recent configuration taken goes first placed cores have;
        few = λ going. none_after asked taken records (goes.few c.if-self.false) (all taken first);
        begun = λ going. c.in_ok-keep_round.ensures.begun;
        full = λ ended. let e : true ≡ false = sym ended ∙ c.if-self.false in absurd cc;
      };
      asked = refl;
    }

pub returns-clause-goes_on : goal.returns-clause-goes_on
returns-clause-goes_on c = on_three c.add_last.result c.add_last.ensures.gathered c.add_last.ensures.ended c.add_last.ensures.asked (λ gathered ended asks configuration taken goes first placed cores have undecided open_end.
    let records = c.args.round.records.items in
    let asked = c.args.self.now.asked.at in
    let many : c.len.result ≡ length records = omega (arith, c.len.ensures, c.args.round.records.ok) in
    let count : asked_of asked (length taken) (length records) ≡ c.count_of-asked.result = sym (rw (← first, ← many) c.count_of-asked.ensures) in
    let reached : ReachTheLast asked (length (taken ++ records)) = elim c.else-is_none.branch [
      | else-is_none-via-then-is_none+then-is_none-2+else-len-asked w ↦
          reach_last asked taken records (λ all. omega (arith, all, count, w.if-len-asked.false, w.len-then-is_none-2.ensures, c.args.round.records.ok))
      | else-is_none-via-then-is_none+else-is_none-2 w ↦
          let e : true ≡ false = sym (is_none_of c.args.round.end w.is_none-then-is_none.result w.is_none-then-is_none.ensures open_end) ∙ w.if-is_none-2.false in absurd cc
      | else-is_none-via-else-is_none w ↦
          let e : true ≡ false = sym (is_none_of c.args.verdict.now c.is_none.result c.is_none.ensures undecided) ∙ w.if-is_none.false in absurd cc
    ] in
    record {
      gathered = subst (λ list. IsGathered configuration list c.add_last.new.self) (with_all taken records c.args.verdict.now undecided)
          (gathered configuration taken c.args.walk.now goes.gathered (goes.few c.if-self.false) first placed cores have);
      few = λ going. let e : true ≡ false = sym ended ∙ going in absurd cc;
      begun = λ going. let e : true ≡ false = sym ended ∙ going in absurd cc;
      full = λ _. subst (λ (one : Asked). ReachTheLast one.at (length (taken ++ records))) (sym asks) reached;
    })

-- What was placed and judged is the outcome of the texts.
use Rattle.std.proofs.Common.{◌≡◌, ◌++◌, ℕ, zero, suc, List, [], ◌∷◌, Option, Some, None, Result, Ok, Err, length, map, take, refl, sym, ap, ◌∙◌, subst, inl, inr, Bool, true, false, true≢false, nat_eq, eq-eqb, eqb-true}
use mathlib.Core.Path.{fun_ext}
use Rattle.std.specs.Option.{option_map}
use Rattle.apex_machine.specs.Configuration.{Configuration}
use Rattle.apex_machine.specs.Runs.{ArePlaced}
use Rattle.module_config.specs.declared.fault.ConfigFault.{ConfigFault}
use Rattle.module_config.specs.Reading.{configuration_of}
use Rattle.order_cert.specs.declared.fault.CertFault.TheVariants as cert
use Rattle.order_cert.specs.Row.{pairs_of}
use Rattle.order_cert.specs.Kept.{none_taken, place_of, taken_of}
use Rattle.placement.specs.Lanes.{AreLeft, IsAhead, IsScanOf, Placing}
use Rattle.placement.specs.Reading.{CanFail, Reads}
use Rattle.placement.proofs.Refusal.{front}
use Rattle.core_intake.specs.Answered.{answered}
use Rattle.placement.specs.Scan.{Scan, scan}
use Rattle.record_read.specs.declared.fault.RowFault.TheVariants as row
use Rattle.record_read.specs.Row.{records_of}
use Rattle.user_rules.specs.Remembered.{Requirements}
use Rattle.verdict_merge.specs.declared.verdict.Verdict.{Verdict}
use Rattle.verdict_merge.proofs.Ruled.{one_verdict}
use Rattle.report.specs.declared.fault.ArgumentFault.{ArgumentFault}
use Rattle.report.specs.declared.fault.CheckFault.{CheckFault}
use Rattle.report.specs.Inputs.{MayRead, Readings, Texts, given, given_of_certificate, given_of_core, items_at, scan_of}
use Rattle.report.specs.Outcome.{IsJudged, IsOutcomeBy, IsOutcomeUnder, IsOutcomeWith, OneOutcome, answer_with, argument_fault_of}
use Rattle.report.proofs.Lawful.{scan_places}

-- what lanes have left that were opened over readers of these texts
pub known_lanes : {A : Type 0} (known : A → Option (List ℕ)) (readers : List A) (texts : List (List ℕ)) → map known readers ≡ map Some texts
    → (length readers ≡ length texts) × (length (map (λ reader. answered (option_map records_of (known reader)) []) readers) ≡ length texts)
    × AreLeft (map (λ reader. answered (option_map records_of (known reader)) []) readers) (items_at texts)
known_lanes known [] [] e = (refl, refl, λ core. refl)
known_lanes known [] (text ∷ texts) e = cc
known_lanes known (reader ∷ readers) [] e = cc
known_lanes known (reader ∷ readers) (text ∷ texts) e =
    let head : known reader ≡ Some text = cc in
    let tail : map known readers ≡ map Some texts = cc in
    let rest = known_lanes known readers texts tail in
    (ap suc rest.0, ap suc rest.1, at head rest.2)
  where
    at : known reader ≡ Some text → AreLeft (map (λ reader. answered (option_map records_of (known reader)) []) readers) (items_at texts)
        → AreLeft (map (λ reader. answered (option_map records_of (known reader)) []) (reader ∷ readers)) (items_at (text ∷ texts))
    at h more zero = rw h refl
    at h more (suc core) = more core

-- what is ahead of a placer over lanes and pairs of these texts is a scan of the texts
pub scanned_texts : (can_fail : CanFail) {A : Type 0} (known : A → Option (List ℕ)) (readers : List A) (texts : List (List ℕ)) (certificate : List ℕ) (bytes : Option (List ℕ)) (placing : Placing) (scanned : Scan)
    → map known readers ≡ map Some texts → bytes ≡ Some certificate → placing.lanes ≡ map (λ reader. answered (option_map records_of (known reader)) []) readers
    → placing.pairs ≡ option_map pairs_of bytes → taken_of placing.kept ≡ none_taken → place_of placing.kept ≡ 0 → IsAhead can_fail placing scanned
    → IsScanOf can_fail (length texts) none_taken 0 (items_at texts) (pairs_of certificate) scanned
scanned_texts can_fail known readers texts certificate bytes placing scanned e is opened begun taken place ahead =
    let h = known_lanes known readers texts e in
    let count : length placing.lanes ≡ length texts = ap length opened ∙ h.1 in
    let are : AreLeft placing.lanes (items_at texts) = rw opened h.2 in
    let certs : placing.pairs ≡ Some (pairs_of certificate) = begun ∙ ap (option_map pairs_of) is in
    rw (count, taken, place) at (ahead (items_at texts) (pairs_of certificate) are certs)

-- readings of texts

-- before which row the reader failed, if it did
failure_of : {Value Fault : Type 0} (can_fail : Bool) (failure : Fault) (items gives : List (Result Value Fault)) → Reads can_fail failure items gives → Option ℕ
failure_of can_fail failure items gives (inl whole) = None
failure_of can_fail failure items gives (inr (can, before, rest, e, f)) = Some (length before)

-- one that can't fail did not
no_failure : {Value Fault : Type 0} (can_fail : Bool) (failure : Fault) (items gives : List (Result Value Fault)) (reads : Reads can_fail failure items gives) → can_fail ≡ false
    → failure_of can_fail failure items gives reads ≡ None
unfolding failure_of
no_failure can_fail failure items gives (inl whole) cannot = refl
no_failure can_fail failure items gives (inr (can, before, rest, e, f)) cannot = absurd (true≢false (sym can ∙ cannot))

-- it shows what the reader gave
given_so : {Value Fault : Type 0} (can_fail : Bool) (failure : Fault) (items gives : List (Result Value Fault)) (reads : Reads can_fail failure items gives)
    → given failure (failure_of can_fail failure items gives reads) items ≡ gives
unfolding failure_of
given_so can_fail failure items gives (inl whole) = sym whole
given_so {Value} {Fault} can_fail failure items gives (inr (can, before, rest, e, f)) =
    ap (λ (list : List (Result Value Fault)). list ++ Err failure ∷ []) (ap (take (length before)) e ∙ front before rest) ∙ sym f

-- readings of these texts, and their scan
pub record IsReadSo (can_fail : CanFail) (texts : Texts) (scanned : Scan) : Type 0 where
  pub readings : Readings
  pub read : MayRead can_fail readings
  pub scan : scan_of texts readings ≡ scanned

-- some readings are scanned so
pub read_so : (can_fail : CanFail) (texts : Texts) (scanned : Scan)
    → IsScanOf can_fail (length texts.recordings) none_taken 0 (items_at texts.recordings) (pairs_of texts.certificate) scanned → IsReadSo can_fail texts scanned
read_so can_fail texts scanned (left, pairs, reads, certs, is) =
    let readings : Readings = record {
      recordings = λ core. failure_of can_fail.recordings row.Read (items_at texts.recordings core) (left core) (reads core);
      certificate = failure_of can_fail.certificate cert.Read (pairs_of texts.certificate) pairs certs;
    } in
    let cores : given_of_core texts readings ≡ left = fun_ext (λ core. given_so can_fail.recordings row.Read (items_at texts.recordings core) (left core) (reads core)) in
    let certificate : given_of_certificate texts readings ≡ pairs = given_so can_fail.certificate cert.Read (pairs_of texts.certificate) pairs certs in
    record {
      readings = readings;
      read = record {
        recordings = λ cannot core. no_failure can_fail.recordings row.Read (items_at texts.recordings core) (left core) (reads core) cannot;
        certificate = λ cannot. no_failure can_fail.certificate cert.Read (pairs_of texts.certificate) pairs certs cannot;
      };
      scan = ap (λ items. scan (length texts.recordings) none_taken 0 items (given_of_certificate texts readings)) cores
          ∙ ap (λ items. scan (length texts.recordings) none_taken 0 left items) certificate ∙ is;
    }

-- outcomes of texts

-- the outcome under a configuration with as many cores as there are recordings
pub outcome_under : (configuration : Configuration) (texts : Texts) (readings : Readings) (requirements : Requirements) (result : Result Verdict CheckFault) (scanned : Scan)
    → length texts.recordings ≡ configuration.cores → scan_of texts readings ≡ scanned → IsJudged configuration requirements scanned result
    → IsOutcomeUnder (nat_eq (length texts.recordings) configuration.cores) configuration texts readings requirements result
outcome_under configuration texts readings requirements result scanned count scan judged =
    subst (λ b. IsOutcomeUnder b configuration texts readings requirements result) (sym (eq-eqb (length texts.recordings) configuration.cores count))
    (subst (λ one. IsJudged configuration requirements one result) (sym scan) judged)

pub other_count : (configuration : Configuration) (texts : Texts) (readings : Readings) (requirements : Requirements) (result : Result Verdict CheckFault)
    → (length texts.recordings ≡ configuration.cores → ⊥) → IsOutcomeUnder false configuration texts readings requirements result
    → IsOutcomeUnder (nat_eq (length texts.recordings) configuration.cores) configuration texts readings requirements result
other_count configuration texts readings requirements result other refused =
    by (nat_eq (length texts.recordings) configuration.cores) refl
  where
    by : (b : Bool) → nat_eq (length texts.recordings) configuration.cores ≡ b → IsOutcomeUnder b configuration texts readings requirements result
    by true e = absurd (other (eqb-true (length texts.recordings) configuration.cores e))
    by false e = refused

-- the records that a scan of texts places are at the first places
pub scan_of_placed : (texts : Texts) (readings : Readings) → ArePlaced 0 (scan_of texts readings).placed
scan_of_placed texts readings = scan_places (length texts.recordings) none_taken 0 (given_of_core texts readings) (given_of_certificate texts readings)

-- under a configuration there is one outcome
one_under : (enough : Bool) (configuration : Configuration) (texts : Texts) (readings : Readings) (requirements : Requirements) (one other : Result Verdict CheckFault)
    → IsOutcomeUnder enough configuration texts readings requirements one → IsOutcomeUnder enough configuration texts readings requirements other → one ≡ other
one_under false configuration texts readings requirements one other is also = is ∙ sym also
one_under true configuration texts readings requirements one other (verdict, found, is) (verdict', found', also) =
    let scanned = scan_of texts readings in
    let same : verdict ≡ verdict' = one_verdict configuration requirements scanned.placed verdict verdict' (scan_of_placed texts readings) found found' in
    is ∙ ap (λ v. answer_with v scanned.end) same ∙ sym also

one_by : (read : Result Configuration ConfigFault) (texts : Texts) (readings : Readings) (requirements : Requirements) (one other : Result Verdict CheckFault)
    → IsOutcomeBy read texts readings requirements one → IsOutcomeBy read texts readings requirements other → one ≡ other
one_by (Err fault) texts readings requirements one other is also = is ∙ sym also
one_by (Ok configuration) texts readings requirements one other is also =
    one_under (nat_eq (length texts.recordings) configuration.cores) configuration texts readings requirements one other is also

one_with : (found : Option ArgumentFault) (texts : Texts) (readings : Readings) (requirements : Requirements) (one other : Result Verdict CheckFault)
    → IsOutcomeWith found texts readings requirements one → IsOutcomeWith found texts readings requirements other → one ≡ other
one_with (Some fault) texts readings requirements one other is also = is ∙ sym also
one_with None texts readings requirements one other is also = one_by (configuration_of texts.config) texts readings requirements one other is also

pub there_is_one_outcome : OneOutcome
there_is_one_outcome some others texts readings requirements one other alike (inl memory) also sound sound' = absurd (sound memory)
there_is_one_outcome some others texts readings requirements one other alike (inr is) (inl memory) sound sound' = absurd (sound' memory)
there_is_one_outcome some others texts readings requirements one other alike (inr is) (inr also) sound sound' =
    one_with (argument_fault_of some) texts readings requirements one other is (subst (λ found. IsOutcomeWith found texts readings requirements other) (sym alike) also)

-- The last records before the place where a check says No.
use Rattle.std.specs.Prelude.{◌≡◌, ◌-◌, ◌++◌, ℕ, List, [], ◌∷◌, Result, Ok, Err, codes, decimal, map, take}
use Rattle.apex_types.specs.declared.record.Body.{Body}
use Rattle.apex_types.specs.declared.record.Body.TheVariants as body
use Rattle.apex_types.specs.declared.record.Ordered.{Ordered}
use Rattle.circular_buffer.specs.Buffer.{keep_last}
use Rattle.record_read.specs.declared.kind.Kind.{Kind}
use Rattle.record_read.specs.declared.kind.Kind.TheVariants as kind
use Rattle.record_read.specs.Named.{kind_name}
use Rattle.user_rules.specs.Remembered.{Requirements}
use Rattle.verdict_merge.specs.declared.verdict.Verdict.{Verdict}
use Rattle.verdict_merge.specs.declared.verdict.Verdict.TheVariants.{No, Broken}
use Rattle.verdict_merge.specs.Refusals.{IsBrokenAt, IsRefusedAt}
use Rattle.report.specs.declared.fault.CheckFault.{CheckFault}
use Rattle.report.specs.declared.last.LastItem.{LastItem}
use Rattle.report.specs.Inputs.{Texts}
use Rattle.report.specs.No.{IsLawfulUpTo}

-- the most records that are reported
abbrev pub most_last : ℕ
most_last = 8

-- the kind of what was recorded
abbrev pub kind_in : Body → Kind
kind_in (body.Call call) = kind.Call
kind_in (body.Ret ret) = kind.Ret
kind_in (body.Disp who) = kind.Disp
kind_in (body.Tick woken) = kind.Tick
kind_in (body.Arrive crossing) = kind.Arrive
kind_in (body.Depart crossing) = kind.Depart
kind_in (body.Error report) = kind.Error

-- a record as it is reported: its place in the proposed order, its core, its number there and its kind
abbrev pub item_of : Ordered → LastItem
item_of ordered = record { place = ordered.pos; core = ordered.core; seq = ordered.rec.seq; kind = kind_in ordered.rec.body }

-- the last of the records before a place, the earliest first; the records are at the places 0, 1, 2, ..
abbrev pub last_before : ℕ → List Ordered → List LastItem
last_before place records = keep_last most_last (map item_of (take place records))

-- what is reported after an answer over these records: the last before the place of a No or of a broken rule, and none after any other
abbrev pub last_of : Result Verdict CheckFault → List Ordered → List LastItem
last_of (Ok (No pos piece cause)) records = last_before pos records
last_of (Ok (Broken pos rule)) records = last_before pos records
last_of _ records = []

-- what is kept after an answer, if these were kept before and the records that come next begin at this place
abbrev pub kept_after_answer : Result Verdict CheckFault → ℕ → List LastItem → List Ordered → List LastItem
kept_after_answer (Ok (No pos piece cause)) first kept records = keep_last most_last (kept ++ map item_of (take (pos - first) records))
kept_after_answer (Ok (Broken pos rule)) first kept records = keep_last most_last (kept ++ map item_of (take (pos - first) records))
kept_after_answer _ first kept records = []

-- what stays of these after an answer: nothing after a refusal or a lack of memory
abbrev pub settled : Result Verdict CheckFault → List LastItem → List LastItem
settled (Ok verdict) kept = kept
settled (Err fault) kept = []

-- what is reported after the answer of a check of these texts: of the records that the answer's meaning is about, the last before its place
abbrev pub IsLastOf : Texts → Requirements → Result Verdict CheckFault → List LastItem → Type 0
IsLastOf texts requirements (Ok (No pos piece cause)) last =
    IsLawfulUpTo texts (λ configuration records. IsRefusedAt configuration requirements records pos × (last ≡ last_before pos records))
IsLastOf texts requirements (Ok (Broken pos rule)) last =
    IsLawfulUpTo texts (λ configuration records. IsBrokenAt configuration requirements records pos rule × (last ≡ last_before pos records))
IsLastOf texts requirements _ last = last ≡ []

-- the text of the last records, a line for each

-- the line of one record
abbrev pub last_line : LastItem → List ℕ
last_line item =
    codes "LAST place=" ++ (decimal item.place ++ (codes " core=" ++ (decimal item.core ++ (codes " seq=" ++ (decimal item.seq ++ (codes " kind=" ++ (kind_name item.kind ++ codes "\n")))))))

-- the lines of these records, in their order
abbrev pub last_lines : List LastItem → List ℕ
last_lines [] = []
last_lines (item ∷ items) = last_line item ++ last_lines items

-- A run under way.
use Rattle.std.proofs.Common.{◌≡◌, ◌<◌, ◌∙◌, ℕ, suc, List, [], ◌∷◌, ◌++◌, length, map, Option, Some, None, Result, Ok, Err, refl, sym, ap, subst, arith, append_assoc, append-nil}
use Rattle.std.specs.Prelude.{IsErr}
use Rattle.std.proofs.lemmas.Bool.{false≢true}
use Rattle.apex_machine.specs.Channels.{EndsAreApart}
use Rattle.apex_machine.specs.Configuration.{Configuration, WindowsAreConfigured}
use Rattle.apex_types.specs.declared.record.Ordered.{Ordered}
use Rattle.apex_types.specs.declared.record.Pair.{Pair}
use Rattle.apex_types.specs.declared.record.Record.{Record}
use Rattle.order_cert.specs.Kept.{none_taken, place_of, put, taken_of}
use Rattle.order_cert.specs.Order.{IsLawfulOrder, IsPrefixOfLawful, misplaced, pair_of}
use Rattle.order_cert.proofs.Lawful.{whole_is_lawful}
use Rattle.placement.specs.Scan.{placed_at}
use Rattle.record_read.specs.Row.{Item, records_of}
use Rattle.sink.specs.Taken.{with_more}
use Rattle.sink.specs.Written.{IsCut, IsWritten}
use Rattle.user_rules.specs.Remembered.{Requirements, required_by}
use Rattle.verdict_merge.specs.Verdicts.{IsVerdict}
use Rattle.order_run.specs.declared.proposal.Proposal.{Proposal}
use Rattle.order_run.specs.declared.proposal.ProposalFault.{ProposalFault}
use Rattle.order_run.specs.declared.run.Run.{Run}
use Rattle.order_run.specs.Left.{HasEnded, IsTaken, Lefts, items_at, left_at}
use Rattle.order_run.specs.Proposal.{HaveGoneOut, IsProposed, ListsFirst, order_verdict_of, verdict_of}
use Rattle.order_run.specs.Rows.{rows_of}
use Rattle.order_run.specs.UnderWay.{GoesOn, HasBegun, HasPut, IsUnderWay, Leads}
use Rattle.order_run.proofs.Scanned.{leads_end, leads_first, leads_on, none_left, scanned_whole}
use Rattle.order_run.proofs.Text.{rows_append, rows_are_read}
use Rattle.order_run.proofs.Whole.{all_left, proposed}

-- what was written

nothing_more : (bytes : Option (List ℕ)) → bytes ≡ with_more bytes []
nothing_more None = refl
nothing_more (Some bytes) = ap Some (sym (append-nil bytes))

more_twice : (bytes : Option (List ℕ)) (first second : List ℕ) → with_more (with_more bytes first) second ≡ with_more bytes (first ++ second)
more_twice None first second = refl
more_twice (Some bytes) first second = ap Some (append_assoc bytes first second)

-- the start
pub way_first : (configuration : Configuration) (requirements : Requirements) (run : Run) (start : Lefts) (bytes : Option (List ℕ)) → HasPut configuration requirements run [] [] [] → run.round.items ≡ []
    → taken_of run.keeper ≡ none_taken → place_of run.keeper ≡ 0 → length start ≡ configuration.cores → IsUnderWay configuration requirements bytes start run start bytes
way_first configuration requirements run start bytes so_far empty taken place cores = record {
  settled = [];
  waiting = [];
  before = [];
  so_far = so_far;
  written = nothing_more bytes;
  cores = cores;
  leads = λ items known. subst (Leads configuration.cores items run.keeper start []) (sym empty) (leads_first configuration.cores items run.keeper start known taken place);
}

-- the rows of a round were written
pub way_settled : (configuration : Configuration) (requirements : Requirements) (bytes : Option (List ℕ)) (start : Lefts) (run new : Run) (lefts : Lefts) (now after : Option (List ℕ))
    → IsUnderWay configuration requirements bytes start run lefts now
    → ((settled waiting : List Pair) (before : List Ordered) → HasPut configuration requirements run settled waiting before → HasPut configuration requirements new (settled ++ waiting) [] (before ++ run.round.items))
    → new.keeper ≡ run.keeper → new.round.items ≡ [] → IsWritten now run.text.items after → IsUnderWay configuration requirements bytes start new lefts after
way_settled configuration requirements bytes start run new lefts now after way settles keeper empty whole = record {
  settled = way.settled ++ way.waiting;
  waiting = [];
  before = way.before ++ run.round.items;
  so_far = settles way.settled way.waiting way.before way.so_far;
  written = whole ∙ ap (λ known. with_more known run.text.items) way.written ∙ ap (with_more (with_more bytes (rows_of way.settled))) way.so_far.text
      ∙ more_twice bytes (rows_of way.settled) (rows_of way.waiting) ∙ ap (with_more bytes) (sym (rows_append way.settled way.waiting));
  cores = way.cores;
  leads = λ items known.
      subst (λ pairs. Leads configuration.cores items new.keeper lefts pairs ((way.before ++ run.round.items) ++ new.round.items)) (sym (append-nil (way.settled ++ way.waiting)))
      (subst (λ records. Leads configuration.cores items new.keeper lefts (way.settled ++ way.waiting) ((way.before ++ run.round.items) ++ records)) (sym empty)
      (subst (Leads configuration.cores items new.keeper lefts (way.settled ++ way.waiting)) (sym (append-nil (way.before ++ run.round.items)))
      (subst (λ kept. Leads configuration.cores items kept lefts (way.settled ++ way.waiting) (way.before ++ run.round.items)) (sym keeper) (way.leads items known))));
}

-- a record was put next
pub way_put : (configuration : Configuration) (requirements : Requirements) (bytes : Option (List ℕ)) (start : Lefts) (run new : Run) (lefts after : Lefts) (now : Option (List ℕ)) (core : ℕ) (rec : Record)
    → IsUnderWay configuration requirements bytes start run lefts now → IsTaken core lefts (Some rec) after
    → ((settled waiting : List Pair) (before : List Ordered) → HasPut configuration requirements run settled waiting before
    → HasPut configuration requirements new settled (waiting ++ pair_of core (taken_of run.keeper core) ∷ []) before)
    → new.round.items ≡ run.round.items ++ placed_at (place_of run.keeper) core rec ∷ []
    → misplaced run.keeper.cores (taken_of run.keeper) (pair_of core (taken_of run.keeper core)) ≡ None
    → taken_of new.keeper ≡ put (taken_of run.keeper) core (suc (taken_of run.keeper core)) → place_of new.keeper ≡ suc (place_of run.keeper)
    → IsUnderWay configuration requirements bytes start new after now
way_put configuration requirements bytes start run new lefts after now core rec way is puts round fits taken place =
    let pair : Pair = pair_of core (taken_of run.keeper core) in
    let ordered : Ordered = placed_at (place_of run.keeper) core rec in
    let may = subst (λ cores. misplaced cores (taken_of run.keeper) pair ≡ None) way.so_far.cores fits in
    record {
      settled = way.settled;
      waiting = way.waiting ++ pair ∷ [];
      before = way.before;
      so_far = puts way.settled way.waiting way.before way.so_far;
      written = way.written;
      cores = is.count ∙ way.cores;
      leads = λ items known.
          subst (λ pairs. Leads configuration.cores items new.keeper after pairs (way.before ++ new.round.items)) (append_assoc way.settled way.waiting (pair ∷ []))
          (subst (λ records. Leads configuration.cores items new.keeper after ((way.settled ++ way.waiting) ++ pair ∷ []) (way.before ++ records)) (sym round)
          (subst (Leads configuration.cores items new.keeper after ((way.settled ++ way.waiting) ++ pair ∷ [])) (append_assoc way.before run.round.items (ordered ∷ []))
          (leads_on configuration.cores items run.keeper new.keeper lefts after (way.settled ++ way.waiting) (way.before ++ run.round.items) core rec (way.leads items known) is may taken place)));
    }

-- the recording of a core has ended
pub way_end : (configuration : Configuration) (requirements : Requirements) (bytes : Option (List ℕ)) (start : Lefts) (run : Run) (lefts after : Lefts) (now : Option (List ℕ)) (core : ℕ)
    → IsUnderWay configuration requirements bytes start run lefts now → IsTaken core lefts None after → IsUnderWay configuration requirements bytes start run after now
way_end configuration requirements bytes start run lefts after now core way is = record {
  settled = way.settled;
  waiting = way.waiting;
  before = way.before;
  so_far = way.so_far;
  written = way.written;
  cores = is.count ∙ way.cores;
  leads = λ items known. leads_end configuration.cores items run.keeper lefts after (way.settled ++ way.waiting) (way.before ++ run.round.items) core (way.leads items known) is;
}

-- what was written is a prefix

-- the pairs that were put list the first records of the recordings
lists_first : (configuration : Configuration) (requirements : Requirements) (bytes : Option (List ℕ)) (start : Lefts) (run : Run) (lefts : Lefts) (now : Option (List ℕ))
    → (way : IsUnderWay configuration requirements bytes start run lefts now) → ListsFirst configuration.cores start (way.settled ++ way.waiting)
lists_first configuration requirements bytes start run lefts now way = λ items known.
    let leads = way.leads items known in (
      leads.taken,
      (λ core. (leads.left core, leads.split core)),
      subst (λ cores. IsLawfulOrder cores (λ core. length (leads.taken core)) (way.settled ++ way.waiting)) way.so_far.cores
          ((whole_is_lawful run.keeper (way.settled ++ way.waiting) (λ core. length (leads.taken core)) way.so_far.follows).0 (λ core within. sym (leads.counts core))),
    )

pub way_begun : (configuration : Configuration) (requirements : Requirements) (bytes : Option (List ℕ)) (start : Lefts) (run : Run) (lefts : Lefts) (now : Option (List ℕ))
    → IsUnderWay configuration requirements bytes start run lefts now → HasBegun configuration bytes start now
way_begun configuration requirements bytes start run lefts now way = (
  way.settled ++ way.waiting,
  subst (λ cores. IsPrefixOfLawful cores (way.settled ++ way.waiting)) way.so_far.cores way.so_far.follows.lawful,
  lists_first configuration requirements bytes start run lefts now way,
  (rows_of way.settled, rows_of way.waiting, rows_append way.settled way.waiting, way.written),
)

pub way_cut : (configuration : Configuration) (requirements : Requirements) (bytes : Option (List ℕ)) (start : Lefts) (run : Run) (lefts : Lefts) (now after : Option (List ℕ))
    → IsUnderWay configuration requirements bytes start run lefts now → IsCut now run.text.items after → HasBegun configuration bytes start after
way_cut configuration requirements bytes start run lefts now after way (front, back, text, is) = (
  way.settled ++ way.waiting,
  subst (λ cores. IsPrefixOfLawful cores (way.settled ++ way.waiting)) way.so_far.cores way.so_far.follows.lawful,
  lists_first configuration requirements bytes start run lefts now way,
  (
    rows_of way.settled ++ front,
    back,
    rows_append way.settled way.waiting ∙ ap (λ rows. rows_of way.settled ++ rows) (sym way.so_far.text ∙ text) ∙ sym (append_assoc (rows_of way.settled) front back),
    is ∙ ap (λ known. with_more known front) way.written ∙ more_twice bytes (rows_of way.settled) front,
  ),
)

-- the end

-- all rows were written
pub way_whole : (configuration : Configuration) (requirements : Requirements) (bytes : Option (List ℕ)) (start : Lefts) (run : Run) (lefts : Lefts) (now after : Option (List ℕ))
    → IsUnderWay configuration requirements bytes start run lefts now → IsWritten now run.text.items after
    → (pairs : List Pair) × IsPrefixOfLawful configuration.cores pairs × ListsFirst configuration.cores start pairs × IsWritten bytes (rows_of pairs) after
way_whole configuration requirements bytes start run lefts now after way whole = (
  way.settled ++ way.waiting,
  subst (λ cores. IsPrefixOfLawful cores (way.settled ++ way.waiting)) way.so_far.cores way.so_far.follows.lawful,
  lists_first configuration requirements bytes start run lefts now way,
  whole ∙ ap (λ known. with_more known run.text.items) way.written ∙ ap (with_more (with_more bytes (rows_of way.settled))) way.so_far.text
      ∙ more_twice bytes (rows_of way.settled) (rows_of way.waiting) ∙ ap (with_more bytes) (sym (rows_append way.settled way.waiting)),
)

-- what was put is a proposal
pub way_ends : (configuration : Configuration) (requirements : Requirements) (texts : List (List ℕ)) (bytes : Option (List ℕ)) (start : Lefts) (run new : Run) (lefts : Lefts) (now after : Option (List ℕ)) (proposal : Proposal)
    → IsUnderWay configuration requirements bytes start run lefts now → start ≡ map (λ text. Some (records_of text)) texts
    → ((core : ℕ) → core < configuration.cores → HasEnded lefts core) → WindowsAreConfigured configuration → EndsAreApart configuration
    → ((settled waiting : List Pair) (before : List Ordered) → HasPut configuration requirements run settled waiting before → HasPut configuration requirements new (settled ++ waiting) [] (before ++ run.round.items))
    → IsWritten now run.text.items after
    → ((pairs : List Pair) (before : List Ordered) → HasPut configuration requirements new pairs [] before → IsVerdict configuration requirements before (verdict_of proposal))
    → ((pairs : List Pair) (before : List Ordered) → HasPut configuration requirements new pairs [] before → IsVerdict configuration (required_by [] []) before (order_verdict_of proposal))
    → (certificate : List ℕ) × IsWritten bytes certificate after × IsProposed configuration requirements texts certificate proposal
unfolding way_whole
way_ends configuration requirements texts bytes start run new lefts now after proposal way opened ended windows ends settles whole verdict order =
    let pairs : List Pair = way.settled ++ way.waiting in
    let records : List Ordered = way.before ++ run.round.items in
    let leads : Leads configuration.cores (items_at texts) run.keeper lefts pairs records =
    way.leads (items_at texts) (λ core. ap (λ lefts. left_at lefts core) opened ∙ all_left texts core) in
    let none : (core : ℕ) → core < configuration.cores → leads.left core ≡ [] =
    λ core within. none_left configuration.cores (items_at texts) run.keeper lefts pairs records core leads (ended core within) in (
      rows_of pairs,
      (way_whole configuration requirements bytes start run lefts now after way whole).3,
      proposed configuration requirements texts (rows_of pairs) proposal pairs leads.taken records windows ends
          (rows_are_read pairs way.so_far.fit way.so_far.few)
          (λ core within. leads.split core ∙ ap (λ (all : List Item). map Ok (leads.taken core) ++ all) (none core within) ∙ append-nil (map Ok (leads.taken core)))
          (subst (λ cores. IsLawfulOrder cores (λ core. length (leads.taken core)) pairs) way.so_far.cores
          ((whole_is_lawful run.keeper pairs (λ core. length (leads.taken core)) way.so_far.follows).0 (λ core within. sym (leads.counts core))))
          (scanned_whole configuration.cores (items_at texts) run.keeper lefts pairs records leads none)
          way.so_far.placed
          (verdict pairs records (settles way.settled way.waiting way.before way.so_far))
          (order pairs records (settles way.settled way.waiting way.before way.so_far)),
    )

-- a fault ends the run
pub stops : {A : Type 0} (configuration : Configuration) (requirements : Requirements) (bytes : Option (List ℕ)) (start : Lefts) (result : Result A ProposalFault) (run : Run) (lefts : Lefts) (now : Option (List ℕ))
    → IsErr result → HasBegun configuration bytes start now → GoesOn configuration requirements bytes start result run lefts now
stops configuration requirements bytes start (Ok value) run lefts now is begun = absurd (false≢true is)
stops configuration requirements bytes start (Err fault) run lefts now is begun = begun

-- a fault before the first record
pub none_written : (configuration : Configuration) (bytes : Option (List ℕ)) (start : Lefts) → HasBegun configuration bytes start bytes
none_written configuration bytes start = (
  [],
  record { lens = λ core. 0; more = []; bound = λ core within. omega arith; lawful = record { numbers = λ core within. refl; known = tt } },
  (λ items known. ((λ core. []), (λ core. (items core, refl)), record { numbers = λ core within. refl; known = tt })),
  ([], [], refl, nothing_more bytes),
)

-- no byte of a text was written
pub none_cut : (bytes : Option (List ℕ)) (text : List ℕ) → IsCut bytes text bytes
none_cut bytes text = ([], text, refl, nothing_more bytes)

-- a fault: the rows that were written
pub cut_so : (configuration : Configuration) (bytes : Option (List ℕ)) (start : Lefts) (now : Option (List ℕ)) (result : Result Proposal ProposalFault) → IsErr result → HasBegun configuration bytes start now
    → (pairs : List Pair) × IsPrefixOfLawful configuration.cores pairs × ListsFirst configuration.cores start pairs × HaveGoneOut bytes (rows_of pairs) result now
cut_so configuration bytes start now (Ok proposal) is begun = absurd (false≢true is)
cut_so configuration bytes start now (Err fault) is begun = begun

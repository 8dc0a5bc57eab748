-- The records of a text do not depend on how many are allowed for, and a read takes the first of them.
use Rattle.std.proofs.Common.{◌≡◌, ◌<◌, ◌+◌, ◌⊎◌, ℕ, zero, suc, List, [], ◌∷◌, ◌++◌, length, Option, Some, None, Bool, true, false, refl, sym, ap, inl, inr, arith, ◌∙◌, add-one}
use Rattle.std.specs.Prelude.{option_map, if◌then◌else◌, IfSome}
use Rattle.csv.specs.Machine.{Read, next_record, step, is_end, fields_after, field_after, ends_at_end}
use Rattle.csv.specs.Reading.{ReadRecord, NextIs, ReadsNext, pending_of, default_config, records_from, records_next, source_of}
use Rattle.csv.specs.declared.parser.Config.{Config}
use Rattle.csv.specs.declared.parser.State.{State}
use Rattle.csv.specs.declared.parser.State.TheVariants as st
use Rattle.csv.specs.declared.reader.Reader.{Reader}
use Rattle.csv_rows.specs.Stream.{IsSet, Takes, left_of, rows_from}

-- a record takes a byte, or it is the last of the text
abbrev pub Shortens : List ℕ → Option Read → Type 0
Shortens text None = Unit {0}
Shortens text (Some p) = (length p.2 < length text) ⊎ ((p.1 ≡ st.StartRecord) × (p.2 ≡ []))

longer : (c : ℕ) (text : List ℕ) (o : Option Read) → Shortens text o → Shortens (c ∷ text) o
longer c text None h = tt
longer c text (Some p) (inl h) = inl (omega arith)
longer c text (Some p) (inr h) = inr h

pub shortens : (config : Config) (state : State) (fields : List (List ℕ)) (field text : List ℕ) → Shortens text (next_record config state fields field text)
unfolding next_record
shortens config state fields field [] = at_end (ends_at_end state)
  where
    at_end : (b : Bool) → Shortens [] (if b then Some (fields ++ (field ∷ []), st.StartRecord, []) else None)
    at_end true = inr (refl, refl)
    at_end false = tt
shortens config state fields field (c ∷ rest) =
    by (is_end (step config state c).1)
    (shortens config (step config state c).0 (fields_after (step config state c).1 fields field) (field_after (step config state c).1 c field) rest)
  where
    by : (b : Bool) → Shortens rest (next_record config (step config state c).0 (fields_after (step config state c).1 fields field) (field_after (step config state c).1 c field) rest)
        → Shortens (c ∷ rest) (if b then Some (fields_after (step config state c).1 fields field, (step config state c).0, rest)
        else next_record config (step config state c).0 (fields_after (step config state c).1 fields field) (field_after (step config state c).1 c field) rest)
    by true h = inl (omega arith)
    by false h = longer c rest _ h

-- an empty text has no record
none_left : (config : Config) (n : ℕ) → records_from config n st.StartRecord [] ≡ []
unfolding records_from next_record
none_left config zero = refl
none_left config (suc n) = refl

-- any allowance above the length of the text gives the same records
pub same_records : (config : Config) (m n : ℕ) (state : State) (text : List ℕ) → length text < m → length text < n
    → records_from config m state text ≡ records_from config n state text
unfolding records_from
same_records config zero n state text hm hn = absurd (omega arith)
same_records config (suc m) zero state text hm hn = absurd (omega arith)
same_records config (suc m) (suc n) state text hm hn =
    by (next_record config state [] [] text) (shortens config state [] [] text) (λ t ys ha hb. same_records config m n t ys ha hb)
  where
    by : (o : Option Read) → Shortens text o
        → ((t : State) (ys : List ℕ) → length ys < m → length ys < n → records_from config m t ys ≡ records_from config n t ys)
        → records_next (records_from config m) o ≡ records_next (records_from config n) o
    by None h more = refl
    by (Some p) (inl h) more = ap (λ r. p.0 ∷ r) (more p.1 p.2 (omega arith) (omega arith))
    by (Some p) (inr h) more = ap (λ r. p.0 ∷ r) (rw (h.0, h.1) (none_left config m ∙ sym (none_left config n)))

-- with an allowance of one more than the length, the first record is at the head
unfolded : (config : Config) (state : State) (text : List ℕ)
    → records_from config (length text + 1) state text ≡ records_next (records_from config (length text)) (next_record config state [] [] text)
unfolding records_from
unfolded config state text = rw add-one refl

-- the first record of a text, and after it those of the rest
pub first_record : (config : Config) (state : State) (text : List ℕ) (p : Read) → next_record config state [] [] text ≡ Some p
    → records_from config (length text + 1) state text ≡ p.0 ∷ records_from config (length p.2 + 1) p.1 p.2
first_record config state text p e =
    let short : Shortens text (Some p) = rw e at (shortens config state [] [] text) in
    let first : records_from config (length text + 1) state text ≡ p.0 ∷ records_from config (length text) p.1 p.2 = rw e at (unfolded config state text) in
    elim short [
      | inl h ↦ first ∙ ap (λ r. p.0 ∷ r) (same_records config (length text) (length p.2 + 1) p.1 p.2 h (omega arith))
      | inr h ↦ first ∙ ap (λ r. p.0 ∷ r) (rw (h.0, h.1) (none_left config (length text) ∙ sym (none_left config 1)))
    ]

pub no_record : (config : Config) (state : State) (text : List ℕ) → next_record config state [] [] text ≡ None
    → records_from config (length text + 1) state text ≡ []
no_record config state text e = rw e at (unfolded config state text)

-- what a read took, if the bytes are known
takes_next : (s t : State) (text : List ℕ) (rest : Option (List ℕ)) (found : Bool) (fields : List (List ℕ))
    → ReadsNext default_config s (Some text) rest found fields t
    → Takes found (rows_from s text) fields (if found then option_map (rows_from t) rest else Some [])
takes_next s t text None found fields h = absurd h
takes_next s t text (Some rest) found fields h = by (next_record default_config s [] [] text) refl found h
  where
    by : (o : Option Read) → next_record default_config s [] [] text ≡ o → (b : Bool) → NextIs o b fields t rest
        → Takes b (rows_from s text) fields (if b then Some (rows_from t rest) else Some [])
    by None e true n = cc n
    by None e false n = (no_record default_config s text e, refl)
    by (Some p) e true n = (rows_from t rest, rw (n.1, n.2, n.3) (first_record default_config s text p e), refl)
    by (Some p) e false n = cc n.0

-- a read of a reader that is set up takes the first row that it has left
pub read_takes : {R : Type 0} (known : R → Option (List ℕ)) (old new : Reader R) (found : Bool) (fields : List (List ℕ)) → IsSet old
    → ReadRecord known old new found fields
    → IfSome (left_of known old) (λ rows. Takes found rows fields (if found then left_of known new else Some []))
read_takes known old new found fields set h =
    let r : ReadsNext default_config old.state (source_of known old) (pending_of (known new.rdr) new) found fields new.state = rw set.config at h.0 in
    let r : ReadsNext default_config old.state (source_of known old) (source_of known new) found fields new.state = rw h.1 r in
    by (source_of known old) (source_of known new) r
  where
    by : (a b : Option (List ℕ)) → ReadsNext default_config old.state a b found fields new.state
        → IfSome (option_map (rows_from old.state) a) (λ rows. Takes found rows fields (if found then option_map (rows_from new.state) b else Some []))
    by None b r = tt
    by (Some text) b r = takes_next old.state new.state text b found fields r

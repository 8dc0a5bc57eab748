-- From one record that touches a piece to the next: what every other record keeps holds on.
use Rattle.std.proofs.Common.{◌≡◌, ◌<◌, ◌+◌, ℕ, zero, suc, List, [], ◌∷◌, Bool, true, false, if◌then◌else◌, length, get_or, refl, subst, arith}
use Rattle.apex_types.specs.declared.record.Ordered.{Ordered}
use Rattle.apex_machine.specs.Configuration.{Configuration}
use Rattle.apex_machine.specs.Pieces.{Piece, touches}
use Rattle.piece_check.specs.Touching.{reached, touching}

-- what each record that does not touch the piece keeps, from this index on
abbrev pub Keeps : Configuration → Piece → ℕ → List Ordered → (ℕ → Type 0) → Type 0
Keeps configuration piece first records Fact =
    (index : ℕ) (ordered : Ordered) → index < length records → get_or records index ordered ≡ ordered → touches configuration piece ordered ≡ false
    → Fact (first + index) → Fact (first + suc index)

keeps_after : (configuration : Configuration) (piece : Piece) (first : ℕ) (ordered : Ordered) (others : List Ordered) (Fact : ℕ → Type 0)
    → Keeps configuration piece first (ordered ∷ others) Fact → Keeps configuration piece (suc first) others Fact
keeps_after configuration piece first ordered others Fact keeps = λ index one within is off fact.
    subst Fact (let e : first + suc (suc index) ≡ suc first + suc index = omega arith in e)
    (keeps (suc index) one (omega (arith, within)) is off (subst Fact (let e : suc first + index ≡ first + suc index = omega arith in e) fact))

-- up to the first record that touches the piece, or to the end
to_first : (configuration : Configuration) (piece : Piece) (first end : ℕ) (records : List Ordered) (Fact : ℕ → Type 0) → end ≡ first + length records
    → Keeps configuration piece first records Fact → Fact first → Fact (get_or (touching configuration piece first records) 0 end)
to_first configuration piece first end [] Fact is keeps fact = subst Fact (let e : first ≡ end = omega (arith, is) in e) fact
to_first configuration piece first end (ordered ∷ others) Fact is keeps fact =
    by (touches configuration piece ordered) refl
    (λ next. to_first configuration piece (suc first) end others Fact (omega (arith, is)) (keeps_after configuration piece first ordered others Fact keeps) next)
  where
    by : (touched : Bool) → touches configuration piece ordered ≡ touched → (Fact (suc first) → Fact (get_or (touching configuration piece (suc first) others) 0 end))
        → Fact (get_or (if touched then first ∷ touching configuration piece (suc first) others else touching configuration piece (suc first) others) 0 end)
    by true touched rest = fact
    by false untouched rest =
        rest (subst Fact (let e : first + suc 0 ≡ suc first = omega arith in e)
        (keeps 0 ordered (omega arith) refl untouched (subst Fact (let e : first ≡ first + 0 = omega arith in e) fact)))

-- from after a record that touches the piece up to the next one, or to the end
to_next : (configuration : Configuration) (piece : Piece) (first outcome end : ℕ) (records : List Ordered) (Fact : ℕ → Type 0) → end ≡ first + length records
    → outcome < length (touching configuration piece first records) → Keeps configuration piece first records Fact
    → Fact (suc (get_or (touching configuration piece first records) outcome end)) → Fact (get_or (touching configuration piece first records) (suc outcome) end)
to_next configuration piece first outcome end [] Fact is one keeps fact = absurd (omega (arith, one))
to_next configuration piece first outcome end (ordered ∷ others) Fact is one keeps fact =
    by (touches configuration piece ordered) outcome one fact
    (λ next. to_first configuration piece (suc first) end others Fact (omega (arith, is)) (keeps_after configuration piece first ordered others Fact keeps) next)
    (λ later there next. to_next configuration piece (suc first) later end others Fact (omega (arith, is)) there (keeps_after configuration piece first ordered others Fact keeps) next)
  where
    rest : List ℕ
    rest = touching configuration piece (suc first) others

    by : (touched : Bool) (outcome : ℕ) → outcome < length (if touched then first ∷ rest else rest)
        → Fact (suc (get_or (if touched then first ∷ rest else rest) outcome end))
        → (Fact (suc first) → Fact (get_or rest 0 end))
        → ((later : ℕ) → later < length rest → Fact (suc (get_or rest later end)) → Fact (get_or rest (suc later) end))
        → Fact (get_or (if touched then first ∷ rest else rest) (suc outcome) end)
    by true zero one fact start more = start fact
    by true (suc outcome) one fact start more = more outcome (omega (arith, one)) fact
    by false outcome one fact start more = more outcome one fact

pub holds_at_first : (configuration : Configuration) (piece : Piece) (records : List Ordered) (Fact : ℕ → Type 0) → Keeps configuration piece 0 records Fact
    → Fact 0 → Fact (reached configuration piece records 0)
holds_at_first configuration piece records Fact keeps fact = to_first configuration piece 0 (length records) records Fact (omega arith) keeps fact

pub holds_at_next : (configuration : Configuration) (piece : Piece) (records : List Ordered) (Fact : ℕ → Type 0) (outcome : ℕ) → outcome < length (touching configuration piece 0 records)
    → Keeps configuration piece 0 records Fact → Fact (suc (reached configuration piece records outcome)) → Fact (reached configuration piece records (suc outcome))
holds_at_next configuration piece records Fact outcome one keeps fact = to_next configuration piece 0 outcome (length records) records Fact (omega arith) one keeps fact

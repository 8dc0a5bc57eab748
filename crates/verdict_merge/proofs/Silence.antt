-- Where all pieces run over the records, these are a run of the machine.
use Rattle.std.proofs.Common.{◌≡◌, ◌<◌, ◌+◌, ◌-◌, ◌∙◌, ℕ, suc, List, Bool, true, false, get_or, length, map, nat_eq, ap, refl, sym, subst, true≢false, eqb-true, arith}
use Rattle.std.specs.Prelude.{IsTrue}
use Rattle.std.specs.List.{list_any}
use Rattle.std.proofs.lemmas.List.{get_or_default, length-map}
use Rattle.std.proofs.lemmas.List.Folds.{Any-from_list_any}
use Rattle.apex_machine.specs.Step.{Run}
use Rattle.apex_types.specs.declared.record.Ordered.{Ordered}
use Rattle.apex_machine.specs.Channels.{channel_numbers}
use Rattle.apex_machine.specs.Configuration.{Configuration, PartitionLimits, WindowsAreConfigured}
use Rattle.apex_machine.specs.Pieces.{Piece, Part, part, pieces, is_configured}
use Rattle.apex_machine.specs.Pieces.Piece.{Module, OfChannel, OfPartition}
use Rattle.apex_machine.specs.Runs.{ArePlaced, PieceRun}
use Rattle.apex_machine.specs.State.{State, cold_state}
use Rattle.apex_laws.proofs.Runs.{one_run}
use Rattle.apex_laws.proofs.Stays.{stays_tied}
use Rattle.module_config.proofs.Numbers.{any-numbered, number-configured}
use Rattle.piece_check.proofs.Numbering.{length-pieces, piece_at_channel, piece_at_partition}
use Rattle.piece_check.specs.Parts.{piece_at}
use Rattle.verdict_merge.specs.Rounds.{Runs, cold_parts}

-- a number is at an index of a list
abbrev IsListed : ℕ → List ℕ → Type 0
IsListed number numbers = (index : ℕ) × (index < length numbers) × (get_or numbers index 0 ≡ number)

-- a number that is one of a list's is at an index
listed : (number : ℕ) (numbers : List ℕ) → list_any (λ other. nat_eq other number) numbers ≡ true → IsListed number numbers
listed number numbers has =
    let at = Any-from_list_any (λ other. nat_eq other number) numbers has in
    (at.0, at.2, get_or_default numbers at.0 0 at.1 at.2 ∙ at.3 ∙ eqb-true at.1 number at.4)

-- a configured piece has a number
pub numbered : (configuration : Configuration) (piece : Piece) → is_configured configuration piece ≡ true
    → (number : ℕ) × (number < length (pieces configuration)) × (piece_at configuration number ≡ piece)
numbered configuration Module has = (0, omega arith, refl)
numbered configuration (OfPartition number) has =
    let numbers = map (λ (limits : PartitionLimits). limits.number) configuration.partitions in
    let at = listed number numbers (any-numbered (λ limits. limits.number) number configuration.partitions ∙ has) in
    let below : at.0 < length configuration.partitions = omega (arith, at.1, length-map configuration.partitions (λ limits. limits.number)) in
    let there : suc at.0 - 1 ≡ at.0 = omega arith in
    let is : get_or numbers (suc at.0 - 1) 0 ≡ number = ap (λ n. get_or numbers n 0) there ∙ at.2 in (
      suc at.0,
      omega (arith, below, length-pieces configuration),
      piece_at_partition configuration (suc at.0) (omega arith) (omega (arith, below)) ∙ ap OfPartition is,
    )
numbered configuration (OfChannel number) has =
    let numbers = channel_numbers configuration in
    let at = listed number numbers (number-configured configuration number ∙ has) in
    let index : ℕ = suc (length configuration.partitions + at.0) in
    let there : index - 1 - length configuration.partitions ≡ at.0 = omega arith in
    let is : get_or numbers (index - 1 - length configuration.partitions) 0 ≡ number = ap (λ n. get_or numbers n 0) there ∙ at.2 in (
      index,
      omega (arith, at.1, length-pieces configuration),
      piece_at_channel configuration index (omega arith) (omega arith) (omega (arith, at.1)) ∙ ap OfChannel is,
    )

-- the run of a piece, if it is configured
abbrev RunTo : Configuration → List Ordered → Piece → Type 0
RunTo configuration records piece =
    (final : Part) × (IsTrue (is_configured configuration piece) → PieceRun configuration piece (part piece (cold_state configuration)) records final)

run_to : (configuration : Configuration) (records : List Ordered)
    → ((number : ℕ) → number < length (pieces configuration) → Runs configuration (cold_parts configuration) number records) → (piece : Piece) → RunTo configuration records piece
run_to configuration records runs piece = by (is_configured configuration piece) refl
  where
    by : (b : Bool) → is_configured configuration piece ≡ b → RunTo configuration records piece
    by true has =
        let there = numbered configuration piece has in
        let run = runs there.0 there.1 in
        (run.0, λ _. subst (λ one. PieceRun configuration one (part one (cold_state configuration)) records run.0) there.2 run.1)
    by false has = (part piece (cold_state configuration), λ h. absurd (true≢false (sym h ∙ has)))

-- if all pieces have runs over the records, these are a run of the machine, which reaches what the pieces reach
pub machine_runs : (configuration : Configuration) (records : List Ordered) → WindowsAreConfigured configuration → ArePlaced 0 records
    → ((number : ℕ) → number < length (pieces configuration) → Runs configuration (cold_parts configuration) number records)
    → (final : State) × Run configuration (cold_state configuration) records final
machine_runs configuration records windows placed runs =
    let each = run_to configuration records runs in
    let run = one_run configuration (cold_state configuration) records (λ piece. (each piece).0) windows (stays_tied.0 configuration) placed (λ piece. (each piece).1) in
    (run.0, run.1)

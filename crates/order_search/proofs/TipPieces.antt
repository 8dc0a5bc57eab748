-- What a piece at the tip keeps, after a copy and after a step that was refused.
use Rattle.std.proofs.Common.{◌≡◌, ℕ, sym, subst}
use Rattle.apex_machine.specs.Configuration.{Configuration}
use Rattle.apex_machine.specs.Pieces.{Part}
use Rattle.piece_check.specs.Parts.{AgreesOn, HasCores, HoldsBefore, Holding, IsOf}

-- a copy of a piece
pub copy_is_of : (configuration : Configuration) (piece copy : Holding) → copy ≡ piece → IsOf configuration piece → IsOf configuration copy
copy_is_of configuration piece copy same is = subst (IsOf configuration) (sym same) is

pub copy_holds_before : (place : ℕ) (piece copy : Holding) → copy ≡ piece → HoldsBefore place piece.part → HoldsBefore place copy.part
copy_holds_before place piece copy same holds = subst (λ (holding : Holding). HoldsBefore place holding.part) (sym same) holds

-- a piece with the same part, whether memory was refused to it or not
pub same_is_of : (configuration : Configuration) (piece after : Holding) → after.part ≡ piece.part → after.settings ≡ piece.settings → IsOf configuration piece → IsOf configuration after
same_is_of configuration piece after part settings is = record {
  cores = subst (HasCores configuration.cores) (sym part) is.cores;
  channel = subst (λ held. AgreesOn configuration held after.settings) (sym part) (subst (AgreesOn configuration piece.part) (sym settings) is.channel);
}

pub same_holds_before : (place : ℕ) (piece after : Part) → after ≡ piece → HoldsBefore place piece → HoldsBefore place after
same_holds_before place piece after same holds = subst (HoldsBefore place) (sym same) holds

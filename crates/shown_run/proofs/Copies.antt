-- Copies of pieces.
use Rattle.std.proofs.Common.{◌≡◌, ◌∙◌, List}
use Rattle.std.specs.List.{AllZip}
use Rattle.std.proofs.lemmas.List.{map-id}
use Rattle.std.proofs.lemmas.Slice.Zip.{AllZip-map}
use Rattle.piece_check.specs.Parts.{Holding}

-- if each copy is what it copies, the copies are the list
pub same_all : (old new : List Holding) → AllZip (λ (one copy : Holding). copy ≡ one) old new → new ≡ old
same_all old new zipped = AllZip-map (λ (holding : Holding). holding) old new zipped ∙ map-id old

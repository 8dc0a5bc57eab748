-- The words that are read are those that the system gives.
use Rattle.std.proofs.Common.{◌≡◌, ◌≢◌, ℕ, List, Result, Ok, Err, inr, length, map, string_bytes, subst}
use Rattle.std.specs.IoError.{error_kind}
use Rattle.std.specs.Prelude.{IfErr, IfOk}
use Rattle.std.specs.Result.{result_map_both}
use Rattle.std.specs.Vec.Iter.{into_iter_items}
use Rattle.std.proofs.lemmas.List.{length-map}
use Rattle.std.specs.declared.io.ErrorKind.{ErrorKind}
use Rattle.std.specs.declared.io.ErrorKind.TheVariants.{OutOfMemory}
use Rattle.program_ends.specs.declared.refused.UsageFault.{UsageFault}
use Rattle.program_ends.specs.declared.refused.UsageFault.TheVariants.{Usage, Memory}
use Rattle.check_request.specs.declared.usage.Asked.{Asked}
use Rattle.check_request.specs.Requests.{IsRequest, IsRequested}
use Rattle.check_request.proofs.words.request_of.Goals as goal

-- words that were given are no refusal
requested : {Given Fault Word Words : Type 0} (items : Given → List Word) (text : Word → List ℕ) (kind : Fault → ErrorKind) (given : Result Given Fault) (words : List Word) (all : Words)
    (asked : Result Asked UsageFault) → IfOk given (λ given. words ≡ items given) → IfErr given (λ fault. kind fault ≡ OutOfMemory → Ok all ≡ Err Memory)
    → IfErr given (λ fault. kind fault ≢ OutOfMemory → Ok all ≡ Err Usage) → IsRequest (map text words) asked
    → IsRequested (result_map_both (λ given. map text (items given)) kind given) asked
requested items text kind (Ok given) words all asked same memory wrong is = inr (subst (λ words. IsRequest (map text words) asked) same is)
requested items text kind (Err fault) words all asked same memory wrong is = (λ starved. let no = memory starved in cc, λ other. let no = wrong other in cc)

pub returns-in-Ok : goal.returns-in-Ok
returns-in-Ok c =
    let same : length (map string_bytes c.as_slice.result.now) ≡ length c.as_slice.result.now = length-map c.as_slice.result.now string_bytes in
    let request : IsRequest (map string_bytes c.as_slice.result.now) c.read_words.result = record {
      stored = λ few. c.read_words.ensures.stored (rw same at few);
      version = c.read_words.ensures.version;
      rows = c.read_words.ensures.rows;
      files = λ more other whole. c.read_words.ensures.files (rw same at more) other whole;
      refused = c.read_words.ensures.refused;
    } in
    requested into_iter_items string_bytes error_kind c.args.given c.in-Ok.words.items c.in-Ok.words c.read_words.result c.in-Ok.ensures.words c.in-Ok.ensures.memory c.in-Ok.ensures.wrong
    (subst (λ words. IsRequest (map string_bytes words) c.read_words.result) c.as_slice.ensures.value request)

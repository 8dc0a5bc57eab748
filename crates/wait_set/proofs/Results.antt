-- What holds of a result.
use Rattle.std.proofs.Common.{◌≡◌, true, false, Result, Ok, Err, OnOk, OnErr}
use Rattle.std.specs.Result.{is_err}

-- a fact about each Ok holds if the result is no Err
pub on_ok : {Value Fault : Type 0} → (result : Result Value Fault) (Fact : Type 0) → is_err result ≡ false → OnOk result Fact → Fact
on_ok (Ok value) Fact is fact = fact
on_ok (Err fault) Fact is fact = cc

-- a fact about each Err holds if the result is one
pub on_err : {Value Fault : Type 0} → (result : Result Value Fault) (Fact : Type 0) → is_err result ≡ true → OnErr result Fact → Fact
on_err (Ok value) Fact is fact = cc
on_err (Err fault) Fact is fact = fact

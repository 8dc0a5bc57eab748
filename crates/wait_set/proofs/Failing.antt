-- A demand that fails before others are reached.
use Rattle.std.proofs.Common.{List, [], ◌∷◌, ◌++◌, inl, inr}
use Rattle.apex_types.specs.declared.cause.Cause.{Cause}
use Rattle.apex_machine.specs.Demands.{Demand, FirstFails}

-- what fails first of some demands fails first of them with others after them
pub fails_first : (demands others : List {1} Demand) (why : Cause) → FirstFails demands why → FirstFails (demands ++ others) why
fails_first [] others why never = elim never [ ]
fails_first (demand ∷ demands) others why (inl here) = inl here
fails_first (demand ∷ demands) others why (inr later) = inr (later.0, fails_first demands others why later.1)

-- The owner of an object before and after an operation.
use Rattle.std.specs.Prelude.{None}
use Rattle.wait_set.specs.declared.object.Actor.{Actor}
use Rattle.wait_set.specs.declared.object.Owners.{Owners}

-- no process owns the object
abbrev pub nobody : Owners
nobody = record { before = None; after = None; priority = 0 }

-- no operation makes a process the owner of the object
abbrev pub owned_by_nobody : {Operation Object : Type 0} → Actor → Operation → Object → Owners
owned_by_nobody actor operation found = nobody

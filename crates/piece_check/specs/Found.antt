-- Windows that are looked up once for all pieces.
use Rattle.std.specs.Prelude.{◌≡◌}
use Rattle.apex_machine.specs.Configuration.{Configuration, window_at}
use Rattle.piece_check.specs.declared.windows.WindowAt.{WindowAt}

-- the owner of a window that was looked up is the partition whose window the core is in at that time
abbrev pub IsWindowAt : Configuration → WindowAt → Type 0
IsWindowAt configuration found = found.owner ≡ window_at configuration found.core found.time

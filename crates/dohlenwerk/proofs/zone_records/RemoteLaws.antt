-- What a reading of a remote desktop record comes to, as C sees it.
use Prim.Native.Nat.{ℕ}
use mathlib.Core.Path.{◌≡◌}
use mathlib.Core.List.{List}
use Rattle.std.specs.Prelude.{Result, Ok, Err, IfOk}
use Rattle.refusal.specs.declared.Refusal.{Refusal}
use Rattle.remote_desktop.specs.declared.RemoteDesktop.{RemoteDesktop}
use Rattle.remote_desktop.specs.RemoteDesktop.{of_remote, read_remote_desktop, standard_name, daylight_name}
use Rattle.answers_for_c.specs.ZoneRecords.{remote_for_c, remote_told}

pub told-is : (a : Result RemoteDesktop Refusal) (s : List ℕ) → of_remote a ≡ read_remote_desktop s
    → IfOk a (λ read. (read.standard_name ≡ standard_name s) × (read.daylight_name ≡ daylight_name s))
    → remote_told a ≡ remote_for_c (read_remote_desktop s) (standard_name s) (daylight_name s)
told-is (Ok read) s e names = rw (names.0, names.1, ← e)
told-is (Err why) s e names = rw (← e)

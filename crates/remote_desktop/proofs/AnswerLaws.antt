-- What a reading answers, as the code comes to it.
use Prim.Native.Nat.{ℕ}
use mathlib.Core.Path.{◌≡◌, ap}
use mathlib.Core.List.{List}
use lib.ListN.{length, replicate}
use borrow.Author.Tests.{eq-eqb, ne_eqb}
use Rattle.refusal.specs.Outcome.{Outcome, refused, answered}
use Rattle.little_endian.specs.Fields.{part}
use Rattle.zone.specs.declared.rules.Rule.{Rule}
use Rattle.zone.specs.Rules.{check_dates, normal_rule}
use Rattle.remote_desktop.specs.RemoteDesktop.{remote_rule, read_remote_desktop, name_beside, standard_name, daylight_name}

pub remote-size : (s : List ℕ) → (length s ≡ 172 → ⊥) → refused 2 ≡ read_remote_desktop s
unfolding read_remote_desktop
remote-size s h = rw (ne_eqb (length s) 172 h)

pub remote-refused : (s : List ℕ) (r : Rule) (n : ℕ) → length s ≡ 172 → r ≡ remote_rule s → refused n ≡ check_dates r → refused n ≡ read_remote_desktop s
unfolding read_remote_desktop
remote-refused s r n h er e = rw (eq-eqb (length s) 172 h, ← er, ← e)

pub remote-rule : (s p q : List ℕ) (r m : Rule) → length s ≡ 172 → r ≡ remote_rule s → answered tt ≡ check_dates r → m ≡ normal_rule r → p ≡ part s 4 64 → q ≡ part s 88 64
    → (answered m ≡ read_remote_desktop s) × ((p ≡ standard_name s) × (q ≡ daylight_name s))
unfolding read_remote_desktop
remote-rule s p q r m h er e em ep eq =
    let f = eq-eqb (length s) 172 h in
    (rw (f, ← er, ← e) (ap answered em), (rw (f, ← er, ← e) ep, rw (f, ← er, ← e) eq))

-- the names beside what was read
pub names-beside : (o : Outcome Rule) (s : List ℕ) (n at : ℕ) → refused n ≡ o → replicate 64 0 ≡ name_beside o s at
names-beside o s n at e = rw (← e)

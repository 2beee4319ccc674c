-- Fields stored one after another are the record stored at once, over plain lists.
use Prim.Native.Nat.{ℕ, ◌+◌}
use mathlib.Core.Path.{◌≡◌}
use mathlib.Core.List.{List, append_assoc}
use native.Mathlib.Nat.{add_assoc}
use lib.ListN.{length, length-append}
use lib.IntN.{ℤ}
use Rattle.little_endian.specs.Stored.{stored}
use Rattle.little_endian.proofs.ByteLaws.{length-toBytes}
use Rattle.little_endian.proofs.StoredLaws.{stored-append}
use Rattle.zone.specs.declared.dates.SystemTime.{SystemTime}
use Rattle.zone.specs.declared.rules.Rule.{Rule}
use Rattle.records.specs.Layout.{date_bytes, bias_bytes}
use Rattle.records.proofs.layout.PutLaws.{length-date}
use Rattle.remote_desktop.specs.RemoteDesktop.{remote_bytes}
use Rattle.remote_desktop.specs.Steps.{half_bytes}

pub put_three : (s name : List ℕ) (at : ℕ) (t : SystemTime) (z : ℤ) {a b c : List ℕ} → length name ≡ 64
    → a ≡ stored s at name
    → b ≡ stored a (at + 64) (date_bytes t)
    → c ≡ stored b (at + 80) (bias_bytes z)
    → c ≡ stored s at (half_bytes name t z)
put_three s name at t z l ea eb ec = simp (stored-append, append_assoc, length-date, add_assoc, l, ea, eb, ec)

pub length-half : (name : List ℕ) (t : SystemTime) (z : ℤ) → length name ≡ 64 → length (half_bytes name t z) ≡ 84
length-half name t z l = simp (length-append, length-toBytes, length-date, l)

pub length-remote : (r : Rule) (p q : List ℕ) → length p ≡ 64 → length q ≡ 64 → length (remote_bytes r p q) ≡ 172
unfolding remote_bytes
length-remote r p q lp lq = simp (length-append, length-toBytes, length-date, lp, lq)

pub put-halves : (s p q : List ℕ) (r : Rule) {a b c : List ℕ} → length p ≡ 64 → length q ≡ 64
    → a ≡ stored s 0 (bias_bytes r.bias)
    → b ≡ stored a 4 (half_bytes p r.standard_date r.standard_bias)
    → c ≡ stored b 88 (half_bytes q r.daylight_date r.daylight_bias)
    → c ≡ stored s 0 (remote_bytes r p q)
unfolding remote_bytes
put-halves s p q r lp lq ea eb ec = simp (stored-append, append_assoc, length-toBytes, length-date, lp, lq, ea, eb, ec)

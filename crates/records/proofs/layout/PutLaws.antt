-- Fields stored one after another are the record stored at once. Each law is over plain lists, so that a proof hands it the calls' facts and rewrites nothing itself.
use Prim.Native.Nat.{ℕ, ◌+◌}
use mathlib.Core.Path.{◌≡◌}
use mathlib.Core.List.{List, append_assoc}
use native.Mathlib.Nat.{add_assoc}
use lib.ListN.{length, length-append}
use lib.IntN.{ℤ}
use Rattle.little_endian.specs.Bytes.{to_bytes}
use Rattle.little_endian.specs.Stored.{stored}
use Rattle.little_endian.proofs.ByteLaws.{length-toBytes}
use Rattle.little_endian.proofs.StoredLaws.{stored-le, stored-append}
use Rattle.zone.specs.declared.dates.SystemTime.{SystemTime}
use Rattle.zone.specs.declared.rules.Rule.{Rule}
use Rattle.records.specs.Layout.{date_bytes, bias_bytes, rule_field_bytes}
use Rattle.records.specs.Steps.{three_biases}

pub put-eight : (s : List ℕ) (at : ℕ) (t : SystemTime) {a b c d e f g h : List ℕ}
    → a ≡ stored s at (to_bytes 2 t.year)
    → b ≡ stored a (at + 2) (to_bytes 2 t.month)
    → c ≡ stored b (at + 4) (to_bytes 2 t.weekday)
    → d ≡ stored c (at + 6) (to_bytes 2 t.day)
    → e ≡ stored d (at + 8) (to_bytes 2 t.hour)
    → f ≡ stored e (at + 10) (to_bytes 2 t.minute)
    → g ≡ stored f (at + 12) (to_bytes 2 t.second)
    → h ≡ stored g (at + 14) (to_bytes 2 t.millisecond)
    → h ≡ stored s at (date_bytes t)
unfolding date_bytes
put-eight s at t ea eb ec ed ee ef eg eh = simp (stored-le, append_assoc, add_assoc, ea, eb, ec, ed, ee, ef, eg, eh)

pub length-date : (t : SystemTime) → length (date_bytes t) ≡ 16
unfolding date_bytes
length-date t = simp (length-append, length-toBytes)

pub length_fields : (r : Rule) → length (rule_field_bytes r) ≡ 44
unfolding rule_field_bytes
length_fields r = simp (length-append, length-toBytes, length-date)

pub put-biases : (s : List ℕ) (at : ℕ) (x y z : ℤ) {a b c : List ℕ}
    → a ≡ stored s at (bias_bytes x)
    → b ≡ stored a (at + 4) (bias_bytes y)
    → c ≡ stored b (at + 8) (bias_bytes z)
    → c ≡ stored s at (three_biases x y z)
put-biases s at x y z ea eb ec = simp (stored-append, append_assoc, length-toBytes, add_assoc, ea, eb, ec)

pub put-fields : (s : List ℕ) (at : ℕ) (r : Rule) {a b c : List ℕ}
    → a ≡ stored s at (three_biases r.bias r.standard_bias r.daylight_bias)
    → b ≡ stored a (at + 12) (date_bytes r.standard_date)
    → c ≡ stored b (at + 28) (date_bytes r.daylight_date)
    → c ≡ stored s at (rule_field_bytes r)
unfolding rule_field_bytes
put-fields s at r ea eb ec = simp (stored-append, append_assoc, length-toBytes, length-date, add_assoc, ea, eb, ec)

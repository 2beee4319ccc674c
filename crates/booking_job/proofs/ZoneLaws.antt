-- What a reader's answer says of the zone that was found.
use Prim.Native.Nat.{ℕ}
use mathlib.Core.Path.{◌≡◌, sym, ap, ◌∙◌}
use mathlib.Core.List.{List}
use lib.ListN.{take}
use Rattle.std.specs.Prelude.{Option, Some, None, Result, Ok, Err}
use Rattle.refusal.specs.declared.Refusal.{Refusal}
use Rattle.refusal.specs.Outcome.{Outcome}
use Rattle.refusal.proofs.Numbers.{number-back}
use Rattle.zone.specs.declared.rules.Rule.{Rule}
use Rattle.hex_text.specs.Hex as hex
use Rattle.zones.specs.declared.reading.Kind.{Kind}
use Rattle.zones.specs.declared.reading.Zone.{Zone}
use Rattle.zones.specs.Zones.{of_zone}
use Rattle.booking_job.specs.declared.zone_text.ZoneFault.{ZoneFault}
use Rattle.booking_job.specs.ZoneText.{found_as}

module _ (kind : Kind) (a : Result Zone Refusal) (o : Outcome (List Rule)) (told : of_zone a ≡ o) where
  pub zone-read : (zone : Zone) → a ≡ Ok zone → Ok kind ≡ found_as kind o
  zone-read zone p = sym (ap (λ (r : Result Zone Refusal). found_as kind (of_zone r)) p) ∙ ap (found_as kind) told

  pub zone-refused : (why : Refusal) → a ≡ Err why → Err (ZoneFault.Refused why) ≡ found_as kind o
  zone-refused why p =
      ap (λ (w : Refusal). Err (ZoneFault.Refused w)) (sym (number-back why)) ∙ sym (ap (λ (r : Result Zone Refusal). found_as kind (of_zone r)) p) ∙ ap (found_as kind) told

-- ---- a record's bytes in lent ones
module _ (r : Option ℕ) (out : List ℕ) (o : Option (List ℕ)) (told : hex.bytes_in r out ≡ o) where
  pub no_record : r ≡ None → None ≡ o
  no_record e = sym (ap (λ (n : Option ℕ). hex.bytes_in n out) e) ∙ told

  pub a-record : (len : ℕ) → r ≡ Some len → Some (take len out) ≡ o
  a-record len e = sym (ap (λ (n : Option ℕ). hex.bytes_in n out) e) ∙ told

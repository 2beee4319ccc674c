-- The zone that a file's text holds, as raw bytes or hex text.
use Rattle.std.specs.Prelude.{ℕ, List, [], Some, None, Result, Ok, Err, Option}
use Rattle.std.specs.Prelude as std
use Rattle.refusal.specs.Number.{refusal_of}
use Rattle.refusal.specs.Outcome.{Outcome, refused, answered}
use Rattle.zone.specs.declared.rules.Rule.{Rule}
use Rattle.definition.specs.Places.{rules_told}
use Rattle.zones.specs.declared.reading.Kind.{Kind}
use Rattle.zones.specs.declared.reading.Choice.{Choice}
use Rattle.zones.specs.Zones.{row_of, read_as, chosen}
use Rattle.booking_job.specs.declared.zone_text.ZoneFault.{ZoneFault}
use Rattle.booking_job.specs.declared.zone_text.ZoneRead.{ZoneRead}

-- ---- a zone that was read, or why there is none: its kind, and its row, which has no rule where there is none
abbrev pub kind_of : Result ZoneRead ZoneFault → Result Kind ZoneFault
kind_of (Ok read) = Ok read.kind
kind_of (Err fault) = Err fault

abbrev pub row_told : Result ZoneRead ZoneFault → List Rule
row_told (Ok read) = row_of read.zone
row_told (Err fault) = []

-- ---- a record's bytes
-- the reader that is named, or the one that accepts them
abbrev pub choice_for : std.Option Kind → List ℕ → Choice
choice_for (Some kind) s = Choice.One kind
choice_for None s = chosen s

abbrev pub found_as : Kind → Outcome (List Rule) → Result Kind ZoneFault
found_as kind (answered row) = Ok kind
found_as kind (refused n) = Err (ZoneFault.Refused (refusal_of n))

abbrev pub zone_found : Choice → List ℕ → Result Kind ZoneFault
zone_found (Choice.One kind) s = found_as kind (read_as kind s)
zone_found Choice.Nothing s = Err ZoneFault.Nothing
zone_found Choice.Several s = Err ZoneFault.Several

-- their row; none where no zone was read
abbrev pub row_found : Choice → List ℕ → List Rule
row_found (Choice.One kind) s = rules_told (read_as kind s)
row_found Choice.Nothing s = []
row_found Choice.Several s = []

-- ---- a file's text, by the record's bytes that it holds, if there was room for them
abbrev pub zone_in : std.Option Kind → Option (List ℕ) → Result Kind ZoneFault
zone_in asked None = Err ZoneFault.TooLong
zone_in asked (Some s) = zone_found (choice_for asked s) s

abbrev pub row_in : std.Option Kind → Option (List ℕ) → List Rule
row_in asked None = []
row_in asked (Some s) = row_found (choice_for asked s) s

abbrev pub bytes_in : Option (List ℕ) → List ℕ
bytes_in None = []
bytes_in (Some s) = s

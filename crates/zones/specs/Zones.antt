-- Zones by value, and the records that they are read from.
use Rattle.std.specs.Prelude.{ℕ, min, Bool, true, false, List, [], ◌∷◌, take, Result, Ok, Err}
use Rattle.refusal.specs.Outcome.{Outcome, refused, answered, ◌>>=◌, ◌>>◌}
use Rattle.refusal.specs.Number.{number_of}
use Rattle.refusal.specs.declared.Refusal.{Refusal}
use Rattle.zone.specs.declared.rules.Rule.{Rule}
use Rattle.records.specs.Registry.{read_registry}
use Rattle.remote_desktop.specs.RemoteDesktop.{read_remote_desktop}
use Rattle.definition.specs.Definition.{read_into}
use Rattle.zones.specs.declared.reading.Zone.{Zone}
use Rattle.zones.specs.declared.reading.Kind.{Kind}
use Rattle.zones.specs.declared.reading.Choice.{Choice}

-- the row of a zone. A count above 1,024 stands for all of the rules.
abbrev pub row_of : Zone → List Rule
row_of z = take (min z.count 1024) z.rules

-- a rule as a row of one
abbrev pub one_rule : Outcome Rule → Outcome (List Rule)
one_rule o = o >>= λ r. answered (r ∷ [])

-- the row that a reader finds in some bytes. A definition has at most 1,024 rules.
abbrev pub read_as : Kind → List ℕ → Outcome (List Rule)
read_as Kind.Registry s = one_rule (read_registry s)
read_as Kind.RemoteDesktop s = one_rule (read_remote_desktop s)
read_as Kind.Definition s = read_into s 1024

-- a zone that was read, as the papers have it
abbrev pub of_zone : Result Zone Refusal → Outcome (List Rule)
of_zone (Ok zone) = answered (row_of zone)
of_zone (Err why) = refused (number_of why)

-- an outcome without what is answered
abbrev pub verdict : {A : Type 0} → Outcome A → Outcome (Unit {0})
verdict o = o >> answered tt

abbrev pub accepted : {A : Type 0} → Outcome A → Bool
accepted (refused n) = false
accepted (answered a) = true

-- the reader that accepts, of the three
abbrev pub choice_of : Bool → Bool → Bool → Choice
choice_of true false false = Choice.One Kind.Registry
choice_of false true false = Choice.One Kind.RemoteDesktop
choice_of false false true = Choice.One Kind.Definition
choice_of false false false = Choice.Nothing
choice_of true true b = Choice.Several
choice_of true false true = Choice.Several
choice_of false true true = Choice.Several

abbrev pub chosen : List ℕ → Choice
chosen s = choice_of (accepted (read_as Kind.Registry s)) (accepted (read_as Kind.RemoteDesktop s)) (accepted (read_as Kind.Definition s))

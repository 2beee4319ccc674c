-- Definitions that are read or refused, as one list with one claim over it, and the shortest one written: a change of the definitions is noticed here.
use Prim.Native.Nat.{ℕ, ◌+◌}
use mathlib.Core.Path.{◌≡◌, refl}
use mathlib.Core.Bool.{true}
use mathlib.Core.List.{List, [], ◌∷◌, ◌++◌, map}
use lib.IntN.{pos, negsuc}
use lib.ListN.{replicate, set, take}
use Rattle.refusal.specs.Outcome.{Outcome, refused, answered}
use Rattle.refusal.specs.Lent.{written}
use Rattle.little_endian.specs.Bytes.{from_bytes, to_bytes}
use Rattle.little_endian.specs.TwosComplement.{signed, unsigned}
use Rattle.little_endian.specs.Fields.{unsigned_at}
use Rattle.utf16.specs.Surrogates.{units_of, any_lone}
use Rattle.days.specs.Months.{days_in_month}
use Rattle.zone.specs.declared.dates.SystemTime.{SystemTime}
use Rattle.zone.specs.declared.rules.Rule.{Rule}
use Rattle.zone.specs.Dates.{valid_date, normal_date}
use Rattle.zone.specs.Rules.{biases_ok, check_dates, check_rule, normal_rule}
use Rattle.rows.specs.Row.{check_rules, active_rules, check_row}
use Rattle.records.specs.Layout.{date_at, date_bytes, rule_at, rule_field_bytes}
use Rattle.definition.specs.Definition.{read_rule, read_one, read_rules, read_header, read_definition, read_into, name_of, rule_bytes, rules_bytes, definition_bytes, check_name, write_definition}

-- document 01's zone P
abbrev last_sunday : ℕ → ℕ → SystemTime
last_sunday m h = record { year = 0; month = m; weekday = 0; day = 5; hour = h; minute = 0; second = 0; millisecond = 0 }

abbrev P : Rule
P =
    record {
      year = 0;
      active = true;
      bias = negsuc 59;
      standard_bias = pos 0;
      daylight_bias = negsuc 59;
      standard_date = last_sunday 10 3;
      daylight_date = last_sunday 3 2;
    }

-- a header with no name, so many rules, and P's rule: major 2, minor 1, size 62, flags 3, year 0, X, biases, dates
abbrev header : ℕ → List ℕ
header count = 2 ∷ 1 ∷ 6 ∷ 0 ∷ 2 ∷ 0 ∷ 0 ∷ 0 ∷ count ∷ 0 ∷ []

abbrev rule : List ℕ
rule =
    (2 ∷ 1 ∷ 62 ∷ 0 ∷ 3 ∷ 0 ∷ 0 ∷ 0 ∷ []) ++ replicate 14 0
    ++ (196 ∷ 255 ∷ 255 ∷ 255 ∷ 0 ∷ 0 ∷ 0 ∷ 0 ∷ 196 ∷ 255 ∷ 255 ∷ 255 ∷ [])
    ++ (0 ∷ 0 ∷ 10 ∷ 0 ∷ 0 ∷ 0 ∷ 5 ∷ 0 ∷ 3 ∷ 0 ∷ 0 ∷ 0 ∷ 0 ∷ 0 ∷ 0 ∷ 0 ∷ [])
    ++ (0 ∷ 0 ∷ 3 ∷ 0 ∷ 0 ∷ 0 ∷ 5 ∷ 0 ∷ 2 ∷ 0 ∷ 0 ∷ 0 ∷ 0 ∷ 0 ∷ 0 ∷ 0 ∷ [])

abbrev shortest : List ℕ
shortest = header 1 ++ rule

-- bytes from a place on put into others
abbrev put : List ℕ → ℕ → List ℕ → List ℕ
put s at [] = s
put s at (b ∷ new) = put (set s at b) (at + 1) new

abbrev changed : ℕ → List ℕ → List ℕ
changed at new = put shortest at new

abbrev ruled : ℕ → List ℕ → List ℕ
ruled at new = put rule at new

-- hour, minute, second and millisecond of 23:59:59.999
abbrev last_millisecond : List ℕ
last_millisecond = 23 ∷ 0 ∷ 59 ∷ 0 ∷ 59 ∷ 0 ∷ 231 ∷ 3 ∷ []

abbrev Example : Type 0
Example = List ℕ × Outcome ℕ

abbrev examples : List Example
examples =
    -- the shortest definition, 76 bytes; no bytes; 75 bytes
    (shortest, answered 1)
    ∷ ([], refused 1)
    ∷ (take 75 shortest, refused 1)
    -- another major, and nothing after it; a size cut short
    ∷ (3 ∷ [], refused 3)
    ∷ (2 ∷ 1 ∷ 255 ∷ [], refused 1)
    -- flags 3
    ∷ (changed 4 (3 ∷ []), refused 4)
    -- 261 units, and nothing after them; 260 units that are not there
    ∷ (2 ∷ 1 ∷ 16 ∷ 2 ∷ 2 ∷ 0 ∷ 5 ∷ 1 ∷ [], refused 5)
    ∷ (2 ∷ 1 ∷ 14 ∷ 2 ∷ 2 ∷ 0 ∷ 4 ∷ 1 ∷ [], refused 1)
    -- 261 low surrogates; a name that is cut in a high one; a high one alone: with nothing behind it, with a wrong size too, and before a count, 0xDC00, that would be a low one
    ∷ ((2 ∷ 1 ∷ 16 ∷ 2 ∷ 2 ∷ 0 ∷ 5 ∷ 1 ∷ []) ++ replicate 522 220, refused 5)
    ∷ (2 ∷ 1 ∷ 8 ∷ 0 ∷ 2 ∷ 0 ∷ 1 ∷ 0 ∷ 61 ∷ [], refused 1)
    ∷ (2 ∷ 1 ∷ 8 ∷ 0 ∷ 2 ∷ 0 ∷ 1 ∷ 0 ∷ 61 ∷ 216 ∷ [], refused 20)
    ∷ (2 ∷ 1 ∷ 9 ∷ 0 ∷ 2 ∷ 0 ∷ 1 ∷ 0 ∷ 61 ∷ 216 ∷ [], refused 20)
    ∷ (2 ∷ 1 ∷ 8 ∷ 0 ∷ 2 ∷ 0 ∷ 1 ∷ 0 ∷ 61 ∷ 216 ∷ 0 ∷ 220 ∷ [], refused 20)
    -- high high low, high low low, a low one alone; the last of 260 units a high one; a pair
    ∷ (2 ∷ 1 ∷ 12 ∷ 0 ∷ 2 ∷ 0 ∷ 3 ∷ 0 ∷ 61 ∷ 216 ∷ 61 ∷ 216 ∷ 0 ∷ 222 ∷ [], refused 20)
    ∷ (2 ∷ 1 ∷ 12 ∷ 0 ∷ 2 ∷ 0 ∷ 3 ∷ 0 ∷ 61 ∷ 216 ∷ 0 ∷ 222 ∷ 0 ∷ 222 ∷ [], refused 20)
    ∷ (2 ∷ 1 ∷ 8 ∷ 0 ∷ 2 ∷ 0 ∷ 1 ∷ 0 ∷ 0 ∷ 222 ∷ [], refused 20)
    ∷ ((2 ∷ 1 ∷ 14 ∷ 2 ∷ 2 ∷ 0 ∷ 4 ∷ 1 ∷ []) ++ replicate 518 65 ++ (61 ∷ 216 ∷ []), refused 20)
    ∷ ((2 ∷ 1 ∷ 10 ∷ 0 ∷ 2 ∷ 0 ∷ 2 ∷ 0 ∷ 61 ∷ 216 ∷ 0 ∷ 222 ∷ 1 ∷ 0 ∷ []) ++ rule, answered 1)
    -- header size 7, also where the bytes end after the name; with size 6 that end is a field that is not there
    ∷ (changed 2 (7 ∷ []), refused 2)
    ∷ (2 ∷ 1 ∷ 7 ∷ 0 ∷ 2 ∷ 0 ∷ 0 ∷ 0 ∷ [], refused 2)
    ∷ (2 ∷ 1 ∷ 6 ∷ 0 ∷ 2 ∷ 0 ∷ 0 ∷ 0 ∷ [], refused 1)
    -- count 0, also where the stated size of another minor runs past the bytes
    ∷ (header 0, refused 6)
    ∷ (2 ∷ 0 ∷ 255 ∷ 255 ∷ 2 ∷ 0 ∷ 0 ∷ 0 ∷ 0 ∷ 0 ∷ [], refused 6)
    -- another minor: a greater header size and bytes after the last rule are skipped
    ∷ ((2 ∷ 2 ∷ 8 ∷ 0 ∷ 2 ∷ 0 ∷ 0 ∷ 0 ∷ 1 ∷ 0 ∷ 170 ∷ 187 ∷ []) ++ rule ++ (204 ∷ []), answered 1)
    -- a byte after the last rule; the same and two active rules
    ∷ (shortest ++ (0 ∷ []), refused 2)
    ∷ (header 2 ++ rule ++ ruled 6 (1 ∷ []) ++ (0 ∷ []), refused 12)
    -- a rule of another major is skipped, and then none is active; a skipped rule, then a kept one
    ∷ (changed 10 (3 ∷ []), refused 12)
    ∷ (header 2 ++ take 64 (ruled 0 (3 ∷ 1 ∷ 60 ∷ [])) ++ rule, answered 1)
    -- a rule of another minor with two bytes more; size 63 at minor 1, with that byte and without it; size 61
    ∷ (changed 11 (9 ∷ 64 ∷ []) ++ (1 ∷ 2 ∷ []), answered 1)
    ∷ (changed 12 (63 ∷ []) ++ (1 ∷ []), refused 2)
    ∷ (changed 12 (63 ∷ []), refused 1)
    ∷ (changed 12 (61 ∷ []), refused 2)
    -- X
    ∷ (changed 31 (1 ∷ []), refused 7)
    -- year 30828; two rules of one year; two rules
    ∷ (changed 16 (108 ∷ 120 ∷ []), refused 8)
    ∷ (header 2 ++ rule ++ ruled 4 (0 ∷ []), refused 8)
    ∷ (header 2 ++ ruled 4 (0 ∷ []) ++ ruled 6 (215 ∷ 7 ∷ []), answered 2)
    -- month 13; one date set
    ∷ (changed 46 (13 ∷ []), refused 10)
    ∷ (changed 62 (0 ∷ []), refused 11)
    -- standard date at 23:59:59.999; second 60; millisecond 1000; the same three in the daylight date
    ∷ (changed 52 last_millisecond, answered 1)
    ∷ (changed 56 (60 ∷ []), refused 10)
    ∷ (changed 58 (232 ∷ 3 ∷ []), refused 10)
    ∷ (changed 68 last_millisecond, answered 1)
    ∷ (changed 72 (60 ∷ []), refused 10)
    ∷ (changed 74 (232 ∷ 3 ∷ []), refused 10)
    -- bias sum -1,441; dates not set, Bias 1,440 and 1,441
    ∷ (changed 32 (155 ∷ 250 ∷ []), refused 9)
    ∷ (put (put (changed 32 (160 ∷ 5 ∷ 0 ∷ 0 ∷ [])) 46 (0 ∷ [])) 62 (0 ∷ []), answered 1)
    ∷ (put (put (changed 32 (161 ∷ 5 ∷ 0 ∷ 0 ∷ [])) 46 (0 ∷ [])) 62 (0 ∷ []), refused 9)
    -- flag bits 1; flag bits 0; unused flag bits; flag bits 1, then a bad date
    ∷ (changed 14 (1 ∷ []), refused 12)
    ∷ (changed 14 (0 ∷ []), refused 12)
    ∷ (changed 14 (255 ∷ 255 ∷ []), answered 1)
    ∷ (header 2 ++ ruled 4 (1 ∷ []) ++ ruled 36 (13 ∷ []), refused 8)
    ∷ (header 2 ++ ruled 4 (1 ∷ []) ++ put (ruled 6 (1 ∷ [])) 36 (13 ∷ []), refused 10)
    ∷ []

-- each of these bytes reads to that many rules, or is refused with that number
pub all_read : map (λ e. written (read_into e.0 9)) examples ≡ map (λ e. e.1) examples
unfolding read_into read_definition read_rules read_rule active_rules check_rule check_dates valid_date biases_ok normal_rule normal_date rule_at date_at signed days_in_month read_one read_header from_bytes unsigned_at units_of any_lone
all_read = refl

-- the shortest definition is read as P with no name, and P is written as it
pub shortest-read : (read_definition shortest ≡ answered (record { rules = P ∷ []; name_length = 0 })) × (read_into shortest 0 ≡ refused 13)
unfolding read_into read_definition read_rules read_rule active_rules check_rule check_dates valid_date biases_ok normal_rule normal_date rule_at date_at signed read_one read_header from_bytes unsigned_at units_of any_lone
shortest-read = (refl, refl)

pub shortest-written : (write_definition [] (P ∷ []) 76 ≡ answered shortest) × (write_definition [] (P ∷ []) 75 ≡ refused 13)
unfolding write_definition check_name definition_bytes rules_bytes rule_bytes check_row check_rules active_rules check_rule check_dates valid_date biases_ok normal_rule normal_date rule_field_bytes date_bytes unsigned to_bytes units_of any_lone
shortest-written = (refl, refl)

-- names that are written or refused, with a row and a room: 2, 5, 20, 6, 13
abbrev names : List (List ℕ × List Rule × ℕ × Outcome ℕ)
names =
    -- a high surrogate and half a unit; 261 units with a high surrogate at the end, and no rules
    (61 ∷ 216 ∷ 0 ∷ [], [], 0, refused 2)
    ∷ (replicate 520 65 ++ (61 ∷ 216 ∷ []), [], 0, refused 5)
    -- a high surrogate alone, and no rules; the same, and no room; the last of 260 units; a low one before a high one
    ∷ (61 ∷ 216 ∷ [], [], 0, refused 20)
    ∷ (61 ∷ 216 ∷ [], P ∷ [], 0, refused 20)
    ∷ (replicate 518 65 ++ (61 ∷ 216 ∷ []), P ∷ [], 600, refused 20)
    ∷ (0 ∷ 222 ∷ 61 ∷ 216 ∷ [], P ∷ [], 600, refused 20)
    -- a pair: with no rules, with no room, written
    ∷ (61 ∷ 216 ∷ 0 ∷ 222 ∷ [], [], 0, refused 6)
    ∷ (61 ∷ 216 ∷ 0 ∷ 222 ∷ [], P ∷ [], 79, refused 13)
    ∷ (61 ∷ 216 ∷ 0 ∷ 222 ∷ [], P ∷ [], 80, answered 80)
    -- D7FF and E000 are no surrogates
    ∷ (255 ∷ 215 ∷ 0 ∷ 224 ∷ [], P ∷ [], 80, answered 80)
    ∷ []

pub names-written : map (λ e. written (write_definition e.0 e.1 e.2)) names ≡ map (λ e. e.3) names
unfolding write_definition check_name definition_bytes rules_bytes rule_bytes check_row check_rules active_rules check_rule check_dates valid_date biases_ok normal_rule normal_date rule_field_bytes date_bytes unsigned to_bytes units_of any_lone
names-written = refl

-- 260 units are written and read, and the name is handed back
pub longest-name : (written (write_definition (replicate 520 65) (P ∷ []) 596) ≡ answered 596) × (name_of (definition_bytes (replicate 520 65) (P ∷ [])) ≡ replicate 520 65)
unfolding name_of read_definition read_rules read_rule rule_at date_at signed write_definition check_name definition_bytes rules_bytes rule_bytes check_row check_rules active_rules check_rule check_dates valid_date biases_ok normal_rule normal_date rule_field_bytes date_bytes unsigned read_one read_header from_bytes to_bytes unsigned_at units_of any_lone
longest-name = (refl, refl)

-- The fields of a TIME are well formed, and name the TIME again, less what is under a millisecond.
use Prim.Native.Nat.{ℕ, ◌+◌, ◌*◌, ◌/◌, ◌%◌, ◌≤◌}
use mathlib.Core.Path.{◌≡◌}
use mathlib.Core.Bool.{true}
use native.Mathlib.Omega.{arith}
use lib.IntN.{pos}
use borrow.Author.Tests.{le-leb}
use Rattle.refusal.specs.Outcome.{answered, ◌>>=◌}
use Rattle.days.specs.declared.dates.Date.{Date}
use Rattle.days.specs.Months.{days_in_month}
use Rattle.days.specs.Dates.{date_of}
use Rattle.days.specs.Ticks.{millisecond, second, minute, hour, day}
use Rattle.days.proofs.dates.DateOf.{date-is}
use Rattle.calendar.specs.Ranges.{within}
use Rattle.calendar.specs.Revisions.{is_revision}
use Rattle.calendar.specs.Fields.{last_time, fields_of, time_to_fields, tick_of, fields_to_time}
use Rattle.calendar.proofs.fields.TimeOfDay.{year-small}

-- stage by stage, each over numbers of its own
seconds : (n : ℕ) → n / second ≡ n / millisecond / 1000
seconds n = omega arith

minutes : (n : ℕ) → n / minute ≡ n / second / 60
minutes n = omega arith

hours : (n : ℕ) → n / hour ≡ n / minute / 60
hours n = omega arith

whole-days : (n : ℕ) → n / day ≡ n / hour / 24
whole-days n = omega arith

chain : (a b c e d : ℕ) → b ≡ a / 1000 → c ≡ b / 60 → e ≡ c / 60 → d ≡ e / 24
    → d * day + e % 24 * hour + c % 60 * minute + b % 60 * second + a % 1000 * millisecond ≡ a * millisecond
chain a b c e d p q r s = omega arith

-- the fields' tick
same-tick : (n : ℕ)
    → tick_of (date_of (n / day)).year (date_of (n / day)).month (date_of (n / day)).day (n / hour % 24) (n / minute % 60) (n / second % 60) (n / millisecond % 1000)
    ≡ n / millisecond * millisecond
same-tick n =
    rw (date-is (n / day)).number
    (chain (n / millisecond) (n / second) (n / minute) (n / hour) (n / day) (seconds n) (minutes n) (hours n) (whole-days n))

in_bounds : (lo hi n : ℕ) → lo ≤ n → n ≤ hi → within lo hi n ≡ true
in_bounds lo hi n p q = rw (le-leb lo n p, le-leb n hi q)

pub fields_back : (ρ n : ℕ) → is_revision ρ ≡ true → n ≤ last_time → fields_to_time ρ (fields_of n) ≡ answered (pos (n / millisecond * millisecond))
unfolding fields_of fields_to_time
fields_back ρ n k h =
    let x : Date = date_of (n / day) in
    let b = date-is (n / day) in
    rw (
      k,
      in_bounds 1601 32767 x.year b.year1601 (omega (arith, year-small (n / day) (omega arith))),
      in_bounds 1 12 x.month b.month1 b.month12,
      in_bounds 1 (days_in_month x.year x.month) x.day b.day1 b.day_last,
      in_bounds 0 23 (n / hour % 24) (omega arith) (omega arith),
      in_bounds 0 59 (n / minute % 60) (omega arith) (omega arith),
      in_bounds 0 999 (n / millisecond % 1000) (omega arith) (omega arith),
      in_bounds 0 60 (n / second % 60) (omega arith) (omega arith),
      le-leb (n / second % 60) 59 (omega arith),
      same-tick n,
      le-leb (n / millisecond * millisecond) last_time (omega arith),
    )

-- THE LAW: fields to TIME after TIME to fields rounds down to the millisecond, for every TIME from 0 up, by either revision
pub round_trip : (ρ n : ℕ) → is_revision ρ ≡ true → n ≤ last_time → (time_to_fields ρ (pos n) >>= fields_to_time ρ) ≡ answered (pos (n / millisecond * millisecond))
round_trip ρ n k h = rw k (fields_back ρ n k h)

-- The worked list: the calls compute, and demand 3 has the pencil account say the same.
use Prim.Native.Nat.{ℕ, ◌+◌, ◌-◌, ◌≤◌, ◌<◌}
use mathlib.Core.Path.{◌≡◌, refl, sym, ap, ◌∙◌}
use mathlib.Core.Bool.{Bool, true, false, ◌&&◌, ◌||◌}
use mathlib.Core.List.{[], ◌∷◌}
use mathlib.Core.Logic.{inl, inr}
use native.Mathlib.Omega.{arith}
use lib.Dec.{leb, ltb}
use borrow.Author.Tests.{le-leb, leb-true, leb-false, lt-ltb, le-ltb}
use Rattle.refusal.specs.Outcome.{answered}
use Rattle.little_endian.specs.Bytes.{from_bytes, to_bytes}
use Rattle.little_endian.specs.TwosComplement.{signed, unsigned}
use Rattle.little_endian.specs.Fields.{unsigned_at}
use Rattle.days.specs.Years.{leap, days_in_year, year_from}
use Rattle.days.specs.Counting.{up_from, keep}
use Rattle.totals.specs.Totals.{grown}
use Rattle.zone.specs.Dates.{valid_date}
use Rattle.zone.specs.Rules.{biases_ok, check_dates, check_rule}
use Rattle.zone.specs.Ticks.{utc_tick}
use Rattle.in_force.specs.RuleBias.{bias_of}
use Rattle.rows.specs.Row.{check_rules, active_rules, check_row}
use Rattle.rows.specs.Search.{not_after, rule_in_force, bias_in_force}
use Rattle.tally.specs.Tallies.{fresh, in_span, holds}
use Rattle.tally.specs.Booking as booking
use Rattle.tally.specs.Booking.{local_weekday, check_run, with_run}
use Rattle.tally.specs.Saved.{total_bytes, record_of, save_tally, recorded, readable, read_tally}
use Rattle.account.specs.Calls.{Outcomes, told_of, tally_after, calls, outcomes, Listed}
use Rattle.account.specs.Pencil.{Run, covered}
use Rattle.account.specs.Demand3.{accepted_after, accepted}
use Rattle.account.specs.WorkedList.{zone, sunday, list, told, runs, worked, in_parts, Worked}
use Rattle.account.proofs.Demand3Holds.{demand3}

accepts : check_row zone ≡ answered tt
unfolding zone check_row check_rules check_rule check_dates biases_ok valid_date active_rules
accepts = refl

computed : outcomes zone list ≡ worked
unfolding zone list told worked calls check_row check_rules check_rule check_dates biases_ok valid_date active_rules fresh in_span holds booking.book local_weekday check_run with_run grown total_bytes record_of save_tally recorded readable read_tally told_of tally_after not_after rule_in_force bias_in_force bias_of leap days_in_year year_from up_from keep from_bytes to_bytes signed unsigned unsigned_at
computed = refl

-- nothing is asked of bookings and savings; a reading is given the last record, or bytes that are not readable
listed : Listed zone list
unfolding zone list Listed check_row check_rules check_rule check_dates biases_ok valid_date active_rules fresh in_span holds booking.book local_weekday check_run with_run grown total_bytes record_of save_tally recorded readable read_tally told_of tally_after not_after rule_in_force bias_in_force bias_of leap days_in_year year_from up_from keep from_bytes to_bytes signed unsigned unsigned_at
listed = (tt, (tt, (tt, (tt, (tt, (tt, (inr refl, (inr refl, (inl refl, (tt, (tt, (inr refl, tt))))))))))))

abbrev run_of : ℕ → ℕ → Run
run_of a b = record { from = utc_tick a; to = utc_tick b }

noted : accepted zone list ≡ runs
unfolding list told worked runs accepted
noted = ap (λ (o : Outcomes). accepted_after [] list o.told) computed

-- ---- the other list

listed-too : Listed zone in_parts
unfolding in_parts Listed
listed-too = (tt, (tt, (tt, tt)))

noted-too : accepted zone in_parts ≡ (run_of (sunday + 8) (sunday + 12) ∷ run_of sunday (sunday + 2) ∷ run_of (sunday - 3) sunday ∷ [])
unfolding zone in_parts accepted calls check_row check_rules check_rule check_dates biases_ok valid_date active_rules fresh in_span holds booking.book local_weekday check_run with_run grown total_bytes record_of save_tally recorded readable read_tally told_of tally_after not_after rule_in_force bias_in_force bias_of leap days_in_year year_from up_from keep from_bytes to_bytes signed unsigned unsigned_at
noted-too = refl

-- an empty run covers nothing; a run in two parts covers the same ticks
empty-run : (a u : ℕ) → (leb a u && ltb u a) ≡ false
empty-run a u = go (leb a u) refl
  where
    go : (x : Bool) → leb a u ≡ x → (x && ltb u a) ≡ false
    go true e = le-ltb u a (leb-true a u e)
    go false e = refl

joined : (a b c u : ℕ) (rest : Bool) → a ≤ b → b ≤ c → ((leb a u && ltb u c) || rest) ≡ ((leb b u && ltb u c) || ((leb a u && ltb u b) || rest))
joined a b c u rest h k = go (leb b u) refl
  where
    go : (x : Bool) → leb b u ≡ x → ((leb a u && ltb u c) || rest) ≡ ((x && ltb u c) || ((leb a u && ltb u b) || rest))
    go true e = let l : b ≤ u = leb-true b u e in rw (le-leb a u (omega arith), le-ltb u b l)
    go false e = let l : u < b = leb-false b u e in rw (lt-ltb u c (omega arith), lt-ltb u b l)

alike : (u : ℕ) → covered (accepted zone list) u ≡ covered (accepted zone in_parts) u
unfolding covered runs
alike u =
    rw (noted, noted-too, empty-run (sunday + 20) u)
    (ap (λ (x : Bool). (leb (sunday + 8) u && ltb u (sunday + 12)) || x) (joined (sunday - 3) sunday (sunday + 2) u false (omega arith) (omega arith)))

pub worked-list : Worked
worked-list =
    record {
      accepts = accepts;
      listed = listed;
      calls = computed;
      noted = noted;
      pencil = sym ((demand3 zone accepts).same list listed) ∙ computed;
      listed-too = listed-too;
      alike = alike;
      same-totals = (demand3 zone accepts).alike list in_parts listed listed-too alike;
    }

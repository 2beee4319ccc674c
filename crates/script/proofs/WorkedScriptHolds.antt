-- The worked script: the calls compute, and demand 3 has the pencil account say the same.
use mathlib.Core.Path.{◌≡◌, refl, sym, ap, ◌∙◌}
use mathlib.Core.List.{List}
use lib.ListN.{replicate}
use Rattle.refusal.specs.Outcome.{Outcome, answered}
use Rattle.little_endian.specs.Bytes.{from_bytes, to_bytes}
use Rattle.little_endian.specs.TwosComplement.{signed, unsigned}
use Rattle.little_endian.specs.Fields.{unsigned_at}
use Rattle.days.specs.Years.{leap, days_in_year, year_from}
use Rattle.days.specs.Counting.{up_from, keep}
use Rattle.totals.specs.Totals.{grown}
use Rattle.zone.specs.Dates.{valid_date}
use Rattle.zone.specs.Rules.{biases_ok, check_dates, check_rule}
use Rattle.in_force.specs.RuleBias.{bias_of}
use Rattle.rows.specs.Row.{check_rules, active_rules, check_row}
use Rattle.rows.specs.Search.{not_after, rule_in_force, bias_in_force}
use Rattle.tally.specs.Tallies.{fresh, in_span, holds}
use Rattle.tally.specs.Booking as booking
use Rattle.tally.specs.Booking.{local_weekday, check_run, with_run}
use Rattle.tally.specs.Saved.{total_bytes, record_of, save_tally, recorded, readable, read_tally}
use Rattle.account.specs.Calls.{Call, Outcomes, told_of, tally_after, calls, outcomes}
use Rattle.account.specs.Pencil.{account}
use Rattle.account.specs.WorkedList.{zone}
use Rattle.account.proofs.Demand3Holds.{demand3-in}
use Rattle.script.specs.Scripts.{scripted, buffer_left, log_left}
use Rattle.script.specs.WorkedScript.{script, buffer, list, worked, outcome_for, buffer_afterwards, Worked}
use Rattle.script.proofs.Listing.{listed}

the-calls : scripted zone script buffer ≡ list
unfolding zone script list check_row check_rules check_rule check_dates biases_ok valid_date active_rules fresh in_span holds booking.book local_weekday check_run with_run grown total_bytes record_of save_tally recorded readable read_tally told_of tally_after not_after rule_in_force bias_in_force bias_of leap days_in_year year_from up_from keep from_bytes to_bytes signed unsigned unsigned_at
the-calls = refl

computed : outcomes zone list ≡ worked
unfolding zone list worked calls check_row check_rules check_rule check_dates biases_ok valid_date active_rules fresh in_span holds booking.book local_weekday check_run with_run grown total_bytes record_of save_tally recorded readable read_tally told_of tally_after not_after rule_in_force bias_in_force bias_of leap days_in_year year_from up_from keep from_bytes to_bytes signed unsigned unsigned_at
computed = refl

said : account zone (scripted zone script buffer) ≡ worked
said = sym ((demand3-in zone).same (scripted zone script buffer) (listed zone script buffer)) ∙ ap (λ (cs : List Call). outcomes zone cs) the-calls ∙ computed

outcome : outcome_for 8 ≡ answered worked
unfolding script
outcome = ap (λ (o : Outcomes). answered o) said

in_buffer : buffer_left (answered worked) buffer ≡ buffer_afterwards
unfolding worked
in_buffer = refl

pub worked-script : Worked
unfolding script worked
worked-script =
    record {
      calls = the-calls;
      outcome = outcome;
      buffer = ap (λ (o : Outcome Outcomes). buffer_left o buffer) outcome ∙ in_buffer;
      log = ap (λ (o : Outcome Outcomes). log_left o (replicate 8 9)) outcome;
      short = refl;
    }

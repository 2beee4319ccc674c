-- Local to UTC in rows of our own choice, as one list; the claim is `AllHold own_shown`. The answers were worked out from document 01 by hand.
use Rattle.std.specs.Prelude.{◌-◌, true, false, List, [], ◌∷◌, pos, negsuc}
use Rattle.calendar.specs.Fields.{tick_of}
use Rattle.zone.specs.declared.rules.Rule.{Rule}
use Rattle.starred_examples.specs.Sheet.{at, last_sunday, Example, shown_by}
use Rattle.starred_examples.specs.OwnExamples.{once, rule, south, new_year, three, west, late}

-- Bias sums 0 and -60, with standard time from 2000-12-31 23:30; then 120 and 60, with standard time from 2001-01-01 00:00
abbrev pub meeting : List Rule
meeting =
    rule 2000 false (pos 0) (pos 0) (negsuc 59) (once 2000 12 31 23 30) (once 2000 6 1 0 0)
    ∷ rule 2001 true (pos 120) (pos 0) (negsuc 59) (once 2001 1 1 0 0) (once 2001 6 1 0 0)
    ∷ []

-- zone P's dates with two equal bias sums
abbrev pub equal_sums : List Rule
equal_sums = rule 0 true (negsuc 59) (pos 0) (pos 0) (last_sunday 10 3) (last_sunday 3 2) ∷ []

unfoldable pub own_shown : List Example
own_shown =
    -- two rules that meet at a new year: four ticks
    shown_by meeting (at 2000 12 31 23 0) (at 2000 12 31 22 0 ∷ at 2000 12 31 23 0 ∷ at 2001 1 1 0 0 ∷ at 2001 1 1 1 0 ∷ [])
    -- two equal bias sums: one tick, not two
    ∷ shown_by equal_sums (at 2023 7 1 12 0) (at 2023 7 1 11 0 ∷ [])
    -- the south: two ticks in autumn, none in spring
    ∷ shown_by south (at 2023 4 2 2 30) (at 2023 4 1 13 30 ∷ at 2023 4 1 14 30 ∷ [])
    ∷ shown_by south (at 2023 9 24 2 30) []
    -- a switch before its UTC year: the hour from 01:00 on 1 January 2024 is left out
    ∷ shown_by new_year (at 2024 1 1 1 30) []
    -- three rules: no tick has a rule before 2000; from 0 to 90 two ticks, from 90 to -90 none
    ∷ shown_by three (at 2000 1 1 0 0 - 1) []
    ∷ shown_by three (at 2000 1 1 0 0) (at 2000 1 1 0 0 ∷ [])
    ∷ shown_by three (at 2004 12 31 23 0) (at 2004 12 31 23 0 ∷ at 2005 1 1 0 30 ∷ [])
    ∷ shown_by three (at 2010 1 1 0 0) []
    -- the window's start, and the last local tick
    ∷ shown_by west 315072000000000 (315360000000000 ∷ [])
    ∷ shown_by west 315071999999999 []
    ∷ shown_by west 9223372036854775807 []
    -- switches at 23:59:59.999: the spring hour that is left out and the autumn hour that comes twice begin at that millisecond
    ∷ shown_by (late 59 999) (tick_of 2023 3 26 23 59 59 999 - 1) ((tick_of 2023 3 26 22 59 59 999 - 1) ∷ [])
    ∷ shown_by (late 59 999) (tick_of 2023 3 26 23 59 59 999) []
    ∷ shown_by (late 59 999) (tick_of 2023 10 29 22 59 59 999 - 1) ((tick_of 2023 10 29 20 59 59 999 - 1) ∷ [])
    ∷ shown_by (late 59 999) (tick_of 2023 10 29 22 59 59 999) (tick_of 2023 10 29 20 59 59 999 ∷ tick_of 2023 10 29 21 59 59 999 ∷ [])
    ∷ []

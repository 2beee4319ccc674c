-- The numbers that booking is refused with.
use Prim.Native.Nat.{ℕ}
use mathlib.Core.Path.{refl}
use mathlib.Core.Bool.{◌&&◌}
use mathlib.Core.List.{List, [], ◌∷◌}
use lib.Dec.{leb}
use Rattle.refusal.specs.Outcome.{answered}
use Rattle.refusal.proofs.Gives.{OneOf, Gives, gives_then, gives-test, gives-last}
use Rattle.refusal.proofs.Known.{InTable, Known}
use Rattle.zone.specs.declared.rules.Rule.{Rule}
use Rattle.zone.specs.declared.ticks.UtcTick.{UtcTick}
use Rattle.rows.specs.Row.{check_row}
use Rattle.rows.specs.Search.{has_rule}
use Rattle.rows.proofs.CheckLaws.{row_gives}
use Rattle.tally.specs.declared.tallies.Tally.{Tally}
use Rattle.tally.specs.Tallies.{at, in_span, holds}
use Rattle.tally.specs.Booking.{check_run, with_run, book}

module _ (P : ℕ → Type 0) (p15 : P 15) (p16 : P 16) (p17 : P 17) where
  pub run-gives : (row : List Rule) (end a b : UtcTick) → Gives P (check_run row end a b)
  unfolding check_run
  run-gives row end a b =
      gives-test P (in_span a && in_span b) 15 _ p15 (gives-test P (leb (at a) (at b) && leb (at end) (at a)) 17 _ p17 (gives-last P (has_rule row (at a)) 16 p16))

  pub booking-gives : P 6 → P 8 → P 9 → P 10 → P 11 → P 12 → P 18 → (row : List Rule) (t : Tally) (a b : UtcTick) → Gives P (book row t a b)
  unfolding book
  booking-gives p6 p8 p9 p10 p11 p12 p18 row t a b =
      gives_then P (check_row row) _ (row_gives P p8 p9 p10 p11 p6 p12 row)
      (gives-test P (holds t) 18 _ p18 (gives_then P (check_run row t.end a b) (answered (with_run row t a b)) (run-gives row t.end a b) tt))

abbrev pub book_numbers : List ℕ
book_numbers = 6 ∷ 8 ∷ 10 ∷ 11 ∷ 9 ∷ 12 ∷ 18 ∷ 15 ∷ 17 ∷ 16 ∷ []

abbrev pub BookNumber : ℕ → Type 0
BookNumber = OneOf book_numbers

pub book-gives : (row : List Rule) (t : Tally) (a b : UtcTick) → Gives BookNumber (book row t a b)
book-gives = booking-gives BookNumber tt tt tt tt tt tt tt tt tt tt

-- they are numbers of the table
pub book-known : (row : List Rule) (t : Tally) (a b : UtcTick) → Known (book row t a b)
book-known = booking-gives InTable refl refl refl refl refl refl refl refl refl refl

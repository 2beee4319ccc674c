-- What the loop keeps: with the units that are left put on it, the page is what it is to be.
use mathlib.Core.Path.{◌≡◌}
use lib.ListN.{length}
use Rattle.std.specs.Slice.Iter.{chunks_exact_rest, chunks_exact_size}
use Rattle.page.specs.Pages.{text_of, extended}
use Rattle.words.specs.Units.{units_text}
use Rattle.words.proofs.units.put_units.Given as goal

abbrev pub invariant-loop-unit : goal.invariant-loop-unit
invariant-loop-unit l = record {
  two : chunks_exact_size l.unit-iterator ≡ 2;
  size : length l.page.bytes ≡ 1024;
  left : extended (text_of l.page) (units_text (chunks_exact_rest l.unit-iterator)) ≡ extended (text_of l.initial.page) (units_text l.units);
}

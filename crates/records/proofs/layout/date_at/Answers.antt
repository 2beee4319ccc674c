-- `records::layout::date_at` meets its contract, field by field.
use Rattle.records.specs.Layout.{date_at}
use Rattle.records.proofs.layout.date_at.Goals as goal

pub returns : goal.returns
unfolding date_at
returns c = simp (← c.read-8.ensures, ← c.read-7.ensures, ← c.read-6.ensures, ← c.read-5.ensures, ← c.read-4.ensures, ← c.read-3.ensures, ← c.read-2.ensures, ← c.read.ensures)

-- What the rules that are left come to is what all of them come to.
use Rattle.std.proofs.Common.{◌≡◌, ◌-◌, ◌≤◌, length}
use Rattle.definition.specs.Steps.{begun, walk_rules}
use Rattle.definition.proofs.walk.walk_rules.Given as goal

abbrev pub invariant-loop : goal.invariant-loop
invariant-loop l =
    record {
      at : l.w.at ≤ length l.bytes;
      kept : l.w.kept ≤ l.counter;
      active : l.w.active ≤ l.counter;
      left : walk_rules l.bytes l.count (begun l.start) ≡ walk_rules l.bytes (l.count - l.counter) l.w;
    }

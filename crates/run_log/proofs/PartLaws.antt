-- A part of a line, put behind what is carried in lent bytes.
use Prim.Native.Nat.{ℕ, ◌+◌, ◌-◌, ◌≤◌}
use native.Mathlib.Omega.{arith}
use mathlib.Core.Path.{◌≡◌, sym, ap, ◌∙◌}
use mathlib.Core.Bool.{Bool, true, false}
use mathlib.Core.List.{List, ◌++◌, append_assoc}
use lib.ListN.{length, take, drop, length-append}
use lib.Seq.{length-take-le, take_at}
use lib.Dec.{ltb}
use borrow.Author.Tests.{le-ltb}
use Rattle.little_endian.specs.Stored.{stored}
use Rattle.little_endian.proofs.StoredLaws.{stored_at}
use Rattle.zone.specs.declared.rules.Rule.{Rule}
use Rattle.run_log.specs.declared.Log.{Log}
use Rattle.run_log.specs.declared.Job.{Job}
use Rattle.run_log.specs.Log.{line_taken}
use Rattle.run_log.specs.Feed.{begun, carrying, part_fed, state_of}

module _ (row : List Rule) (bytes part : List ℕ) (job : Job) (h : job.len ≤ length bytes) where
  carried : length (take job.len bytes) ≡ job.len
  carried = length-take-le job.len bytes h

  module _ (l : length part ≤ length bytes - job.len) where
    fits : ltb (length bytes) (length (take job.len bytes) + length part) ≡ false
    fits = le-ltb (length bytes) (length (take job.len bytes) + length part) (omega (arith, carried))

    pub part-put : (out : List ℕ) → out ≡ stored bytes job.len part → take (job.len + length part) out ≡ take job.len bytes ++ part
    part-put out e =
        let n : length (take job.len bytes ++ part) ≡ job.len + length part = omega (arith, length-append (take job.len bytes) part, carried) in
        ap (take (job.len + length part)) (e ∙ stored_at bytes job.len part (omega arith) ∙ sym (append_assoc (take job.len bytes) part (drop (job.len + length part) bytes)))
        ∙ take_at (take job.len bytes ++ part) (drop (job.len + length part) bytes) (job.len + length part) n

    pub part-ends : (out : List ℕ) → out ≡ stored bytes job.len part → (g : Log) → g ≡ line_taken row (take (job.len + length part) out) job.log → (ended : Bool) → ended ≡ true
        → begun g ≡ part_fed row (length bytes) (state_of job bytes) part ended
    part-ends out e g p ended t = rw (fits, t) (ap begun (p ∙ ap (λ (line : List ℕ). line_taken row line job.log) (part-put out e)))

    pub part-goes-on : (out : List ℕ) → out ≡ stored bytes job.len part → (ended : Bool) → ended ≡ false
        → carrying job.log (take (job.len + length part) out) ≡ part_fed row (length bytes) (state_of job bytes) part ended
    part-goes-on out e ended t = rw (fits, t) (ap (carrying job.log) (part-put out e))

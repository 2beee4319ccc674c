-- A read that brought nothing to be fed leaves the job as it was, and one that stopped the job has fed all of what it brought.
use Rattle.std.proofs.Common.{ℕ, ◌≡◌, refl, sym, ap, ◌∙◌, length, take, arith}
use Rattle.zones.specs.Zones.{row_of}
use Rattle.run_log.specs.declared.Job.{Job}
use Rattle.run_log.specs.Feed.{fed, state_of}
use Rattle.log_files.proofs.TurnLaws.{nothing_read}
use Rattle.log_files.proofs.turn.Goals as goal

pub returns-in-Err : goal.returns-in-Err
returns-in-Err c =
    let a = c.args in
    let e = c.ended.ensures in
    (omega (arith, e.0, c.requires), nothing_read (row_of a.zone) (length a.carried.now) a.carried.now c.read_some.new.piece a.reading.job c.ended.result.job c.ended.result.got e.2 e.1, refl)

pub returns-then-n-eq0 : goal.returns-then-n-eq0
returns-then-n-eq0 c =
    let a = c.args in
    let r = c.ended-then-n-eq0.result in
    let e = c.ended-then-n-eq0.ensures in
    (omega (arith, e.0, c.requires), nothing_read (row_of a.zone) (length a.carried.now) a.carried.now c.read_some.new.piece a.reading.job r.job r.got e.2 e.1, refl)

pub returns-then-left-n : goal.returns-then-left-n
returns-then-left-n c =
    let a = c.args in
    let r = c.ended-then-left-n.result in
    let e = c.ended-then-left-n.ensures in
    (omega (arith, e.0, c.requires), nothing_read (row_of a.zone) (length a.carried.now) a.carried.now c.read_some.new.piece a.reading.job r.job r.got e.2 e.1, refl)

pub returns-then-next : goal.returns-then-next
returns-then-next c =
    let a = c.args in
    let f = c.feed_read-next in
    let e = c.ended-then-next.ensures in
    let row = row_of a.zone in
    let room = length a.carried.now in
    let ended : state_of c.ended-then-next.result.job f.new.carried ≡ state_of f.result f.new.carried = ap (λ (j : Job). state_of j f.new.carried) e.2 in
    let got = ap (λ (k : ℕ). fed row room (state_of a.reading.job a.carried.now) (take k c.read_some.new.piece)) e.1 in
    (omega (arith, e.0, c.requires), ended ∙ f.ensures.0 ∙ sym got, f.ensures.1)

-- The reads together are one text, fed from the start of the job.
use Rattle.std.proofs.Common.{take, sym, ap}
use Rattle.zones.specs.Zones.{row_of}
use Rattle.run_log.specs.declared.Job.{Job}
use Rattle.run_log.specs.Feed.{state_of}
use Rattle.log_files.proofs.TurnLaws.{going-begins, going_on, going-ends}
use Rattle.log_files.proofs.read_log.Goals as goal

pub loop-reading-init : goal.loop-reading-init
loop-reading-init c = going-begins c.line_buffer-line.result (sym c.line_buffer-line.ensures)

pub loop-reading-preserved : goal.loop-reading-preserved
loop-reading-preserved c =
    let t = c.turn-reading in
    going_on (take t.result.got t.new.piece) c.loop-reading.invariant t.ensures.1 t.ensures.2

pub returns : goal.returns
returns c =
    λ t e.
    let began = ap (λ (j : Job). state_of j c.line_buffer-line.result) e in
    going-ends (row_of c.args.zone) t c.args.as_csv c.loop-reading.reading.whole 65535 _ _ _ c.finish-done.result began c.loop-reading.invariant c.finish-done.ensures

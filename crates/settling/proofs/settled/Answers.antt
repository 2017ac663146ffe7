-- Each turn is a tick.
use mathlib.Core.Path.{sym, ◌∙◌}
use Rattle.settling.proofs.Settling.{start, ticked, again}
use Rattle.settling.proofs.settled.Goals as goal

pub loop-done-init : goal.loop-done-init
loop-done-init c = start _ _ c.requires

pub loop-done-preserved : goal.loop-done-preserved
loop-done-preserved c =
    again c.loop-done.invariant c.loop-done-test.true (sym c.busy.ensures ∙ c.if-busy.true)
    (ticked c.args.m _ _ c.requires c.work_of-work.ensures c.after_work-job.ensures c.after_tick-differing.ensures c.move_byte.ensures)

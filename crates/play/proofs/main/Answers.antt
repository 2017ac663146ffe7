-- The lines are within the output, and where more can follow few bytes are held.
use Rattle.std.proofs.Common.{rules}
use Rattle.play.proofs.Turns.{second, few, fit}
use Rattle.play.proofs.main.Goals as goal

pub slice_bounds-output-end : goal.slice_bounds-output-end
slice_bounds-output-end c = rw c.progress_of-after.ensures ((fit c.turn-turned.ensures).0)

pub slice_bounds-write_all-end : goal.slice_bounds-write_all-end
slice_bounds-write_all-end c = rw c.progress_of-after.ensures ((fit c.turn-turned.ensures).1)

pub loop-preserved : goal.loop-preserved
loop-preserved c = (
  rw c.progress_of-after.ensures
      (few c.turn-turned.ensures (rw c.progress_of-after.ensures at (second c.is_ok-printed.result _ c.if-not-printed-after.false))),
  search rules,
  search rules,
)

-- What is left is moved.
use Rattle.player.proofs.Keeping.{kept}
use Rattle.player.proofs.keep.Goals as goal

pub returns : goal.returns
returns c = rw c.copy_within.ensures.after (kept _ _ _ _ _ c.min-to.ensures c.min-from.ensures)

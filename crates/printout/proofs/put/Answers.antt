-- The characters are copied over the front.
use Rattle.printout.proofs.Text.{copied}
use Rattle.printout.proofs.put.Goals as goal

pub returns : goal.returns
returns c = rw c.copy_from_slice.ensures.after (copied _ _ c.requires)

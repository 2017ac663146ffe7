-- What falls at each call of `checksum` is the number of bytes left.
use Rattle.nvr.proofs.image.+checksum.Given as goal

abbrev pub decreases-checksum : goal.decreases-checksum
decreases-checksum l = l.left

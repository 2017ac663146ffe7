-- A word of common bits is other than 0 exactly when one is set.
use Rattle.words.proofs.Laws.{share-and}
use Rattle.words.proofs.share.Goals as goal

pub returns : goal.returns
returns c = share-and c.args.a c.args.b c.ranges.b.fits

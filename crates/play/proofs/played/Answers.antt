-- There is room for all lines of the block.
use Rattle.std.proofs.Common.{arith}
use Rattle.play.proofs.Turns.{block_played}
use Rattle.play.proofs.played.Goals as goal

pub returns : goal.returns
returns c =
    block_played c.args.player _ _ _ _ _ _ c.args.last _ c.requires (omega (arith, c.told-input, c.told-output)) c.play-block.ensures
    c.keep-held.ensures

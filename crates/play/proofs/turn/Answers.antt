-- What a read brought is played, and counts no bytes but those that there is room for.
use Rattle.std.proofs.Common.{arith, refl}
use Rattle.play.specs.Turn.{fails}
use Rattle.play.proofs.Turns.{came}
use Rattle.play.proofs.turn.Goals as goal

pub returns-in_default : goal.returns-in_default
returns-in_default c = rw c.in_default.is (fails refl refl)

pub returns : goal.returns
returns c = rw c.in-Some.is (came _ _ (omega (arith, c.min-count.ensures, c.told-input)) c.played.ensures)

-- Each turn plays one record and writes its line.
use Rattle.std.proofs.Common.{◌-◌}
use Rattle.player.proofs.Playing.{Playing}
use Rattle.player.proofs.Player.play.Given as goal

abbrev pub invariant-loop : goal.invariant-loop
invariant-loop l = Playing l.fn.self l.fn.block l.fn.last l.fn.out l.self l.out l.at l.written (l.end - l.counter)

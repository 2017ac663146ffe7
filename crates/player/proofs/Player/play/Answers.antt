-- Each turn plays one record and writes its line; with no room left, or nothing shown, the block is played.
use Rattle.std.proofs.Common.{arith, length, ◌+◌, ◌-◌, ◌/◌}
use Rattle.player.proofs.Playing.{more, spent, ended}
use Rattle.player.proofs.Player.play.Goals as goal

pub loop-preserved : goal.loop-preserved
loop-preserved c =
    more _ _ _ _ _ _ _ _ _ c.loop.invariant _ c.step-step.ensures _ (omega (arith, c.loop-test.true)) c.in-Some.is c.write-written.ensures

pub returns-after-loop : goal.returns-after-loop
returns-after-loop c = spent _ _ _ _ _ _ _ _ _ c.loop.invariant (omega (arith, c.loop-test.false))

pub returns-in_default : goal.returns-in_default
returns-in_default c =
    ended _ _ _ _ _ _ _ _ _ c.loop.invariant _ c.step-step.ensures (length c.args.out.now / 30 - (c.loop.counter + 1)) (omega (arith, c.loop-test.true)) c.in_default.is

-- Each turn is a tick.
use Prim.Native.Nat.{◌-◌}
use Rattle.xenpak.specs.Calls.{with_bytes}
use Rattle.settling.proofs.Settling.{Settling}
use Rattle.settling.proofs.settled.Given as goal

abbrev pub invariant-loop-done : goal.invariant-loop-done
invariant-loop-done l = Settling l.fn.budget l.fn.m (with_bytes l.store l.copy l.differing l.job l.fn.m) l.done

abbrev pub decreases-loop-done : goal.decreases-loop-done
decreases-loop-done l = l.budget - l.done

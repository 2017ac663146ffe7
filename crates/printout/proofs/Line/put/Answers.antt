-- The parts of a line are put one behind the other, and there is room for each.
use Rattle.std.proofs.Common.{arith}
use Rattle.printout.proofs.Text.{then, behind, line_length, line_is}
use Rattle.printout.proofs.Line.put.Goals as goal

pub returns : goal.returns
returns c =
    let size = line_length c.args.self in
    let index = c.put_decimal-end.ensures in
    let kind = behind _ _ _ c.put_kind-end.ensures (omega (arith, size, index.ends)) (omega (arith, size, index.ends)) in
    let refusal = behind _ _ _ c.put_refusal-end.ensures (omega (arith, size, kind.ends, index.ends)) (omega (arith, size, kind.ends, index.ends)) in
    let alarm = behind _ _ _ (rw c.alarm_digit.ensures at c.put.ensures) (omega (arith, size, refusal.ends, kind.ends, index.ends)) (omega (arith, size, refusal.ends, kind.ends, index.ends)) in
    rw (line_is c.args.self) (then (then (then index kind) refusal) alarm)

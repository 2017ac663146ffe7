-- There is room for the longest line, and so for this one.
use Rattle.std.proofs.Common.{arith, rules}
use Rattle.printout.proofs.Text.{at_most, behind, room}
use Rattle.printout.proofs.Line.write.Goals as goal

pub returns : goal.returns
returns c =
    let short = at_most c.args.self (search rules) (search rules) in
    room short (omega arith) (behind _ _ _ c.put.ensures (omega arith) (omega (arith, short)))

-- The kit's digits are those of the definition.
use Rattle.std.proofs.Common.{rules}
use Rattle.printout.proofs.Text.{decimal_is}
use Rattle.printout.proofs.put_decimal.Goals as goal

pub put-requires : goal.put-requires
put-requires c =
    rw (decimal_is _ _ _ (search rules) c.decimal-count.ensures.len c.decimal-count.ensures.digits) c.requires

pub returns : goal.returns
returns c =
    rw (decimal_is _ _ _ (search rules) c.decimal-count.ensures.len c.decimal-count.ensures.digits) at c.put.ensures

-- A 16-bit word has no bit from 16 on.
use mathlib.Core.Path.{sym}
use native.Mathlib.Omega.{arith}
use Rattle.words.proofs.Laws.{bit-above}
use Rattle.words.proofs.bit.Goals as goal

pub returns : goal.returns
returns c = sym (bit-above 16 c.args.i c.args.word c.ranges.word.fits (omega arith))

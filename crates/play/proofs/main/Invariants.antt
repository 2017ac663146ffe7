-- What is held of a block leaves room for more of the input.
use Rattle.std.proofs.Common.{◌≡◌, ◌≤◌, length}
use Rattle.play.proofs.main.Given as goal

abbrev pub invariant-loop : goal.invariant-loop
invariant-loop l = (l.held ≤ 8) × (length l.input ≡ 8192) × (length l.output ≡ 245760)

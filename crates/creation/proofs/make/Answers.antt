-- Refused, making gives the blank module.
use mathlib.Core.Path.{sym, ◌∙◌}
use Rattle.store.specs.Bytes.{zeros}
use Rattle.creation.specs.Creation.{judged, fresh, blank, make}
use Rattle.creation.proofs.Judging.{refused}
use Rattle.creation.proofs.make.Goals as goal

pub returns-in-Err : goal.returns-in-Err
unfolding make zeros
returns-in-Err c =
    rw (c.fresh.ensures)
    (refused (judged c.args.port c.args.image.now c.args.thresholds.now) blank (fresh c.args.port c.args.image.now c.args.thresholds.now) (sym c.checked.ensures ∙ c.in-Err.is))

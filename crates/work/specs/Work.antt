-- A job's ticks. Document 01, "Load, burn, cut".
-- Assumes nothing.
use Rattle.std.specs.Prelude.{◌+◌, Bool, cond, eqb, ltb}
use Rattle.jobs.specs.Job.{none, burn, done}
use Rattle.jobs.specs.declared.Job.{Job}
use Rattle.work.specs.declared.Work.{Work}
use Rattle.work.specs.declared.Work.TheVariants.{Refused, Nothing, Load, Burn}

-- what a tick is to do: the byte due; refusal 7 when the module is off
abbrev pub work_of : Bool → Job → Work
work_of powered j =
    cond powered (cond (eqb j.kind none) Nothing (cond (eqb j.kind burn) (Burn j.due) (Load j.due))) Refused

-- after a byte the next offset is due; the last makes status done
abbrev pub advanced : Job → Job
advanced j =
    cond (ltb j.due j.last)
    (record { due = j.due + 1; last = j.last; ended = j.ended; kind = j.kind })
    (record { due = j.due; last = j.last; ended = done; kind = none })

-- after a tick
abbrev pub after_work : Job → Work → Job
after_work j Refused = j
after_work j Nothing = j
after_work j (Load due) = advanced j
after_work j (Burn due) = advanced j

-- Settling (document 01: settling): ticks until no job is due or the budget is spent.
-- Assumes nothing.
use Rattle.std.specs.Prelude.{ℕ, zero, suc, ◌+◌, ◌-◌, min, cond, eqb, Ok, Err}
use Rattle.jobs.specs.Job.{none}
use Rattle.jobs.specs.declared.Job.{Job}
use Rattle.xenpak.specs.Calls.{tick}
use Rattle.answers.specs.Answers.{Answer}
use Rattle.answers.specs.declared.Refusal.TheVariants.{PoweredOff}
use Rattle.xenpak.specs.declared.Module.{Module}
use Rattle.xenpak.specs.declared.Outcome.{Outcome}

-- the record after n ticks
unfoldable pub ticks : ℕ → Module → Module
ticks zero m = m
ticks (suc n) m = (tick (ticks n m)).next

-- the ticks due: the job's remaining bytes
abbrev pub due : Job → ℕ
due j = cond (eqb j.kind none) 0 (j.last - j.due + 1)

-- the count is the lesser of budget and ticks due, and settling stands for that many ticks
abbrev pub settled : Module → ℕ → Outcome (Answer ℕ)
settled m budget =
    record { next = ticks (min budget (due m.job)) m; answer = Ok (min budget (due m.job)) }

-- refused with 7 when off
unfoldable pub settle : Module → ℕ → Outcome (Answer ℕ)
settle m budget = cond m.powered (settled m budget) (record { next = m; answer = Err PoweredOff })

-- Settling answers by the model, and stands for its count of ticks.
-- Assumes nothing.
use Prim.Native.Nat.{ℕ, zero, suc, ◌+◌, ◌-◌, min}
use mathlib.Core.Bool.{Bool, true, false, cond}
use mathlib.Core.List.{[], ◌∷◌}
use mathlib.Core.Path.{◌≡◌, refl, ap, ◌∙◌}
use lib.Dec.{eqb}
use lib.ListN.{replicate}
use Rattle.std.specs.Prelude.{Err}
use Rattle.jobs.specs.declared.Job.{Job}
use Rattle.answers.specs.Answers.{Answer, said_settle}
use Rattle.answers.specs.declared.Refusal.TheVariants.{PoweredOff}
use Rattle.xenpak.specs.Calls.{tick}
use Rattle.xenpak.specs.declared.Module.{Module}
use Rattle.calls.specs.Calls.{step, run}
use Rattle.calls.specs.declared.Call.TheVariants.{Tick}
use Rattle.settling.specs.Settling.{ticks, due, settled, settle}
use Rattle.xenpak.specs.declared.Outcome.{Outcome}
use Rattle.guarantees.specs.Reference as job
use Rattle.guarantees.specs.Behaviour.{says, refused, ticks_due, settle_count, settle_said}
use Rattle.guarantees.proofs.Transition.{job_ref, reference_of}

ticks-first : (n : ℕ) (m : Module) → ticks (suc n) m ≡ ticks n (tick m).next
unfolding ticks
ticks-first zero m = refl
ticks-first (suc n) m = ap (λ (x : Module). (tick x).next) (ticks-first n m)

ticks-run : (n : ℕ) (m : Module) → ticks n m ≡ run m (replicate n Tick)
unfolding ticks run step
ticks-run zero m = refl
ticks-run (suc n) m = ticks-first n m ∙ ticks-run n (tick m).next

due_is : (j : Job) → due j ≡ ticks_due (job_ref j)
due_is j = go (eqb j.kind 0) (eqb j.kind 2)
  where
    go : (none burns : Bool)
        → cond none 0 (j.last - j.due + 1) ≡ ticks_due (cond none job.none (cond burns (job.burn j.due j.last) (job.load j.due j.last)))
    go true burns = refl
    go false true = refl
    go false false = refl

module _ (m : Module) (budget : ℕ) where
  abbrev outcome : Bool → Outcome (Answer ℕ)
  outcome powered = cond powered (settled m budget) (record { next = m; answer = Err PoweredOff })

  abbrev count : ℕ
  count = min budget (ticks_due (job_ref m.job))

  pub settle-said : said_settle (settle m budget).answer ≡ settle_said (reference_of m) budget
  unfolding settle
  settle-said = go m.powered
    where
      go : (b : Bool) → said_settle (outcome b).answer ≡ cond b (says 1 (cond b count 0 ∷ [])) (refused 7)
      go true = ap (λ (d : ℕ). says 1 (min budget d ∷ [])) (due_is m.job)
      go false = refl

  pub settle-ticks : (settle m budget).next ≡ run m (replicate (settle_count (reference_of m) budget) Tick)
  unfolding settle run
  settle-ticks = go m.powered
    where
      go : (b : Bool) → (outcome b).next ≡ run m (replicate (cond b count 0) Tick)
      go true = ticks-run (min budget (due m.job)) m ∙ ap (λ (d : ℕ). run m (replicate (min budget d) Tick)) (due_is m.job)
      go false = refl

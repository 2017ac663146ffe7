-- Settling: the loop's invariant.
-- Assumes nothing.
use Prim.Native.Nat.{ℕ, ◌+◌, ◌≤◌, ◌<◌}
use native.Mathlib.Numerals.{add-one}
use native.Mathlib.Omega.{arith}
use mathlib.Core.Bool.{Bool, true, false}
use mathlib.Core.List.{List}
use mathlib.Core.Path.{◌≡◌, refl, sym, ap, ◌∙◌}
use lib.Dec.{eqb, ltb}
use borrow.Author.Tests.{ltb-true, ltb-false}
use Rattle.jobs.specs.Job.{none, burn, is_busy}
use Rattle.work.specs.Work.{work_of, after_work}
use Rattle.work.specs.declared.Work.{Work}
use Rattle.store.specs.Bytes.{Moved}
use Rattle.differing.specs.Differing.{differing_ticked}
use Rattle.jobs.specs.declared.Job.{Job}
use Rattle.differing.specs.declared.Differing.{Differing}
use Rattle.xenpak.specs.Calls.{with_bytes, tick}
use Rattle.settling.specs.Settling.{ticks, due}
use Rattle.answers.specs.declared.TickAnswer.{TickAnswer}
use Rattle.xenpak.specs.declared.Module.{Module}

-- after a byte one tick fewer is due
byte-done : (j : Job) → is_busy j ≡ true → due (after_work j (work_of true j)) + 1 ≡ due j
byte-done j h = go (eqb j.kind none) (eqb j.kind burn) (ltb j.due j.last) refl refl refl
  where
    go : (b c d : Bool) → eqb j.kind none ≡ b → eqb j.kind burn ≡ c → ltb j.due j.last ≡ d → due (after_work j (work_of true j)) + 1 ≡ due j
    go true c d p q r = absurd (let z : ◌≡◌ {A = ℕ} 0 1 = cc in omega arith)
    go false true true p q r = rw (p, q, r, p) (omega (arith, ltb-true j.due j.last r))
    go false true false p q r = rw (p, q, r) (omega (arith, ltb-false j.due j.last r))
    go false false true p q r = rw (p, q, r, p) (omega (arith, ltb-true j.due j.last r))
    go false false false p q r = rw (p, q, r) (omega (arith, ltb-false j.due j.last r))

tick-done : (m : Module) → m.powered ≡ true → is_busy m.job ≡ true → due (tick m).next.job + 1 ≡ due m.job
unfolding tick
tick-done m on h = rw on (byte-done m.job h)

tick-powered : (m : Module) → (tick m).next.powered ≡ m.powered
unfolding tick
tick-powered m = refl

-- m₀ settles within a budget: so many ticks are done, and the record is m
pub record Settling (budget : ℕ) (m₀ m : Module) (done : ℕ) : Type 0 where
  pub within : done ≤ budget
  pub after : m ≡ ticks done m₀
  pub powered : m.powered ≡ true
  pub left : done + due m.job ≡ due m₀.job

pub start : (budget : ℕ) (m : Module) → m.powered ≡ true → Settling budget m m 0
unfolding ticks
start budget m on = record { within = omega arith; after = refl; powered = on; left = omega arith }

-- a tick, made on the parts
pub ticked : (m : Module) (j : Job) (d : Differing) {j' : Job} {d' : Differing} {s s' c c' : List ℕ} {w : Work} {a : TickAnswer} → m.powered ≡ true
    → w ≡ work_of true j → j' ≡ after_work j w → d' ≡ differing_ticked d s c w → Moved s c w a s' c' → with_bytes s' c' d' j' m ≡ (tick (with_bytes s c d j m)).next
unfolding tick
ticked m j d on p q r moved = rw (q, r, moved.store, moved.copy, p, on)

pub again : {budget done : ℕ} {m₀ m n : Module} → Settling budget m₀ m done → done < budget → is_busy m.job ≡ true → n ≡ (tick m).next → Settling budget m₀ n (done + 1)
unfolding ticks
again {budget} {done} {m₀} {m} {n} s h e p =
    record {
      within = omega arith;
      after = p ∙ (ap (λ (x : Module). (tick x).next) s.after ∙ ap (λ (k : ℕ). ticks k m₀) (sym (add-one done)));
      powered = ap (λ (x : Module). x.powered) p ∙ (tick-powered m ∙ s.powered);
      left = omega (arith, ap (λ (x : Module). due x.job) p, tick-done m s.powered e, s.left);
    }

-- A tick did what it answers.
-- Assumes nothing.
use Prim.Native.Nat.{ℕ}
use native.Mathlib.Omega.{arith}
use mathlib.Core.List.{List}
use mathlib.Core.Path.{◌≡◌, refl, ap₂}
use lib.ListN.{set}
use Rattle.work.specs.Work.{work_of}
use Rattle.work.specs.declared.Work.{Work}
use Rattle.work.specs.declared.Work.TheVariants as work
use Rattle.store.specs.Bytes.{tick_answer, loaded_copy, burned_store}
use Rattle.answers.specs.declared.TickAnswer.TheVariants.{Loaded, Burned}
use Rattle.xenpak.specs.Calls.{tick}
use Rattle.xenpak.specs.declared.Module.{Module}
use Rattle.guarantees.specs.Guarantees.{TickTells}

module _ (s c : List ℕ) (o b : ℕ) where
  loads : (w : Work) → tick_answer s c w ≡ Loaded o b → (loaded_copy s c w ≡ set c o b) × (burned_store s c w ≡ s)
  loads work.Refused e = absurd (let z : ◌≡◌ {A = ℕ} 0 1 = cc in omega arith)
  loads work.Nothing e = absurd (let z : ◌≡◌ {A = ℕ} 0 1 = cc in omega arith)
  loads (work.Load due) e = (ap₂ (set c) (cc) (cc), refl)
  loads (work.Burn due) e = absurd (let z : ◌≡◌ {A = ℕ} 0 1 = cc in omega arith)

  burns : (w : Work) → tick_answer s c w ≡ Burned o b → (burned_store s c w ≡ set s o b) × (loaded_copy s c w ≡ c)
  burns work.Refused e = absurd (let z : ◌≡◌ {A = ℕ} 0 1 = cc in omega arith)
  burns work.Nothing e = absurd (let z : ◌≡◌ {A = ℕ} 0 1 = cc in omega arith)
  burns (work.Load due) e = absurd (let z : ◌≡◌ {A = ℕ} 0 1 = cc in omega arith)
  burns (work.Burn due) e = (ap₂ (set s) (cc) (cc), refl)

pub tick-tells : (m : Module) → TickTells m
unfolding tick
tick-tells m =
    record {
      loaded = λ o b. loads m.store m.copy o b (work_of m.powered m.job);
      burned = λ o b. burns m.store m.copy o b (work_of m.powered m.job);
    }

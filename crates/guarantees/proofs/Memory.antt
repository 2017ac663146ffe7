-- What a module remembers since power-on or reset is what its model does: the first load, the counter, the last sample, the
-- byte held.
-- Assumes nothing.
use Prim.Native.Nat.{ℕ, ◌+◌, ◌-◌, ◌<◌, min}
use native.Mathlib.Omega.{arith}
use borrow.Author.Tests.{ltb-true, ltb-false, eqb-true, ne_eqb, not-false}
use mathlib.Core.Bool.{Bool, true, false, cond}
use mathlib.Core.Path.{◌≡◌, refl, sym, ap, ◌∙◌, subst}
use lib.Dec.{eqb, ltb}
use Rattle.registers.specs.Map.{register_at}
use Rattle.nvr.specs.Command.{command_of}
use Rattle.nvr.specs.declared.command.Command.{Command}
use Rattle.nvr.specs.declared.command.Command.TheVariants as command
use Rattle.jobs.specs.Job as job
use Rattle.jobs.specs.Job.{is_busy}
use Rattle.jobs.specs.declared.Job.{Job}
use Rattle.work.specs.Work.{work_of, after_work}
use Rattle.bus.specs.Bus.{one_more}
use Rattle.dom.specs.declared.Sample.{Sample}
use Rattle.monitor.specs.Monitor as monitor
use Rattle.monitor.specs.Monitor.{after_read}
use Rattle.monitor.specs.declared.Monitor.{Monitor}
use Rattle.answers.specs.Answers.{Said}
use Rattle.xenpak.specs.declared.Module.{Module}
use Rattle.guarantees.specs.Behaviour.{Memory, no_memory, remember}
use Rattle.guarantees.proofs.Located.{located}
use Rattle.guarantees.proofs.Reading.{idled, HeldSound, none, Holds, held_by, reads_at}
use Rattle.guarantees.proofs.Transition.{Reaction, Transition, unchanged, powering, cutting, resetting, ticking, lining, sampling, addressing, commanding, writing, controlling, reading}

-- ---- the first load: its ticks left are its bytes left
pub data FirstSound (left : ℕ) (j : Job) : Type 0 where
  running : j.kind ≡ 3 → j.due + left ≡ 256 → j.last ≡ 255 → 0 < left → FirstSound left j
  over : eqb j.kind 3 ≡ false → left ≡ 0 → FirstSound left j

read_first : {left : ℕ} (j : Job) (a : ℕ) → FirstSound left j → FirstSound left (job.after_read j (register_at a))
read_first {left} j a f = subst (FirstSound left) (sym ((reads_at (located a)).job j)) (go (eqb a 0x8000) f)
  where
    go : (b : Bool) → FirstSound left j → FirstSound left (cond b (idled j) j)
    go true (running k d l p) = running k d l p
    go true (over k z) = over k z
    go false f = f

command_first : (c : Command) → eqb (job.command_job c).kind 3 ≡ false
command_first command.LoadAll = refl
command_first (command.LoadByte offset) = refl
command_first command.BurnCustomer = refl
command_first (command.BurnByte offset) = refl
command_first command.Failed = refl

-- a command is taken only when no job is left
start_first : {left : ℕ} (j : Job) (v : ℕ) → is_busy j ≡ false → FirstSound left j → FirstSound left (job.command_job (command_of v))
start_first j v free (running k d l p) = absurd (let z : j.kind ≡ 0 = eqb-true j.kind 0 (not-false (eqb j.kind 0) free) in omega arith)
start_first j v free (over k z) = over (command_first (command_of v)) z

tick-first : {left : ℕ} (j : Job) → FirstSound left j → FirstSound (left - 1) (after_work j (work_of true j))
tick-first {left} j (running k d l p) = go (ltb j.due j.last) refl
  where
    a : eqb j.kind 0 ≡ false
    a = ne_eqb j.kind 0 (λ e. omega arith)

    b : eqb j.kind 2 ≡ false
    b = ne_eqb j.kind 2 (λ e. omega arith)

    go : (m : Bool) → ltb j.due j.last ≡ m → FirstSound (left - 1) (after_work j (work_of true j))
    go true e = let n = ltb-true j.due j.last e in rw (a, b, e) (running k (omega arith) l (omega arith))
    go false e = let n = ltb-false j.due j.last e in rw (a, b, e) (over refl (omega arith))
tick-first {left} j (over k z) = go (eqb j.kind 0) (eqb j.kind 2) (ltb j.due j.last) refl refl refl
  where
    go : (b c m : Bool) → eqb j.kind 0 ≡ b → eqb j.kind 2 ≡ c → ltb j.due j.last ≡ m → FirstSound (left - 1) (after_work j (work_of true j))
    go true c m p q e = rw p (over k (omega arith))
    go false true true p q e = rw (p, q, e) (over k (omega arith))
    go false true false p q e = rw (p, q, e) (over refl (omega arith))
    go false false true p q e = rw (p, q, e) (over k (omega arith))
    go false false false p q e = rw (p, q, e) (over refl (omega arith))

-- ---- the counter
one_more_lem : (n : ℕ) → one_more (min n 65535) ≡ min (n + 1) 65535
one_more_lem n = go (ltb (min n 65535) 0xffff) refl
  where
    go : (b : Bool) → ltb (min n 65535) 0xffff ≡ b → cond b (min n 65535 + 1) (min n 65535) ≡ min (n + 1) 65535
    go true e = let h = ltb-true (min n 65535) 0xffff e in omega arith
    go false e = let h = ltb-false (min n 65535) 0xffff e in omega arith

-- ---- all of it
pub record MemorySound (k : Memory) (j : Job) (counter : ℕ) (monitor : Monitor) : Type 0 where
  pub first : FirstSound k.loading j
  pub count : counter ≡ min k.answered 65535
  pub sample : monitor.sample ≡ k.sample
  pub held : HeldSound monitor.held monitor.quantity monitor.byte k.held

abbrev pub Remembers : Memory → Module → Type 0
Remembers k m = MemorySound k m.job m.bus.counter m.monitor

pub no-memory : MemorySound (no_memory 0) job.no_job 0 monitor.no_monitor
no-memory = record { first = over refl refl; count = refl; sample = refl; held = none }

started : MemorySound (no_memory 256) job.first_load 0 monitor.no_monitor
started = record { first = running refl refl refl (omega arith); count = refl; sample = refl; held = none }

pub memory_sound : {m n : Module} {x : Said} {y : Reaction} → Transition m n x y → (k : Memory) → Remembers k m → Remembers (remember y.event k) n
memory_sound (unchanged p q) k ok = subst (Remembers k) (sym p) ok
memory_sound powering k ok = started
memory_sound (cutting cut) k ok = ok
memory_sound (resetting on) k ok = started
memory_sound {m} ticking k ok = record { first = tick-first m.job ok.first; count = ok.count; sample = ok.sample; held = ok.held }
memory_sound (lining l) k ok = ok
memory_sound (sampling s) k ok = record { first = ok.first; count = ok.count; sample = refl; held = ok.held }
memory_sound (addressing a) k ok = ok
memory_sound {m} (commanding v free) k ok = record { first = start_first m.job v free ok.first; count = ok.count; sample = ok.sample; held = ok.held }
memory_sound (writing offset v at) k ok = ok
memory_sound (controlling i j mask law v) k ok = ok
memory_sound {m} (reading increment) k ok =
    let a = m.bus.address in
    record {
      first = read_first m.job a ok.first;
      count = ap one_more ok.count ∙ one_more_lem k.answered;
      sample = (reads_at (located a)).sample m.monitor ∙ ok.sample;
      held =
          subst (λ (s : Sample). Holds (monitor.after_read m.monitor (register_at a)) (held_by a s k.held)) ok.sample
          ((reads_at (located a)).held m.monitor k.held ok.held);
    }

-- What a read does at each address: to the job, the alarms, the last sample and the byte held.
-- Assumes nothing.
use Prim.Native.Nat.{ℕ, ◌+◌, ◌%◌}
use native.Mathlib.Omega.{arith}
use borrow.Author.Tests.{ne_eqb}
use mathlib.Core.Bool.{Bool, true, false, cond, not, ◌&&◌}
use mathlib.Core.Path.{◌≡◌, refl, sym, ap, ◌∙◌, subst}
use lib.Dec.{eqb}
use lib.IntN.{ℤ, pos, negsuc}
use Rattle.registers.specs.declared.Register.{Register}
use Rattle.jobs.specs.Job as job
use Rattle.jobs.specs.declared.Job.{Job}
use Rattle.dom.specs.declared.Sample.{Sample}
use Rattle.monitor.specs.Monitor as monitor
use Rattle.monitor.specs.declared.Monitor.{Monitor}
use Rattle.latch.specs.Latch.{cleared}
use Rattle.alarms.specs.Alarms as alarms
use Rattle.alarms.specs.declared.Alarms.{Alarms}
use Rattle.guarantees.specs.Behaviour.{high_at, low_at, bits_of, code_at, Held, nothing_held, held_at, held_after_low}
use Rattle.guarantees.proofs.Located.{single, Located, apart, at0000, at8000, copy, customer, at9000, at9001, at9002, at9003, at9004, at9005, at9006, at9007, threshold, ata060, ata061, ata064, ata065, ata066, ata067, ata068, ata069, ata070, ata071, ata074, ata075, unlisted}

-- ---- the job and the alarms
-- a job that ended is idle once it was shown
abbrev pub idled : Job → Job
idled j = job.job j.kind j.due j.last

-- a read clears what it is from
unfoldable pub read_alarms : ℕ → Alarms → Alarms
read_alarms a x =
    record {
      controls = x.controls;
      rxfaults = cond (eqb a 0x9003) (cleared x.rxfaults) x.rxfaults;
      txfaults = cond (eqb a 0x9004) (cleared x.txfaults) x.txfaults;
      txalarm = cond (eqb a 0xa070) (cleared x.txalarm) x.txalarm;
      rxalarm = cond (eqb a 0xa071) (cleared x.rxalarm) x.rxalarm;
      txwarning = cond (eqb a 0xa074) (cleared x.txwarning) x.txwarning;
      rxwarning = cond (eqb a 0xa075) (cleared x.rxwarning) x.rxwarning;
      link = x.link;
      changed = cond (eqb a 0x9005) false x.changed;
    }

-- ---- the byte held
pub bits_are : (t : ℤ) → monitor.bits_of t ≡ bits_of t
bits_are (pos n) = refl
bits_are (negsuc n) = omega arith

-- the number of a quantity, and the address of its low byte
pub data Low : ℕ → ℕ → Type 0 where
  low0 : Low 0 0xa061
  low1 : Low 1 0xa065
  low2 : Low 2 0xa067
  low3 : Low 3 0xa069

pub alike : {q k a b : ℕ} → Low q a → Low k b → eqb q k ≡ eqb b a
alike low0 low0 = refl
alike low0 low1 = refl
alike low0 low2 = refl
alike low0 low3 = refl
alike low1 low0 = refl
alike low1 low1 = refl
alike low1 low2 = refl
alike low1 low3 = refl
alike low2 low0 = refl
alike low2 low1 = refl
alike low2 low2 = refl
alike low2 low3 = refl
alike low3 low0 = refl
alike low3 low1 = refl
alike low3 low2 = refl
alike low3 low3 = refl

is-low : {q b : ℕ} → Low q b → low_at b ≡ true
is-low low0 = refl
is-low low1 = refl
is-low low2 = refl
is-low low3 = refl

-- whether a byte is held, of which quantity, and the byte, beside the model's
pub data HeldSound : Bool → ℕ → ℕ → Held → Type 0 where
  none : {q byte : ℕ} → HeldSound false q byte nothing_held
  some : {q a byte : ℕ} → Low q a → HeldSound true q byte (held_at a byte)

abbrev pub Holds : Monitor → Held → Type 0
Holds m x = HeldSound m.held m.quantity m.byte x

-- what is held after a read at an address
abbrev pub held_by : ℕ → Sample → Held → Held
held_by a s x = cond (high_at a) (held_at (a + 1) (code_at s a % 256)) (held_after_low x a)

stays : (a : ℕ) → high_at a ≡ false → low_at a ≡ false → (s : Sample) {b : Bool} {q byte : ℕ} {x : Held} → HeldSound b q byte x → HeldSound b q byte (held_by a s x)
stays a f g s none = rw f none
stays a f g s (some {a = c} k) = rw (f, ne_eqb a c (λ e. let z : true ≡ false = sym (is-low k) ∙ ap low_at (sym e) ∙ g in let y : ◌≡◌ {A = ℕ} 0 1 = cc in omega arith)) (some k)

forgets : {k c q byte : ℕ} {b : Bool} {x : Held} → Low k c → HeldSound b q byte x → HeldSound (b && not (eqb q k)) q byte (held_after_low x c)
forgets n none = none
forgets {k} {c} {q} {byte} n (some {a = a} i) = subst (λ (t : Bool). HeldSound (not (eqb q k)) q byte (cond t nothing_held (held_at a byte))) (alike i n) (go (eqb q k))
  where
    go : (t : Bool) → HeldSound (not t) q byte (cond t nothing_held (held_at a byte))
    go true = none
    go false = some i

-- ---- all of it
pub record Reads (a : ℕ) (r : Register) : Type 0 where
  pub job : (j : Job) → job.after_read j r ≡ cond (eqb a 0x8000) (idled j) j
  pub alarms : (x : Alarms) → alarms.after_read x r ≡ read_alarms a x
  pub sample : (m : Monitor) → (monitor.after_read m r).sample ≡ m.sample
  pub held : (m : Monitor) (x : Held) → Holds m x → Holds (monitor.after_read m r) (held_by a m.sample x)

-- an address where a read holds and forgets nothing, and leaves these alone
plainly : (a : ℕ) (r : Register) → high_at a ≡ false → low_at a ≡ false → ((j : Job) → job.after_read j r ≡ cond (eqb a 0x8000) (idled j) j)
    → ((x : Alarms) → alarms.after_read x r ≡ read_alarms a x) → ((m : Monitor) → monitor.after_read m r ≡ m) → Reads a r
plainly a r f g j x e =
    record {
      job = j;
      alarms = x;
      sample = λ m. ap (λ (n : Monitor). n.sample) (e m);
      held = λ m y ok. subst (λ (n : Monitor). Holds n (held_by a m.sample y)) (sym (e m)) (stays a f g m.sample ok);
    }

-- one that has no register of its own
unread : (a : ℕ) (r : Register) → single a ≡ false → ((j : Job) → job.after_read j r ≡ j) → ((x : Alarms) → alarms.after_read x r ≡ x)
    → ((m : Monitor) → monitor.after_read m r ≡ m) → Reads a r
unfolding read_alarms
unread a r s j x e =
    plainly a r (rw (apart a s 0xa060 refl, apart a s 0xa064 refl, apart a s 0xa066 refl, apart a s 0xa068 refl))
    (rw (apart a s 0xa061 refl, apart a s 0xa065 refl, apart a s 0xa067 refl, apart a s 0xa069 refl))
    (λ k. rw (apart a s 0x8000 refl) (j k))
    (λ y. rw (apart a s 0x9003 refl, apart a s 0x9004 refl, apart a s 0x9005 refl, apart a s 0xa070 refl, apart a s 0xa071 refl, apart a s 0xa074 refl, apart a s 0xa075 refl) (x y)) e

pub reads_at : {a : ℕ} {r : Register} → Located a r → Reads a r
unfolding read_alarms
reads_at {a} {r} at0000 = plainly a r refl refl (λ j. refl) (λ x. refl) (λ m. refl)
reads_at {a} {r} at8000 = plainly a r refl refl (λ j. refl) (λ x. refl) (λ m. refl)
reads_at {a} {r} (copy s c u t) = unread a r s (λ j. refl) (λ x. refl) (λ m. refl)
reads_at {a} {r} (customer s c u t) = unread a r s (λ j. refl) (λ x. refl) (λ m. refl)
reads_at {a} {r} at9000 = plainly a r refl refl (λ j. refl) (λ x. refl) (λ m. refl)
reads_at {a} {r} at9001 = plainly a r refl refl (λ j. refl) (λ x. refl) (λ m. refl)
reads_at {a} {r} at9002 = plainly a r refl refl (λ j. refl) (λ x. refl) (λ m. refl)
reads_at {a} {r} at9003 = plainly a r refl refl (λ j. refl) (λ x. refl) (λ m. refl)
reads_at {a} {r} at9004 = plainly a r refl refl (λ j. refl) (λ x. refl) (λ m. refl)
reads_at {a} {r} at9005 = plainly a r refl refl (λ j. refl) (λ x. refl) (λ m. refl)
reads_at {a} {r} at9006 = plainly a r refl refl (λ j. refl) (λ x. refl) (λ m. refl)
reads_at {a} {r} at9007 = plainly a r refl refl (λ j. refl) (λ x. refl) (λ m. refl)
reads_at {a} {r} (threshold s c u t) = unread a r s (λ j. refl) (λ x. refl) (λ m. refl)
reads_at ata060 = record { job = λ j. refl; alarms = λ x. refl; sample = λ m. refl; held = λ m x ok. rw (← bits_are m.sample.temperature) (some low0) }
reads_at ata061 = record { job = λ j. refl; alarms = λ x. refl; sample = λ m. refl; held = λ m x ok. forgets low0 ok }
reads_at ata064 = record { job = λ j. refl; alarms = λ x. refl; sample = λ m. refl; held = λ m x ok. some low1 }
reads_at ata065 = record { job = λ j. refl; alarms = λ x. refl; sample = λ m. refl; held = λ m x ok. forgets low1 ok }
reads_at ata066 = record { job = λ j. refl; alarms = λ x. refl; sample = λ m. refl; held = λ m x ok. some low2 }
reads_at ata067 = record { job = λ j. refl; alarms = λ x. refl; sample = λ m. refl; held = λ m x ok. forgets low2 ok }
reads_at ata068 = record { job = λ j. refl; alarms = λ x. refl; sample = λ m. refl; held = λ m x ok. some low3 }
reads_at ata069 = record { job = λ j. refl; alarms = λ x. refl; sample = λ m. refl; held = λ m x ok. forgets low3 ok }
reads_at {a} {r} ata070 = plainly a r refl refl (λ j. refl) (λ x. refl) (λ m. refl)
reads_at {a} {r} ata071 = plainly a r refl refl (λ j. refl) (λ x. refl) (λ m. refl)
reads_at {a} {r} ata074 = plainly a r refl refl (λ j. refl) (λ x. refl) (λ m. refl)
reads_at {a} {r} ata075 = plainly a r refl refl (λ j. refl) (λ x. refl) (λ m. refl)
reads_at {a} {r} (unlisted s c u t) = unread a r s (λ j. refl) (λ x. refl) (λ m. refl)

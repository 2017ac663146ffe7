-- The store is the image with the burn log applied, and only customer bytes are burned.
-- Assumes nothing.
use Prim.Native.Nat.{ℕ, ◌+◌, ◌/◌, ◌%◌, ◌≤◌}
use native.Mathlib.Omega.{arith}
use mathlib.Core.Bool.{Bool, true, false, cond, not}
use mathlib.Core.List.{List, [], ◌∷◌, ◌++◌}
use mathlib.Core.Logic.{◌≢◌}
use mathlib.Core.Path.{◌≡◌, refl, sym, ap, ◌∙◌, subst}
use lib.Dec.{eqb, ltb}
use lib.ListN.{length, get_or, set, take, length-set}
use lib.Seq.{get_or-set_other, take-set-le}
use borrow.Author.Tests.{ltb-true}
use Rattle.registers.specs.Map.{register_at}
use Rattle.registers.proofs.Between.{range_true, in_range}
use Rattle.nvr.specs.Command.{kept_bits, command_of}
use Rattle.nvr.specs.declared.command.Command.{Command}
use Rattle.nvr.specs.declared.command.Command.TheVariants as command
use Rattle.jobs.specs.Job as job
use Rattle.work.specs.Work.{work_of, after_work}
use Rattle.jobs.specs.declared.Job.{Job as ModuleJob}
use Rattle.store.specs.declared.Cut.{Cut}
use Rattle.store.specs.declared.Cut.TheVariants.{Clean, Torn}
use Rattle.answers.specs.Answers.{Said}
use Rattle.calls.specs.Calls.{step, run}
use Rattle.calls.specs.declared.Call.{Call}
use Rattle.xenpak.specs.declared.Module.{Module}
use Rattle.guarantees.specs.Reference.{Job, none, load, burn, Reference, with_store, with_copy, with_address, with_word, bit, customer_offset, idle_once_shown, torn_store, cut_ref, advanced, tick_ref, command_job, commanded, read_ref, incremented, step_ref}
use Rattle.guarantees.specs.BurnLog.{Entry, tick_log, cut_log, step_log, burn_log, applied}
use Rattle.guarantees.proofs.Located.{located}
use Rattle.guarantees.proofs.Reading.{idled, reads_at}
use Rattle.guarantees.proofs.StatusWord.{kept_masked, idle, done, failed, Ended}
use Rattle.guarantees.proofs.Transition.{job_ref, reference_of, BurnSound, JobSound, Reaction, Transition, unchanged, powering, cutting, resetting, ticking, lining, sampling, addressing, commanding, writing, controlling, reading, transition, new_job, step-ref, Fixed, step_fixed}

-- ---- every job is sound
cond_all : {A : Type 0} (P : A → Type 0) (b : Bool) {x y : A} → (b ≡ true → P x) → (b ≡ false → P y) → P (cond b x y)
cond_all P true p q = p refl
cond_all P false p q = q refl

command_burns : (v : ℕ) → BurnSound (command_job v)
unfolding command_job
command_burns v =
    let o = v / 256 in
    cond_all BurnSound (eqb (v % 4) 3) (λ _. cond_all BurnSound (bit 5 v) (λ _. omega arith) (λ _. tt))
    (λ _. cond_all BurnSound (not (eqb (v % 4) 2)) (λ _. tt)
    (λ _. cond_all BurnSound (not (bit 5 v)) (λ _. tt)
    (λ _. cond_all BurnSound (customer_offset o) (λ t. let r = range_true 119 166 o t in (r.0, omega arith, r.1)) (λ _. tt))))

command_ended : (c : Command) → Ended (job.command_job c).ended
command_ended command.LoadAll = idle
command_ended (command.LoadByte offset) = idle
command_ended command.BurnCustomer = idle
command_ended (command.BurnByte offset) = idle
command_ended command.Failed = failed

command_sound : (v : ℕ) → JobSound (job.command_job (command_of v)) (kept_bits v)
command_sound v =
    record {
      kept = kept_masked v;
      ended = command_ended (command_of v);
      burns = subst BurnSound (sym (new_job v)) (command_burns v);
    }

tick_sound : (j : ModuleJob) (w : ℕ) → JobSound j w → JobSound (after_work j (work_of true j)) w
tick_sound j w h = go (eqb j.kind 0) (eqb j.kind 2) (ltb j.due j.last) refl refl refl
  where
    burning : eqb j.kind 0 ≡ false → eqb j.kind 2 ≡ true → (119 ≤ j.due) × (j.due ≤ j.last) × (j.last ≤ 166)
    burning p q = rw (p, q) at h.burns

    go : (b c d : Bool) → eqb j.kind 0 ≡ b → eqb j.kind 2 ≡ c → ltb j.due j.last ≡ d → JobSound (after_work j (work_of true j)) w
    go true c d p q r = rw p h
    go false true true p q r =
        let b = burning p q in
        let n = ltb-true j.due j.last r in
        rw (p, q, r) (record { kept = h.kept; ended = h.ended; burns = rw (p, q) (omega arith, omega arith, omega arith) })
    go false true false p q r = rw (p, q, r) (record { kept = h.kept; ended = done; burns = tt })
    go false false true p q r = rw (p, q, r) (record { kept = h.kept; ended = h.ended; burns = rw (p, q) tt })
    go false false false p q r = rw (p, q, r) (record { kept = h.kept; ended = done; burns = tt })

read_sound : (j : ModuleJob) (w : ℕ) → JobSound j w → (a : ℕ) → JobSound (job.after_read j (register_at a)) w
read_sound j w h a = subst (λ (k : ModuleJob). JobSound k w) (sym ((reads_at (located a)).job j)) (go (eqb a 0x8000))
  where
    go : (b : Bool) → JobSound (cond b (idled j) j) w
    go true = record { kept = h.kept; ended = idle; burns = h.burns }
    go false = h

pub no_job_sound : JobSound job.no_job 0
no_job_sound = record { kept = refl; ended = idle; burns = tt }

first_sound : JobSound job.first_load job.first_command
first_sound = record { kept = refl; ended = idle; burns = tt }

to_sound : {m n : Module} {x : Said} {y : Reaction} → Transition m n x y → JobSound m.job m.command → JobSound n.job n.command
to_sound (unchanged p q) h = subst (λ (x : Module). JobSound x.job x.command) (sym p) h
to_sound powering h = first_sound
to_sound (cutting cut) h = h
to_sound (resetting on) h = first_sound
to_sound {m} ticking h = tick_sound m.job m.command h
to_sound (lining l) h = h
to_sound (sampling s) h = h
to_sound (addressing a) h = h
to_sound (commanding v free) h = command_sound v
to_sound (writing offset v at) h = h
to_sound (controlling i k mask law v) h = h
to_sound {m} (reading increment) h = read_sound m.job m.command h m.bus.address

pub step_sound : (m : Module) → JobSound m.job m.command → (c : Call) → JobSound (step m c).next.job (step m c).next.command
step_sound m h c = to_sound (transition m h c) h

-- ---- the burn log
advanced-store : (more : Bool) (next : Job) (r : Reference) → (advanced more next r).store ≡ r.store
advanced-store true next r = refl
advanced-store false next r = refl

tick-store : (r : Reference) (j : Job) → (tick_ref r j).store ≡ applied (tick_log r.copy j) r.store
unfolding tick_ref applied
tick-store r none = refl
tick-store r (load due last) = advanced-store (ltb due last) (load (due + 1) last) (with_copy (set r.copy due (get_or r.store due 0)) r)
tick-store r (burn due last) = advanced-store (ltb due last) (burn (due + 1) last) (with_store (set r.store due (get_or r.copy due 0)) r)

cut_store : (s : List ℕ) (j : Job) (cut : Cut) → torn_store s j cut ≡ applied (cut_log j cut) s
unfolding applied
cut_store s none cut = refl
cut_store s (load due last) cut = refl
cut_store s (burn due last) Clean = refl
cut_store s (burn due last) (Torn byte) = refl

read-store : (r : Reference) (a : ℕ) → (read_ref r a).store ≡ r.store
unfolding read_ref
read-store r a = go (eqb a 0x8000)
  where
    go : (b : Bool) → (cond b (with_word (idle_once_shown r.word) r.job r) r).store ≡ r.store
    go true = refl
    go false = refl

reads-store : (r : Reference) (a b : ℕ) (increment : Bool) → (cond increment (with_address b (read_ref r a)) (read_ref r a)).store ≡ r.store
reads-store r a b true = read-store r a
reads-store r a b false = read-store r a

to_store : {m n : Module} {x : Said} {y : Reaction} → Transition m n x y → y.reference.store ≡ applied y.entries m.store
unfolding applied cut_ref commanded
to_store (unchanged p q) = refl
to_store powering = refl
to_store {m} (cutting cut) = cut_store m.store (job_ref m.job) cut
to_store (resetting on) = refl
to_store {m} ticking = tick-store (reference_of m) (job_ref m.job)
to_store (lining l) = refl
to_store (sampling s) = refl
to_store (addressing a) = refl
to_store (commanding v free) = refl
to_store (writing offset v at) = refl
to_store (controlling i k mask law v) = refl
to_store {m} (reading increment) = reads-store (reference_of m) m.bus.address (incremented m.bus.address) increment

applied-append : (l k : List Entry) (s : List ℕ) → applied (l ++ k) s ≡ applied k (applied l s)
unfolding applied
applied-append [] k s = refl
applied-append (e ∷ l) k s = applied-append l k (set s e.offset e.byte)

pub run_store : (m : Module) → JobSound m.job m.command → (cs : List Call)
    → (run m cs).store ≡ applied (burn_log m.port (reference_of m) cs) m.store
unfolding run burn_log applied
run_store m h [] = refl
run_store m h (c ∷ cs) =
    let n = (step m c).next in
    run_store n (step_sound m h c) cs
    ∙ ap (λ (f : Fixed). applied (burn_log f.port (reference_of n) cs) n.store) (step_fixed m h c)
    ∙ ap (λ (r : Reference). applied (burn_log m.port r cs) r.store) (step-ref m h c)
    ∙ ap (applied (burn_log m.port (step_ref m.port (reference_of m) c) cs)) (to_store (transition m h c))
    ∙ sym (applied-append (step_log (reference_of m) c) (burn_log m.port (step_ref m.port (reference_of m) c) cs) m.store)

-- ---- its entries are customer bytes
abbrev pub AllCustomer : List Entry → Type 0
AllCustomer [] = Unit {0}
AllCustomer (e ∷ l) = (customer_offset e.offset ≡ true) × AllCustomer l

all_append : (l k : List Entry) → AllCustomer l → AllCustomer k → AllCustomer (l ++ k)
all_append [] k x y = y
all_append (e ∷ l) k x y = (x.0, all_append l k x.1 y)

tick_entries : (copy : List ℕ) (j : Job) → BurnSound j → AllCustomer (tick_log copy j)
tick_entries copy none h = tt
tick_entries copy (load due last) h = tt
tick_entries copy (burn due last) h = (in_range 119 166 due (omega arith) (omega arith), tt)

cut_entries : (j : Job) (cut : Cut) → BurnSound j → AllCustomer (cut_log j cut)
cut_entries none cut h = tt
cut_entries (load due last) cut h = tt
cut_entries (burn due last) Clean h = tt
cut_entries (burn due last) (Torn byte) h = (in_range 119 166 due (omega arith) (omega arith), tt)

to_entries : {m n : Module} {x : Said} {y : Reaction} → Transition m n x y → JobSound m.job m.command → AllCustomer y.entries
to_entries (unchanged p q) h = tt
to_entries powering h = tt
to_entries {m} (cutting cut) h = cut_entries (job_ref m.job) cut h.burns
to_entries (resetting on) h = tt
to_entries {m} ticking h = tick_entries m.copy (job_ref m.job) h.burns
to_entries (lining l) h = tt
to_entries (sampling s) h = tt
to_entries (addressing a) h = tt
to_entries (commanding v free) h = tt
to_entries (writing offset v at) h = tt
to_entries (controlling i k mask law v) h = tt
to_entries (reading increment) h = tt

pub log-customer : (m : Module) → JobSound m.job m.command → (cs : List Call) → AllCustomer (burn_log m.port (reference_of m) cs)
unfolding burn_log
log-customer m h [] = tt
log-customer m h (c ∷ cs) =
    let n = (step m c).next in
    let r = step_ref m.port (reference_of m) c in
    all_append (step_log (reference_of m) c) (burn_log m.port r cs) (to_entries (transition m h c) h)
    (subst (λ (f : Fixed). AllCustomer (burn_log f.port r cs)) (step_fixed m h c)
    (subst (λ (x : Reference). AllCustomer (burn_log n.port x cs)) (step-ref m h c) (log-customer n (step_sound m h c) cs)))

-- ---- what such a log leaves
pub applied-length : (l : List Entry) (s : List ℕ) → length (applied l s) ≡ length s
unfolding applied
applied-length [] s = refl
applied-length (e ∷ l) s = applied-length l (set s e.offset e.byte) ∙ length-set s e.offset e.byte

pub applied_elsewhere : (l : List Entry) (s : List ℕ) → AllCustomer l → (i : ℕ) → customer_offset i ≡ false → get_or (applied l s) i 0 ≡ get_or s i 0
unfolding applied
applied_elsewhere [] s h i f = refl
applied_elsewhere (e ∷ l) s h i f =
    applied_elsewhere l (set s e.offset e.byte) h.1 i f ∙ get_or-set_other s e.offset i e.byte 0 apart
  where
    apart : i ≢ e.offset
    apart p = let z : true ≡ false = sym h.0 ∙ ap customer_offset (sym p) ∙ f in absurd (let y : ◌≡◌ {A = ℕ} 0 1 = cc in omega arith)

-- the bytes under the checksum
pub applied_front : (l : List Entry) (s : List ℕ) → AllCustomer l → take 119 (applied l s) ≡ take 119 s
unfolding applied
applied_front [] s h = refl
applied_front (e ∷ l) s h =
    applied_front l (set s e.offset e.byte) h.1 ∙ take-set-le 119 s e.offset e.byte (range_true 119 166 e.offset h.0).0

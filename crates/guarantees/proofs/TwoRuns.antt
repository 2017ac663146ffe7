-- Demands 2 and 3: every answer of every list, and two runs. Document 02, P3: how much is unsaved.
-- Assumes nothing.
use Prim.Native.Nat.{ℕ}
use mathlib.Core.Bool.{Bool, true, false}
use mathlib.Core.List.{List, [], ◌∷◌, ◌++◌}
use mathlib.Core.Path.{◌≡◌, refl, sym, ap, ap₂, ◌∙◌, subst, subst₂}
use lib.ListN.{length, get_or, replicate}
use Rattle.work.specs.Work.{work_of}
use Rattle.work.specs.declared.Work.{Work}
use Rattle.work.specs.declared.Work.TheVariants as work
use Rattle.store.specs.Bytes.{torn_store, zeros}
use Rattle.jobs.specs.Job.{no_job}
use Rattle.differing.specs.Differing.{counts_of, differing_cut}
use Rattle.differing.specs.declared.Differing.{Differing}
use Rattle.alarms.specs.Alarms.{no_alarms}
use Rattle.store.specs.declared.Cut.TheVariants.{Clean}
use Rattle.answers.specs.Answers.{said_settle}
use Rattle.xenpak.specs.Calls.{started, with_bytes, power_on, power_cut}
use Rattle.xenpak.specs.declared.Module.{Module}
use Rattle.reads.specs.Reads.{line_of}
use Rattle.calls.specs.Calls.{step, run}
use Rattle.calls.specs.declared.Call.{Call}
use Rattle.calls.specs.declared.Call.TheVariants.{PowerOn, Tick}
use Rattle.settling.specs.Settling.{settle}
use Rattle.creation.specs.Creation as creation
use Rattle.guarantees.specs.Reference.{none, Reference, reference, zero_controls, initial}
use Rattle.guarantees.specs.BurnLog.{Entry, burn_log, applied}
use Rattle.guarantees.specs.History.{Model, model, fresh, line_by_history}
use Rattle.guarantees.specs.Behaviour.{make_refusal, remembered, seen_by_model, along_model, settle_count, settle_said}
use Rattle.guarantees.specs.Guarantees.{answers, seen, along, ByModel, EveryAnswer, CountsUnsaved, UnsavedCount, power_cycle, TwoRuns, Demand3}
use Rattle.guarantees.proofs.Transition.{reference_of, JobSound, zeros_are, Fixed, fixed_of, step_fixed, model_of}
use Rattle.guarantees.proofs.Store.{no_job_sound, step_sound, run_store, AllCustomer, log-customer, applied-length, applied_elsewhere, applied_front}
use Rattle.guarantees.proofs.Alarms.{no-alarms, line_is}
use Rattle.guarantees.proofs.Memory.{no-memory}
use Rattle.guarantees.proofs.Unsaved.{Counted, fresh_counts, unsaved_is}
use Rattle.guarantees.proofs.EveryAnswer.{Sound, run-answers, seen_is, run_along, run_whole}
use Rattle.guarantees.proofs.Making.{make-said, make-fresh, make-accepted, make-size, refused-blank, refusal_front}
use Rattle.guarantees.proofs.Settling.{settle-said, settle-ticks}

-- ---- a fresh module goes by its model
initial_is : (p : ℕ) (image t : List ℕ) → reference_of (creation.fresh p image t) ≡ initial image
initial_is p image t = ap (λ (c : List ℕ). reference false image c 0 zero_controls 0 none) zeros_are

module _ (p : ℕ) (image t : List ℕ) where
  abbrev made : Module
  made = creation.fresh p image t

  model_is : model_of made [] ≡ fresh p image t
  model_is = ap (λ (r : Reference). model p t r []) (initial_is p image t)

  module _ (size : length image ≡ 256) where
    sound : Sound [] made
    unfolding remembered
    sound = record { job = no_job_sound; alarms = no-alarms t; memory = no-memory; counted = fresh_counts image size }

    lines_are : (cs : List Call) → along line_of made cs ≡ along_model line_by_history (fresh p image t) cs
    lines_are cs =
        run_along line_of line_by_history (λ m h ok. line_is m h ok.alarms) made [] sound cs ∙ ap (λ (k : Model). along_model line_by_history k cs) model_is

    run-counted : (cs : List Call) → Counted (run made cs)
    run-counted cs = run_whole (λ m k. Counted m) (λ m h ok. ok.counted) made [] sound cs

    by_model : (cs : List Call) → ByModel made (fresh p image t) cs
    by_model cs =
        subst (λ (k : Model). ByModel made k cs) model_is
        (record {
          answered = run-answers made [] sound cs;
          seen_alike = run_along seen seen_by_model seen_is made [] sound cs;
          settled = λ budget. run_whole (λ m k. said_settle (settle m budget).answer ≡ settle_said k.reference budget) (λ m h ok. settle-said m budget) made [] sound cs;
          ticked = λ budget. run_whole (λ m k. (settle m budget).next ≡ run m (replicate (settle_count k.reference budget) Tick)) (λ m h ok. settle-ticks m budget) made [] sound cs;
        })

pub every_answer : EveryAnswer
every_answer p image t =
    record {
      answered = make-said p image t;
      blank = refused-blank p image t;
      lives = λ e cs. subst (λ (a : Module). ByModel a (fresh p image t) cs) (sym (make-fresh p image t e)) (by_model p image t (make-size p image t e) cs);
    }

-- ---- the quick answer is the full count
pub unsaved_count : UnsavedCount
unsaved_count p image t cs e =
    subst (λ (a : Module). CountsUnsaved (run a cs)) (sym (make-fresh p image t e)) (unsaved_is (run (made p image t) cs) (run-counted p image t (make-size p image t e) cs))

-- ---- power-on starts from port, thresholds, store and its counts alone
abbrev start_from : Fixed → List ℕ → Differing → Module
start_from f s d = started true no_alarms (with_bytes s (zeros 256) d no_job (creation.fresh f.port s f.thresholds))

-- a clean cut leaves store and counts
clean_cut : (d : Differing) (s c : List ℕ) (w : Work) → (torn_store s w Clean ≡ s) × (differing_cut d s c w Clean ≡ d)
clean_cut d s c work.Refused = (refl, refl)
clean_cut d s c work.Nothing = (refl, refl)
clean_cut d s c (work.Load due) = (refl, refl)
clean_cut d s c (work.Burn due) = (refl, refl)

power-cycle : (m : Module) → run m (power_cycle m) ≡ start_from (fixed_of m) m.store m.differing
unfolding run step power_on power_cut
power-cycle m = go m.powered refl
  where
    go : (b : Bool) → m.powered ≡ b → run m (power_cycle m) ≡ start_from (fixed_of m) m.store m.differing
    go true e = let k = clean_cut m.differing m.store m.copy (work_of true m.job) in rw e (ap₂ (start_from (fixed_of m)) k.0 k.1)
    go false e = rw e

run-append : (m : Module) (cs ds : List Call) → run m (cs ++ ds) ≡ run (run m cs) ds
unfolding run
run-append m [] ds = refl
run-append m (c ∷ cs) ds = run-append (step m c).next cs ds

run_fixed : (m : Module) → JobSound m.job m.command → (cs : List Call) → fixed_of (run m cs) ≡ fixed_of m
unfolding run
run_fixed m h [] = refl
run_fixed m h (c ∷ cs) = run_fixed (step m c).next (step_sound m h c) cs ∙ step_fixed m h c

-- ---- two runs
module _ (p : ℕ) (image t : List ℕ) (cs : List Call) where
  abbrev a : Module
  a = creation.fresh p image t

  abbrev log : List Entry
  log = burn_log p (initial image) cs

  abbrev b : Module
  b = creation.fresh p (applied log image) t

  customer-log : AllCustomer log
  customer-log = subst (λ (r : Reference). AllCustomer (burn_log p r cs)) (initial_is p image t) (log-customer a no_job_sound cs)

  store_is : (run a cs).store ≡ applied log image
  store_is = run_store a no_job_sound cs ∙ ap (λ (r : Reference). applied (burn_log p r cs) image) (initial_is p image t)

  -- the counts of a's store were kept, those of b's counted at its making
  same_start : length image ≡ 256 → run a (cs ++ power_cycle (run a cs)) ≡ run b (PowerOn ∷ [])
  unfolding run step power_on
  same_start size =
      let m = run a cs in
      run-append a cs (power_cycle m)
      ∙ power-cycle m
      ∙ ap (start_from (fixed_of m) m.store) (run-counted p image t size cs).counts
      ∙ ap₂ (λ (f : Fixed) (s : List ℕ). start_from f s (counts_of s (zeros 256))) (run_fixed a no_job_sound cs) store_is

  b_made : make_refusal p image t ≡ 0 → make_refusal p (applied log image) t ≡ 0
  b_made e = refusal_front p image (applied log image) t (applied-length log image) (applied_front log image customer-log) ∙ e

  two_runs : make_refusal p image t ≡ 0 → TwoRuns p image t a b cs
  two_runs e =
      let size = make-size p image t e in
      let same = same_start size in
      record {
        store = store_is;
        size = ap length store_is ∙ applied-length log image ∙ size;
        customer = λ i f. ap (λ (s : List ℕ). get_or s i 0) store_is ∙ applied_elsewhere log image customer-log i f;
        made = make-accepted p (applied log image) t (b_made e);
        same = same;
        answered = λ later. ap (λ (m : Module). answers m later) same;
        seen_alike = λ later. ap (λ (m : Module). along seen m later) same;
        a_line = λ later. lines_are p image t size (cs ++ (power_cycle (run a cs) ++ later));
        b_line = λ later. lines_are p (applied log image) t (applied-length log image ∙ size) (PowerOn ∷ later);
      }

pub demand3 : Demand3
demand3 p image t cs e =
    subst₂ (λ (a b : Module). TwoRuns p image t a b cs) (sym (make-fresh p image t e)) (sym (make-fresh p (applied (burn_log p (initial image) cs) image) t (b_made p image t cs e)))
    (two_runs p image t cs e)

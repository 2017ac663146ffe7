-- The counts that a record keeps are the full counts of its copy and store, so the quick answer to how much is unsaved is
-- the model's.
-- Assumes nothing.
use Prim.Native.Nat.{ℕ, zero, suc, ◌+◌, ◌≤◌, ◌%◌}
use native.Mathlib.Omega.{arith}
use mathlib.Core.Bool.{Bool, true, false, cond, not}
use mathlib.Core.List.{List, [], ◌∷◌}
use mathlib.Core.Path.{◌≡◌, refl, sym, ap, ◌∙◌, subst}
use lib.Dec.{eqb}
use lib.ListN.{length, get_or, length-set}
use Rattle.nvr.proofs.Regions.{customer_is, range_customer}
use Rattle.action.specs.declared.Action.TheVariants as action
use Rattle.jobs.specs.declared.Job.{Job}
use Rattle.work.specs.Work.{work_of}
use Rattle.work.specs.declared.Work.{Work}
use Rattle.work.specs.declared.Work.TheVariants as work
use Rattle.store.specs.Bytes.{loaded_copy, burned_store, torn_store, zeros}
use Rattle.store.specs.declared.Cut.{Cut}
use Rattle.store.specs.declared.Cut.TheVariants.{Clean, Torn}
use Rattle.differing.specs.Differing.{one, how_many, differ_at, differences, counts_of, differing_started, differing_ticked, differing_cut, differing_after, BurnsCustomer, Kept}
use Rattle.differing.specs.declared.Differing.{Differing}
use Rattle.differing.proofs.Counting.{alike}
use Rattle.differing.proofs.Keeping.{counts_kept}
use Rattle.answers.specs.Answers.{Said, said_unsaved, unsaved_answer}
use Rattle.xenpak.specs.declared.Module.{Module}
use Rattle.guarantees.specs.Behaviour.{says, unsaved_from, full_count, unsaved_said}
use Rattle.guarantees.specs.Guarantees.{CountsUnsaved}
use Rattle.guarantees.proofs.Transition.{JobSound, Reaction, Transition, unchanged, powering, cutting, resetting, ticking, lining, sampling, addressing, commanding, writing, controlling, reading}

-- ---- the count as it is defined for the code, from the last byte down, is the model's, from the first on
front : (n : ℕ) (p : ℕ → Bool) → how_many (suc n) p ≡ one (p 0) + how_many n (λ i. p (suc i))
front zero p = omega arith
front (suc n) p = omega (arith, front n p)

one_not : (b : Bool) → one (not b) ≡ cond b 0 1
one_not true = refl
one_not false = refl

module _ (s c : List ℕ) where
  from : (o n : ℕ) → how_many n (λ i. differ_at s c (o + i)) ≡ unsaved_from c s o n
  from o zero = refl
  from o (suc n) =
      let e : o + 0 ≡ o = omega arith in
      front n (λ i. differ_at s c (o + i))
      ∙ (λ j. one (differ_at s c (e j)) + alike n (λ i. differ_at s c (o + suc i)) (λ i. differ_at s c (o + 1 + i)) (λ i h. let d : o + suc i ≡ o + 1 + i = omega arith in ap (differ_at s c) d) j)
      ∙ (λ j. one_not (eqb (get_or s o 0) (get_or c o 0)) j + from (o + 1) n j)

  full_is : differences s c ≡ full_count c s
  unfolding differences full_count
  full_is = from 119 48

-- ---- the counts are kept
-- a store and a copy of 256 bytes, and their counts
pub record Counts (s c : List ℕ) (d : Differing) : Type 0 where
  pub store : length s ≡ 256
  pub copy : length c ≡ 256
  pub counts : d ≡ counts_of s c

abbrev pub Counted : Module → Type 0
Counted m = Counts m.store m.copy m.differing

zeros-length : length (zeros 256) ≡ 256
unfolding zeros
zeros-length = refl

pub fresh_counts : (image : List ℕ) → length image ≡ 256 → Counts image (zeros 256) (counts_of image (zeros 256))
fresh_counts image e = record { store = e; copy = zeros-length; counts = refl }

burns-customer : (j : Job) (command : ℕ) → JobSound j command → BurnsCustomer (work_of true j)
burns-customer j command h = go (eqb j.kind 0) (eqb j.kind 2) refl refl
  where
    go : (a b : Bool) → eqb j.kind 0 ≡ a → eqb j.kind 2 ≡ b → BurnsCustomer (work_of true j)
    go true b p q = rw p tt
    go false true p q =
        let r : (119 ≤ j.due) × (j.due ≤ j.last) × (j.last ≤ 166) = rw (p, q) at h.burns in
        rw (p, q) (range_customer j.due r.0 (omega arith))
    go false false p q = rw (p, q) tt

torn_length : (s : List ℕ) (w : Work) (cut : Cut) → length (torn_store s w cut) ≡ length s
torn_length s work.Refused cut = refl
torn_length s work.Nothing cut = refl
torn_length s (work.Load due) cut = refl
torn_length s (work.Burn due) Clean = refl
torn_length s (work.Burn due) (Torn byte) = length-set s due byte

ticked_lengths : (s c : List ℕ) (w : Work) → (length (burned_store s c w) ≡ length s) × (length (loaded_copy s c w) ≡ length c)
ticked_lengths s c work.Refused = (refl, refl)
ticked_lengths s c work.Nothing = (refl, refl)
ticked_lengths s c (work.Load due) = (refl, length-set c due (get_or s due 0))
ticked_lengths s c (work.Burn due) = (length-set s due (get_or c due 0), refl)

module _ {s c : List ℕ} {d : Differing} (k : Counts s c d) where
  kept : Kept s c
  kept = counts_kept s c k.store k.copy

  started : Counts s (zeros 256) (differing_started d)
  started = record { store = k.store; copy = zeros-length; counts = ap differing_started k.counts ∙ kept.starts }

  cut_counts : (w : Work) (cut : Cut) → BurnsCustomer w → Counts (torn_store s w cut) c (differing_cut d s c w cut)
  cut_counts w cut h =
      record {
        store = torn_length s w cut ∙ k.store;
        copy = k.copy;
        counts = ap (λ (x : Differing). differing_cut x s c w cut) k.counts ∙ kept.cuts w cut h;
      }

  tick_counts : (w : Work) → BurnsCustomer w → Counts (burned_store s c w) (loaded_copy s c w) (differing_ticked d s c w)
  tick_counts w h =
      record {
        store = (ticked_lengths s c w).0 ∙ k.store;
        copy = (ticked_lengths s c w).1 ∙ k.copy;
        counts = ap (λ (x : Differing). differing_ticked x s c w) k.counts ∙ kept.ticks w h;
      }

pub to_counted : {m n : Module} {x : Said} {y : Reaction} → Transition m n x y → JobSound m.job m.command → Counted m → Counted n
to_counted (unchanged p q) h k = subst Counted (sym p) k
to_counted powering h k = started k
to_counted {m} (cutting cut) h k = cut_counts k (work_of true m.job) cut (burns-customer m.job m.command h)
to_counted (resetting on) h k = started k
to_counted {m} ticking h k = tick_counts k (work_of true m.job) (burns-customer m.job m.command h)
to_counted (lining l) h k = k
to_counted (sampling s) h k = k
to_counted (addressing a) h k = k
to_counted (commanding v free) h k = k
to_counted {m} (writing offset v at) h k =
    record {
      store = k.store;
      copy = length-set m.copy offset (v % 256) ∙ k.copy;
      counts =
          ap (λ (x : Differing). differing_after x m.store m.copy (action.Customer offset (v % 256))) k.counts
          ∙ (kept k).frames (action.Customer offset (v % 256)) (customer_is offset ∙ at);
    }
to_counted (controlling i j mask law v) h k = k
to_counted (reading increment) h k = k

-- ---- the quick answer
pub unsaved_is : (m : Module) → Counted m → CountsUnsaved m
unsaved_is m k = go m.powered
  where
    go : (b : Bool) → said_unsaved (unsaved_answer b m.differing.copy) ≡ unsaved_said b m.copy m.store
    go true = ap (λ (n : ℕ). says 1 (n ∷ [])) (ap (λ (d : Differing). d.copy) k.counts ∙ full_is m.store m.copy)
    go false = refl

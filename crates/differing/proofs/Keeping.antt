-- The counts that are kept are the full counts.
-- Assumes nothing.
use Prim.Native.Nat.{ℕ, zero, suc, ◌+◌, ◌-◌, ◌<◌}
use native.Mathlib.Omega.{arith}
use mathlib.Core.Bool.{Bool, true, false, cond, true≢false}
use mathlib.Core.List.{List}
use mathlib.Core.Logic.{◌≢◌}
use mathlib.Core.Path.{◌≡◌, refl, sym, ap, ap₂, ◌∙◌}
use lib.Dec.{eqb}
use lib.ListN.{length, get_or, set}
use lib.Seq.{get_or-set_same, get_or-set_other}
use borrow.Author.Tests.{eqb-true, eqb-false}
use Rattle.action.specs.declared.Action.{Action}
use Rattle.action.specs.declared.Action.TheVariants as action
use Rattle.nvr.specs.Image.{region_of, is_customer}
use Rattle.nvr.proofs.Regions.{customer_range, range_customer}
use Rattle.work.specs.declared.Work.{Work}
use Rattle.work.specs.declared.Work.TheVariants.{Refused, Nothing, Load, Burn}
use Rattle.store.specs.Bytes.{loaded_copy, burned_store, torn_store, written_copy, zeros}
use Rattle.store.specs.declared.Cut.{Cut}
use Rattle.store.specs.declared.Cut.TheVariants.{Clean, Torn}
use Rattle.store.proofs.Zeros.{zeros_at}
use Rattle.differing.specs.Differing.{differing, differ, one, how_many, differ_at, differences, counts_of, recount, copied, stored, differing_ticked, differing_cut, differing_after, BurnsCustomer, WritesCustomer, CountsKept}
use Rattle.differing.proofs.Counting.{bit, at_most, alike}

-- ---- a count when one of what is counted changes
module _ (p q : ℕ → Bool) (k : ℕ) (same : (i : ℕ) → i ≢ k → p i ≡ q i) where
  above : (n : ℕ) → k < n → how_many n q + one (p k) ≡ how_many n p + one (q k)
  above zero h = absurd (omega arith)
  above (suc n) h = go (above n) (eqb n k) refl
    where
      go : (k < n → how_many n q + one (p k) ≡ how_many n p + one (q k)) → (b : Bool) → eqb n k ≡ b
          → how_many (suc n) q + one (p k) ≡ how_many (suc n) p + one (q k)
      go rec true e = rw (eqb-true n k e) (omega (arith, alike k p q (λ i l. same i (λ e. omega arith))))
      go rec false e = let f = eqb-false n k e in omega (arith, rec (omega arith), ap one (same n f))

  changed : (n : ℕ) → n < 256 → k < n → recount (how_many n p) (p k) (q k) ≡ how_many n q
  changed n s h = omega (arith, above n h, at_most n q, bit (p k), bit (q k))

-- ---- counts of bytes, of which those at one offset change
module _ (a b a' b' : List ℕ) (o : ℕ) (same : (i : ℕ) → i ≢ o → differ_at a b i ≡ differ_at a' b' i) where
  at_customer : is_customer (region_of o) ≡ true → recount (differences a b) (differ_at a b o) (differ_at a' b' o) ≡ differences a' b'
  unfolding differences
  at_customer h =
      let r = customer_range o h in
      let at : 119 + (o - 119) ≡ o = omega arith in
      rw at at (changed (λ i. differ_at a b (119 + i)) (λ i. differ_at a' b' (119 + i)) (o - 119) (λ i f. same (119 + i) (λ e. f (omega arith))) 48 (omega arith) (omega arith))

  elsewhere : is_customer (region_of o) ≡ false → differences a b ≡ differences a' b'
  unfolding differences
  elsewhere h = alike 48 (λ i. differ_at a b (119 + i)) (λ i. differ_at a' b' (119 + i)) (λ i l. same (119 + i) (λ e. apart i l e))
    where
      apart : (i : ℕ) → i < 48 → 119 + i ≢ o
      apart i l e = true≢false (sym (range_customer o (omega arith) (omega arith)) ∙ h)

-- ---- store and copy, of which one gets byte b at an offset
other : (l : List ℕ) (o b i : ℕ) → i ≢ o → get_or l i 0 ≡ get_or (set l o b) i 0
other l o b i f = sym (get_or-set_other l o i b 0 f)

copy_elsewhere : (store copy : List ℕ) (o b : ℕ) → is_customer (region_of o) ≡ false → counts_of store copy ≡ counts_of store (set copy o b)
copy_elsewhere store copy o b h =
    ap (λ (n : ℕ). differing n (differences store (zeros 256))) (elsewhere store copy store (set copy o b) o (λ i f. ap (differ (get_or store i 0)) (other copy o b i f)) h)

module _ (store copy : List ℕ) (o b : ℕ) (h : is_customer (region_of o) ≡ true) where
  here : (l : List ℕ) → length l ≡ 256 → get_or (set l o b) o 0 ≡ b
  here l e = let r = customer_range o h in get_or-set_same l o b 0 (omega arith)

  copy-set : length copy ≡ 256 → copied (counts_of store copy) store copy o b ≡ counts_of store (set copy o b)
  copy-set e =
      ap (λ (n : ℕ). differing n (differences store (zeros 256)))
      (rw (here copy e) at (at_customer store copy store (set copy o b) o (λ i f. ap (differ (get_or store i 0)) (other copy o b i f)) h))

  store-set : length store ≡ 256 → stored (counts_of store copy) store copy o b ≡ counts_of (set store o b) copy
  store-set e = ap₂ differing (rw (here store e) at (beside copy)) (rw (here store e, zeros_here) at (beside (zeros 256)))
    where
      beside : (l : List ℕ) → recount (differences store l) (differ_at store l o) (differ_at (set store o b) l o) ≡ differences (set store o b) l
      beside l = at_customer store l (set store o b) l o (λ i f. ap (λ (x : ℕ). differ x (get_or l i 0)) (other store o b i f)) h

      zeros_here : get_or (zeros 256) o 0 ≡ 0
      zeros_here = let r = customer_range o h in zeros_at 256 o 0 (omega arith)

pub counts_kept : CountsKept
counts_kept store copy s c =
    record {
      starts = refl;
      ticks = ticks;
      cuts = cuts;
      frames = frames;
    }
  where
    ticks : (work : Work) → BurnsCustomer work → differing_ticked (counts_of store copy) store copy work ≡ counts_of (burned_store store copy work) (loaded_copy store copy work)
    ticks Refused h = refl
    ticks Nothing h = refl
    ticks (Load due) h = loads (is_customer (region_of due)) refl
      where
        loads : (b : Bool) → is_customer (region_of due) ≡ b
            → cond b (copied (counts_of store copy) store copy due (get_or store due 0)) (counts_of store copy) ≡ counts_of store (set copy due (get_or store due 0))
        loads true e = copy-set store copy due (get_or store due 0) e c
        loads false e = copy_elsewhere store copy due (get_or store due 0) e
    ticks (Burn due) h = store-set store copy due (get_or copy due 0) h s

    cuts : (work : Work) (cut : Cut) → BurnsCustomer work → differing_cut (counts_of store copy) store copy work cut ≡ counts_of (torn_store store work cut) copy
    cuts Refused cut h = refl
    cuts Nothing cut h = refl
    cuts (Load due) cut h = refl
    cuts (Burn due) Clean h = refl
    cuts (Burn due) (Torn byte) h = store-set store copy due byte h s

    frames : (a : Action) → WritesCustomer a → differing_after (counts_of store copy) store copy a ≡ counts_of store (written_copy copy a)
    frames action.Refused h = refl
    frames action.Silent h = refl
    frames (action.SetAddress a) h = refl
    frames action.Dropped h = refl
    frames action.Reset h = refl
    frames (action.Command word) h = refl
    frames (action.Customer offset byte) h = copy-set store copy offset byte h c
    frames (action.Control i word) h = refl
    frames (action.Read r increment) h = refl

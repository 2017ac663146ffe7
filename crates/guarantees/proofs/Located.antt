-- The code's register map beside addresses: what an address is where the map has a register. Each single address is a
-- literal, so that a claim about it computes; of the three ranges and the unlisted addresses it has the tests' results.
-- Assumes nothing.
use Prim.Native.Nat.{ℕ, zero, suc, ◌+◌, ◌-◌, ◌/◌, ◌≤◌, ◌<◌}
use native.Mathlib.Omega.{arith}
use borrow.Author.Tests.{leb-true, leb-false, eqb-true, eqb-false, lt-leb, ne_eqb}
use mathlib.Core.Bool.{Bool, true, false, cond, ◌&&◌, ◌||◌}
use mathlib.Core.Path.{◌≡◌, refl, sym, ap, ◌∙◌, subst}
use lib.Dec.{eqb, leb}
use Rattle.registers.specs.Map.{is_low, rows, register_at}
use Rattle.registers.proofs.Between.{range_true, in_range}
use Rattle.registers.specs.declared.Register.{Register}
use Rattle.registers.specs.declared.Register.TheVariants.{PmaControl, NvrControl, Copy, Customer, Control, Status, Threshold, Sample, Flags, Unlisted}
use Rattle.guarantees.specs.Reference.{within, copy_at, customer_at}

abbrev pub thresholds_at : ℕ → Bool
thresholds_at a = within 0xa000 0xa027 a

-- an address that has a register of its own
abbrev pub single : ℕ → Bool
single a =
    eqb a 0x0000 || eqb a 0x8000 || within 0x9000 0x9007 a || within 0xa060 0xa061 a || within 0xa064 0xa069 a || within 0xa070 0xa071 a || within 0xa074 0xa075 a

pub data Located : ℕ → Register → Type 0 where
  at0000 : Located 0x0000 PmaControl
  at8000 : Located 0x8000 NvrControl
  copy : {a : ℕ} → single a ≡ false → copy_at a ≡ true → customer_at a ≡ false → thresholds_at a ≡ false → Located a (Copy (a - 0x8007))
  customer : {a : ℕ} → single a ≡ false → copy_at a ≡ true → customer_at a ≡ true → thresholds_at a ≡ false → Located a (Customer (a - 0x8007))
  at9000 : Located 0x9000 (Control 0)
  at9001 : Located 0x9001 (Control 1)
  at9002 : Located 0x9002 (Control 2)
  at9003 : Located 0x9003 (Status 0)
  at9004 : Located 0x9004 (Status 1)
  at9005 : Located 0x9005 (Status 2)
  at9006 : Located 0x9006 (Control 3)
  at9007 : Located 0x9007 (Control 4)
  threshold : {a : ℕ} → single a ≡ false → copy_at a ≡ false → customer_at a ≡ false → thresholds_at a ≡ true → Located a (Threshold (a - 0xa000))
  ata060 : Located 0xa060 (Sample 0 false)
  ata061 : Located 0xa061 (Sample 0 true)
  ata064 : Located 0xa064 (Sample 1 false)
  ata065 : Located 0xa065 (Sample 1 true)
  ata066 : Located 0xa066 (Sample 2 false)
  ata067 : Located 0xa067 (Sample 2 true)
  ata068 : Located 0xa068 (Sample 3 false)
  ata069 : Located 0xa069 (Sample 3 true)
  ata070 : Located 0xa070 (Flags 0)
  ata071 : Located 0xa071 (Flags 1)
  ata074 : Located 0xa074 (Flags 2)
  ata075 : Located 0xa075 (Flags 3)
  unlisted : {a : ℕ} → single a ≡ false → copy_at a ≡ false → customer_at a ≡ false → thresholds_at a ≡ false → Located a Unlisted

-- an address that has no register of its own is none that has
pub apart : (a : ℕ) → single a ≡ false → (k : ℕ) → single k ≡ true → eqb a k ≡ false
apart a f k t = ne_eqb a k (λ e. let z : true ≡ false = sym t ∙ ap single (sym e) ∙ f in absurd (let y : ◌≡◌ {A = ℕ} 0 1 = cc in omega arith))

-- ---- the map
below : (first last a : ℕ) → a < first → within first last a ≡ false
below first last a h = rw (lt-leb first a h)

above : (first last a : ℕ) → last < a → within first last a ≡ false
above first last a h = go (leb first a)
  where
    go : (b : Bool) → (b && leb a last) ≡ false
    go true = lt-leb a last h
    go false = refl

-- an address among n from k on is one of them
abbrev Each : (ℕ → Type 0) → ℕ → ℕ → Type 0
Each P k zero = Unit {0}
Each P k (suc n) = P k × Each P (k + 1) n

among : (P : ℕ → Type 0) (k n a : ℕ) → k ≤ a → a < k + n → Each P k n → P a
among P k zero a h l e = absurd (omega arith)
among P k (suc n) a h l e = go (eqb k a) refl (λ d. among P (k + 1) n a (omega arith) (omega arith) e.1)
  where
    go : (b : Bool) → eqb k a ≡ b → (k < a → P a) → P a
    go true p f = subst P (eqb-true k a p) e.0
    go false p f = let d : k ≡ a → ⊥ = eqb-false k a p in f (omega arith)

without : (first last a : ℕ) → within first last a ≡ false → first ≤ a → a ≤ last → ⊥
without first last a f h k = let z : true ≡ false = sym (in_range first last a h k) ∙ f in let y : ◌≡◌ {A = ℕ} 0 1 = cc in omega arith

-- neither in the first part nor in the rest
join : (first middle last a : ℕ) → within first middle a ≡ false → within (middle + 1) last a ≡ false → within first last a ≡ false
join first middle last a p q = go (within first last a) refl
  where
    part : (b : Bool) → leb a middle ≡ b → first ≤ a → a ≤ last → ⊥
    part true e h k = without first middle a p h (leb-true a middle e)
    part false e h k = without (middle + 1) last a q (omega (arith, leb-false a middle e)) k

    go : (b : Bool) → within first last a ≡ b → b ≡ false
    go true e = let w = range_true first last a e in absurd (part (leb a middle) refl w.0 w.1)
    go false e = refl

only : (k a : ℕ) → within k k a ≡ true → k ≡ a
only k a t = let w = range_true k k a t in omega arith

other : (k a : ℕ) → within k k a ≡ false → eqb a k ≡ false
other k a f = ne_eqb a k (λ e. without k k a f (omega arith) (omega arith))

module _ (a : ℕ) where
  walk : {x y : Register} (b : Bool) → (b ≡ true → Located a x) → (b ≡ false → Located a y) → Located a (cond b x y)
  walk true p q = p refl
  walk false p q = q refl

  -- one of n addresses from k on, each with a register of its own
  listed : (k n : ℕ) (f : ℕ → Register) → within k (k + n) a ≡ true → Each (λ x. Located x (f x)) k (n + 1) → Located a (f a)
  listed k n f t e = let w = range_true k (k + n) a t in among (λ x. Located x (f x)) k (n + 1) a w.0 (omega arith) e

  singles : eqb a 0x0000 ≡ false → eqb a 0x8000 ≡ false → within 0x9000 0x9007 a ≡ false → within 0xa060 0xa061 a ≡ false → within 0xa064 0xa069 a ≡ false
      → within 0xa070 0xa071 a ≡ false → within 0xa074 0xa075 a ≡ false → single a ≡ false
  singles p q r s t u v = rw (p, q, r, s, t, u, v)

  copy_range : 0x8007 ≤ a → a ≤ 0x8106 → single a ≡ false
  copy_range h k =
      singles (ne_eqb a 0x0000 (λ e. omega arith)) (ne_eqb a 0x8000 (λ e. omega arith)) (below 0x9000 0x9007 a (omega arith)) (below 0xa060 0xa061 a (omega arith))
      (below 0xa064 0xa069 a (omega arith)) (below 0xa070 0xa071 a (omega arith)) (below 0xa074 0xa075 a (omega arith))

  threshold_range : 0xa000 ≤ a → a ≤ 0xa027 → single a ≡ false
  threshold_range h k =
      singles (ne_eqb a 0x0000 (λ e. omega arith)) (ne_eqb a 0x8000 (λ e. omega arith)) (above 0x9000 0x9007 a (omega arith)) (below 0xa060 0xa061 a (omega arith))
      (below 0xa064 0xa069 a (omega arith)) (below 0xa070 0xa071 a (omega arith)) (below 0xa074 0xa075 a (omega arith))

  copy-at : (first last : ℕ) → 0x8007 ≤ first → last ≤ 0x8106 → (first ≤ a → a ≤ last → customer_at a ≡ false) → within first last a ≡ true → Located a (Copy (a - 0x8007))
  copy-at first last h k f t =
      let w = range_true first last a t in
      copy (copy_range (omega arith) (omega arith)) (in_range 0x8007 0x8106 a (omega arith) (omega arith)) (f w.0 w.1) (below 0xa000 0xa027 a (omega arith))

  customer-at : within 0x807e 0x80ad a ≡ true → Located a (Customer (a - 0x8007))
  customer-at t =
      let w = range_true 0x807e 0x80ad a t in
      customer (copy_range (omega arith) (omega arith)) (in_range 0x8007 0x8106 a (omega arith) (omega arith)) t (below 0xa000 0xa027 a (omega arith))

  threshold-at : thresholds_at a ≡ true → Located a (Threshold (a - 0xa000))
  threshold-at t =
      let w = range_true 0xa000 0xa027 a t in
      threshold (threshold_range w.0 w.1) (above 0x8007 0x8106 a (omega arith)) (above 0x807e 0x80ad a (omega arith)) t

  pub located : Located a (register_at a)
  unfolding register_at rows
  located =
      walk (within 0x0000 0x0000 a) (λ t. subst (λ (x : ℕ). Located x PmaControl) (only 0x0000 a t) at0000) (λ n0.
      walk (within 0x8000 0x8000 a) (λ t. subst (λ (x : ℕ). Located x NvrControl) (only 0x8000 a t) at8000) (λ n1.
      walk (within 0x8007 0x807d a) (copy-at 0x8007 0x807d (omega arith) (omega arith) (λ h k. below 0x807e 0x80ad a (omega arith))) (λ n2.
      walk (within 0x807e 0x80ad a) customer-at (λ n3.
      walk (within 0x80ae 0x8106 a) (copy-at 0x80ae 0x8106 (omega arith) (omega arith) (λ h k. above 0x807e 0x80ad a (omega arith))) (λ n4.
      walk (within 0x9000 0x9002 a) (λ t. listed 0x9000 2 (λ x. Control (x - 0x9000)) t (at9000, (at9001, (at9002, tt)))) (λ n5.
      walk (within 0x9003 0x9005 a) (λ t. listed 0x9003 2 (λ x. Status (x - 0x9003)) t (at9003, (at9004, (at9005, tt)))) (λ n6.
      walk (within 0x9006 0x9007 a) (λ t. listed 0x9006 1 (λ x. Control (x - 0x9003)) t (at9006, (at9007, tt))) (λ n7.
      walk (within 0xa000 0xa027 a) threshold-at (λ n8.
      walk (within 0xa060 0xa061 a) (λ t. listed 0xa060 1 (λ x. Sample 0 (is_low x)) t (ata060, (ata061, tt))) (λ n9.
      walk (within 0xa064 0xa069 a) (λ t. listed 0xa064 5 (λ x. Sample ((x - 0xa062) / 2) (is_low x)) t (ata064, (ata065, (ata066, (ata067, (ata068, (ata069, tt))))))) (λ n10.
      walk (within 0xa070 0xa071 a) (λ t. listed 0xa070 1 (λ x. Flags (x - 0xa070)) t (ata070, (ata071, tt))) (λ n11.
      walk (within 0xa074 0xa075 a) (λ t. listed 0xa074 1 (λ x. Flags (x - 0xa072)) t (ata074, (ata075, tt))) (λ n12.
      unlisted
      (singles (other 0x0000 a n0) (other 0x8000 a n1) (join 0x9000 0x9002 0x9007 a n5 (join 0x9003 0x9005 0x9007 a n6 n7)) n9 n10 n11 n12)
      (join 0x8007 0x807d 0x8106 a n2 (join 0x807e 0x80ad 0x8106 a n3 n4)) n3 n8)))))))))))))

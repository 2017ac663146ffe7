-- The word at 8000: a job's kept bits with its status, beside the reference model's literal word.
-- Assumes nothing.
use Prim.Native.Nat.{ℕ, ◌*◌, ◌<◌, ◌^◌}
use native.Mathlib.Omega.{arith}
use mathlib.Core.Bool.{Bool, true, false, cond, not, ◌&&◌, ◌||◌, and-false}
use mathlib.Core.Path.{◌≡◌, refl, sym, ap, ap₂, ◌∙◌}
use lib.Bits.{bit_and, bit_or, and_le_l, and_le_r, or_lt, or_zero_r}
use Rattle.words.specs.Words.{bit}
use Rattle.words.proofs.Laws.{bit-and, bit-or, bits_equal}
use Rattle.guarantees.specs.Reference.{with_status, busy, idle_once_shown}

-- ---- `&` over `|`
distributes : (a b m : Bool) → ((a || b) && m) ≡ (a && m || b && m)
distributes true b true = refl
distributes true true false = refl
distributes true false false = refl
distributes false b m = refl

and-or : (n a b m : ℕ) → a < 2 ^ n → b < 2 ^ n → bit_and (bit_or a b) m ≡ bit_or (bit_and a m) (bit_and b m)
and-or n a b m h k =
    bits_equal n (omega (arith, and_le_l (bit_or a b) m, or_lt n a b h k))
    (or_lt n (bit_and a m) (bit_and b m) (omega (arith, and_le_l a m)) (omega (arith, and_le_l b m)))
    (λ i.
    bit-and i (bit_or a b) m ∙ ap (λ (x : Bool). x && bit i m) (bit-or i a b) ∙ distributes (bit i a) (bit i b) (bit i m)
    ∙ sym (bit-or i (bit_and a m) (bit_and b m) ∙ ap₂ ◌||◌ (bit-and i a m) (bit-and i b m)))

-- ---- the bits that 8000 keeps
abbrev pub Kept : ℕ → Type 0
Kept k = bit_and k 0xff23 ≡ k

twice : (a b : Bool) → ((a && b) && b) ≡ (a && b)
twice true true = refl
twice true false = refl
twice false b = refl

pub kept_masked : (v : ℕ) → Kept (bit_and v 0xff23)
kept_masked v =
    bits_equal 16 (omega (arith, and_le_r (bit_and v 0xff23) 0xff23)) (omega (arith, and_le_r v 0xff23))
    (λ i.
    bit-and i (bit_and v 0xff23) 0xff23 ∙ ap (λ (x : Bool). x && bit i 0xff23) (bit-and i v 0xff23)
    ∙ twice (bit i v) (bit i 0xff23) ∙ sym (bit-and i v 0xff23))

module _ (k : ℕ) (h : Kept k) where
  -- a bit that is not kept is the status's
  status_bit : (i x : ℕ) → bit i 0xff23 ≡ false → bit i (bit_or k x) ≡ bit i x
  status_bit i x f =
      let clear : bit i k ≡ false = ap (bit i) (sym h) ∙ bit-and i k 0xff23 ∙ rw f (and-false (bit i k)) in
      bit-or i k x ∙ ap (λ (b : Bool). b || bit i x) clear

  -- another status takes the place of one
  pub status_put : (s t : ℕ) → 4 * t < 2 ^ 16 → bit_and (4 * t) 0xff23 ≡ 0 → with_status s (bit_or k (4 * t)) ≡ bit_or k (4 * s)
  status_put s t f z =
      ap (λ (x : ℕ). bit_or x (4 * s))
      (and-or 16 k (4 * t) 0xff23 (omega (arith, and_le_r k 0xff23)) f ∙ ap₂ bit_or h z ∙ or_zero_r k)

-- how a job ends: not yet, done, failed
pub data Ended : ℕ → Type 0 where
  idle : Ended 0
  done : Ended 1
  failed : Ended 3

-- the status of a job, idle or not, that ended so
abbrev pub status : Bool → ℕ → ℕ
status free e = cond free e 2

busy_status : (free : Bool) {e : ℕ} → Ended e → (bit 3 (4 * status free e) && not (bit 2 (4 * status free e))) ≡ not free
unfolding bit
busy_status true idle = refl
busy_status true done = refl
busy_status true failed = refl
busy_status false h = refl

pub busy-word : (k : ℕ) → Kept k → (free : Bool) {e : ℕ} → Ended e → busy (bit_or k (4 * status free e)) ≡ not free
unfolding bit
busy-word k h free {e} f =
    ap₂ (λ (x y : Bool). x && not y) (status_bit k h 3 (4 * status free e) refl) (status_bit k h 2 (4 * status free e) refl)
    ∙ busy_status free f

-- a read makes done and failed idle
pub shown-word : (k : ℕ) → Kept k → (free : Bool) {e : ℕ} → Ended e → idle_once_shown (bit_or k (4 * status free e)) ≡ bit_or k (4 * status free 0)
unfolding bit
shown-word k h true idle = rw (status_bit k h 2 0 refl)
shown-word k h true done = rw (status_bit k h 2 4 refl) (status_put k h 0 1 (omega arith) refl)
shown-word k h true failed = rw (status_bit k h 2 12 refl) (status_put k h 0 3 (omega arith) refl)
shown-word k h false f = rw (status_bit k h 2 8 refl)

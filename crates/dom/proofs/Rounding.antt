-- The readout is the nearest tenth, at a half the even one, and nothing else is.
-- Assumes nothing.
use Prim.Native.Nat.{ℕ, zero, suc, ◌+◌, ◌-◌, ◌*◌, ◌/◌, ◌%◌, ◌<◌}
use native.Mathlib.Nat.{zero-mul}
use native.Mathlib.Omega.{arith}
use mathlib.Core.Bool.{Bool, true, false, cond}
use mathlib.Core.Path.{◌≡◌, refl, sym, ap, ◌∙◌}
use borrow.Author.Tests.{ltb-true, ltb-false}
use lib.Dec.{ltb}
use lib.IntN.{ℤ, pos, negsuc, neg_ℤ, nat_abs, ◌-ℤ◌, ◌*ℤ◌, neg_ℤ-neg_ℤ, neg_ℤ-+ℤ}
use Rattle.dom.specs.Readout.{tenths_of, distance, Nearest, Examples, Rounding}

-- ---- document 02's codes and the ends
examples : Examples
examples = refl

-- ---- a rest is less than a half, more, or just that: twice the rest r beside d, as `nearest` tests it
pub by_rest : (r d : ℕ) (P : Type 0) → (ltb r d ≡ true → r < d → P) → (ltb r d ≡ false → ltb d r ≡ true → d < r → P) → (ltb r d ≡ false → ltb d r ≡ false → r ≡ d → P) → P
by_rest r d P less more half = by_tests (ltb r d) (ltb d r) refl refl
  where
    by_tests : (low high : Bool) → ltb r d ≡ low → ltb d r ≡ high → P
    by_tests true high l h = less l (ltb-true r d l)
    by_tests false true l h = more l h (ltb-true d r h)
    by_tests false false l h = half l h (omega (arith, ltb-false r d l, ltb-false d r h))

-- ---- distances
apart_by : (a b : ℕ) (less : Bool) → ltb a b ≡ less → nat_abs (cond less (negsuc (b - suc a)) (pos (a - b))) ≡ a - b + (b - a)
apart_by a b true e = omega (arith, ltb-true a b e)
apart_by a b false e = omega (arith, ltb-false a b e)

apart : (a b : ℕ) → nat_abs (pos a -ℤ pos b) ≡ a - b + (b - a)
apart a zero = omega arith
apart a (suc b) = apart_by a (suc b) (ltb a (suc b)) refl

-- of the opposites as of the numbers
size_opposite : (z : ℤ) → nat_abs (neg_ℤ z) ≡ nat_abs z
size_opposite (pos zero) = refl
size_opposite (pos (suc n)) = refl
size_opposite (negsuc n) = refl

opposite_times : (z : ℤ) (k : ℕ) → neg_ℤ z *ℤ pos k ≡ neg_ℤ (z *ℤ pos k)
opposite_times (pos zero) k = rw (zero-mul k)
opposite_times (pos (suc n)) k = refl
opposite_times (negsuc n) k = sym (neg_ℤ-neg_ℤ (pos (suc n * k)))

opposite_distance : (code t : ℤ) → distance (neg_ℤ code) (neg_ℤ t) ≡ distance code t
opposite_distance code t =
    rw (opposite_times code 10, opposite_times t 256, sym (neg_ℤ-+ℤ (code *ℤ pos 10) (neg_ℤ (t *ℤ pos 256))))
    (size_opposite (code *ℤ pos 10 -ℤ t *ℤ pos 256))

opposite : (code t : ℤ) → Nearest code t → Nearest (neg_ℤ code) (neg_ℤ t)
opposite code t h =
    record {
      near = rw (opposite_distance code t) h.near;
      even = λ e. rw (size_opposite t) (h.even (sym (opposite_distance code t) ∙ e));
    }

-- ---- a code that is not negative
is_nearest : (n : ℕ) → Nearest (pos n) (tenths_of (pos n))
is_nearest n =
    by_rest (n * 10 % 256 * 2) 256 (Nearest (pos n) (tenths_of (pos n)))
    (λ l r. rw l (record { near = rw (apart _ _) (omega arith); even = λ e. let h = rw (apart _ _) at e in omega (arith, h) }))
    (λ l m r. rw (l, m) (record { near = rw (apart _ _) (omega arith); even = λ e. let h = rw (apart _ _) at e in omega (arith, h) }))
    (λ l m r. rw (l, m) (record { near = rw (apart _ _) (omega arith); even = λ e. let h = rw (apart _ _) at e in omega (arith, h) }))

-- at a half it is the quotient or one more, whichever is even
at_half : (n t : ℕ) (more : Bool) → ltb (n * 10 / 256) t ≡ more → n * 10 % 256 * 2 ≡ 256 → Nearest (pos n) (pos t) → t ≡ n * 10 / 256 + n * 10 / 256 % 2
at_half n t true e r h =
    let one : t ≡ n * 10 / 256 + 1 = omega (arith, ltb-true (n * 10 / 256) t e, rw (apart (n * 10) (t * 256)) at h.near) in
    let even = h.even (apart (n * 10) (t * 256) ∙ omega (arith, one)) in
    omega (arith, one, even)
at_half n t false e r h =
    let none : t ≡ n * 10 / 256 = omega (arith, ltb-false (n * 10 / 256) t e, rw (apart (n * 10) (t * 256)) at h.near) in
    let even = h.even (apart (n * 10) (t * 256) ∙ omega (arith, none)) in
    omega (arith, none, even)

only_above : (n : ℕ) (t : ℤ) → Nearest (pos n) t → t ≡ tenths_of (pos n)
only_above n (pos t) h =
    let near = rw (apart (n * 10) (t * 256)) at h.near in
    by_rest (n * 10 % 256 * 2) 256 (pos t ≡ tenths_of (pos n)) (λ l r. rw l (ap pos (omega (arith, near))))
    (λ l m r. rw (l, m) (ap pos (omega (arith, near))))
    (λ l m r. rw (l, m) (ap pos (at_half n t (ltb (n * 10 / 256) t) refl r h)))
only_above n (negsuc t) h =
    let near = rw (neg_ℤ-neg_ℤ (pos (suc t * 256))) at h.near in
    absurd (omega (arith, near))

-- ---- every code
every_code : (code : ℤ) → Nearest code (tenths_of code)
every_code (pos n) = is_nearest n
every_code (negsuc n) = opposite (pos (suc n)) (tenths_of (pos (suc n))) (is_nearest (suc n))

only_tenth : (code t : ℤ) → Nearest code t → t ≡ tenths_of code
only_tenth (pos n) t h = only_above n t h
only_tenth (negsuc n) t h =
    sym (neg_ℤ-neg_ℤ t) ∙ ap neg_ℤ (only_above (suc n) (neg_ℤ t) (opposite (negsuc n) t h))

pub rounding : Rounding
rounding = record { examples = examples; meets = every_code; only = only_tenth }

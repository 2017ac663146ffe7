-- The customer region is offsets 119 to 166.
-- Assumes nothing.
use Prim.Native.Nat.{ℕ, ◌≤◌}
use native.Mathlib.Omega.{arith}
use mathlib.Core.Bool.{Bool, true, false, ◌&&◌}
use mathlib.Core.Path.{◌≡◌, refl, sym, ◌∙◌}
use lib.Dec.{leb}
use borrow.Author.Tests.{leb-true, leb-false}
use Rattle.registers.proofs.Between.{range_true, in_range}
use Rattle.nvr.specs.Image.{region_of, is_customer}

pub customer_is : (o : ℕ) → is_customer (region_of o) ≡ (leb 119 o && leb o 166)
customer_is o = go (leb o 117) (leb o 118) (leb o 166) (leb 119 o) refl refl refl refl
  where
    go : (a b c d : Bool) → leb o 117 ≡ a → leb o 118 ≡ b → leb o 166 ≡ c → leb 119 o ≡ d → is_customer (region_of o) ≡ (leb 119 o && leb o 166)
    go true b c true p q r s = absurd (omega (arith, leb-true o 117 p, leb-true 119 o s))
    go true b c false p q r s = rw (p, s)
    go false true c true p q r s = absurd (omega (arith, leb-true o 118 q, leb-true 119 o s))
    go false true c false p q r s = rw (p, q, s)
    go false false true true p q r s = rw (p, q, r, s)
    go false false true false p q r s = absurd (omega (arith, leb-false o 118 q, leb-false 119 o s))
    go false false false true p q r s = rw (p, q, r, s)
    go false false false false p q r s = absurd (omega (arith, leb-false o 118 q, leb-false 119 o s))

pub customer_range : (o : ℕ) → is_customer (region_of o) ≡ true → (119 ≤ o) × (o ≤ 166)
customer_range o h = range_true 119 166 o (sym (customer_is o) ∙ h)

pub range_customer : (o : ℕ) → 119 ≤ o → o ≤ 166 → is_customer (region_of o) ≡ true
range_customer o h k = customer_is o ∙ in_range 119 166 o h k

-- The copy's registers and the image's regions agree: 8007 to 8106 are offsets 0 to 255, and those that a write reaches
-- are the customer region.
-- Assumes nothing.
use Prim.Native.Nat.{ℕ, ◌+◌, ◌-◌, ◌<◌}
use native.Mathlib.Omega.{arith}
use mathlib.Core.Path.{◌≡◌, refl, sym}
use mathlib.Core.Bool.{Bool, true, false}
use lib.Dec.{leb}
use borrow.Author.Tests.{leb-true, leb-false}
use Rattle.registers.specs.Map.{rows, register_at}
use Rattle.registers.specs.declared.Register.{Register}
use Rattle.registers.specs.declared.Register.TheVariants as register
use Rattle.registers.proofs.Between.{register_between}
use Rattle.nvr.specs.Image.{region_of}
use Rattle.nvr.specs.declared.image.Region.{Region}
use Rattle.nvr.specs.declared.image.Region.TheVariants.{Basic, Checksum, Customer, Vendor}

abbrev pub copy_register : Region → ℕ → Register
copy_register Basic offset = register.Copy offset
copy_register Checksum offset = register.Copy offset
copy_register Customer offset = register.Customer offset
copy_register Vendor offset = register.Copy offset

pub copy-register : (o : ℕ) → o < 256 → register_at (0x8007 + o) ≡ copy_register (region_of o) o
unfolding rows
copy-register o h = sym (go (leb o 117) (leb o 118) (leb o 166) refl refl refl)
  where
    back : 0x8007 + o - 0x8007 ≡ o
    back = omega arith

    go : (a b c : Bool) → leb o 117 ≡ a → leb o 118 ≡ b → leb o 166 ≡ c → copy_register (region_of o) o ≡ register_at (0x8007 + o)
    go true b c p q r =
        let t = leb-true o 117 p in
        rw p (rw back at (register_between 0x8007 0x807d {a = 0x8007 + o} (omega arith) (omega arith)))
    go false true c p q r =
        let t = leb-true o 118 q in
        rw (p, q) (rw back at (register_between 0x8007 0x807d {a = 0x8007 + o} (omega arith) (omega arith)))
    go false false true p q r =
        let t = leb-false o 118 q in
        let u = leb-true o 166 r in
        rw (p, q, r) (rw back at (register_between 0x807e 0x80ad {a = 0x8007 + o} (omega arith) (omega arith)))
    go false false false p q r =
        let t = leb-false o 166 r in
        rw (p, q, r) (rw back at (register_between 0x80ae 0x8106 {a = 0x8007 + o} (omega arith) (omega arith)))

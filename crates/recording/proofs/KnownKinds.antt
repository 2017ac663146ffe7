-- The known kinds: 01 to 08.
-- Assumes nothing.
use Prim.Native.Nat.{ℕ, ◌≤◌}
use mathlib.Core.Bool.{true}
use mathlib.Core.Path.{◌≡◌, sym, subst}
use lib.Dec.{T, leb, leb→le}
use mir.Facts.{and_yes}
use Rattle.recording.specs.Recording.{known}

pub bounds : (k : ℕ) → known k ≡ true → (1 ≤ k) × (k ≤ 8)
bounds k e =
    let b = and_yes (leb 1 k) (leb k 8) (subst T (sym e) tt) in
    (leb→le 1 k b.0, leb→le k 8 b.1)

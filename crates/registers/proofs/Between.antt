-- A number that lies between two others, as a test and as facts: `range-true`, `in-range`.
-- The register at such an address: `register-between` decides each row's test by them.
-- And no address stands in two rows: `rows-ascend`.
-- Assumes nothing.
use Prim.Native.Nat.{ℕ, suc, ◌≤◌}
use native.Mathlib.Omega.{arith}
use mathlib.Core.Path.{◌≡◌, refl, sym, ap, ◌∙◌}
use mathlib.Core.Bool.{Bool, true, false, cond, ◌&&◌, ◌||◌, and-false, true≢false}
use mathlib.Core.List.{List, [], ◌∷◌}
use mathlib.Core.Logic.{⊎_elim}
use lib.Dec.{T, leb, ltb, leb→le, ltb→lt}
use borrow.Author.Tests.{leb-true, le-leb, lt-leb}
use mir.Facts.{and_yes, or_yes}
use Rattle.registers.specs.Map.{Row, within, lookup, rows, register_at}
use Rattle.registers.specs.declared.Register.{Register}
use Rattle.registers.specs.declared.Register.TheVariants.{Unlisted}

pub range_true : (first last a : ℕ) → (leb first a && leb a last) ≡ true → (first ≤ a) × (a ≤ last)
range_true first last a t = go (leb first a) refl t
  where
    go : (b : Bool) → leb first a ≡ b → (b && leb a last) ≡ true → (first ≤ a) × (a ≤ last)
    go true e t = (leb-true first a e, leb-true a last t)
    go false e t = absurd (true≢false (sym t))

pub in_range : (first last a : ℕ) → first ≤ a → a ≤ last → (leb first a && leb a last) ≡ true
in_range first last a h k = rw (le-leb first a h, le-leb a last k)

-- the row has no address from lo to hi; it has each
abbrev pub apart : ℕ → ℕ → Row → Bool
apart lo hi r = ltb hi r.first || ltb r.last lo

abbrev pub covers : ℕ → ℕ → Row → Bool
covers lo hi r = leb r.first lo && leb hi r.last

-- `lookup` of an address from lo to hi, without the tests that lo and hi decide
abbrev pub decided : ℕ → ℕ → List Row → ℕ → Register
decided lo hi [] a = Unlisted
decided lo hi (r ∷ rs) a =
    cond (apart lo hi r) (decided lo hi rs a)
    (cond (covers lo hi r) (r.register a) (cond (within r a) (r.register a) (decided lo hi rs a)))

module _ (lo hi a : ℕ) (above : lo ≤ a) (below : a ≤ hi) where
  outside : (r : Row) → T (apart lo hi r) → within r a ≡ false
  outside r t =
      ⊎_elim
      (λ p. rw (lt-leb r.first a (omega (arith, ltb→lt hi r.first p))))
      (λ p. rw (lt-leb a r.last (omega (arith, ltb→lt r.last lo p))) (and-false (leb r.first a)))
      (or_yes (ltb hi r.first) (ltb r.last lo) t)

  inside : (r : Row) → T (covers lo hi r) → within r a ≡ true
  inside r t =
      let p = and_yes (leb r.first lo) (leb hi r.last) t in
      in_range r.first r.last a (omega (arith, leb→le r.first lo p.0)) (omega (arith, leb→le hi r.last p.1))

  choice : (w p q : Bool) (x y : Register) → (T p → w ≡ false) → (T q → w ≡ true) → cond w x y ≡ cond p y (cond q x (cond w x y))
  choice w true q x y f g = rw (f tt)
  choice w false true x y f g = rw (g tt)
  choice w false false x y f g = refl

  between : (rs : List Row) → lookup rs a ≡ decided lo hi rs a
  between [] = refl
  between (r ∷ rs) =
      ap (cond (within r a) (r.register a)) (between rs)
      ∙ choice (within r a) (apart lo hi r) (covers lo hi r) (r.register a) (decided lo hi rs a) (outside r) (inside r)

-- at two numerals the left side computes to the row's register, or to `Unlisted`, under `unfolding rows`
pub register_between : (lo hi : ℕ) {a : ℕ} → lo ≤ a → a ≤ hi → decided lo hi rows a ≡ register_at a
unfolding register_at
register_between lo hi {a} above below = sym (between lo hi a above below rows)

-- a row of one address, at any other
pub elsewhere : (k a : ℕ) → (a ≡ k → ⊥) → (leb k a && leb a k) ≡ false
elsewhere k a other = neither (leb k a) (leb a k) (λ p q. other (omega (arith, leb→le k a p, leb→le a k q)))
  where
    neither : (p q : Bool) → (T p → T q → ⊥) → (p && q) ≡ false
    neither true true f = absurd (f tt tt)
    neither true false f = refl
    neither false q f = refl

-- each row begins at n or after it, and after the row before it
abbrev pub ascending : ℕ → List Row → Bool
ascending n [] = true
ascending n (r ∷ rs) = leb n r.first && leb r.first r.last && ascending (suc r.last) rs

pub rows_ascend : ascending 0 rows ≡ true
unfolding rows
rows_ascend = refl

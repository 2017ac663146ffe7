-- What is left of a block, moved to the front of its buffer.
-- Assumes nothing.
use Rattle.std.proofs.Common.{◌≡◌, ℕ, ◌+◌, ◌-◌, ◌≤◌, min, Bool, true, false, leb, List, ◌++◌, length, take, drop, refl, sym, ap, ◌∙◌, arith, length-drop, length-take, leb-true, leb-false}
use Rattle.std.proofs.lemmas.List.{take_min, drop-take, drop_all}
use Rattle.std.specs.List.{copy_within}
use lib.Seq.{sets-eq}
use Rattle.player.specs.Player.{Kept}

module _ (l : List ℕ) (from end to start : ℕ) (t : to ≡ min end (length l)) (s : start ≡ min from to) where
  -- the bytes from a position on, before another
  left_is : drop from (take end l) ≡ take (to - start) (drop start l)
  left_is = go (leb from to) refl
    where
      go : (b : Bool) → leb from to ≡ b → drop from (take end l) ≡ take (to - start) (drop start l)
      go true e =
          let within : from ≤ to = leb-true from to e in
          let is : from ≡ start = omega arith in
          let whole : min end (length l) ≡ from + (to - start) = omega arith in
          ap (drop from) (sym (take_min end l) ∙ ap (λ (n : ℕ). take n l) whole) ∙ drop-take from (to - start) l
          ∙ ap (λ (n : ℕ). take (to - start) (drop n l)) is
      go false e =
          let none : to - start ≡ 0 = omega (arith, leb-false from to e) in
          drop_all from (take end l) (omega (arith, length-take end l, leb-false from to e))
          ∙ ap (λ (n : ℕ). take n (drop start l)) (sym none)

  size : length (drop from (take end l)) ≡ to - start
  size = length-drop from (take end l) ∙ omega (arith, length-take end l)

  pub kept : Kept from end l (copy_within l start to 0) (to - start)
  kept =
      record {
        bytes =
            sym
            (sets-eq (drop from (take end l)) l 0 (omega (arith, size))
            ∙ rw size (ap (λ (r : List ℕ). take 0 l ++ r ++ drop (0 + (to - start)) l) left_is));
        counted = sym size;
      }

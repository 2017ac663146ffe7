-- An array that was made of another, element by element, by a function that always answers alike.
-- Assumes nothing.
use Prim.Native.Nat.{ℕ}
use native.Mathlib.Omega.{arith}
use mathlib.Core.List.{List, map}
use mathlib.Core.Path.{◌≡◌, sym, ◌∙◌}
use lib.ListN.{length}
use denote.Param.Members.{Mut}
use Rattle.std.specs.Array.{IsMapOf}
use Rattle.std.specs.Fn.{Called}
use Rattle.std.proofs.lemmas.List.{same_lists, get_or-map, length-map}

pub mapped : {F A B : Type 0} {g : Mut F (A × Unit {0}) B} {f : F} {xs : List A} {ys : List B} {n : ℕ} (r : A → B) (d : A) → IsMapOf g f xs ys n → length xs ≡ n
    → ((p q : F) (x : A) (y : B) → Called g p (x, tt) y q → y ≡ r x) → ys ≡ map r xs
mapped {xs = xs} {ys = ys} r d m h answers =
    same_lists ys (map r xs) (m.long ∙ sym (length-map xs r ∙ h))
    (λ k e l. let at = m.at k d e (omega (arith, m.long)) in answers at.0 at.1 _ _ at.2 ∙ sym (get_or-map r xs k d e (omega (arith, m.long, h))))

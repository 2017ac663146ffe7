-- Making answers by the model's number, and gives the module asked for or the blank one.
-- Assumes nothing.
use Prim.Native.Nat.{ℕ, zero, suc, ◌+◌, ◌%◌}
use native.Mathlib.Omega.{arith}
use borrow.Author.Tests.{leb-true, leb-false, lt-ltb, le-ltb, eqb-true, eq-eqb, ne_eqb}
use mathlib.Core.Bool.{Bool, true, false, cond, not}
use mathlib.Core.List.{List, [], ◌∷◌}
use mathlib.Core.Logic.{◌≢◌}
use mathlib.Core.Path.{◌≡◌, refl, sym, ap, ◌∙◌}
use lib.Dec.{eqb, leb, ltb, lit<, lit≤}
use lib.ListN.{length, get_or, take, replicate}
use lib.Seq.{take-take, get_or-take}
use Rattle.std.specs.Prelude.{Ok}
use Rattle.nvr.specs.Image.{sum, checksum_right}
use Rattle.thresholds.specs.Thresholds.{thresholds_of, ordered}
use Rattle.store.specs.Bytes.{zeros}
use Rattle.answers.specs.Answers.{Answer, said_plain, creation_answer}
use Rattle.xenpak.specs.Calls.{kept}
use Rattle.xenpak.specs.declared.Module.{Module}
use Rattle.creation.specs.Creation.{fresh, blank, make}
use Rattle.guarantees.specs.Behaviour.{says, refused, sum_to, make_refusal, make_said}

-- ---- the code's five tests: what is wrong
abbrev number : (port image thresholds sum order : Bool) → ℕ
number port image thresholds sum order = cond port 1 (cond image 2 (cond thresholds 3 (cond sum 4 (cond order 5 0))))

answered : (p i t c o : Bool)
    → said_plain (creation_answer p i t c o)
    ≡ cond (eqb (number (not p) (not i) (not t) (not c) (not o)) 0) (says 1 []) (refused (number (not p) (not i) (not t) (not c) (not o)))
answered false i t c o = refl
answered true false t c o = refl
answered true true false c o = refl
answered true true true false o = refl
answered true true true true false = refl
answered true true true true true = refl

given : (m : Module) (p i t c o : Bool) → kept (creation_answer p i t c o) blank m ≡ cond (eqb (number (not p) (not i) (not t) (not c) (not o)) 0) m blank
given m false i t c o = refl
given m true false t c o = refl
given m true true false c o = refl
given m true true true false o = refl
given m true true true true false = refl
given m true true true true true = refl

-- what holds of an accepted making
pub record Taken (answer : Answer (Unit {0})) (image : Bool) : Type 0 where
  pub accepted : answer ≡ Ok tt
  pub size : image ≡ true

none_wrong : {A : Type 0} (n : ℕ) → suc n ≡ 0 → A
none_wrong n e = absurd (omega arith)

taken : (p i t c o : Bool) → number (not p) (not i) (not t) (not c) (not o) ≡ 0 → Taken (creation_answer p i t c o) i
taken false i t c o e = none_wrong 0 e
taken true false t c o e = none_wrong 1 e
taken true true false c o e = none_wrong 2 e
taken true true true false o e = none_wrong 3 e
taken true true true true false e = none_wrong 4 e
taken true true true true true e = record { accepted = refl; size = refl }

-- ---- the sum of the first bytes, from the front and from the end
sum_front : (x : ℕ) (xs : List ℕ) (n : ℕ) → sum_to (x ∷ xs) (suc n) ≡ x + sum_to xs n
sum_front x xs zero = omega arith
sum_front x xs (suc n) = let e = sum_front x xs n in omega arith

sum-none : (n : ℕ) → sum_to [] n ≡ 0
sum-none zero = refl
sum-none (suc n) = let e = sum-none n in omega arith

sum_is : (image : List ℕ) (n : ℕ) → sum (take n image) ≡ sum_to image n
sum_is image zero = refl
sum_is [] (suc n) = sym (sum-none (suc n))
sum_is (x ∷ xs) (suc n) = ap (λ (k : ℕ). x + k) (sum_is xs n) ∙ sym (sum_front x xs n)

-- it goes by the first 119 bytes
checksum_front : (s t : List ℕ) → take 119 s ≡ take 119 t → checksum_right s ≡ checksum_right t
checksum_front s t e =
    λ k. eqb (sum (first k) % 256) (last k)
  where
    first : take 118 s ≡ take 118 t
    first = sym (take-take 118 119 s (lit≤ tt)) ∙ ap (take 118) e ∙ take-take 118 119 t (lit≤ tt)

    last : get_or s 118 0 ≡ get_or t 118 0
    last = sym (get_or-take 119 s 118 0 (lit< tt)) ∙ ap (λ (x : List ℕ). get_or x 118 0) e ∙ get_or-take 119 t 118 0 (lit< tt)

-- ---- the model's number
above : (port : ℕ) → not (leb port 31) ≡ ltb 31 port
above port = go (leb port 31) refl
  where
    go : (b : Bool) → leb port 31 ≡ b → not b ≡ ltb 31 port
    go true e = sym (le-ltb 31 port (leb-true port 31 e))
    go false e = sym (lt-ltb 31 port (leb-false port 31 e))

module _ (port : ℕ) (image t : List ℕ) where
  -- by the code's tests
  abbrev tested : ℕ
  tested = number (not (leb port 31)) (not (eqb (length image) 256)) (not (eqb (length t) 40)) (not (checksum_right image)) (not (ordered (thresholds_of t)))

  number_is : tested ≡ make_refusal port image t
  unfolding make_refusal
  number_is =
      λ k. number (above port k) (not (eqb (length image) 256)) (not (eqb (length t) 40)) (not (eqb (sum_is image 118 k % 256) (get_or image 118 0))) (not (ordered (thresholds_of t)))

  pub make-said : said_plain (make port image t).answer ≡ make_said port image t
  unfolding make
  make-said =
      answered (leb port 31) (eqb (length image) 256) (eqb (length t) 40) (checksum_right image) (ordered (thresholds_of t))
      ∙ ap (λ (n : ℕ). cond (eqb n 0) (says 1 []) (refused n)) number_is

  make_next : (make port image t).next ≡ cond (eqb (make_refusal port image t) 0) (fresh port image t) blank
  unfolding make
  make_next =
      given (fresh port image t) (leb port 31) (eqb (length image) 256) (eqb (length t) 40) (checksum_right image) (ordered (thresholds_of t))
      ∙ ap (λ (n : ℕ). cond (eqb n 0) (fresh port image t) blank) number_is

  pub make-fresh : make_refusal port image t ≡ 0 → (make port image t).next ≡ fresh port image t
  make-fresh e = make_next ∙ rw (eq-eqb (make_refusal port image t) 0 e)

  make-blank : make_refusal port image t ≢ 0 → (make port image t).next ≡ blank
  make-blank f = make_next ∙ rw (ne_eqb (make_refusal port image t) 0 f)

  make-taken : make_refusal port image t ≡ 0 → Taken (make port image t).answer (eqb (length image) 256)
  unfolding make
  make-taken e = taken (leb port 31) (eqb (length image) 256) (eqb (length t) 40) (checksum_right image) (ordered (thresholds_of t)) (number_is ∙ e)

  pub make-accepted : make_refusal port image t ≡ 0 → (make port image t).answer ≡ Ok tt
  make-accepted e = (make-taken e).accepted

  pub make-size : make_refusal port image t ≡ 0 → length image ≡ 256
  make-size e = eqb-true (length image) 256 (make-taken e).size

  -- the module of a refused making is the one that is made of port 0 and zeros
  pub refused-blank : make_refusal port image t ≢ 0 → (make port image t).next ≡ (make 0 (replicate 256 0) (replicate 40 0)).next
  unfolding make zeros
  refused-blank f = make-blank f

-- a customer byte changes nothing of it
pub refusal_front : (port : ℕ) (image image' t : List ℕ) → length image' ≡ length image → take 119 image' ≡ take 119 image
    → make_refusal port image' t ≡ make_refusal port image t
refusal_front port image image' t e f =
    sym (number_is port image' t)
    ∙ (λ k. number (not (leb port 31)) (not (eqb (e k) 256)) (not (eqb (length t) 40)) (not (checksum_front image' image f k)) (not (ordered (thresholds_of t))))
    ∙ number_is port image t

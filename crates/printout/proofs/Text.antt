-- Characters put one behind the other, and how many there are of them.
-- Assumes nothing.
use Prim.Native.Nat.{ℕ, zero, suc, ◌+◌, ◌*◌, ◌-◌, ◌/◌, ◌%◌, ◌^◌, ◌≤◌, ◌<◌}
use native.Mathlib.Nat.{add-zero, add-suc, suc-add, pow-suc, pow-le-pow_right}
use native.Mathlib.Omega.{arith}
use native.Mathlib.Numerals.{sub-one}
use mathlib.Core.Bool.{Bool, true, false, cond}
use mathlib.Core.List.{List, [], ◌∷◌, ◌++◌, append-nil, append_assoc}
use mathlib.Core.Path.{◌≡◌, refl, sym, ap, ap₂, ◌∙◌}
use lib.Dec.{eqb, leb, ltb}
use lib.ListN.{length, take, drop, set, length-append, length-drop}
use lib.Seq.{sets, sets-eq, drop-drop, take_all}
use borrow.Rule.Slice.PartMut.{put_mid, mid_of}
use borrow.Author.Tests.{lt-ltb, le-ltb, le-leb, lt-leb, ltb-false, leb-true, leb-false}
use Rattle.std.proofs.lemmas.List.{drop_all}
use Rattle.io.specs.Digits.{hex_digit_ascii, last_digits, IsDigitCount}
use Rattle.printout.specs.Line.{space, dash, newline, digits_within, decimal, kind_text, refusal_text, alarm_digit, line_text, longest, Put, Written}
use Rattle.printout.specs.declared.Line.{Line}

-- ---- one text behind another
pub sets-append : (l : List ℕ) (i : ℕ) (vs ws : List ℕ) → sets (sets l i vs) (i + length vs) ws ≡ sets l i (vs ++ ws)
sets-append l i [] ws = rw add-zero
sets-append l i (v ∷ vs) ws =
    ap (λ (k : ℕ). sets (sets l i (v ∷ vs)) k ws) (add-suc i (length vs) ∙ sym (suc-add i (length vs)))
    ∙ sets-append (set l i v) (suc i) vs ws

pub then : {t u a b c : List ℕ} {i j k : ℕ} → Put t a i b j → Put u b j c k → Put (t ++ u) a i c k
then {t} {u} {a} {i = i} p q =
    record {
      bytes = q.bytes ∙ ap₂ (λ (l : List ℕ) (n : ℕ). sets l n u) p.bytes p.ends ∙ sets-append a i t u;
      ends = omega (arith, p.ends, q.ends, length-append t u);
    }

-- a text copied over the front
pub copied : (t l : List ℕ) → length t ≤ length l → Put t l 0 (put_mid 0 (length t) l t) (length t)
copied t l h =
    let n : length t ≡ 0 + length t = omega arith in
    record { bytes = ap (λ (n : ℕ). t ++ drop n l) n ∙ sym (sets-eq t l 0 (omega arith)); ends = n }

-- a text at the front of what is behind a position is at that position
pub behind : {t a : List ℕ} {n : ℕ} (l : List ℕ) (at k : ℕ) → Put t (mid_of at k l) 0 a n → at + k ≡ length l → length t ≤ k
    → Put t l at (put_mid at k l a) (at + n)
behind {t} {a} {n} l at k p e h =
    let rest : mid_of at k l ≡ drop at l = take_all k (drop at l) (omega (arith, length-drop at l)) in
    let none : drop k (drop at l) ≡ [] = drop_all k (drop at l) (omega (arith, length-drop at l)) in
    let front : a ≡ t ++ drop (0 + length t) (drop at l) =
    p.bytes ∙ ap (λ (m : List ℕ). sets m 0 t) rest ∙ sets-eq t (drop at l) 0 (omega (arith, length-drop at l)) in
    record {
      bytes =
          rw (none, append-nil a, front)
          (sym (append_assoc (take at l) t (drop (0 + length t) (drop at l)))
          ∙ ap (λ (r : List ℕ). (take at l ++ t) ++ r) (drop-drop (0 + length t) at l ∙ ap (λ (n : ℕ). drop n l) (omega arith))
          ∙ sym (sets-eq t l at (omega arith)));
      ends = omega (arith, p.ends);
    }

-- ---- decimal digits
-- the digits that the kit finds to be the fewest are those of the definition
pub fewest : (most n k : ℕ) → k ≤ most → IsDigitCount 10 1 n k → last_digits 10 k n ≡ digits_within most n
fewest most n zero h f = absurd (omega (arith, f.0))
fewest zero n (suc k) h f = absurd (omega arith)
fewest (suc most) n (suc zero) h f = rw (lt-ltb n 10 f.1)
fewest (suc most) n (suc (suc k)) h f =
    let high : n < 10 ^ k * 10 * 10 = rw (pow-suc, pow-suc) at f.1 in
    let low : 10 ^ k * 10 ≤ n = rw (sub-one, pow-suc) at (f.2 (omega arith)) in
    let some : 1 ≤ 10 ^ k = pow-le-pow_right {n = 10} (omega arith) {i = 0} {j = k} (omega arith) in
    rw (le-ltb n 10 (omega arith))
    (ap (λ (t : List ℕ). t ++ hex_digit_ascii (n % 10) ∷ [])
    (fewest most (n / 10) (suc k) (omega arith)
    (omega arith, rw pow-suc (omega arith), λ more. rw sub-one (omega arith))))

-- twenty digits hold a number below 2^64
pub decimal_is : (n k : ℕ) (xs : List ℕ) → n < 2 ^ 64 → IsDigitCount 10 1 n k → take k xs ≡ last_digits 10 k n → take k xs ≡ decimal n
unfolding decimal
decimal_is n k xs h f e = e ∙ fewest 20 n k (few (leb k 20) refl) f
  where
    few : (b : Bool) → leb k 20 ≡ b → k ≤ 20
    few true p = leb-true k 20 p
    few false p =
        let more : 20 < k = leb-false k 20 p in
        let high : 10 ^ 20 ≤ 10 ^ (k - 1) = pow-le-pow_right {n = 10} (omega arith) {i = 20} {j = k - 1} (omega arith) in
        absurd (omega (arith, f.2 (omega arith)))

-- a number below a power of ten has no more digits than that
pub digits-length : (most k n : ℕ) → n < 10 ^ suc k → length (digits_within most n) ≤ suc k
digits-length zero k n h = omega arith
digits-length (suc most) k n h = go k (ltb n 10) refl h (λ k. digits-length most k (n / 10))
  where
    go : (k : ℕ) (b : Bool) → ltb n 10 ≡ b → n < 10 ^ suc k
        → ((k : ℕ) → n / 10 < 10 ^ suc k → length (digits_within most (n / 10)) ≤ suc k)
        → length (cond b [] (digits_within most (n / 10)) ++ hex_digit_ascii (n % 10) ∷ []) ≤ suc k
    go k true e h rest = omega arith
    go zero false e h rest = absurd (omega (arith, ltb-false n 10 e))
    go (suc k) false e h rest =
        let below : n < 10 ^ k * 10 * 10 = rw (pow-suc, pow-suc) at h in
        omega (arith, length-append (digits_within most (n / 10)) (hex_digit_ascii (n % 10) ∷ []), rest k (rw pow-suc (omega arith)))

-- ---- a line
pub line_length : (l : Line) → length (line_text l) ≡ length (decimal l.index) + length (refusal_text l.refusal) + 7
unfolding line_text
line_length l = simp length-append (omega arith)

-- its parts
pub line_is : (l : Line)
    → line_text l ≡ decimal l.index ++ (space ∷ kind_text l.kind ++ space ∷ []) ++ refusal_text l.refusal
    ++ space ∷ alarm_digit l.alarm ∷ newline ∷ []
unfolding line_text
line_is l = simp append_assoc refl

-- none is longer
pub at_most : (l : Line) → l.index < 2 ^ 64 → l.refusal < 2 ^ 8 → length (line_text l) ≤ longest
unfolding decimal
at_most l i r =
    omega (arith, line_length l, digits-length 20 19 l.index (omega arith), numbered (eqb l.refusal 0))
  where
    numbered : (b : Bool) → length (cond b (dash ∷ []) (decimal l.refusal)) ≤ 3
    numbered true = omega arith
    numbered false = digits-length 20 2 l.refusal (omega arith)

-- where there is room for the longest line, and where not
pub room : {t l a : List ℕ} {at end : ℕ} → length t ≤ longest → at + longest ≤ length l → Put t l at a end → Written t l at a end
room short h p = record { bytes = rw (le-leb _ _ h) p.bytes; ends = rw (le-leb _ _ h) p.ends; short = omega (arith, p.ends) }

pub with_room : {t l a : List ℕ} {at end : ℕ} → at + longest ≤ length l → Written t l at a end → Put t l at a end
with_room h w = record { bytes = rw (le-leb _ _ h) at w.bytes; ends = rw (le-leb _ _ h) at w.ends }

pub no_room : {t l : List ℕ} {at : ℕ} → length l < at + longest → Written t l at l at
no_room h = record { bytes = rw (lt-leb _ _ h); ends = rw (lt-leb _ _ h); short = omega arith }

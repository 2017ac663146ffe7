-- The laws between a word's bits and `|`, `&`, shifts, sums of bits and `share`, for any word.
-- Assumes nothing.
use Prim.Native.Nat.{ℕ, zero, suc, ◌+◌, ◌*◌, ◌/◌, ◌%◌, ◌^◌, ◌≤◌, ◌<◌, min, max}
use native.Mathlib.Nat.{div-eq_of_lt, div-one, le_trans}
use native.Mathlib.Numerals.{one-add}
use native.Mathlib.Omega.{arith}
use borrow.Author.Tests.{ne_eqb}
use mathlib.Core.Path.{◌≡◌, refl, sym, ap, ap₂, ◌∙◌}
use mathlib.Core.Bool.{Bool, true, false, cond, ◌&&◌, ◌||◌, not}
use mathlib.Core.List.{List, [], ◌∷◌}
use lib.Bits.{bit_and, bit_or, and_step, or_step, and_shr, or_shr, and_le_r, shifted_half, shifted_even}
use lib.Dec.{eqb}
use lib.ListN.{length, get_or, drop}
use mir.Val.{bool_byte}
use lib.Pow.{pow_mono, shl-shr, shr-shr}
use Rattle.words.specs.Words.{bit, of_bits, any_bit, share}

-- ---- shifts
pub bit_shr : (i k w : ℕ) → bit i (w / 2 ^ k) ≡ bit (k + i) w
unfolding bit
bit_shr i k w = rw (shr-shr w k i)

pub bit_shl : (i k w : ℕ) → bit (k + i) (w * 2 ^ k) ≡ bit i w
bit_shl i k w = sym (bit_shr i k (w * 2 ^ k)) ∙ ap (bit i) (shl-shr w k)

-- ---- the lowest bit, and the rest
pub bit_lowest : (w : ℕ) → bit 0 w ≡ eqb (w % 2) 1
unfolding bit
bit_lowest w = rw (div-one w)

pub bit_suc : (i w : ℕ) → bit (suc i) w ≡ bit i (w / 2)
bit_suc i w = rw (← one-add i) (sym (bit_shr i 1 w))

-- ---- bits that are not set
-- below a shift to the left
pub bit_shl_low : (i k w : ℕ) → i < k → bit i (w * 2 ^ k) ≡ false
bit_shl_low i zero w h = absurd (omega arith)
bit_shl_low zero (suc k) w h = bit_lowest (w * 2 ^ suc k) ∙ rw (shifted_even w k)
bit_shl_low (suc i) (suc k) w h = bit_suc i (w * 2 ^ suc k) ∙ rw (shifted_half w k) (bit_shl_low i k w (omega arith))

-- from n on, of a word below 2 ^ n
pub bit-above : (n i w : ℕ) → w < 2 ^ n → n ≤ i → bit i w ≡ false
unfolding bit
bit-above n i w h k = let z : w / 2 ^ i ≡ 0 = div-eq_of_lt (le_trans h (pow_mono k)) in rw z

pub bit_zero : (i : ℕ) → bit i 0 ≡ false
bit_zero i = bit-above 0 i 0 (omega arith) (omega arith)

-- ---- `|` and `&`
-- a digit is 0 or 1
data Digit : ℕ → Type 0 where
  d0 : Digit 0
  d1 : Digit 1

digit : (x : ℕ) → Digit (x % 2)
digit x = go (x % 2) (omega arith)
  where
    go : (d : ℕ) → d < 2 → Digit d
    go zero h = d0
    go (suc zero) h = d1
    go (suc (suc n)) h = absurd (omega arith)

min_digit : {a b : ℕ} → Digit a → Digit b → eqb (min a b) 1 ≡ (eqb a 1 && eqb b 1)
min_digit d0 d0 = refl
min_digit d0 d1 = refl
min_digit d1 d0 = refl
min_digit d1 d1 = refl

max_digit : {a b : ℕ} → Digit a → Digit b → eqb (max a b) 1 ≡ (eqb a 1 || eqb b 1)
max_digit d0 d0 = refl
max_digit d0 d1 = refl
max_digit d1 d0 = refl
max_digit d1 d1 = refl

pub bit-and : (i a b : ℕ) → bit i (bit_and a b) ≡ (bit i a && bit i b)
unfolding bit
bit-and i a b =
    let last : bit_and (a / 2 ^ i) (b / 2 ^ i) % 2 ≡ min (a / 2 ^ i % 2) (b / 2 ^ i % 2) = omega (arith, and_step (a / 2 ^ i) (b / 2 ^ i)) in
    rw (and_shr a b i, last) (min_digit (digit (a / 2 ^ i)) (digit (b / 2 ^ i)))

pub bit-or : (i a b : ℕ) → bit i (bit_or a b) ≡ (bit i a || bit i b)
unfolding bit
bit-or i a b =
    let last : bit_or (a / 2 ^ i) (b / 2 ^ i) % 2 ≡ max (a / 2 ^ i % 2) (b / 2 ^ i % 2) = omega (arith, or_step (a / 2 ^ i) (b / 2 ^ i)) in
    rw (or_shr a b i, last) (max_digit (digit (a / 2 ^ i)) (digit (b / 2 ^ i)))

-- ---- words made of bits
-- the bits of a word made of them
pub bit-of_bits : (bs : List Bool) (i : ℕ) → bit i (of_bits bs) ≡ get_or bs i false
bit-of_bits [] i = bit_zero i
bit-of_bits (b ∷ bs) zero = bit_lowest (of_bits (b ∷ bs)) ∙ lowest b (of_bits bs)
  where
    lowest : (b : Bool) (n : ℕ) → eqb ((cond b 1 0 + 2 * n) % 2) 1 ≡ b
    lowest true n = let e : (1 + 2 * n) % 2 ≡ 1 = omega arith in rw e
    lowest false n = let e : (0 + 2 * n) % 2 ≡ 0 = omega arith in rw e
bit-of_bits (b ∷ bs) (suc i) = bit_suc i (of_bits (b ∷ bs)) ∙ ap (bit i) (half b (of_bits bs)) ∙ bit-of_bits bs i
  where
    half : (b : Bool) (n : ℕ) → (cond b 1 0 + 2 * n) / 2 ≡ n
    half true n = omega arith
    half false n = omega arith

pub of_bits-below : (bs : List Bool) → of_bits bs < 2 ^ length bs
of_bits-below [] = omega arith
of_bits-below (b ∷ bs) = digit-first b (of_bits bs) (length bs) (of_bits-below bs)
  where
    digit-first : (b : Bool) (w n : ℕ) → w < 2 ^ n → cond b 1 0 + 2 * w < 2 ^ suc n
    digit-first true w n h = omega arith
    digit-first false w n h = omega arith

-- the word of the bits from i on: bit i, and twice the word of those after it
first-and_rest : (bs : List Bool) (i : ℕ) → of_bits (drop i bs) ≡ bool_byte (get_or bs i false) + 2 * of_bits (drop (suc i) bs)
first-and_rest [] zero = refl
first-and_rest [] (suc i) = refl
first-and_rest (true ∷ bs) zero = refl
first-and_rest (false ∷ bs) zero = refl
first-and_rest (b ∷ bs) (suc i) = first-and_rest bs i

no_more : (bs : List Bool) (n : ℕ) → length bs ≤ n → of_bits (drop n bs) ≡ 0
no_more [] zero h = refl
no_more [] (suc n) h = refl
no_more (b ∷ bs) zero h = absurd (omega arith)
no_more (b ∷ bs) (suc n) h = no_more bs n (omega arith)

-- the word of eight bits, as the code adds them up
pub of_eight_bits : (bs : List Bool) → length bs ≡ 8
    → bool_byte (get_or bs 0 false) + 2 * bool_byte (get_or bs 1 false) + 4 * bool_byte (get_or bs 2 false) + 8 * bool_byte (get_or bs 3 false)
    + 16 * bool_byte (get_or bs 4 false) + 32 * bool_byte (get_or bs 5 false) + 64 * bool_byte (get_or bs 6 false) + 128 * bool_byte (get_or bs 7 false)
    ≡ of_bits bs
of_eight_bits bs h =
    let step = first-and_rest bs in
    omega (arith, step 0, step 1, step 2, step 3, step 4, step 5, step 6, step 7, no_more bs 8 (omega arith))

-- words with the same bits are equal
pub bits_equal : (n : ℕ) {a b : ℕ} → a < 2 ^ n → b < 2 ^ n → ((i : ℕ) → bit i a ≡ bit i b) → a ≡ b
bits_equal zero h k e = omega arith
bits_equal (suc n) {a} {b} h k e =
    let upper : a / 2 ≡ b / 2 = bits_equal n (omega arith) (omega arith) (λ i. sym (bit_suc i a) ∙ e (suc i) ∙ bit_suc i b) in
    let lower : eqb (a % 2) 1 ≡ eqb (b % 2) 1 = sym (bit_lowest a) ∙ e 0 ∙ bit_lowest b in
    let last : a % 2 ≡ b % 2 = same (digit a) (digit b) lower in
    omega arith
  where
    same : {x y : ℕ} → Digit x → Digit y → eqb x 1 ≡ eqb y 1 → x ≡ y
    same d0 d0 f = refl
    same d0 d1 f = absurd (let z : ◌≡◌ {A = ℕ} 0 1 = cc in omega arith)
    same d1 d0 f = absurd (let z : ◌≡◌ {A = ℕ} 0 1 = cc in omega arith)
    same d1 d1 f = refl

-- ---- `share`
pub any_same : (n : ℕ) {p q : ℕ → Bool} → ((i : ℕ) → p i ≡ q i) → any_bit n p ≡ any_bit n q
unfolding any_bit
any_same zero h = refl
any_same (suc n) h = ap₂ ◌||◌ (h 0) (any_same n (λ i. h (suc i)))

nonzero : (x : ℕ) → 0 < x → not (eqb x 0) ≡ true
nonzero x h = rw (ne_eqb x 0 (λ e. omega arith))

halved : (x : ℕ) {d : ℕ} → Digit d → x % 2 ≡ d → not (eqb x 0) ≡ (eqb d 1 || not (eqb (x / 2) 0))
halved zero d0 h = refl
halved (suc x) d0 h = nonzero (suc x) (omega arith) ∙ sym (nonzero (suc x / 2) (omega arith))
halved x d1 h = nonzero x (omega arith)

-- a word below 2 ^ n is other than 0 exactly when one of its n bits is set
pub some_bit : (n w : ℕ) → w < 2 ^ n → not (eqb w 0) ≡ any_bit n (λ i. bit i w)
unfolding any_bit
some_bit zero w h = let z : w ≡ 0 = omega arith in rw z
some_bit (suc n) w h =
    halved w (digit w) refl
    ∙ ap₂ ◌||◌ (sym (bit_lowest w)) (some_bit n (w / 2) (omega arith) ∙ any_same n (λ i. sym (bit_suc i w)))

-- the code's test: `a & b` is other than 0
pub share-and : (a b : ℕ) → b < 2 ^ 16 → not (eqb (bit_and a b) 0) ≡ share a b
unfolding share
share-and a b h = some_bit 16 (bit_and a b) (omega (arith, and_le_r a b)) ∙ any_same 16 (λ i. bit-and i a b)

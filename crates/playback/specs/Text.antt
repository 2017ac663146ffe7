-- What a line of a play is as text, in ASCII (document 02, P1): a second telling, character by character, beside that of
-- `printout`. Of the code it takes the type of a line.
-- Assumes nothing.
use Rattle.std.specs.Prelude.{ℕ, ◌+◌, ◌*◌, ◌<◌, Bool, true, false, List, [], ◌∷◌, ◌++◌}
use Rattle.printout.specs.declared.Line.{Line}

-- a number in decimal, without leading zeros
pub data Decimal : List ℕ → ℕ → Type 0 where
  digit : (d : ℕ) → d < 10 → Decimal ((0x30 + d) ∷ []) d
  digits : {text : List ℕ} {n : ℕ} → Decimal text n → 0 < n → (d : ℕ) → d < 10 → Decimal (text ++ (0x30 + d) ∷ []) (n * 10 + d)

-- a lowercase hexadecimal digit
pub data Hexadecimal : ℕ → ℕ → Type 0 where
  figure : (d : ℕ) → d < 10 → Hexadecimal (0x30 + d) d
  letter : (d : ℕ) → d < 6 → Hexadecimal (0x61 + d) (10 + d)

-- a refusal's number in decimal, or `-`
pub data Refusal : List ℕ → ℕ → Type 0 where
  dash : Refusal (0x2d ∷ []) 0
  numbered : {text : List ℕ} {n : ℕ} → Decimal text n → 0 < n → Refusal text n

-- LASI as 0 or 1
pub data Level : ℕ → Bool → Type 0 where
  down : Level 0x30 false
  up : Level 0x31 true

-- index, kind in two digits, refusal and LASI, with a space between two, and a newline
pub data Text : List ℕ → Line → Type 0 where
  line : {index refusal : List ℕ} {high low alarm i h l r : ℕ} {a : Bool} → Decimal index i → Hexadecimal high h → Hexadecimal low l
      → Refusal refusal r → Level alarm a
      → Text (index ++ 0x20 ∷ high ∷ low ∷ [] ++ 0x20 ∷ refusal ++ 0x20 ∷ alarm ∷ 0x0a ∷ [])
      (record { index = i; kind = h * 16 + l; refusal = r; alarm = a })

-- lines, one behind the other
pub data Texts : List ℕ → List Line → Type 0 where
  none : Texts [] []
  one_more : {text texts : List ℕ} {l : Line} {ls : List Line} → Text text l → Texts texts ls → Texts (text ++ texts) (l ∷ ls)

-- The bits of a word: one of them, a word made of them, and whether two words have one in common.
-- Assumes nothing.
use Rattle.std.specs.Prelude.{ℕ, zero, suc, ◌+◌, ◌*◌, ◌/◌, ◌%◌, ◌^◌, Bool, false, cond, ◌&&◌, ◌||◌, List, [], ◌∷◌, eqb}

-- bit i of a word, bit 0 the lowest
unfoldable pub bit : ℕ → ℕ → Bool
bit i w = eqb (w / 2 ^ i % 2) 1

-- the word of these bits, the lowest first
abbrev pub of_bits : List Bool → ℕ
of_bits [] = 0
of_bits (b ∷ bs) = cond b 1 0 + 2 * of_bits bs

-- p holds of one of the n lowest bit numbers
unfoldable pub any_bit : ℕ → (ℕ → Bool) → Bool
any_bit zero p = false
any_bit (suc n) p = p 0 || any_bit n (λ i. p (suc i))

-- two 16-bit words share a bit
unfoldable pub share : ℕ → ℕ → Bool
share a b = any_bit 16 (λ i. bit i a && bit i b)

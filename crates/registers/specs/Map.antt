-- The register map of device 1. Document 01, "Registers".
-- Assumes nothing.
use Rattle.std.specs.Prelude.{ℕ, ◌-◌, ◌/◌, ◌%◌, Bool, cond, ◌&&◌, List, [], ◌∷◌, leb, eqb}
use Rattle.registers.specs.declared.Register.{Register}
use Rattle.registers.specs.declared.Register.TheVariants.{PmaControl, NvrControl, Copy, Customer, Control, Status, Threshold, Sample, Flags, Unlisted}

-- the addresses first to last, and the register at an address among them
pub record Row : Type 0 where
  pub first : ℕ
  pub last : ℕ
  pub register : ℕ → Register

abbrev pub row : ℕ → ℕ → (ℕ → Register) → Row
row a b f = record { first = a; last = b; register = f }

-- a sample's low byte is at the odd address
abbrev pub is_low : ℕ → Bool
is_low a = eqb (a % 2) 1

-- every address that is listed stands in one row
unfoldable pub rows : List Row
rows =
    row 0x0000 0x0000 (λ a. PmaControl)
    ∷ row 0x8000 0x8000 (λ a. NvrControl)
    ∷ row 0x8007 0x807d (λ a. Copy (a - 0x8007))
    ∷ row 0x807e 0x80ad (λ a. Customer (a - 0x8007))
    ∷ row 0x80ae 0x8106 (λ a. Copy (a - 0x8007))
    ∷ row 0x9000 0x9002 (λ a. Control (a - 0x9000))
    ∷ row 0x9003 0x9005 (λ a. Status (a - 0x9003))
    ∷ row 0x9006 0x9007 (λ a. Control (a - 0x9003))
    ∷ row 0xa000 0xa027 (λ a. Threshold (a - 0xa000))
    ∷ row 0xa060 0xa061 (λ a. Sample 0 (is_low a))
    ∷ row 0xa064 0xa069 (λ a. Sample ((a - 0xa062) / 2) (is_low a))
    ∷ row 0xa070 0xa071 (λ a. Flags (a - 0xa070))
    ∷ row 0xa074 0xa075 (λ a. Flags (a - 0xa072))
    ∷ []

abbrev pub within : Row → ℕ → Bool
within r a = leb r.first a && leb a r.last

-- the register of the first row that has the address
abbrev pub lookup : List Row → ℕ → Register
lookup [] a = Unlisted
lookup (r ∷ rs) a = cond (within r a) (r.register a) (lookup rs a)

-- the register at an address
unfoldable pub register_at : ℕ → Register
register_at a = lookup rows a

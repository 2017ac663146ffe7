-- The 256 bytes of an image: their regions, and the checksum of the basic region. Document 01, "Registers", the copy.
-- Assumes nothing.
use Rattle.std.specs.Prelude.{ℕ, ◌+◌, ◌%◌, Bool, true, false, cond, List, [], ◌∷◌, eqb, leb, take, get_or}
use Rattle.nvr.specs.declared.image.Region.{Region}
use Rattle.nvr.specs.declared.image.Region.TheVariants.{Basic, Checksum, Customer, Vendor}

-- offsets 0 to 117 basic, 118 checksum, 119 to 166 customer, 167 to 255 vendor
abbrev pub region_of : ℕ → Region
region_of offset = cond (leb offset 117) Basic (cond (leb offset 118) Checksum (cond (leb offset 166) Customer Vendor))

abbrev pub is_customer : Region → Bool
is_customer Basic = false
is_customer Checksum = false
is_customer Customer = true
is_customer Vendor = false

-- the first byte plus the sum of the rest
abbrev pub sum : List ℕ → ℕ
sum [] = 0
sum (b ∷ bs) = b + sum bs

-- the byte at 118 is the low eight bits of the sum of the 118 bytes before it
abbrev pub checksum_right : List ℕ → Bool
checksum_right image = eqb (sum (take 118 image) % 256) (get_or image 118 0)

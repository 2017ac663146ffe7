-- A word written to register 8000: the bits that it keeps, and the command in it. Document 01, "Load, burn, cut".
-- Assumes nothing.
use Rattle.std.specs.Prelude.{ℕ, ◌/◌, ◌%◌, Bool, cond, eqb}
use Rattle.std.specs.Int.Bits.{bit_and}
use Rattle.words.specs.Words.{bit}
use Rattle.nvr.specs.Image.{region_of}
use Rattle.nvr.specs.declared.image.Region.{Region}
use Rattle.nvr.specs.declared.image.Region.TheVariants as region
use Rattle.nvr.specs.declared.command.Command.{Command}
use Rattle.nvr.specs.declared.command.Command.TheVariants.{LoadAll, LoadByte, BurnCustomer, BurnByte, Failed}

-- bits 15:8 offset, 5 write, 1:0 command
abbrev pub kept_bits : ℕ → ℕ
kept_bits w = bit_and w 0xff23

-- only a customer byte is burned
abbrev pub burn_in : Region → ℕ → Command
burn_in region.Basic offset = Failed
burn_in region.Checksum offset = Failed
burn_in region.Customer offset = BurnByte offset
burn_in region.Vendor offset = Failed

-- command 11 loads all offsets, or burns the customer bytes; 10 does that one offset; 00 and 01 fail
abbrev pub command_by : ℕ → Bool → ℕ → Command
command_by code write offset =
    cond (eqb code 3) (cond write BurnCustomer LoadAll)
    (cond (eqb code 2) (cond write (burn_in (region_of offset) offset) (LoadByte offset)) Failed)

unfoldable pub command_of : ℕ → Command
command_of w = command_by (w % 4) (bit 5 w) (w / 256)

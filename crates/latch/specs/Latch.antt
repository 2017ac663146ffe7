-- A latch: the latest word, and every bit that a word had since the latch was last cleared.
-- Assumes nothing.
use Rattle.std.specs.Prelude.{ℕ}
use Rattle.std.specs.Int.Bits.{bit_or}
use Rattle.latch.specs.declared.Latch.{Latch}

abbrev pub no_latch : Latch
no_latch = record { live = 0; since = 0 }

abbrev pub fed : ℕ → Latch → Latch
fed word l = record { live = word; since = bit_or l.since word }

abbrev pub cleared : Latch → Latch
cleared l = record { live = l.live; since = 0 }

-- the bits that stand
abbrev pub latched : Latch → ℕ
latched l = bit_or l.live l.since

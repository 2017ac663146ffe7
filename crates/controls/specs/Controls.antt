-- The alarm controls 9000, 9001, 9002, 9006 and 9007, number 0 to 4. Document 01, "Registers".
-- Assumes nothing.
use Rattle.std.specs.Prelude.{ℕ, [], ◌∷◌, get_or}
use Rattle.std.specs.Int.Bits.{bit_and}
use Rattle.controls.specs.declared.Controls.{Controls}

abbrev pub controls : ℕ → ℕ → ℕ → ℕ → ℕ → Controls
controls a b c d e = record { rxalarm = a; txalarm = b; lasi = c; txflag = d; rxflag = e }

abbrev pub no_controls : Controls
no_controls = controls 0 0 0 0 0

-- control i, written under its mask
abbrev pub control_written : Controls → ℕ → ℕ → Controls
control_written c i word =
    get_or
    (controls (bit_and word 0x003b) c.txalarm c.lasi c.txflag c.rxflag
    ∷ controls c.rxalarm (bit_and word 0x03db) c.lasi c.txflag c.rxflag
    ∷ controls c.rxalarm c.txalarm (bit_and word 0x0007) c.txflag c.rxflag
    ∷ controls c.rxalarm c.txalarm c.lasi (bit_and word 0x00cf) c.rxflag
    ∷ controls c.rxalarm c.txalarm c.lasi c.txflag (bit_and word 0x00c0)
    ∷ [])
    i c

-- control i as it reads
abbrev pub control_at : Controls → ℕ → ℕ
control_at c i = get_or (c.rxalarm ∷ c.txalarm ∷ c.lasi ∷ c.txflag ∷ c.rxflag ∷ []) i 0

-- What can be read from the record at any time, without refusal (document 01, "The record and its calls"), and how much is
-- unsaved (document 02, P3).
-- Assumes nothing.
use Rattle.std.specs.Prelude.{ℕ, Bool, get_or}
use Rattle.answers.specs.Answers.{Answer, unsaved_answer}
use Rattle.lasi.specs.Lasi.{alarm_line}
use Rattle.xenpak.specs.declared.Module.{Module}

-- the alarm line, LASI
abbrev pub line_of : Module → Bool
line_of m = alarm_line m.powered m.alarms

-- data answers since power-on or reset
abbrev pub counter_of : Module → ℕ
counter_of m = m.bus.counter

-- the byte of the store at an offset
abbrev pub stored_at : Module → ℕ → ℕ
stored_at m offset = get_or m.store offset 0

-- how many customer bytes differ between copy and store, as the record keeps it; 7 powered off
abbrev pub unsaved_of : Module → Answer ℕ
unsaved_of m = unsaved_answer m.powered m.differing.copy

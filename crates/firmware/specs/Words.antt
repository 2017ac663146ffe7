-- Answers for C: numbers in the place of enums.
-- Assumes nothing.
use Rattle.std.specs.Prelude.{ℕ, ◌+◌, ◌*◌, List, [], ◌∷◌}
use Rattle.answers.specs.Answers.{Answer, Said, said_plain, said_settle}
use Rattle.xenpak.specs.declared.Outcome.{Outcome}
use Rattle.firmware.specs.declared.calls.Called.{Called}
use Rattle.firmware.specs.declared.calls.Settled.{Settled}

-- an answer's values as one number: a value, or offset and byte
abbrev pub value_of : List ℕ → ℕ
value_of [] = 0
value_of (value ∷ []) = value
value_of (offset ∷ byte ∷ rest) = offset * 256 + byte

-- an answer as a 32-bit word: bits 31:24 the refusal's number, 23:16 which of the call's answers it is, 15:0 its values
abbrev pub answer_word : Said → ℕ
answer_word s = s.refusal * 0x1000000 + s.which * 0x10000 + value_of s.values

-- the outcome of a call that only is accepted or refused
abbrev pub called_by : Outcome (Answer (Unit {0})) → Called
called_by o = record { next = o.next; refusal = (said_plain o.answer).refusal }

-- the outcome of settling
abbrev pub settled_by : Outcome (Answer ℕ) → Settled
settled_by o = record { next = o.next; ticks = value_of (said_settle o.answer).values; refusal = (said_settle o.answer).refusal }

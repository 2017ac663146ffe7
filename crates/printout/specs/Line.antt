-- A line of a play as text, in ASCII. Document 02, P1.
-- Assumes nothing.
use Rattle.std.specs.Prelude.{ℕ, zero, suc, ◌+◌, ◌/◌, ◌%◌, ◌≤◌, Bool, cond, List, [], ◌∷◌, ◌++◌, ◌≡◌, eqb, leb, ltb, length}
use Rattle.std.proofs.lemmas.List.Edits.{sets}
use Rattle.io.specs.Digits.{hex_digit_ascii}
use Rattle.printout.specs.declared.Line.{Line}

-- ' ', '-' and the newline
abbrev pub space : ℕ
space = 32

abbrev pub dash : ℕ
dash = 45

abbrev pub newline : ℕ
newline = 10

-- a number in decimal, in at most so many digits
abbrev pub digits_within : ℕ → ℕ → List ℕ
digits_within zero n = []
digits_within (suc most) n = cond (ltb n 10) [] (digits_within most (n / 10)) ++ hex_digit_ascii (n % 10) ∷ []

-- 20 digits hold every number below 2^64
unfoldable pub decimal : ℕ → List ℕ
decimal n = digits_within 20 n

-- a kind: two lowercase hexadecimal digits
abbrev pub kind_text : ℕ → List ℕ
kind_text kind = hex_digit_ascii (kind / 16) ∷ hex_digit_ascii (kind % 16) ∷ []

-- a refusal's number in decimal, or a dash
abbrev pub refusal_text : ℕ → List ℕ
refusal_text number = cond (eqb number 0) (dash ∷ []) (decimal number)

-- the alarm line: 0 or 1
abbrev pub alarm_digit : Bool → ℕ
alarm_digit alarm = cond alarm (hex_digit_ascii 1) (hex_digit_ascii 0)

-- index, kind, refusal and alarm line, a space between two, and one newline
unfoldable pub line_text : Line → List ℕ
line_text l =
    decimal l.index ++ space ∷ kind_text l.kind ++ space ∷ refusal_text l.refusal ++ space ∷ alarm_digit l.alarm
    ∷ newline ∷ []

-- no line has more characters: 20 digits of the index, 2 of the kind, 3 of the refusal, 1 of the alarm line, spaces, newline
abbrev pub longest : ℕ
longest = 30

-- ---- what writing leaves
-- the text is in the buffer from a position on, and the next position is behind it; the rest is as it was
pub record Put (text before : List ℕ) (at : ℕ) (after : List ℕ) (end : ℕ) : Type 0 where
  pub bytes : after ≡ sets before at text
  pub ends : end ≡ at + length text

-- likewise where there is room for the longest line, which this one is not past; else nothing is written, and the position is
-- the same
pub record Written (text before : List ℕ) (at : ℕ) (after : List ℕ) (end : ℕ) : Type 0 where
  pub bytes : after ≡ cond (leb (at + longest) (length before)) (sets before at text) before
  pub ends : end ≡ cond (leb (at + longest) (length before)) (at + length text) at
  pub short : end ≤ at + longest

-- What a play prints says what its lines do.
-- Assumes nothing.
use Prim.Native.Nat.{ℕ, zero, suc, ◌+◌, ◌*◌, ◌-◌, ◌/◌, ◌%◌, ◌^◌, ◌≤◌, ◌<◌}
use native.Mathlib.Nat.{pow-suc}
use native.Mathlib.Omega.{arith}
use mathlib.Core.Bool.{Bool, true, false, cond}
use mathlib.Core.List.{List, [], ◌∷◌, ◌++◌}
use mathlib.Core.Path.{◌≡◌, refl, subst}
use lib.Dec.{eqb, ltb}
use borrow.Author.Tests.{lt-ltb, ltb-true, ltb-false, eqb-true, eqb-false}
use Rattle.io.specs.Digits.{hex_digit_ascii}
use Rattle.printout.specs.Line.{digits_within, decimal, refusal_text, alarm_digit, line_text}
use Rattle.printout.specs.Line as line
use Rattle.printout.specs.declared.Line.{Line}
use Rattle.player.specs.Player.{text_of}
use Rattle.playback.specs.Text.{Decimal, digit, digits, Hexadecimal, figure, letter, Refusal, dash, numbered, Level, down, up, Text, line, Texts}
use Rattle.playback.specs.Text as text
use Rattle.playback.specs.Format.{All}
use Rattle.playback.specs.Playback.{play, Printed}
use Rattle.playback.proofs.Widths.{Narrow, narrow}
use Rattle.playback.proofs.OneText.{one_text}

-- ---- numbers
last-digit : (n : ℕ) → hex_digit_ascii (n % 10) ≡ 0x30 + n % 10
last-digit n = rw (lt-ltb (n % 10) 10 (omega arith))

one-digit : (n : ℕ) → n < 10 → Decimal (hex_digit_ascii (n % 10) ∷ []) n
one-digit n h = let small : n % 10 ≡ n = omega arith in rw (last-digit n, small) (digit n h)

decimal_of : (most n : ℕ) → n < 10 ^ suc most → Decimal (digits_within (suc most) n) n
decimal_of zero n h = rw (lt-ltb n 10 h) (one-digit n h)
decimal_of (suc most) n h = go (ltb n 10) refl (decimal_of most (n / 10) below)
  where
    below : n / 10 < 10 ^ suc most
    below = let b : n < 10 ^ most * 10 * 10 = rw (pow-suc, pow-suc) at h in rw pow-suc (omega arith)

    go : (b : Bool) → ltb n 10 ≡ b → Decimal (digits_within (suc most) (n / 10)) (n / 10)
        → Decimal (cond b [] (digits_within (suc most) (n / 10)) ++ hex_digit_ascii (n % 10) ∷ []) n
    go true e rest = one-digit n (ltb-true n 10 e)
    go false e rest =
        let whole : n / 10 * 10 + n % 10 ≡ n = omega arith in
        rw (last-digit n)
        (subst (Decimal (digits_within (suc most) (n / 10) ++ (0x30 + n % 10) ∷ [])) whole
        (digits rest (omega (arith, ltb-false n 10 e)) (n % 10) (omega arith)))

number_of : (n : ℕ) → n < 2 ^ 64 → Decimal (decimal n) n
unfolding decimal
number_of n h = decimal_of 19 n (omega arith)

hexadecimal_of : (d : ℕ) → d < 16 → Hexadecimal (hex_digit_ascii d) d
hexadecimal_of d h = go (ltb d 10) refl
  where
    go : (b : Bool) → ltb d 10 ≡ b → Hexadecimal (cond b (48 + d) (87 + d)) d
    go true e = figure d (ltb-true d 10 e)
    go false e =
        let high : 10 ≤ d = ltb-false d 10 e in
        let code : 0x61 + (d - 10) ≡ 87 + d = omega arith in
        let value : 10 + (d - 10) ≡ d = omega arith in
        subst (λ (c : ℕ). Hexadecimal c d) code (subst (Hexadecimal (0x61 + (d - 10))) value (letter (d - 10) (omega arith)))

-- ---- a line
refusal_of : (n : ℕ) → n < 2 ^ 8 → Refusal (refusal_text n) n
refusal_of n h = go (eqb n 0) refl
  where
    go : (b : Bool) → eqb n 0 ≡ b → Refusal (cond b (line.dash ∷ []) (decimal n)) n
    go true e = let z : n ≡ 0 = eqb-true n 0 e in rw z dash
    go false e = numbered {n = n} (number_of n (omega arith)) (let some = eqb-false n 0 e in omega arith)

level_of : (alarm : Bool) → Level (alarm_digit alarm) alarm
level_of true = up
level_of false = down

text-of : (l : Line) → Narrow l → Text (line_text l) l
unfolding line_text
text-of l w =
    let kind : l.kind / 16 * 16 + l.kind % 16 ≡ l.kind = omega arith in
    subst (λ (k : ℕ). Text (line_text l) (record { index = l.index; kind = k; refusal = l.refusal; alarm = l.alarm })) kind
    (line (number_of l.index w.0) (hexadecimal_of (l.kind / 16) (omega (arith, w.1)))
    (hexadecimal_of (l.kind % 16) (omega arith)) (refusal_of l.refusal w.2) (level_of l.alarm))

texts_of : (ls : List Line) → All Narrow ls → Texts (text_of ls) ls
texts_of [] w = text.none
texts_of (l ∷ ls) w = text.one_more (text-of l w.0) (texts_of ls w.1)

pub printed : Printed
printed m bytes b =
    let texts = texts_of (play m bytes).lines (narrow m bytes b) in
    record { texts = texts; only = λ text other. one_text other texts refl }

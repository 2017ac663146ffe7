-- Lines have one text only.
-- Assumes nothing.
use Prim.Native.Nat.{ℕ, ◌<◌}
use native.Mathlib.Omega.{arith}
use mathlib.Core.Bool.{Bool}
use mathlib.Core.List.{List, ◌++◌}
use mathlib.Core.Path.{◌≡◌, refl, ap, ap₂}
use lib.ListN.{length, get_or, drop}
use Rattle.printout.specs.declared.Line.{Line}
use Rattle.playback.specs.Text.{Decimal, digit, digits, Hexadecimal, figure, letter, Refusal, dash, numbered, Level, down, up, Text, line, Texts, none, one_more}

one-decimal : {t u : List ℕ} {n m : ℕ} → Decimal t n → Decimal u m → n ≡ m → t ≡ u
one-decimal (digit d h) (digit e k) is = rw is
one-decimal (digit d h) (digits q some e k) is = absurd (omega arith)
one-decimal (digits p some d h) (digit e k) is = absurd (omega arith)
one-decimal (digits {n = n} p some d h) (digits {n = m} q more e k) is =
    let high : n ≡ m = omega arith in
    let low : d ≡ e = omega arith in
    rw (one-decimal p q high, low)

small : {c d : ℕ} → Hexadecimal c d → d < 16
small (figure d h) = omega arith
small (letter d h) = omega arith

one_hexadecimal : {b c d e : ℕ} → Hexadecimal b d → Hexadecimal c e → d ≡ e → b ≡ c
one_hexadecimal (figure d h) (figure e k) is = rw is
one_hexadecimal (figure d h) (letter e k) is = absurd (omega arith)
one_hexadecimal (letter d h) (figure e k) is = absurd (omega arith)
one_hexadecimal (letter d h) (letter e k) is = let low : d ≡ e = omega arith in rw low

one-refusal : {t u : List ℕ} {n m : ℕ} → Refusal t n → Refusal u m → n ≡ m → t ≡ u
one-refusal dash dash is = refl
one-refusal dash (numbered q more) is = absurd (omega arith)
one-refusal (numbered p some) dash is = absurd (omega arith)
one-refusal (numbered p some) (numbered q more) is = one-decimal p q (rw is)

one_level : {b c : ℕ} {x y : Bool} → Level b x → Level c y → x ≡ y → b ≡ c
one_level down down is = refl
one_level down up is = absurd (let z : ◌≡◌ {A = ℕ} 0 1 = cc in omega arith)
one_level up down is = absurd (let z : ◌≡◌ {A = ℕ} 0 1 = cc in omega arith)
one_level up up is = refl

one_line : {t u : List ℕ} {l k : Line} → Text t l → Text u k → l ≡ k → t ≡ u
one_line (line {h = h} {l = l} i hh hl r a) (line {h = h'} {l = l'} i' hh' hl' r' a') is =
    let kind = ap (λ (x : Line). x.kind) is in
    let high : h ≡ h' = omega (arith, small hh, small hh', small hl, small hl') in
    let low : l ≡ l' = omega (arith, small hh, small hh', small hl, small hl') in
    rw (one-decimal i i' (ap (λ (x : Line). x.index) is), one_hexadecimal hh hh' high, one_hexadecimal hl hl' low, one-refusal r r' (ap (λ (x : Line). x.refusal) is), one_level a a' (ap (λ (x : Line). x.alarm) is))

pub one_text : {t u : List ℕ} {ls ks : List Line} → Texts t ls → Texts u ks → ls ≡ ks → t ≡ u
one_text none none is = refl
one_text none (one_more k ks) is = absurd (let z = ap length is in omega arith)
one_text (one_more l ls) none is = absurd (let z = ap length is in omega arith)
one_text (one_more {l = x} l ls) (one_more k ks) is =
    ap₂ ◌++◌ (one_line l k (ap (λ (xs : List Line). get_or xs 0 x) is)) (one_text ls ks (ap (drop 1) is))

-- A block that is played, and the answer of a read.
-- Assumes nothing.
use Prim.Native.Nat.{ℕ, ◌+◌, ◌-◌, ◌/◌, ◌≤◌, min}
use native.Mathlib.Omega.{arith}
use mathlib.Core.Bool.{Bool, true, false, not, ◌&&◌}
use mathlib.Core.List.{List}
use mathlib.Core.Path.{◌≡◌, refl, sym, ap, ◌∙◌, subst}
use lib.Dec.{eqb}
use lib.ListN.{length, take, drop, length-drop}
use lib.Seq.{sets, length-take-le}
use borrow.Author.Tests.{not-true}
use Rattle.std.specs.Prelude.{Option, Some, Result, Ok}
use Rattle.io.specs.Counts.{IsPrefixLen}
use Rattle.printout.specs.Line.{longest}
use Rattle.player.specs.Player.{Transcript, playing, transcript, Plays, Kept}
use Rattle.player.specs.declared.Player.{Player}
use Rattle.player.specs.declared.Played as player
use Rattle.player.proofs.Playing.{enough, left_over}
use Rattle.play.specs.Turn.{Played, Turned, fails, comes, progress_of}
use Rattle.play.specs.declared.Progress.{Progress}

-- ---- a block
pub block_played : (p : Player) (input input' output output' : List ℕ) (end n : ℕ) (last : Bool) (r : player.Played) → end ≤ length input
    → length input ≤ length output / longest → Plays (playing (length output / longest) last p (take end input) 0) output output' r
    → Kept r.used end input input' n
    → Played last p (take end input) input output input' output'
    (record { player = r.player; written = r.written; held = n; more = not last && not r.player.over })
block_played p input input' output output' end n last r within room plays kept =
    let block : List ℕ = take end input in
    let size : length block ≡ end = length-take-le end input within in
    let t : Transcript = transcript last p block in
    let all : playing (length output / longest) last p block 0 ≡ t =
    enough (length output / longest) (length block) last p block 0 (omega arith) (omega arith) in
    let whole : Plays t output output' r = subst (λ (t : Transcript). Plays t output output' r) all plays in
    record {
      player = whole.player;
      left = kept.bytes ∙ ap (λ (k : ℕ). sets input 0 (drop k block)) whole.used;
      held = kept.counted ∙ ap (λ (k : ℕ). length (drop k block)) whole.used;
      lines = whole.bytes;
      written = whole.written;
      fits = whole.fits;
      more = ap (λ (q : Player). not last && not q.over) whole.player;
    }

-- the second of two that hold
pub second : (a b : Bool) → (a && b) ≡ true → b ≡ true
second true b e = e
second false b e = absurd (let n : ◌≡◌ {A = ℕ} 0 1 = cc in omega arith)

-- where more can follow, few bytes are left
few_left : {last : Bool} {p : Player} {block input output input' output' : List ℕ} {r : Progress} → Played last p block input output input' output' r
    → r.more ≡ true → r.held ≤ 8
few_left {last} {p} {block} b m =
    let over : (transcript last p block).player.over ≡ false = not-true _ (second (not last) _ (sym b.more ∙ m)) in
    omega (arith, b.held, length-drop (transcript last p block).used block, left_over (length block) last p block 0 (omega arith) over)

-- ---- the answer of a read
-- bytes came, no more than there is room for
pub came : {p : Player} {held : ℕ} {input output input' output' : List ℕ} {r : Progress} (n count : ℕ) → count ≡ min n (length input - held)
    → Played (eqb count 0) p (take (held + count) input) input output input' output' r
    → Turned p held input output input' output' (Some n) (Ok r)
came {p} {held} {input} {output} {input'} {output'} {r} n count c b =
    comes n (subst (λ (k : ℕ). Played (eqb k 0) p (take (held + k) input) input output input' output' r) c b)

-- what it leaves: few bytes where more can follow
pub few : {p : Player} {held : ℕ} {input output input' output' : List ℕ} {got : Option ℕ} {t : Result Progress Progress}
    → Turned p held input output input' output' got t → (progress_of t).more ≡ true → (progress_of t).held ≤ 8
few (fails i o) m = absurd (let z : ◌≡◌ {A = ℕ} 0 1 = cc in omega arith)
few (comes n b) m = few_left b m

-- and its lines within the output
pub fit : {p : Player} {held : ℕ} {input output input' output' : List ℕ} {got : Option ℕ} {t : Result Progress Progress}
    → Turned p held input output input' output' got t → IsPrefixLen (progress_of t).written output'
fit (fails i o) = (omega arith, refl)
fit (comes n b) = b.fits

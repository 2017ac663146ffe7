-- A turn of the program: what a read brought is played. Document 02, P1.
-- Assumes nothing.
use Rattle.std.specs.Prelude.{ℕ, ◌+◌, ◌-◌, min, Bool, false, not, ◌&&◌, List, ◌≡◌, eqb, Option, Some, None, Result, Ok, Err, length, take, drop}
use Rattle.std.proofs.lemmas.List.Edits.{sets}
use Rattle.io.specs.Counts.{IsPrefixLen}
use Rattle.player.specs.Player.{transcript, text_of}
use Rattle.player.specs.declared.Player.{Player}
use Rattle.play.specs.declared.Progress.{Progress}

-- a block is played: what is left of it is at the front of the input, its lines are at the front of the output, which has room
-- for them; more can follow where this was not the last and no record was refused
pub record Played (last : Bool) (p : Player) (block input output input' output' : List ℕ) (r : Progress) : Type 0 where
  pub player : r.player ≡ (transcript last p block).player
  pub left : input' ≡ sets input 0 (drop (transcript last p block).used block)
  pub held : r.held ≡ length (drop (transcript last p block).used block)
  pub lines : output' ≡ sets output 0 (text_of (transcript last p block).lines)
  pub written : r.written ≡ length (text_of (transcript last p block).lines)
  pub fits : IsPrefixLen r.written output'
  pub more : r.more ≡ (not last && not (transcript last p block).player.over)

-- by the answer of a read: none, it failed, nothing is played, and no more can follow; else so many bytes came behind those
-- held, no more than there is room for, and none says that no more follow
pub data Turned (p : Player) (held : ℕ) (input output input' output' : List ℕ) : Option ℕ → Result Progress Progress → Type 0 where
  fails : input' ≡ input → output' ≡ output
      → Turned p held input output input' output' None (Err (record { player = p; written = 0; held = held; more = false }))
  comes : (n : ℕ) {r : Progress}
      → Played (eqb (min n (length input - held)) 0) p (take (held + min n (length input - held)) input) input output input' output' r
      → Turned p held input output input' output' (Some n) (Ok r)

-- the progress of a turn, whether its read failed or not
abbrev pub progress_of : Result Progress Progress → Progress
progress_of (Ok r) = r
progress_of (Err r) = r

-- What is guaranteed of playing a bench recording (document 02, P1), over every list of bytes.
-- Assumes nothing.
use Rattle.std.specs.Prelude.{ℕ, zero, suc, ◌+◌, ◌%◌, ◌^◌, Bool, true, false, ◌≡◌, length, drop, replicate}
use mathlib.Core.List.{List, [], ◌∷◌, ◌++◌, map, flatten}
use Rattle.answers.specs.Answers.{Said}
use Rattle.store.specs.declared.Cut.TheVariants.{Clean, Torn}
use Rattle.xenpak.specs.Calls.{accepted}
use Rattle.xenpak.specs.declared.Module.{Module}
use Rattle.reads.specs.Reads.{line_of}
use Rattle.calls.specs.Calls.{run}
use Rattle.calls.specs.declared.Call.{Call}
use Rattle.calls.specs.declared.Call.TheVariants.{PowerOn, Cut, ResetPin, Frame, Tick, Lines, Sample}
use Rattle.creation.specs.Creation.{blank, make}
use Rattle.printout.specs.declared.Line.{Line}
use Rattle.player.specs.Player.{started, Transcript, playing, transcript, text_of}
use Rattle.player.specs.declared.Player.{Player}
use Rattle.guarantees.specs.History.{Model, fresh, run_model, line_by_history}
use Rattle.guarantees.specs.Behaviour.{make_refusal, answers_by_model, along_model}
use Rattle.guarantees.specs.Guarantees.{answers, along}
use Rattle.playback.specs.Format.{Ending, complete, unknown, short, Recording, encoded, Fits, Byte, All}
use Rattle.playback.specs.Text.{Texts}

-- ---- what a recording is
-- every list of bytes records some calls and ends somehow, in one way only
pub record Told (bytes : List ℕ) : Type 0 where
  pub calls : List Call
  pub ending : Ending
  pub recording : Recording bytes calls ending
  pub only : (cs : List Call) (e : Ending) → Recording bytes cs e → (cs ≡ calls) × (e ≡ ending)

abbrev pub EveryRecording : Type 0
EveryRecording = (bytes : List ℕ) → Told bytes

-- every list of calls has a recording of its own, of bytes: played back it is that list, and no other list has the same
pub record Recorded (calls : List Call) : Type 0 where
  pub bytes : All Byte (encoded calls)
  pub recording : Recording (encoded calls) calls complete
  pub own : (others : List Call) → All Fits others → encoded others ≡ encoded calls → others ≡ calls

abbrev pub EveryCall : Type 0
EveryCall = (calls : List Call) → All Fits calls → Recorded calls

-- ---- what a play is
-- the kind of a call's record
abbrev pub kind_of : Call → ℕ
kind_of PowerOn = 0x01
kind_of (Cut Clean) = 0x02
kind_of (Cut (Torn b)) = 0x03
kind_of ResetPin = 0x04
kind_of (Frame w) = 0x05
kind_of Tick = 0x06
kind_of (Sample s) = 0x07
kind_of (Lines l) = 0x08

-- a last line of the recording's own: for an unknown kind, 9, or a body cut short, 10
abbrev pub last : {A : Type 0} → Ending → (unknown short : ℕ → A) → List A
last complete u s = []
last (unknown kind) u s = u kind ∷ []
last (short kind) u s = s kind ∷ []

-- n numbers from i on
abbrev pub count_from : ℕ → ℕ → List ℕ
count_from i zero = []
count_from i (suc n) = i ∷ count_from (i + 1) n

-- a whole recording, played on a module
abbrev pub play : Module → List ℕ → Transcript
play m bytes = transcript true (started m) bytes

-- playing equals the same list of calls: the record after it, and each column of its lines
pub record Plays (m : Module) (bytes : List ℕ) (calls : List Call) (ending : Ending) : Type 0 where
  pub after : (play m bytes).player.unit ≡ run m calls
  pub indexes : map (λ (l : Line). l.index) (play m bytes).lines
      ≡ map (λ (i : ℕ). i % 2 ^ 64) (count_from 0 (length (play m bytes).lines))
  pub kinds : map (λ (l : Line). l.kind) (play m bytes).lines ≡ map kind_of calls ++ last ending (λ k. k) (λ k. k)
  pub refusals : map (λ (l : Line). l.refusal) (play m bytes).lines
      ≡ map (λ (s : Said). s.refusal) (answers m calls) ++ last ending (λ k. 9) (λ k. 10)
  pub alarms : map (λ (l : Line). l.alarm) (play m bytes).lines
      ≡ drop 1 (along line_of m calls) ++ last ending (λ k. line_of (run m calls)) (λ k. line_of (run m calls))

abbrev pub Playback : Type 0
Playback = (m : Module) (bytes : List ℕ) (calls : List Call) (ending : Ending) → Recording bytes calls ending
    → Plays m bytes calls ending

-- on a module that making accepts, refusals and alarm lines are those of the independent model
pub record ByModel (m : Module) (k : Model) (bytes : List ℕ) (calls : List Call) (ending : Ending) : Type 0 where
  pub refusals : map (λ (l : Line). l.refusal) (play m bytes).lines
      ≡ map (λ (s : Said). s.refusal) (answers_by_model k calls) ++ last ending (λ k. 9) (λ k. 10)
  pub alarms : map (λ (l : Line). l.alarm) (play m bytes).lines
      ≡ drop 1 (along_model line_by_history k calls)
      ++ last ending (λ _. line_by_history (run_model k calls)) (λ _. line_by_history (run_model k calls))

abbrev pub PlaybackByModel : Type 0
PlaybackByModel = (port : ℕ) (image thresholds : List ℕ) → make_refusal port image thresholds ≡ 0
    → (bytes : List ℕ) (calls : List Call) (ending : Ending) → Recording bytes calls ending
    → ByModel (make port image thresholds).next (fresh port image thresholds) bytes calls ending

-- ---- the blank module, on which the program plays: it is what making gives for zeros, and accepts, so that the above holds of
-- it
pub record Blank : Type 0 where
  pub not_refused : make_refusal 0 (replicate 256 0) (replicate 40 0) ≡ 0
  pub made : make 0 (replicate 256 0) (replicate 40 0) ≡ accepted blank

-- ---- a recording that is played by parts
-- one part, then what is left
abbrev pub both : Transcript → Transcript → Transcript
both t u = record { lines = t.lines ++ u.lines; used = t.used + u.used; player = u.player }

-- at most n records, as many as there is room for, then the rest of the bytes: they play as the whole does
abbrev pub InParts : Type 0
InParts = (n : ℕ) (last : Bool) (p : Player) (bytes : List ℕ)
    → both (playing n last p bytes 0)
    (transcript last (playing n last p bytes 0).player (drop (playing n last p bytes 0).used bytes))
    ≡ transcript last p bytes

-- a block of a recording, and for how many records there is room
pub record Block : Type 0 where
  pub bytes : List ℕ
  pub room : ℕ

-- what playing blocks leaves: their lines, and the player
pub record Result : Type 0 where
  pub lines : List Line
  pub player : Player

abbrev pub block_then : Transcript → Result → Result
block_then t r = record { lines = t.lines ++ r.lines; player = r.player }

-- what is left of a block goes before the next one; behind the last no bytes follow, and all that is left is played
unfoldable pub in_blocks : Player → (held : List ℕ) → List Block → Result
in_blocks p held [] = record { lines = (transcript true p held).lines; player = (transcript true p held).player }
in_blocks p held (b ∷ bs) =
    let t : Transcript = playing b.room false p (held ++ b.bytes) 0 in
    block_then t (in_blocks t.player (drop t.used (held ++ b.bytes)) bs)

-- wherever the blocks end, and however few records each has room for, they play as the whole does
abbrev pub InBlocks : Type 0
InBlocks = (p : Player) (blocks : List Block)
    → in_blocks p [] blocks ≡ in_blocks p (flatten (map (λ (b : Block). b.bytes) blocks)) []

-- ---- a play as text
-- what is printed are the lines, character by character, in the one way that there is
pub record Prints (lines : List Line) : Type 0 where
  pub texts : Texts (text_of lines) lines
  pub only : (text : List ℕ) → Texts text lines → text ≡ text_of lines

abbrev pub Printed : Type 0
Printed = (m : Module) (bytes : List ℕ) → All Byte bytes → Prints (play m bytes).lines

-- document 02's example: for the bytes 01 06 02 06 the program prints `0 01 - 0`, `1 06 - 0`, `2 02 - 0`, `3 06 7 0`
abbrev pub example_lines : List (List ℕ)
example_lines =
    (0x30 ∷ 0x20 ∷ 0x30 ∷ 0x31 ∷ 0x20 ∷ 0x2d ∷ 0x20 ∷ 0x30 ∷ 0x0a ∷ [])
    ∷ (0x31 ∷ 0x20 ∷ 0x30 ∷ 0x36 ∷ 0x20 ∷ 0x2d ∷ 0x20 ∷ 0x30 ∷ 0x0a ∷ [])
    ∷ (0x32 ∷ 0x20 ∷ 0x30 ∷ 0x32 ∷ 0x20 ∷ 0x2d ∷ 0x20 ∷ 0x30 ∷ 0x0a ∷ [])
    ∷ (0x33 ∷ 0x20 ∷ 0x30 ∷ 0x36 ∷ 0x20 ∷ 0x37 ∷ 0x20 ∷ 0x30 ∷ 0x0a ∷ [])
    ∷ []

abbrev pub Example : Type 0
Example = text_of (play blank (0x01 ∷ 0x06 ∷ 0x02 ∷ 0x06 ∷ [])).lines ≡ flatten example_lines

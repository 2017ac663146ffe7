-- Playing a bench recording, record by record. Document 02, P1.
-- Assumes nothing.
use Rattle.std.specs.Prelude.{◌≡◌, ℕ, zero, suc, ◌+◌, ◌%◌, ◌^◌, Bool, true, false, cond, List, [], ◌∷◌, ◌++◌, Option, Some, None, Result, Ok, Err, length, take, drop}
use Rattle.std.proofs.lemmas.List.Edits.{sets}
use Rattle.xenpak.specs.declared.Module.{Module}
use Rattle.reads.specs.Reads.{line_of}
use Rattle.calls.specs.Calls.{said, step}
use Rattle.calls.specs.declared.Call.{Call}
use Rattle.recording.specs.Recording.{item_at}
use Rattle.recording.specs.declared.Item.{Item}
use Rattle.recording.specs.declared.Body.{Body}
use Rattle.recording.specs.declared.Flaw.{Flaw}
use Rattle.recording.specs.declared.Flaw.TheVariants.{UnknownKind, CutShort}
use Rattle.io.specs.Counts.{IsPrefixLen}
use Rattle.printout.specs.Line.{line_text}
use Rattle.printout.specs.declared.Line.{Line}
use Rattle.player.specs.declared.Player.{Player}
use Rattle.player.specs.declared.Shown.{Shown}
use Rattle.player.specs.declared.Step.{Step}
use Rattle.player.specs.declared.Played.{Played}

abbrev pub player : Module → ℕ → Bool → Player
player m i over = record { unit = m; index = i; over = over }

-- before the first record
abbrev pub started : Module → Player
started m = player m 0 false

-- ---- one record
-- its line shows the module after it; the index counts on, and begins again after 2^64 records
abbrev pub shows : Player → Module → (kind refusal next : ℕ) → Step
shows p m kind refusal next =
    record {
      player = player m ((p.index + 1) % 2 ^ 64) p.over;
      shown = Some (record { line = record { index = p.index; kind = kind; refusal = refusal; alarm = line_of m }; next = next });
    }

-- a call: the module is the one that it leaves, refused or not
abbrev pub played : Player → (kind : ℕ) → Call → (next : ℕ) → Step
played p kind c next = shows p (step p.unit c).next kind (said (step p.unit c).answer).refusal next

-- a record that is refused before the module is asked: the module stays, and nothing is played after it, so all bytes are
-- used
abbrev pub ended : Player → (kind number size : ℕ) → Step
ended p kind number size = shows (player p.unit p.index true) p.unit kind number size

abbrev pub still : Player → Step
still p = record { player = p; shown = None }

-- 9: unknown kind; 10: a body cut short, which it is where no more bytes follow
abbrev pub step_of : (last : Bool) → Player → (kind size : ℕ) → Result Body Flaw → Step
step_of last p kind size (Ok b) = played p kind b.call b.next
step_of last p kind size (Err UnknownKind) = ended p kind 9 size
step_of last p kind size (Err CutShort) = cond last (ended p kind 10 size) (still p)

-- nothing where no byte is left
abbrev pub step_by : (last : Bool) → Player → (size : ℕ) → Option Item → Step
step_by last p size None = still p
step_by last p size (Some i) = step_of last p i.kind size i.body

-- the record at a position
unfoldable pub step_at : (last : Bool) → Player → List ℕ → (at : ℕ) → Step
step_at last p bytes at = cond p.over (still p) (step_by last p (length bytes) (item_at bytes at))

-- ---- a block of records
-- what playing them leaves: their lines, the position behind the last one played, and the player
pub record Transcript : Type 0 where
  pub lines : List Line
  pub used : ℕ
  pub player : Player

-- nothing is played
abbrev pub stopped : Player → (at : ℕ) → Transcript
stopped p at = record { lines = []; used = at; player = p }

-- some lines, then a transcript
abbrev pub before : List Line → Transcript → Transcript
before ls t = record { lines = ls ++ t.lines; used = t.used; player = t.player }

abbrev pub go_on : Option Shown → (nothing : Transcript) → (more : ℕ → Transcript) → Transcript
go_on (Some s) nothing more = before (s.line ∷ []) (more s.next)
go_on None nothing more = nothing

-- at most n records, from a position on
unfoldable pub playing : (n : ℕ) (last : Bool) → Player → List ℕ → (at : ℕ) → Transcript
playing zero last p bytes at = stopped p at
playing (suc n) last p bytes at =
    go_on (step_at last p bytes at).shown (stopped p at) (λ next. playing n last (step_at last p bytes at).player bytes next)

-- all of them: each has a byte at least
abbrev pub transcript : (last : Bool) → Player → List ℕ → Transcript
transcript last p bytes = playing (length bytes) last p bytes 0

-- the lines as text
abbrev pub text_of : List Line → List ℕ
text_of [] = []
text_of (l ∷ ls) = line_text l ++ text_of ls

-- a transcript, and its text at the start of a buffer, which has room for it; the rest is as it was
pub record Plays (t : Transcript) (before after : List ℕ) (r : Played) : Type 0 where
  pub player : r.player ≡ t.player
  pub used : r.used ≡ t.used
  pub written : r.written ≡ length (text_of t.lines)
  pub bytes : after ≡ sets before 0 (text_of t.lines)
  pub fits : IsPrefixLen r.written after

-- ---- what is left of a block
-- the bytes from a position to the block's end are at the front of the buffer; the rest is as it was
pub record Kept (from end : ℕ) (before after : List ℕ) (count : ℕ) : Type 0 where
  pub bytes : after ≡ sets before 0 (drop from (take end before))
  pub counted : count ≡ length (drop from (take end before))

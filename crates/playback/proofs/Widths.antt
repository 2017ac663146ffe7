-- The lines of a play are as wide as their fields: an index below 2^64, a byte of kind, a refusal's number in one.
-- Assumes nothing.
use Prim.Native.Nat.{ℕ, ◌^◌, ◌<◌}
use native.Mathlib.Omega.{arith}
use mathlib.Core.Bool.{true}
use mathlib.Core.List.{List, [], ◌∷◌, ◌++◌}
use mathlib.Core.Path.{refl}
use Rattle.std.specs.Prelude.{Ok, Err}
use Rattle.answers.specs.Answers.{refusal_number}
use Rattle.answers.specs.declared.Refusal.{Refusal}
use Rattle.answers.specs.declared.Refusal.TheVariants.{Port, ImageLength, ThresholdsLength, Checksum, ThresholdOrder, Temperature, PoweredOff, PoweredOn}
use Rattle.answers.specs.declared.FrameAnswer.TheVariants as frame
use Rattle.answers.specs.declared.TickAnswer.TheVariants as tick
use Rattle.store.specs.declared.Cut.TheVariants.{Clean, Torn}
use Rattle.xenpak.specs.declared.Module.{Module}
use Rattle.calls.specs.Calls.{said, step}
use Rattle.calls.specs.declared.Call.{Call}
use Rattle.calls.specs.declared.Call.TheVariants.{PowerOn, Cut, ResetPin, Frame, Tick, Lines, Sample}
use Rattle.calls.specs.declared.CallAnswer.{CallAnswer}
use Rattle.calls.specs.declared.CallAnswer.TheVariants as call-answer
use Rattle.printout.specs.declared.Line.{Line}
use Rattle.player.specs.Player.{started}
use Rattle.player.specs.declared.Player.{Player}
use Rattle.playback.specs.Format.{Records, none, one_more, Ending, Ends, at_end, at_unknown, in_body, Byte, All}
use Rattle.playback.specs.Playback.{kind_of, play}
use Rattle.playback.proofs.Recordings.{every_recording, all_append}
use Rattle.playback.proofs.Columns.{after_call, after, lines, end_lines, played_as}

abbrev pub Narrow : Line → Type 0
Narrow l = (l.index < 2 ^ 64) × (l.kind < 2 ^ 8) × (l.refusal < 2 ^ 8)

-- ---- of calls
number_small : (why : Refusal) → refusal_number why < 2 ^ 8
number_small Port = omega arith
number_small ImageLength = omega arith
number_small ThresholdsLength = omega arith
number_small Checksum = omega arith
number_small ThresholdOrder = omega arith
number_small Temperature = omega arith
number_small PoweredOff = omega arith
number_small PoweredOn = omega arith

said_small : (a : CallAnswer) → (said a).refusal < 2 ^ 8
said_small (call-answer.Plain (Ok u)) = omega arith
said_small (call-answer.Plain (Err why)) = number_small why
said_small (call-answer.Frame (Ok frame.Silent)) = omega arith
said_small (call-answer.Frame (Ok frame.Set)) = omega arith
said_small (call-answer.Frame (Ok frame.Written)) = omega arith
said_small (call-answer.Frame (Ok frame.Dropped)) = omega arith
said_small (call-answer.Frame (Ok (frame.Data value))) = omega arith
said_small (call-answer.Frame (Err why)) = number_small why
said_small (call-answer.Tick tick.Nothing) = omega arith
said_small (call-answer.Tick (tick.Loaded offset byte)) = omega arith
said_small (call-answer.Tick (tick.Burned offset byte)) = omega arith
said_small (call-answer.Tick (tick.Refused why)) = number_small why

kind_small : (c : Call) → kind_of c < 2 ^ 8
kind_small PowerOn = omega arith
kind_small (Cut Clean) = omega arith
kind_small (Cut (Torn b)) = omega arith
kind_small ResetPin = omega arith
kind_small (Frame w) = omega arith
kind_small Tick = omega arith
kind_small (Sample s) = omega arith
kind_small (Lines l) = omega arith

lines_narrow : (p : Player) (cs : List Call) → p.index < 2 ^ 64 → All Narrow (lines p cs)
lines_narrow p [] i = tt
lines_narrow p (c ∷ cs) i = ((i, kind_small c, said_small (step p.unit c).answer), lines_narrow (after_call p c) cs (omega arith))

index_after : (p : Player) (cs : List Call) → p.index < 2 ^ 64 → (after p cs).index < 2 ^ 64
index_after p [] i = i
index_after p (c ∷ cs) i = index_after (after_call p c) cs (omega arith)

-- ---- of what ends them
end_narrow : {rest : List ℕ} {e : Ending} → Ends rest e → (p : Player) → p.index < 2 ^ 64 → All Byte rest → All Narrow (end_lines true p e)
end_narrow at_end p i b = tt
end_narrow (at_unknown kind bytes u) p i b = ((i, b.0, omega arith), tt)
end_narrow (in_body kind bytes missing more r) p i b = ((i, b.0, omega arith), tt)

-- the bytes behind whole records
behind : (xs ys : List ℕ) → All Byte (xs ++ ys) → All Byte ys
behind [] ys b = b
behind (x ∷ xs) ys b = behind xs ys b.1

bytes_behind : {bytes rest : List ℕ} {cs : List Call} → Records bytes cs rest → All Byte bytes → All Byte rest
bytes_behind (none rest) b = b
bytes_behind (one_more {first} {bytes} r rs) b = bytes_behind rs (behind first bytes b)

-- ---- both
pub narrow : (m : Module) (bytes : List ℕ) → All Byte bytes → All Narrow (play m bytes).lines
narrow m bytes b =
    let p : Player = started m in
    let told = every_recording bytes in
    let r = told.recording in
    let i : (after p told.calls).index < 2 ^ 64 = index_after p told.calls (omega arith) in
    rw (played_as r.records r.ends true p refl).shown
    (all_append Narrow (lines p told.calls) _ (lines_narrow p told.calls (omega arith))
    (end_narrow r.ends (after p told.calls) i (bytes_behind r.records b)))

-- Each call gets an answer of its kind, and what is said of an answer tells it.
-- Assumes nothing.
use Prim.Native.Nat.{ℕ, ◌-◌}
use mathlib.Core.Path.{◌≡◌, refl, ap}
use lib.ListN.{get_or}
use Rattle.std.specs.Prelude.{Ok, Err}
use Rattle.answers.specs.Answers.{Answer, refusal_number, said_plain, said_frame, said_tick, said_settle}
use Rattle.answers.specs.declared.Refusal.{Refusal}
use Rattle.answers.specs.declared.Refusal.TheVariants.{Port, ImageLength, ThresholdsLength, Checksum, ThresholdOrder, Temperature, PoweredOff, PoweredOn}
use Rattle.answers.specs.declared.FrameAnswer.{FrameAnswer}
use Rattle.answers.specs.declared.FrameAnswer.TheVariants as frame
use Rattle.answers.specs.declared.TickAnswer.{TickAnswer}
use Rattle.answers.specs.declared.TickAnswer.TheVariants as tick
use Rattle.calls.specs.Calls.{step}
use Rattle.calls.specs.declared.Call.TheVariants as call
use Rattle.guarantees.specs.Guarantees.{Kinds, refusals, plain_told, frame_told, tick_told, count_told, Numbered}

pub kinds : Kinds
unfolding step
kinds m call.PowerOn = refl
kinds m (call.Cut cut) = refl
kinds m call.ResetPin = refl
kinds m (call.Frame word) = refl
kinds m call.Tick = refl
kinds m (call.Lines l) = refl
kinds m (call.Sample s) = refl

refusal-told : (why : Refusal) → get_or refusals (refusal_number why - 1) Port ≡ why
refusal-told Port = refl
refusal-told ImageLength = refl
refusal-told ThresholdsLength = refl
refusal-told Checksum = refl
refusal-told ThresholdOrder = refl
refusal-told Temperature = refl
refusal-told PoweredOff = refl
refusal-told PoweredOn = refl

pub numbered : Numbered
numbered = record { plain = plains; frames = frames; ticks = ticks; settling = counts; unsaved = counts }
  where
    plains : (a : Answer (Unit {0})) → plain_told (said_plain a) ≡ a
    plains (Ok u) = refl
    plains (Err why) = ap Err (refusal-told why)

    frames : (a : Answer FrameAnswer) → frame_told (said_frame a) ≡ a
    frames (Ok frame.Silent) = refl
    frames (Ok frame.Set) = refl
    frames (Ok frame.Written) = refl
    frames (Ok frame.Dropped) = refl
    frames (Ok (frame.Data value)) = refl
    frames (Err why) = ap Err (refusal-told why)

    ticks : (a : TickAnswer) → tick_told (said_tick a) ≡ a
    ticks tick.Nothing = refl
    ticks (tick.Loaded offset byte) = refl
    ticks (tick.Burned offset byte) = refl
    ticks (tick.Refused why) = ap tick.Refused (refusal-told why)

    counts : (a : Answer ℕ) → count_told (said_settle a) ≡ a
    counts (Ok count) = refl
    counts (Err why) = ap Err (refusal-told why)

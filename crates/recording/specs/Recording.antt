-- The records of a bench recording. Document 02, P1.
-- Assumes nothing.
use Rattle.std.specs.Prelude.{ℕ, ◌+◌, ◌*◌, ◌-◌, Bool, cond, not, ◌&&◌, List, Option, Some, None, Result, Ok, Err, eqb, leb, ltb, length, get_or, drop}
use Rattle.words.specs.Words.{bit}
use Rattle.store.specs.declared.Cut.TheVariants.{Clean, Torn}
use Rattle.dom.specs.Codes.{signed_code}
use Rattle.dom.specs.declared.Sample.{Sample}
use Rattle.alarms.specs.declared.Lines.{Lines}
use Rattle.calls.specs.declared.Call.{Call}
use Rattle.calls.specs.declared.Call.TheVariants as call
use Rattle.recording.specs.declared.Flaw.{Flaw}
use Rattle.recording.specs.declared.Flaw.TheVariants.{UnknownKind, CutShort}
use Rattle.recording.specs.declared.Body.{Body}
use Rattle.recording.specs.declared.Item.{Item}

-- the recording's refusals, beside the module's 1 to 8: an unknown kind, and a body cut short
abbrev pub flaw_number : Flaw → ℕ
flaw_number UnknownKind = 9
flaw_number CutShort = 10

-- the kinds are 01 to 08
abbrev pub known : ℕ → Bool
known kind = leb 1 kind && leb kind 8

-- how many bytes of body follow a kind: 1 of a torn cut, 4 of a frame, 8 of a sample, 5 of lines, none of any other
abbrev pub body_length : ℕ → ℕ
body_length kind =
    cond (eqb kind 0x03) 1
    (cond (eqb kind 0x05) 4
    (cond (eqb kind 0x07) 8
    (cond (eqb kind 0x08) 5 0)))

-- numbers come high byte first
abbrev pub word : List ℕ → ℕ → ℕ
word body at = get_or body at 0 * 256 + get_or body (at + 1) 0

abbrev pub frame_of : List ℕ → ℕ
frame_of body = word body 0 * 0x10000 + word body 2

abbrev pub sample_of : List ℕ → Sample
sample_of body =
    record {
      temperature = signed_code (word body 0);
      bias = word body 2;
      transmit = word body 4;
      receive = word body 6;
    }

-- receive, transmit, then link levels in bits 2 to 0, the higher bits ignored
abbrev pub lines_of : List ℕ → Lines
lines_of body =
    record {
      receive = word body 0;
      transmit = word body 2;
      signal = bit 2 (get_or body 4 0);
      block = bit 1 (get_or body 4 0);
      lanes = bit 0 (get_or body 4 0);
    }

-- the call of a known kind, from the bytes after it: 01 power-on, 02 clean cut, 03 torn cut (document 02: struck cut),
-- 04 reset, 05 frame, 06 tick, 07 sample, 08 lines
unfoldable pub call_of : ℕ → List ℕ → Call
call_of kind body =
    cond (eqb kind 0x01) call.PowerOn
    (cond (eqb kind 0x02) (call.Cut Clean)
    (cond (eqb kind 0x03) (call.Cut (Torn (get_or body 0 0)))
    (cond (eqb kind 0x04) call.ResetPin
    (cond (eqb kind 0x05) (call.Frame (frame_of body))
    (cond (eqb kind 0x06) call.Tick
    (cond (eqb kind 0x07) (call.Sample (sample_of body))
    (call.Lines (lines_of body))))))))

-- what follows a kind: refused where the kind is none of these, or the body cut short; else a call, and the position after it
unfoldable pub body_at : (kind : ℕ) → List ℕ → (at : ℕ) → Result Body Flaw
body_at kind bytes at =
    cond (not (known kind)) (Err UnknownKind)
    (cond (ltb (length bytes - (at + 1)) (body_length kind)) (Err CutShort)
    (Ok (record { call = call_of kind (drop (at + 1) bytes); next = at + 1 + body_length kind })))

-- what stands at a position: nothing where no byte is left, else a kind and what follows it
unfoldable pub item_at : List ℕ → ℕ → Option Item
item_at bytes at =
    cond (leb (length bytes) at) None
    (Some (record { kind = get_or bytes at 0; body = body_at (get_or bytes at 0) bytes at }))

-- Latches, link and controls: what frames, starts, lines and samples do to them. Document 01, "Registers" and "Alarms".
-- Assumes nothing.
use Rattle.std.specs.Prelude.{ℕ, Bool, false, cond, not, ◌&&◌, ◌||◌, [], ◌∷◌, get_or}
use Rattle.std.specs.Int.Bits.{bit_and}
use Rattle.registers.specs.declared.Register.{Register}
use Rattle.registers.specs.declared.Register.TheVariants as register
use Rattle.action.specs.declared.Action.{Action}
use Rattle.action.specs.declared.Action.TheVariants as action
use Rattle.flags.specs.declared.Flags.{Flags}
use Rattle.latch.specs.Latch.{no_latch, fed, cleared}
use Rattle.controls.specs.Controls.{no_controls, control_written}
use Rattle.controls.specs.declared.Controls.{Controls}
use Rattle.latch.specs.declared.Latch.{Latch}
use Rattle.alarms.specs.declared.Lines.{Lines}
use Rattle.alarms.specs.declared.Alarms.{Alarms}

-- the same alarms but for some fields
abbrev pub with_controls : Controls → Alarms → Alarms
with_controls c a =
    record {
      controls = c;
      rxfaults = a.rxfaults;
      txfaults = a.txfaults;
      txalarm = a.txalarm;
      rxalarm = a.rxalarm;
      txwarning = a.txwarning;
      rxwarning = a.rxwarning;
      link = a.link;
      changed = a.changed;
    }

abbrev pub with_faults : Latch → Latch → Alarms → Alarms
with_faults rx tx a =
    record {
      controls = a.controls;
      rxfaults = rx;
      txfaults = tx;
      txalarm = a.txalarm;
      rxalarm = a.rxalarm;
      txwarning = a.txwarning;
      rxwarning = a.rxwarning;
      link = a.link;
      changed = a.changed;
    }

abbrev pub with_flags : Latch → Latch → Latch → Latch → Alarms → Alarms
with_flags ta ra tw rw' a =
    record {
      controls = a.controls;
      rxfaults = a.rxfaults;
      txfaults = a.txfaults;
      txalarm = ta;
      rxalarm = ra;
      txwarning = tw;
      rxwarning = rw';
      link = a.link;
      changed = a.changed;
    }

abbrev pub with_link : Bool → Bool → Alarms → Alarms
with_link up changed a =
    record {
      controls = a.controls;
      rxfaults = a.rxfaults;
      txfaults = a.txfaults;
      txalarm = a.txalarm;
      rxalarm = a.rxalarm;
      txwarning = a.txwarning;
      rxwarning = a.rxwarning;
      link = up;
      changed = changed;
    }

-- the link is down, and nothing stands
abbrev pub no_alarms : Alarms
no_alarms =
    record {
      controls = no_controls;
      rxfaults = no_latch;
      txfaults = no_latch;
      txalarm = no_latch;
      rxalarm = no_latch;
      txwarning = no_latch;
      rxwarning = no_latch;
      link = false;
      changed = false;
    }

-- ---- frames
-- a read of 9003 or 9004 clears its faults, one of 9005 the link alarm
abbrev pub status_cleared : Alarms → ℕ → Alarms
status_cleared a i =
    get_or
    (with_faults (cleared a.rxfaults) a.txfaults a
    ∷ with_faults a.rxfaults (cleared a.txfaults) a
    ∷ with_link a.link false a
    ∷ [])
    i a

-- a read of A070, A071, A074 or A075 clears its flags
abbrev pub flags_cleared : Alarms → ℕ → Alarms
flags_cleared a i =
    get_or
    (with_flags (cleared a.txalarm) a.rxalarm a.txwarning a.rxwarning a
    ∷ with_flags a.txalarm (cleared a.rxalarm) a.txwarning a.rxwarning a
    ∷ with_flags a.txalarm a.rxalarm (cleared a.txwarning) a.rxwarning a
    ∷ with_flags a.txalarm a.rxalarm a.txwarning (cleared a.rxwarning) a
    ∷ [])
    i a

-- after a read of a register
abbrev pub after_read : Alarms → Register → Alarms
after_read a register.PmaControl = a
after_read a register.NvrControl = a
after_read a (register.Copy offset) = a
after_read a (register.Customer offset) = a
after_read a (register.Control i) = a
after_read a (register.Status i) = status_cleared a i
after_read a (register.Threshold k) = a
after_read a (register.Sample quantity low) = a
after_read a (register.Flags i) = flags_cleared a i
after_read a register.Unlisted = a

-- a reset zeroes controls and latches and keeps the lines: the latest faults and the link
abbrev pub restarted : Alarms → Alarms
restarted a =
    with_controls no_controls
    (with_faults (cleared a.rxfaults) (cleared a.txfaults)
    (with_flags no_latch no_latch no_latch no_latch (with_link a.link false a)))

abbrev pub controlled : Alarms → ℕ → ℕ → Alarms
controlled a i word = with_controls (control_written a.controls i word) a

-- after a frame
abbrev pub alarms_after : Alarms → Action → Alarms
alarms_after a action.Refused = a
alarms_after a action.Silent = a
alarms_after a (action.SetAddress x) = a
alarms_after a action.Dropped = a
alarms_after a action.Reset = restarted a
alarms_after a (action.Command word) = a
alarms_after a (action.Customer offset byte) = a
alarms_after a (action.Control i word) = controlled a i word
alarms_after a (action.Read r increment) = after_read a r

-- ---- lines, samples
abbrev pub differ : Bool → Bool → Bool
differ a b = cond a (not b) b

-- the link is up when all three levels are
abbrev pub link_up : Lines → Bool
link_up l = l.signal && l.block && l.lanes

-- receive faults under mask 0039, transmit faults under 03D9; the link alarm if the link changed
abbrev pub after_lines : Alarms → Lines → Alarms
after_lines a l =
    with_faults (fed (bit_and l.receive 0x0039) a.rxfaults) (fed (bit_and l.transmit 0x03d9) a.txfaults)
    (with_link (link_up l) (a.changed || differ a.link (link_up l)) a)

-- each flag's latch is fed with what the sample crossed
abbrev pub after_sample : Alarms → Flags → Alarms
after_sample a f =
    with_flags (fed f.txalarm a.txalarm) (fed f.rxalarm a.rxalarm) (fed f.txwarning a.txwarning)
    (fed f.rxwarning a.rxwarning) a

-- The history rule (document 01: the history rule): which alarm bits stand, and the alarm line, from the accepted calls.
-- Power, the address that a read is from and the controls are the reference model's. Of the code it takes the types of the
-- calls.
-- Assumes nothing.
use Rattle.std.specs.Prelude.{ℕ, zero, suc, ◌+◌, ◌-◌, ◌*◌, Bool, false, not, ◌&&◌, ◌||◌, List, [], ◌∷◌, eqb, ℤ, pos, get_or, if◌then◌else◌}
use Rattle.std.specs.Int.Signed.{lt_z}
use Rattle.dom.specs.declared.Sample.{Sample}
use Rattle.alarms.specs.declared.Lines.{Lines}
use Rattle.calls.specs.declared.Call.{Call}
use Rattle.calls.specs.declared.Call.TheVariants as call
use Rattle.guarantees.specs.Reference.{Reference, initial, signed, accepts, Frame, silent, sets, writes, reads, bit, frame_of, control, step_ref}

-- ---- events: what a call is to what is read after it
pub data Event : Type 0 where
  -- a refused call, and any that bears on nothing here
  nothing : Event
  powered_on : Event
  was_reset : Event
  ticked : Event
  got_lines : Lines → Event
  got_sample : Sample → Event
  -- a data answer from an address
  data_from : (address : ℕ) → Event

-- a write with bit 15 set at 0000 is a reset
unfoldable pub frame_event : (address : ℕ) → Frame → Event
frame_event address silent = nothing
frame_event address (sets a) = nothing
frame_event address (writes v) = if eqb address 0x0000 && bit 15 v then was_reset else nothing
frame_event address (reads increment) = data_from address

-- of an accepted call
unfoldable pub call_event : (port : ℕ) → Reference → Call → Event
call_event port r call.PowerOn = powered_on
call_event port r (call.Cut cut) = nothing
call_event port r call.ResetPin = was_reset
call_event port r (call.Frame word) = frame_event r.address (frame_of port word)
call_event port r call.Tick = ticked
call_event port r (call.Lines l) = got_lines l
call_event port r (call.Sample s) = got_sample s

unfoldable pub step_event : (port : ℕ) → Reference → Call → Event
step_event port r c = if accepts r c then call_event port r c else nothing

-- ---- the model of a module: what making fixed, the reference model, and the events of its calls, newest first
pub record Model : Type 0 where
  pub port : ℕ
  pub thresholds : List ℕ
  pub reference : Reference
  pub history : List Event

abbrev pub model : ℕ → List ℕ → Reference → List Event → Model
model p t r h = record { port = p; thresholds = t; reference = r; history = h }

abbrev pub fresh : (port : ℕ) (image thresholds : List ℕ) → Model
fresh port image thresholds = model port thresholds (initial image) []

abbrev pub step_model : Model → Call → Model
step_model m c =
    model m.port m.thresholds (step_ref m.port m.reference c)
    (step_event m.port m.reference c ∷ m.history)

unfoldable pub run_model : Model → List Call → Model
run_model m [] = m
run_model m (c ∷ cs) = run_model (step_model m c) cs

-- ---- quantities, thresholds, readings
pub data Quantity : Type 0 where
  temperature bias transmit receive : Quantity

-- the code of two bytes at an address, high byte first
abbrev pub threshold_at : List ℕ → (address : ℕ) → ℕ
threshold_at t a = get_or t (a - 0xa000) 0 * 256 + get_or t (a + 1 - 0xa000) 0

-- where a quantity's four thresholds stand from its first byte on
abbrev pub high_alarm : ℕ
high_alarm = 0

abbrev pub low_alarm : ℕ
low_alarm = 2

abbrev pub high_warning : ℕ
high_warning = 4

abbrev pub low_warning : ℕ
low_warning = 6

-- temperature A000, which is signed, bias A010, transmit power A018, receive power A020
abbrev pub threshold : List ℕ → Quantity → (place : ℕ) → ℤ
threshold t temperature place = signed (threshold_at t (0xa000 + place))
threshold t bias place = pos (threshold_at t (0xa010 + place))
threshold t transmit place = pos (threshold_at t (0xa018 + place))
threshold t receive place = pos (threshold_at t (0xa020 + place))

abbrev pub reading : Sample → Quantity → ℤ
reading s temperature = s.temperature
reading s bias = pos s.bias
reading s transmit = pos s.transmit
reading s receive = pos s.receive

-- high above its threshold, low below, equality neither
abbrev pub above : List ℕ → Sample → Quantity → (place : ℕ) → Bool
above t s q place = lt_z (threshold t q place) (reading s q)

abbrev pub below : List ℕ → Sample → Quantity → (place : ℕ) → Bool
below t s q place = lt_z (reading s q) (threshold t q place)

-- A070 and A074, by their high and low thresholds: temperature high 7, low 6; bias 3, 2; transmit power 1, 0
abbrev pub tx_flags : List ℕ → (high low : ℕ) → Sample → ℕ → Bool
tx_flags t high low s i =
    if eqb i 7 then above t s temperature high else
    if eqb i 6 then below t s temperature low else
    if eqb i 3 then above t s bias high else
    if eqb i 2 then below t s bias low else
    if eqb i 1 then above t s transmit high else
    if eqb i 0 then below t s transmit low else
    false

-- A071 and A075: receive power high 7, low 6
abbrev pub rx_flags : List ℕ → (high low : ℕ) → Sample → ℕ → Bool
rx_flags t high low s i =
    if eqb i 7 then above t s receive high else
    if eqb i 6 then below t s receive low else
    false

-- ---- what an event is to an alarm
pub data Effect : Type 0 where
  -- nothing
  keeps : Effect
  -- it ends what was seen before, but not the latest
  clears : Effect
  -- it ends the latest too
  forgets : Effect
  -- it is a lines call, or a sample, that has these bits
  gives : (ℕ → Bool) → Effect

-- an alarm's rule: what each event is to it, after the older ones
abbrev pub Source : Type 0
Source = (older : List Event) → Event → Effect

-- over lines calls: power-on forgets, a reset or a data answer from the register clears
abbrev pub over_lines : (register : ℕ) → (List Event → Lines → ℕ → Bool) → Source
over_lines register bits older nothing = keeps
over_lines register bits older powered_on = forgets
over_lines register bits older was_reset = clears
over_lines register bits older ticked = keeps
over_lines register bits older (got_lines l) = gives (bits older l)
over_lines register bits older (got_sample s) = keeps
over_lines register bits older (data_from a) = if eqb a register then clears else keeps

-- likewise over samples, but a reset also forgets the latest
abbrev pub over_samples : (register : ℕ) → (Sample → ℕ → Bool) → Source
over_samples register bits older nothing = keeps
over_samples register bits older powered_on = forgets
over_samples register bits older was_reset = forgets
over_samples register bits older ticked = keeps
over_samples register bits older (got_lines l) = keeps
over_samples register bits older (got_sample s) = gives (bits s)
over_samples register bits older (data_from a) = if eqb a register then clears else keeps

-- the latest call has bit i; `before` says it of the older events
abbrev pub latest_after : Effect → ℕ → (before : Bool) → Bool
latest_after keeps i before = before
latest_after clears i before = before
latest_after forgets i before = false
latest_after (gives bits) i before = bits i

-- one had bit i after the latest clear
abbrev pub since_after : Effect → ℕ → (before : Bool) → Bool
since_after keeps i before = before
since_after clears i before = false
since_after forgets i before = false
since_after (gives bits) i before = before || bits i

unfoldable pub latest_has : Source → List Event → ℕ → Bool
latest_has s [] i = false
latest_has s (e ∷ h) i = latest_after (s h e) i (latest_has s h i)

unfoldable pub some_since : Source → List Event → ℕ → Bool
some_since s [] i = false
some_since s (e ∷ h) i = since_after (s h e) i (some_since s h i)

-- a bit stands when powered and the latest has it, or one had it since
abbrev pub stands : Model → Source → ℕ → Bool
stands m s i = m.reference.powered && (latest_has s m.history i || some_since s m.history i)

-- ---- faults, link, flags
-- receive faults, mask 0039; transmit faults, mask 03D9
abbrev pub rx_faults : Source
rx_faults = over_lines 0x9003 (λ older l i. bit i l.receive && bit i 0x0039)

abbrev pub tx_faults : Source
tx_faults = over_lines 0x9004 (λ older l i. bit i l.transmit && bit i 0x03d9)

-- the link is up when all three levels are, down at power-on; of `link` only the latest is asked, which no read clears
abbrev pub link_of : Lines → Bool
link_of l = l.signal && l.block && l.lanes

abbrev pub link : Source
link = over_lines 0x9005 (λ older l i. link_of l)

-- a lines call that changes the link
abbrev pub link_change : Source
link_change = over_lines 0x9005 (λ older l i. if latest_has link older 0 then not (link_of l) else link_of l)

-- alarm flags, warning flags
abbrev pub tx_alarms : List ℕ → Source
tx_alarms t = over_samples 0xa070 (tx_flags t high_alarm low_alarm)

abbrev pub rx_alarms : List ℕ → Source
rx_alarms t = over_samples 0xa071 (rx_flags t high_alarm low_alarm)

abbrev pub tx_warnings : List ℕ → Source
tx_warnings t = over_samples 0xa074 (tx_flags t high_warning low_warning)

abbrev pub rx_warnings : List ℕ → Source
rx_warnings t = over_samples 0xa075 (rx_flags t high_warning low_warning)

-- ---- the alarm registers and the line
-- a control and the bits that stand share one below n; one of 16
abbrev pub shares_below : (n control : ℕ) → (ℕ → Bool) → Bool
shares_below zero w stand = false
shares_below (suc n) w stand = bit n w && stand n || shares_below n w stand

abbrev pub shares : (control : ℕ) → (ℕ → Bool) → Bool
shares w stand = shares_below 16 w stand

-- 9003: bit 1 is whether A071 and 9007 share a bit
abbrev pub rx_alarm_bit : Model → ℕ → Bool
rx_alarm_bit m i =
    stands m rx_faults i || eqb i 1 && shares (control m.reference 0x9007) (stands m (rx_alarms m.thresholds))

-- 9004: bit 1 is whether A070 and 9006 share a bit
abbrev pub tx_alarm_bit : Model → ℕ → Bool
tx_alarm_bit m i =
    stands m tx_faults i || eqb i 1 && shares (control m.reference 0x9006) (stands m (tx_alarms m.thresholds))

-- 9005: bit 2: 9003 and 9000 share a bit; bit 1: 9004 and 9001; bit 0: the link alarm, since the latest clear
abbrev pub lasi_bit : Model → ℕ → Bool
lasi_bit m i =
    if eqb i 2 then shares (control m.reference 0x9000) (rx_alarm_bit m) else
    if eqb i 1 then shares (control m.reference 0x9001) (tx_alarm_bit m) else
    if eqb i 0 then some_since link_change m.history 0 else
    false

-- the alarm line: powered, and an enabled alarm stands: 9005 and 9002 share a bit
unfoldable pub line_by_history : Model → Bool
line_by_history m = m.reference.powered && shares (control m.reference 0x9002) (lasi_bit m)

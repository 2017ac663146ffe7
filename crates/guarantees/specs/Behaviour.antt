-- What the model answers and shows: making, every read, every call, what can be seen, settling and the readout, from the
-- reference model, the thresholds and the history. With Reference, BurnLog and History it tells document 01, and what
-- document 02 changes, a second time: of the code it takes the types of the calls and the form of an answer.
-- Assumes nothing.
use Rattle.std.specs.Prelude.{ℕ, zero, suc, ◌+◌, ◌-◌, ◌*◌, ◌/◌, ◌%◌, ◌^◌, min, Bool, not, ◌||◌, ◌&&◌, List, [], ◌∷◌, eqb, ltb, ℤ, pos, negsuc, neg_ℤ, length, get_or, if◌then◌else◌}
use Rattle.std.specs.Int.Signed.{le_z}
use Rattle.answers.specs.Answers.{Said}
use Rattle.dom.specs.declared.Sample.{Sample}
use Rattle.calls.specs.declared.Call.{Call}
use Rattle.calls.specs.declared.Call.TheVariants as call
use Rattle.guarantees.specs.Reference.{Job, none, load, burn, Reference, refusal, accepts, Frame, silent, sets, writes, reads, frame_of, within, copy_at, control_at, control, writable}
use Rattle.guarantees.specs.History.{Event, nothing, powered_on, was_reset, ticked, got_lines, got_sample, data_from, Model, step_model, Quantity, temperature, bias, transmit, receive, high_alarm, low_alarm, high_warning, low_warning, threshold, reading, tx_alarms, rx_alarms, tx_warnings, rx_warnings, stands, rx_alarm_bit, tx_alarm_bit, lasi_bit, line_by_history}

-- ---- answers: which one it is counts from 1 in document 01's order, 0 is a refusal's
abbrev pub says : (which : ℕ) → (values : List ℕ) → Said
says n vs = record { refusal = 0; which = n; values = vs }

abbrev pub refused : (number : ℕ) → Said
refused n = record { refusal = n; which = 0; values = [] }

-- ---- making
-- the sum of the first n bytes
abbrev pub sum_to : List ℕ → ℕ → ℕ
sum_to image zero = 0
sum_to image (suc n) = sum_to image n + get_or image n 0

-- low alarm ≤ low warning ≤ high warning ≤ high alarm
abbrev pub in_order : List ℕ → Quantity → Bool
in_order t q =
    le_z (threshold t q low_alarm) (threshold t q low_warning) && le_z (threshold t q low_warning) (threshold t q high_warning)
    && le_z (threshold t q high_warning) (threshold t q high_alarm)

-- its refusal, 0 where it is accepted
unfoldable pub make_refusal : (port : ℕ) (image thresholds : List ℕ) → ℕ
make_refusal port image t =
    if ltb 31 port then 1 else
    if not (eqb (length image) 256) then 2 else
    if not (eqb (length t) 40) then 3 else
    if not (eqb (sum_to image 118 % 256) (get_or image 118 0)) then 4 else
    if not (in_order t temperature && in_order t bias && in_order t transmit && in_order t receive) then 5 else
    0

abbrev pub make_said : (port : ℕ) (image thresholds : List ℕ) → Said
make_said port image t = if eqb (make_refusal port image t) 0 then says 1 [] else refused (make_refusal port image t)

-- ---- samples: A060 temperature, A064 bias, A066 transmit power, A068 receive power; the low byte at the next address
abbrev pub high_at : ℕ → Bool
high_at a = eqb a 0xa060 || eqb a 0xa064 || eqb a 0xa066 || eqb a 0xa068

abbrev pub low_at : ℕ → Bool
low_at a = eqb a 0xa061 || eqb a 0xa065 || eqb a 0xa067 || eqb a 0xa069

abbrev pub quantity_at : ℕ → Quantity
quantity_at a =
    if within 0xa060 0xa061 a then temperature else
    if within 0xa064 0xa065 a then bias else
    if within 0xa066 0xa067 a then transmit else
    receive

-- a reading in 16 bits
abbrev pub bits_of : ℤ → ℕ
bits_of (pos n) = n
bits_of (negsuc n) = 0xffff - n

abbrev pub code_at : Sample → (address : ℕ) → ℕ
code_at s a = bits_of (reading s (quantity_at a))

-- ---- what is remembered since the latest power-on or reset
-- a low byte that is held, for its address
pub data Held : Type 0 where
  nothing_held : Held
  held_at : (address byte : ℕ) → Held

pub record Memory : Type 0 where
  -- the ticks that the first load still needs
  pub loading : ℕ
  -- the data answers
  pub answered : ℕ
  pub sample : Sample
  pub held : Held

abbrev pub memory : ℕ → ℕ → Sample → Held → Memory
memory l n s b = record { loading = l; answered = n; sample = s; held = b }

-- nothing yet; the last sample is 0 before any
abbrev pub no_memory : (loading : ℕ) → Memory
no_memory l = memory l 0 (record { temperature = pos 0; bias = 0; transmit = 0; receive = 0 }) nothing_held

-- the read of a low address forgets the byte held there
abbrev pub held_after_low : Held → (address : ℕ) → Held
held_after_low nothing_held a = nothing_held
held_after_low (held_at at byte) a = if eqb a at then nothing_held else held_at at byte

-- reading a high byte holds its low byte
abbrev pub held_after : Memory → (address : ℕ) → Held
held_after m a = if high_at a then held_at (a + 1) (code_at m.sample a % 256) else held_after_low m.held a

-- power-on and reset start a first load, of 256 ticks
abbrev pub remember : Event → Memory → Memory
remember nothing m = m
remember powered_on m = no_memory 256
remember was_reset m = no_memory 256
remember ticked m = memory (m.loading - 1) m.answered m.sample m.held
remember (got_lines l) m = m
remember (got_sample s) m = memory m.loading m.answered s m.held
remember (data_from a) m = memory m.loading (m.answered + 1) m.sample (held_after m a)

unfoldable pub remembered : List Event → Memory
remembered [] = no_memory 0
remembered (e ∷ h) = remember e (remembered h)

-- ---- what a read gives
-- the word of these bits below n; of 16
abbrev pub word_below : ℕ → (ℕ → Bool) → ℕ
word_below zero p = 0
word_below (suc n) p = word_below n p + (if p n then 2 ^ n else 0)

unfoldable pub word_of : (ℕ → Bool) → ℕ
word_of p = word_below 16 p

-- a low address gives the byte held there, or the last sample's
abbrev pub low_byte : Held → (address now : ℕ) → ℕ
low_byte nothing_held a now = now
low_byte (held_at at byte) a now = if eqb a at then byte else now

-- at an address; unlisted ones read 0000
unfoldable pub read_at : Model → Memory → (address : ℕ) → ℕ
read_at m k a =
    if eqb a 0x0000 then 0x2040 + (if eqb k.loading 0 then 0 else 0x8000) else
    if eqb a 0x8000 then m.reference.word else
    if copy_at a then get_or m.reference.copy (a - 0x8007) 0 else
    if control_at a then control m.reference a else
    if eqb a 0x9003 then word_of (rx_alarm_bit m) else
    if eqb a 0x9004 then word_of (tx_alarm_bit m) else
    if eqb a 0x9005 then word_of (lasi_bit m) else
    if eqb a 0xa070 then word_of (stands m (tx_alarms m.thresholds)) else
    if eqb a 0xa071 then word_of (stands m (rx_alarms m.thresholds)) else
    if eqb a 0xa074 then word_of (stands m (tx_warnings m.thresholds)) else
    if eqb a 0xa075 then word_of (stands m (rx_warnings m.thresholds)) else
    if within 0xa000 0xa027 a then get_or m.thresholds (a - 0xa000) 0 else
    if high_at a then code_at k.sample a / 256 else
    if low_at a then low_byte k.held a (code_at k.sample a % 256) else 0

-- ---- what every call answers
-- silent, set, written, dropped, data
abbrev pub frame_said : Reference → (read : ℕ) → Frame → Said
frame_said r read silent = says 1 []
frame_said r read (sets a) = says 2 []
frame_said r read (writes v) = if writable r v r.address then says 3 [] else says 4 []
frame_said r read (reads increment) = says 5 (read ∷ [])

-- nothing, loaded, burned, with offset and byte
abbrev pub tick_said : Reference → Job → Said
tick_said r none = says 1 []
tick_said r (load due last) = says 2 (due ∷ get_or r.store due 0 ∷ [])
tick_said r (burn due last) = says 3 (due ∷ get_or r.copy due 0 ∷ [])

-- an accepted call's answer, by what a read at the address register gives
unfoldable pub call_said : (port : ℕ) → Reference → (read : ℕ) → Call → Said
call_said port r read call.PowerOn = says 1 []
call_said port r read (call.Cut cut) = says 1 []
call_said port r read call.ResetPin = says 1 []
call_said port r read (call.Frame word) = frame_said r read (frame_of port word)
call_said port r read call.Tick = tick_said r r.job
call_said port r read (call.Lines l) = says 1 []
call_said port r read (call.Sample s) = says 1 []

unfoldable pub step_said : (port : ℕ) → Reference → (read : ℕ) → Call → Said
step_said port r read c = if accepts r c then call_said port r read c else refused (refusal r c)

-- the answer to each call of a list
unfoldable pub answers_by_model : Model → List Call → List Said
answers_by_model m [] = []
answers_by_model m (c ∷ cs) =
    step_said m.port m.reference (read_at m (remembered m.history) m.reference.address) c
    ∷ answers_by_model (step_model m c) cs

-- ---- how much is unsaved (document 02, P3)
-- how many of n bytes, from an offset on, differ between copy and store
abbrev pub unsaved_from : (copy store : List ℕ) → (offset n : ℕ) → ℕ
unsaved_from c s o zero = 0
unsaved_from c s o (suc n) = (if eqb (get_or s o 0) (get_or c o 0) then 0 else 1) + unsaved_from c s (o + 1) n

-- the full count: of the 48 customer bytes
unfoldable pub full_count : (copy store : List ℕ) → ℕ
full_count c s = unsaved_from c s 119 48

-- 7 when off
abbrev pub unsaved_said : (powered : Bool) → (copy store : List ℕ) → Said
unsaved_said powered c s = if powered then says 1 (full_count c s ∷ []) else refused 7

-- ---- what can be seen of the record
-- alarm line, counter, the stored byte at an offset; how much is unsaved
pub record Seen : Type 0 where
  pub line : Bool
  pub counter : ℕ
  pub stored : (offset : ℕ) → ℕ
  pub unsaved : Said

-- the counter counts data answers and stops at 65,535
abbrev pub seen_by_model : Model → Seen
seen_by_model m =
    record {
      line = line_by_history m;
      counter = min (remembered m.history).answered 65535;
      stored = λ offset. get_or m.reference.store offset 0;
      unsaved = unsaved_said m.reference.powered m.reference.copy m.reference.store;
    }

-- a view of the model, at the start and after each call
unfoldable pub along_model : {A : Type 0} → (Model → A) → Model → List Call → List A
along_model view m [] = view m ∷ []
along_model view m (c ∷ cs) = view m ∷ along_model view (step_model m c) cs

-- ---- settling: the lesser of budget and ticks due, the job's remaining bytes; 7 when off
abbrev pub ticks_due : Job → ℕ
ticks_due none = 0
ticks_due (load due last) = last - due + 1
ticks_due (burn due last) = last - due + 1

abbrev pub settle_count : Reference → (budget : ℕ) → ℕ
settle_count r budget = if r.powered then min budget (ticks_due r.job) else 0

abbrev pub settle_said : Reference → (budget : ℕ) → Said
settle_said r budget = if r.powered then says 1 (settle_count r budget ∷ []) else refused 7

-- ---- the readout (document 02, P2): code × 10 / 256 to the nearest tenth of a degree, a half to the even one
-- n / 256 to the nearest whole number, where it is no half
abbrev pub rounded : ℕ → ℕ
rounded n = (n + 128) / 256

-- a half is where the code, divided by 128, leaves 64; the even one is then twice the nearest to code × 5 / 256
abbrev pub tenths_above : ℕ → ℕ
tenths_above n = if eqb (n % 128) 64 then 2 * rounded (n * 5) else rounded (n * 10)

-- below zero as above it
abbrev pub tenths : (code : ℤ) → ℤ
tenths (pos n) = pos (tenths_above n)
tenths (negsuc n) = neg_ℤ (pos (tenths_above (suc n)))

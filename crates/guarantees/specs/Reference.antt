-- The reference model (document 01: the reckoning): power, store, copy, address, controls, the word at 8000, and a job,
-- from port, image and calls alone. With BurnLog, History and Behaviour it tells document 01 a second time, by its addresses
-- and numbers: of the code it takes the types of the calls.
-- Assumes nothing.
use Rattle.std.specs.Prelude.{ℕ, ◌+◌, ◌-◌, ◌*◌, ◌/◌, ◌%◌, ◌^◌, Bool, true, false, not, ◌&&◌, ◌||◌, List, [], ◌∷◌, eqb, leb, ltb, ℤ, pos, get_or, set, replicate, if◌then◌else◌}
use Rattle.std.specs.Int.Bits.{bit_and, bit_or}
use Rattle.std.proofs.Math.IntN.{sub_ℕ}
use Rattle.std.specs.Int.Signed.{lt_z}
use Rattle.store.specs.declared.Cut.{Cut}
use Rattle.store.specs.declared.Cut.TheVariants.{Clean, Torn}
use Rattle.calls.specs.declared.Call.{Call}
use Rattle.calls.specs.declared.Call.TheVariants as call

-- ---- what it holds
-- a job with the offset due and the last one
pub data Job : Type 0 where
  none : Job
  load burn : (due last : ℕ) → Job

pub record Reference : Type 0 where
  pub powered : Bool
  pub store : List ℕ
  pub copy : List ℕ
  pub address : ℕ
  -- at 9000 to 9007; 9003 to 9005 are no controls, and stay 0
  pub controls : List ℕ
  -- at 8000
  pub word : ℕ
  pub job : Job

abbrev pub reference : Bool → List ℕ → List ℕ → ℕ → List ℕ → ℕ → Job → Reference
reference p s c a k w j = record { powered = p; store = s; copy = c; address = a; controls = k; word = w; job = j }

abbrev pub with_power : Bool → Reference → Reference
with_power p r = reference p r.store r.copy r.address r.controls r.word r.job

abbrev pub with_store : List ℕ → Reference → Reference
with_store s r = reference r.powered s r.copy r.address r.controls r.word r.job

abbrev pub with_copy : List ℕ → Reference → Reference
with_copy c r = reference r.powered r.store c r.address r.controls r.word r.job

abbrev pub with_address : ℕ → Reference → Reference
with_address a r = reference r.powered r.store r.copy a r.controls r.word r.job

abbrev pub with_controls : List ℕ → Reference → Reference
with_controls k r = reference r.powered r.store r.copy r.address k r.word r.job

abbrev pub with_word : ℕ → Job → Reference → Reference
with_word w j r = reference r.powered r.store r.copy r.address r.controls w j

unfoldable pub zero_copy : List ℕ
zero_copy = replicate 256 0

abbrev pub zero_controls : List ℕ
zero_controls = 0 ∷ 0 ∷ 0 ∷ 0 ∷ 0 ∷ 0 ∷ 0 ∷ 0 ∷ []

-- it starts off, with no job, store the image, the rest zero
abbrev pub initial : (image : List ℕ) → Reference
initial image = reference false image zero_copy 0 zero_controls 0 none

-- ---- refusals
-- a 16-bit code as signed: from 8000 on, less 10000
abbrev pub signed : ℕ → ℤ
signed n = if ltb n 0x8000 then pos n else sub_ℕ n 0x10000

-- below D800 or above 7D00 as signed
abbrev pub out_of_range : (temperature : ℤ) → Bool
out_of_range t = lt_z t (signed 0xd800) || lt_z (signed 0x7d00) t

-- 7 when off, which precedes the call's own number
abbrev pub when_on : Reference → ℕ → ℕ
when_on r number = if r.powered then number else 7

-- a call's refusal, 0 where it is accepted; 7: powered off; 8: power-on while powered; 6: a temperature out of range
abbrev pub refusal : Reference → Call → ℕ
refusal r call.PowerOn = if r.powered then 8 else 0
refusal r (call.Cut cut) = when_on r 0
refusal r call.ResetPin = when_on r 0
refusal r (call.Frame word) = when_on r 0
refusal r call.Tick = when_on r 0
refusal r (call.Lines l) = when_on r 0
refusal r (call.Sample s) = when_on r (if out_of_range s.temperature then 6 else 0)

abbrev pub accepts : Reference → Call → Bool
accepts r c = eqb (refusal r c) 0

-- ---- frames
-- bit i of a word, bit 0 the lowest; bits high to low
abbrev pub bit : ℕ → ℕ → Bool
bit i w = eqb (w / 2 ^ i % 2) 1

abbrev pub field : (high low : ℕ) → ℕ → ℕ
field high low w = w / 2 ^ low % 2 ^ (high + 1 - low)

-- what a frame asks: nothing, to set the address, to write there, to read there and then add one or not
pub data Frame : Type 0 where
  silent : Frame
  sets writes : ℕ → Frame
  reads : (increment : Bool) → Frame

-- start 31:30, operation 29:28, port 27:23, device 22:18, turnaround 17:16, data 15:0. Silent if start isn't 00, the port
-- is another's, the device isn't 1, or an address or write frame has turnaround other than 10
unfoldable pub frame_of : (port word : ℕ) → Frame
frame_of port w =
    if not (eqb (w / 2 ^ 30) 0) || not (eqb (field 27 23 w) port) || not (eqb (field 22 18 w) 1) then silent else
    if ltb (field 29 28 w) 2 && not (eqb (field 17 16 w) 2) then silent else
    if eqb (field 29 28 w) 0 then sets (field 15 0 w) else
    if eqb (field 29 28 w) 1 then writes (field 15 0 w) else
    if eqb (field 29 28 w) 3 then reads false else
    reads true

-- ---- addresses
abbrev pub within : (first last : ℕ) → ℕ → Bool
within first last a = leb first a && leb a last

-- the copy, at 8007 to 8106: offsets 0 to 255, of which 119 to 166 are customer bytes, at 807E to 80AD
abbrev pub copy_at : ℕ → Bool
copy_at a = within 0x8007 0x8106 a

abbrev pub customer_at : ℕ → Bool
customer_at a = within 0x807e 0x80ad a

abbrev pub customer_offset : ℕ → Bool
customer_offset o = within 119 166 o

-- the controls, and the masks that they are written under
abbrev pub control_at : ℕ → Bool
control_at a = eqb a 0x9000 || eqb a 0x9001 || eqb a 0x9002 || eqb a 0x9006 || eqb a 0x9007

abbrev pub mask_at : ℕ → ℕ
mask_at a = get_or (0x003b ∷ 0x03db ∷ 0x0007 ∷ 0 ∷ 0 ∷ 0 ∷ 0x00cf ∷ 0x00c0 ∷ []) (a - 0x9000) 0

abbrev pub control : Reference → (address : ℕ) → ℕ
control r a = get_or r.controls (a - 0x9000) 0

-- ---- the word at 8000: bits 15:8 offset, 5 write, 3:2 status, 1:0 command
-- a word's offset, write and command, with a status: 0 idle, 1 done, 2 busy, 3 failed
abbrev pub with_status : ℕ → ℕ → ℕ
with_status status w = bit_or (bit_and w 0xff23) (4 * status)

abbrev pub busy : ℕ → Bool
busy w = bit 3 w && not (bit 2 w)

-- a read of it shows done, 01, or failed, 11, then makes it idle
abbrev pub idle_once_shown : ℕ → ℕ
idle_once_shown w = if bit 2 w then with_status 0 w else w

-- ---- starts, cuts, ticks
-- power-on and reset zero copy, address and controls, set the word to 000B and start a load of all offsets
abbrev pub started : Reference → Reference
started r = with_power true (with_copy zero_copy (with_address 0 (with_controls zero_controls (with_word 0x000b (load 0 255) r))))

-- a cut takes the power; torn (document 01: struck) while a burn is due, its byte goes into the store there
abbrev pub torn_store : List ℕ → Job → Cut → List ℕ
torn_store s none cut = s
torn_store s (load due last) cut = s
torn_store s (burn due last) Clean = s
torn_store s (burn due last) (Torn byte) = set s due byte

unfoldable pub cut_ref : Reference → Cut → Reference
cut_ref r cut = with_power false (with_store (torn_store r.store r.job cut) r)

-- after a byte the next offset is due; after the last, status is done and no job is left
abbrev pub advanced : (more : Bool) → Job → Reference → Reference
advanced more next r = if more then with_word r.word next r else with_word (with_status 1 r.word) none r

-- a load puts store into copy, a burn copy into store
unfoldable pub tick_ref : Reference → Job → Reference
tick_ref r none = r
tick_ref r (load due last) =
    advanced (ltb due last) (load (due + 1) last) (with_copy (set r.copy due (get_or r.store due 0)) r)
tick_ref r (burn due last) =
    advanced (ltb due last) (burn (due + 1) last) (with_store (set r.store due (get_or r.copy due 0)) r)

-- ---- writes and reads, at an address
-- command 11: load all offsets, or burn 119 to 166; 10: that one offset, a burn only of a customer byte; else it fails
unfoldable pub command_job : ℕ → Job
command_job w =
    if eqb (w % 4) 3 then (if bit 5 w then burn 119 166 else load 0 255) else
    if not (eqb (w % 4) 2) then none else
    if not (bit 5 w) then load (w / 256) (w / 256) else
    if customer_offset (w / 256) then burn (w / 256) (w / 256) else
    none

-- busy, or failed without a tick
abbrev pub command_status : Job → ℕ
command_status none = 3
command_status (load due last) = 2
command_status (burn due last) = 2

unfoldable pub commanded : ℕ → Reference → Reference
commanded w r = with_word (with_status (command_status (command_job w)) w) (command_job w) r

-- whether a write is taken; one that is not named here is dropped
abbrev pub writable : Reference → (value address : ℕ) → Bool
writable r v a =
    if eqb a 0x0000 then bit 15 v else
    if eqb a 0x8000 || customer_at a then not (busy r.word) else
    control_at a

-- what it then does: a reset, a command, the low eight bits into a customer byte, a control under its mask
unfoldable pub written : Reference → (value address : ℕ) → Reference
written r v a =
    if eqb a 0x0000 then started r else
    if eqb a 0x8000 then commanded v r else
    if customer_at a then with_copy (set r.copy (a - 0x8007) (v % 256)) r else
    with_controls (set r.controls (a - 0x9000) (bit_and v (mask_at a))) r

unfoldable pub read_ref : Reference → (address : ℕ) → Reference
read_ref r a = if eqb a 0x8000 then with_word (idle_once_shown r.word) r.job r else r

-- plus one, unless it is FFFF
abbrev pub incremented : ℕ → ℕ
incremented a = if ltb a 0xffff then a + 1 else a

unfoldable pub frame_ref : Reference → Frame → Reference
frame_ref r silent = r
frame_ref r (sets a) = with_address a r
frame_ref r (writes v) = if writable r v r.address then written r v r.address else r
frame_ref r (reads false) = read_ref r r.address
frame_ref r (reads true) = with_address (incremented r.address) (read_ref r r.address)

-- ---- calls
-- what an accepted call changes
unfoldable pub call_ref : (port : ℕ) → Reference → Call → Reference
call_ref port r call.PowerOn = started r
call_ref port r (call.Cut cut) = cut_ref r cut
call_ref port r call.ResetPin = started r
call_ref port r (call.Frame word) = frame_ref r (frame_of port word)
call_ref port r call.Tick = tick_ref r r.job
call_ref port r (call.Lines l) = r
call_ref port r (call.Sample s) = r

-- a refused one changes nothing
unfoldable pub step_ref : (port : ℕ) → Reference → Call → Reference
step_ref port r c = if accepts r c then call_ref port r c else r

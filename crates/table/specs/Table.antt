-- The table of proved cases. Document 01, "Proved cases": what is done to a module, and what it answers and shows.
-- Assumes nothing.
use Rattle.std.specs.Prelude.{ℕ, ◌+◌, Bool, true, false, List, [], ◌∷◌, ◌++◌, map, ◌≡◌, ℤ, pos, negsuc, length, take, drop, get_or, set, replicate}
use Rattle.store.specs.declared.Cut.TheVariants.{Torn}
use Rattle.dom.specs.Readout.{tenths_of}
use Rattle.answers.specs.Answers.{Said, said_plain}
use Rattle.creation.specs.Creation.{make}
use Rattle.calls.specs.Calls.{run}
use Rattle.calls.specs.declared.Call.{Call}
use Rattle.calls.specs.declared.Call.TheVariants as call
use Rattle.xenpak.specs.declared.Module.{Module}
use Rattle.guarantees.specs.Reference.{initial}
use Rattle.guarantees.specs.BurnLog.{Entry, entry, burn_log}
use Rattle.guarantees.specs.History.{Model, fresh, run_model}
use Rattle.guarantees.specs.Behaviour.{says, refused, make_said, answers_by_model, Seen, seen_by_model, along_model, tenths}
use Rattle.guarantees.specs.Guarantees.{answers, seen, along}

-- ---- the module: at port 0
-- basic bytes 01, their sum 76, and 02 from there on
abbrev pub image : List ℕ
image = replicate 118 0x01 ++ (0x76 ∷ replicate 137 0x02)

-- high alarm, low alarm 0, high warning, low warning 0: no reading of the table crosses these
abbrev pub quantity : ℕ → ℕ → List ℕ
quantity alarm warning = alarm ∷ 0 ∷ 0 ∷ 0 ∷ warning ∷ 0 ∷ 0 ∷ 0 ∷ []

-- temperature high alarm 4600, low alarm FB00, high warning 4000, low warning FC00; each other quantity has its own
abbrev pub thresholds : List ℕ
thresholds =
    (0x46 ∷ 0 ∷ 0xfb ∷ 0 ∷ 0x40 ∷ 0 ∷ 0xfc ∷ 0 ∷ []) ++ replicate 8 0x55 ++ quantity 0xf0 0xe0 ++ quantity 0xd0 0xc0 ++ quantity 0xb0 0xa0

-- ---- steps: some calls, their answers, and the alarm line after them
pub record Step : Type 0 where
  pub does : List Call
  pub gets : List Said
  pub line : Bool

abbrev pub step : Call → Said → List Step
step c s = record { does = c ∷ []; gets = s ∷ []; line = false } ∷ []

abbrev pub asserted : List Step → List Step
asserted steps = map (λ (s : Step). record { does = s.does; gets = s.gets; line = true }) steps

abbrev pub accepted : Call → List Step
accepted c = step c (says 1 [])

-- an address frame is set, a write written; a read gives data
abbrev pub address : ℕ → List Step
address a = step (call.Frame (0x00060000 + a)) (says 2 [])

abbrev pub write : ℕ → List Step
write v = step (call.Frame (0x10060000 + v)) (says 3 [])

abbrev pub read : ℕ → List Step
read v = step (call.Frame 0x30040000) (says 5 (v ∷ []))

abbrev pub read_increment : ℕ → List Step
read_increment v = step (call.Frame 0x20040000) (says 5 (v ∷ []))

-- n ticks that load the image's bytes, from offset 0 on; one that burns a byte
abbrev pub loaded : (offset : ℕ) → (bytes : List ℕ) → List Said
loaded o [] = []
loaded o (b ∷ bs) = says 2 (o ∷ b ∷ []) ∷ loaded (o + 1) bs

abbrev pub loads : (n : ℕ) → List Step
loads n = record { does = replicate n call.Tick; gets = loaded 0 (take n image); line = false } ∷ []

abbrev pub burns : (offset byte : ℕ) → List Step
burns o b = step call.Tick (says 3 (o ∷ b ∷ []))

abbrev pub cut_torn : (byte : ℕ) → List Step
cut_torn b = accepted (call.Cut (Torn b))

-- a sample of temperature and bias, the powers 0
abbrev pub sample : ℤ → ℕ → List Step
sample t b = accepted (call.Sample (record { temperature = t; bias = b; transmit = 0; receive = 0 }))

abbrev pub link_up : List Step
link_up = accepted (call.Lines (record { receive = 0; transmit = 0; signal = true; block = true; lanes = true }))

-- so many customer bytes are unsaved
abbrev pub bytes : ℕ → Said
bytes n = says 1 (n ∷ [])

-- ---- the table
pub data Row : Type 0 where
  -- steps after making and power-on; then address register, counter, how much is unsaved (document 02, P3), store, and what
  -- was burned
  plays : List Step → (address counter : ℕ) → (unsaved : Said) → (store : List ℕ) → List Entry → Row
  -- the readout of a code
  reads : (code tenths : ℤ) → Row

unfoldable pub table : List Row
table =
    -- 00068000, 30040000 after 0 or 255 ticks
    plays (address 0x8000 ++ read 0x000b) 0x8000 1 (bytes 48) image []
    ∷ plays (loads 255 ++ address 0x8000 ++ read 0x000b) 0x8000 1 (bytes 0) image []
    -- two reads after 256
    ∷ plays (loads 256 ++ address 0x8000 ++ read 0x0007 ++ read 0x0003) 0x8000 2 (bytes 0) image []
    -- 0000 before, after load
    ∷ plays (address 0x0000 ++ read 0xa040 ++ loads 256 ++ read 0x2040) 0x0000 2 (bytes 0) image []
    -- loaded, address 8000: 10067622, read twice
    ∷ plays (loads 256 ++ address 0x8000 ++ write 0x7622 ++ read 0x762e ++ read 0x7622) 0x8000 2 (bytes 0) image []
    -- loaded; 807E gets 01AA
    ∷ plays (loads 256 ++ address 0x807e ++ write 0x01aa ++ read 0x00aa) 0x807e 1 (bytes 1) image []
    -- then 8000 gets 0023, 2 ticks, cut struck 55
    ∷ plays
    (loads 256 ++ address 0x807e ++ write 0x01aa ++ address 0x8000 ++ write 0x0023 ++ burns 119 0xaa ++ burns 120 0x02 ++ cut_torn 0x55)
    0x8000 0 (refused 7) (set (set image 119 0xaa) 121 0x55) (entry 119 0xaa ++ entry 120 0x02 ++ entry 121 0x55)
    -- temperature high alarm 4600: samples 4600, 4601, a read after each
    ∷ plays (address 0xa070 ++ sample (pos 0x4600) 0 ++ read 0x0000 ++ sample (pos 0x4601) 0 ++ read 0x0080) 0xa070 2 (bytes 48) image []
    -- temperature low alarm FB00: FAFF, fine sample, read twice
    ∷ plays (address 0xa070 ++ sample (negsuc 0x500) 0 ++ sample (pos 0) 0 ++ read 0x0040 ++ read 0x0000) 0xa070 2 (bytes 48) image []
    -- bias 61A8, read A064, bias 0, A065 twice
    ∷ plays
    (sample (pos 0) 0x61a8 ++ address 0xa064 ++ read 0x61 ++ sample (pos 0) 0 ++ address 0xa065 ++ read 0xa8 ++ read 0x00) 0xa065
    3 (bytes 48) image []
    -- FFFF, 20040000
    ∷ plays (address 0xffff ++ read_increment 0x0000) 0xffff 1 (bytes 48) image []
    -- 9002 is 1, link up, 9005 twice
    ∷ plays (address 0x9002 ++ write 0x0001 ++ asserted (link_up ++ address 0x9005) ++ read 0x0001 ++ read 0x0000) 0x9005 2 (bytes 48) image []
    -- readout of 192, −192 (document 02, P2)
    ∷ reads (pos 192) (pos 8)
    ∷ reads (negsuc 191) (negsuc 7)
    ∷ []

-- ---- what each row comes to
pub data Result : Type 0 where
  -- the answers, from making on; the alarm line after each step; the address register; what can be seen at the end
  shows : List Said → List Bool → (address : ℕ) → Seen → Result
  tells : (tenths : ℤ) → Result

abbrev pub from_power_on : List Step → List Step
from_power_on steps = accepted call.PowerOn ++ steps

abbrev pub calls_of : List Step → List Call
calls_of [] = []
calls_of (s ∷ ss) = s.does ++ calls_of ss

abbrev pub answers_of : List Step → List Said
answers_of [] = []
answers_of (s ∷ ss) = s.gets ++ answers_of ss

-- the lines, and what is seen at the end, from what is seen at the start and after each call
abbrev pub nothing_seen : Seen
nothing_seen = record { line = false; counter = 0; stored = λ offset. 0; unsaved = bytes 0 }

abbrev pub lines_after : List Step → List Seen → List Bool
lines_after [] sights = []
lines_after (s ∷ ss) sights =
    (get_or sights (length s.does) nothing_seen).line ∷ lines_after ss (drop (length s.does) sights)

abbrev pub played : List Step → List Said → List Seen → (address : ℕ) → Result
played steps said sights a =
    shows said (lines_after steps sights) a (get_or sights (length (calls_of steps)) nothing_seen)

-- as the row says
unfoldable pub expected : Row → Result
expected (plays steps a n unsaved store log) =
    shows (says 1 [] ∷ answers_of (from_power_on steps)) (map (λ (s : Step). s.line) (from_power_on steps)) a
    (record { line = false; counter = n; stored = λ offset. get_or store offset 0; unsaved = unsaved })
expected (reads code t) = tells t

-- of the module
abbrev pub made : Module
made = (make 0 image thresholds).next

unfoldable pub result : Row → Result
result (plays steps a n unsaved store log) =
    let all : List Step = from_power_on steps in
    played all (said_plain (make 0 image thresholds).answer ∷ answers made (calls_of all)) (along seen made (calls_of all))
    (run made (calls_of all)).bus.address
result (reads code t) = tells (tenths_of code)

-- of its model
abbrev pub modelled : Model
modelled = fresh 0 image thresholds

unfoldable pub result_by_model : Row → Result
result_by_model (plays steps a n unsaved store log) =
    let all : List Step = from_power_on steps in
    played all (make_said 0 image thresholds ∷ answers_by_model modelled (calls_of all)) (along_model seen_by_model modelled (calls_of all))
    (run_model modelled (calls_of all)).reference.address
result_by_model (reads code t) = tells (tenths code)

-- the burn log
unfoldable pub expected_log : Row → List Entry
expected_log (plays steps a n unsaved store log) = log
expected_log (reads code t) = []

unfoldable pub log_of : Row → List Entry
log_of (plays steps a n unsaved store log) = burn_log 0 (initial image) (calls_of (from_power_on steps))
log_of (reads code t) = []

pub record Cases : Type 0 where
  pub module_does : map result table ≡ map expected table
  pub model_does : map result_by_model table ≡ map expected table
  pub log : map log_of table ≡ map expected_log table

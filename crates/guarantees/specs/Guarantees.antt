-- What is guaranteed: demands 2 and 3 as statements about whole lists of calls, and what goes beyond them.
-- Assumes nothing.
use Rattle.std.specs.Prelude.{ℕ, ◌-◌, ◌<◌, false, cond, List, [], ◌∷◌, ◌++◌, ◌≢◌, ◌≡◌, ℤ, length, get_or, set, replicate, Ok, Err}
use Rattle.store.specs.declared.Cut.TheVariants.{Clean}
use Rattle.dom.specs.Readout.{tenths_of}
use Rattle.answers.specs.Answers.{Answer, Said, said_plain, said_frame, said_tick, said_settle, said_unsaved}
use Rattle.answers.specs.declared.Refusal.{Refusal}
use Rattle.answers.specs.declared.Refusal.TheVariants.{Port, ImageLength, ThresholdsLength, Checksum, ThresholdOrder, Temperature, PoweredOff, PoweredOn}
use Rattle.answers.specs.declared.FrameAnswer.{FrameAnswer}
use Rattle.answers.specs.declared.FrameAnswer.TheVariants.{Silent, Set, Written, Dropped, Data}
use Rattle.answers.specs.declared.TickAnswer.{TickAnswer}
use Rattle.answers.specs.declared.TickAnswer.TheVariants.{Nothing, Loaded, Burned}
use Rattle.answers.specs.declared.TickAnswer.TheVariants as to_tick
use Rattle.xenpak.specs.Calls.{power_on, reset_pin, tick}
use Rattle.xenpak.specs.Frame.{frame}
use Rattle.xenpak.specs.declared.Module.{Module}
use Rattle.reads.specs.Reads.{line_of, counter_of, stored_at, unsaved_of}
use Rattle.calls.specs.Calls.{said, step, run}
use Rattle.calls.specs.declared.CallAnswer.{CallAnswer}
use Rattle.calls.specs.declared.CallAnswer.TheVariants as answer
use Rattle.calls.specs.declared.Call.{Call}
use Rattle.calls.specs.declared.Call.TheVariants.{PowerOn, Cut, ResetPin, Frame, Tick, Lines, Sample}
use Rattle.settling.specs.Settling.{settle}
use Rattle.creation.specs.Creation.{make}
use Rattle.guarantees.specs.Reference.{initial, customer_offset}
use Rattle.guarantees.specs.BurnLog.{burn_log, applied}
use Rattle.guarantees.specs.History.{Model, fresh, run_model, line_by_history}
use Rattle.guarantees.specs.Behaviour.{make_refusal, make_said, answers_by_model, unsaved_said, Seen, seen_by_model, along_model, settle_count, settle_said, tenths}

-- ---- what can be seen of a run
-- the answer to each call
unfoldable pub answers : Module → List Call → List Said
answers m [] = []
answers m (c ∷ cs) = said (step m c).answer ∷ answers (step m c).next cs

-- what can be read from the record
abbrev pub seen : Module → Seen
seen m = record { line = line_of m; counter = counter_of m; stored = stored_at m; unsaved = said_unsaved (unsaved_of m) }

-- a view of the record, at the start and after each call
unfoldable pub along : {A : Type 0} → (Module → A) → Module → List Call → List A
along view m [] = view m ∷ []
along view m (c ∷ cs) = view m ∷ along view (step m c).next cs

-- ---- demand 2: every answer of every list
-- a module that lives through the calls does and shows what its model does
pub record ByModel (a : Module) (m : Model) (calls : List Call) : Type 0 where
  -- the answer to each call, and what can be seen at the start and after each
  pub answered : answers a calls ≡ answers_by_model m calls
  pub seen_alike : along seen a calls ≡ along_model seen_by_model m calls
  -- settling after them: its answer, and the ticks that it stands for
  pub settled : (budget : ℕ) → said_settle (settle (run a calls) budget).answer ≡ settle_said (run_model m calls).reference budget
  pub ticked : (budget : ℕ)
      → (settle (run a calls) budget).next ≡ run (run a calls) (replicate (settle_count (run_model m calls).reference budget) Tick)

-- making: its answer; the module of a refused one is that of port 0 and zeros; the module of an accepted one goes by its
-- model through every list of calls
pub record Made (port : ℕ) (image thresholds : List ℕ) : Type 0 where
  pub answered : said_plain (make port image thresholds).answer ≡ make_said port image thresholds
  pub blank : make_refusal port image thresholds ≢ 0
      → (make port image thresholds).next ≡ (make 0 (replicate 256 0) (replicate 40 0)).next
  pub lives : make_refusal port image thresholds ≡ 0 → (calls : List Call)
      → ByModel (make port image thresholds).next (fresh port image thresholds) calls

abbrev pub EveryAnswer : Type 0
EveryAnswer = (port : ℕ) (image thresholds : List ℕ) → Made port image thresholds

-- ---- demand 3: two runs
-- a clean cut if it is powered, then power-on
abbrev pub power_cycle : Module → List Call
power_cycle m = cond m.powered (Cut Clean ∷ PowerOn ∷ []) (PowerOn ∷ [])

-- a module after the calls and such a power cycle
abbrev pub cycled : Module → List Call → Module
cycled m calls = run m (calls ++ power_cycle (run m calls))

-- an image with the burn log of the calls applied
abbrev pub burned : ℕ → List ℕ → List Call → List ℕ
burned port image calls = applied (burn_log port (initial image) calls) image

-- a was made from the image, and lives through the calls; b is made from the image with their burn log applied, the same
-- port and thresholds
pub record TwoRuns (port : ℕ) (image thresholds : List ℕ) (a b : Module) (calls : List Call) : Type 0 where
  -- a's store is its image with its burn log applied, and differs from that image in customer bytes alone
  pub store : (run a calls).store ≡ burned port image calls
  pub size : length (run a calls).store ≡ 256
  pub customer : (i : ℕ) → customer_offset i ≡ false → get_or (run a calls).store i 0 ≡ get_or image i 0
  -- b's making is accepted
  pub made : (make port (burned port image calls) thresholds).answer ≡ Ok tt
  -- a clean cut of a if it is powered, then power-on of both: the records are equal
  pub same : cycled a calls ≡ run b (PowerOn ∷ [])
  -- then every later list gets equal answers, and at its start and after each call equal line, counter, store and count of
  -- unsaved bytes
  pub answered : (later : List Call) → answers (cycled a calls) later ≡ answers (run b (PowerOn ∷ [])) later
  pub seen_alike : (later : List Call) → along seen (cycled a calls) later ≡ along seen (run b (PowerOn ∷ [])) later
  -- in either run, after making and after every call, the line is the history rule's
  pub a_line : (later : List Call)
      → along line_of a (calls ++ (power_cycle (run a calls) ++ later))
      ≡ along_model line_by_history (fresh port image thresholds) (calls ++ (power_cycle (run a calls) ++ later))
  pub b_line : (later : List Call)
      → along line_of b (PowerOn ∷ later)
      ≡ along_model line_by_history (fresh port (burned port image calls) thresholds) (PowerOn ∷ later)

-- for every accepted making and every list of calls
abbrev pub Demand3 : Type 0
Demand3 = (port : ℕ) (image thresholds : List ℕ) (calls : List Call) → make_refusal port image thresholds ≡ 0
    → TwoRuns port image thresholds (make port image thresholds).next (make port (burned port image calls) thresholds).next calls

-- ---- document 02, P3: after every accepted making and every list of calls, the quick answer to how much is unsaved is the
-- full count of the record's own copy and store, and 7 when it is off. That it is the model's too says `seen_alike`
abbrev pub CountsUnsaved : Module → Type 0
CountsUnsaved m = said_unsaved (unsaved_of m) ≡ unsaved_said m.powered m.copy m.store

abbrev pub UnsavedCount : Type 0
UnsavedCount = (port : ℕ) (image thresholds : List ℕ) (calls : List Call) → make_refusal port image thresholds ≡ 0
    → CountsUnsaved (run (make port image thresholds).next calls)

-- ---- beyond them
-- demand 1: a refused call leaves the record, whatever it holds; so does a frame that is silent or dropped
abbrev pub RefusedUnchanged : Type 0
RefusedUnchanged = (m : Module) (c : Call) → (said (step m c).answer).refusal ≢ 0 → (step m c).next ≡ m

abbrev pub SilentUnchanged : Type 0
SilentUnchanged = (m : Module) (c : Call) → (step m c).answer ≡ answer.Frame (Ok Silent) → (step m c).next ≡ m

abbrev pub DroppedUnchanged : Type 0
DroppedUnchanged = (m : Module) (c : Call) → (step m c).answer ≡ answer.Frame (Ok Dropped) → (step m c).next ≡ m

-- a tick did what it answers, whatever the record holds: loaded, the copy has that byte at that offset; burned, the store
pub record TickTells (m : Module) : Type 0 where
  pub loaded : (o b : ℕ) → (tick m).answer ≡ Loaded o b → ((tick m).next.copy ≡ set m.copy o b) × ((tick m).next.store ≡ m.store)
  pub burned : (o b : ℕ) → (tick m).answer ≡ Burned o b → ((tick m).next.store ≡ set m.store o b) × ((tick m).next.copy ≡ m.copy)

-- the copy begins as 256 zeros: after power-on, the reset pin and a write taken at 0000 there is a byte at each offset, and
-- it is 0, whatever the default for where there is none
abbrev pub Zeros : List ℕ → Type 0
Zeros copy = (i default : ℕ) → i < 256 → get_or copy i default ≡ 0

pub record ZeroCopy (m : Module) : Type 0 where
  pub at_power_on : (power_on m).answer ≡ Ok tt → Zeros (power_on m).next.copy
  pub at_reset_pin : (reset_pin m).answer ≡ Ok tt → Zeros (reset_pin m).next.copy
  pub at_reset_frame : (word : ℕ) → m.bus.address ≡ 0 → (frame m word).answer ≡ Ok Written → Zeros (frame m word).next.copy

-- a frame gets a frame's answer, a tick a tick's, every other call a plain one
pub data Kind : Type 0 where
  plain framed ticked : Kind

abbrev pub kind_of : CallAnswer → Kind
kind_of (answer.Plain a) = plain
kind_of (answer.Frame a) = framed
kind_of (answer.Tick a) = ticked

abbrev pub kind_for : Call → Kind
kind_for PowerOn = plain
kind_for (Cut cut) = plain
kind_for ResetPin = plain
kind_for (Frame word) = framed
kind_for Tick = ticked
kind_for (Lines l) = plain
kind_for (Sample s) = plain

abbrev pub Kinds : Type 0
Kinds = (m : Module) (c : Call) → kind_of (step m c).answer ≡ kind_for c

-- ---- document 01's numbers: what is said tells the answer
-- its refusals, from 1
abbrev pub refusals : List Refusal
refusals = Port ∷ ImageLength ∷ ThresholdsLength ∷ Checksum ∷ ThresholdOrder ∷ Temperature ∷ PoweredOff ∷ PoweredOn ∷ []

-- a refusal, or one of the answers to a call of a kind, from 1, with the values said
abbrev pub told : {A : Type 0} → (Refusal → A) → ((value : ℕ → ℕ) → List A) → Said → A
told refused answers s =
    get_or (refused (get_or refusals (s.refusal - 1) Port) ∷ answers (λ i. get_or s.values i 0)) s.which (refused Port)

abbrev pub plain_told : Said → Answer (Unit {0})
plain_told = told Err (λ value. Ok tt ∷ [])

abbrev pub frame_told : Said → Answer FrameAnswer
frame_told = told Err (λ value. Ok Silent ∷ Ok Set ∷ Ok Written ∷ Ok Dropped ∷ Ok (Data (value 0)) ∷ [])

abbrev pub tick_told : Said → TickAnswer
tick_told = told to_tick.Refused (λ value. Nothing ∷ Loaded (value 0) (value 1) ∷ Burned (value 0) (value 1) ∷ [])

-- the count
abbrev pub count_told : Said → Answer ℕ
count_told = told Err (λ value. Ok (value 0) ∷ [])

-- so no two answers of a kind are said alike
pub record Numbered : Type 0 where
  pub plain : (a : Answer (Unit {0})) → plain_told (said_plain a) ≡ a
  pub frames : (a : Answer FrameAnswer) → frame_told (said_frame a) ≡ a
  pub ticks : (a : TickAnswer) → tick_told (said_tick a) ≡ a
  pub settling : (a : Answer ℕ) → count_told (said_settle a) ≡ a
  pub unsaved : (a : Answer ℕ) → count_told (said_unsaved a) ≡ a

-- ---- the readout of every temperature code
abbrev pub Readout : Type 0
Readout = (code : ℤ) → tenths_of code ≡ tenths code

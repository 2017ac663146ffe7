-- What each call answers: document 01's number of each refusal, number and values of each answer, and which a frame gets.
-- Assumes nothing.
use Rattle.std.specs.Prelude.{ℕ, Bool, cond, not, List, [], ◌∷◌, Result, Ok, Err}
use Rattle.action.specs.declared.Action.{Action}
use Rattle.action.specs.declared.Action.TheVariants as action
use Rattle.answers.specs.declared.Refusal.{Refusal}
use Rattle.answers.specs.declared.Refusal.TheVariants.{Port, ImageLength, ThresholdsLength, Checksum, ThresholdOrder, Temperature, PoweredOff, PoweredOn}
use Rattle.answers.specs.declared.FrameAnswer.{FrameAnswer}
use Rattle.answers.specs.declared.FrameAnswer.TheVariants as frame
use Rattle.answers.specs.declared.TickAnswer.{TickAnswer}
use Rattle.answers.specs.declared.TickAnswer.TheVariants as tick

-- the refusal, or what the accepted call gives
abbrev pub Answer : Type 0 → Type 0
Answer A = Result A Refusal

abbrev pub refusal_number : Refusal → ℕ
refusal_number Port = 1
refusal_number ImageLength = 2
refusal_number ThresholdsLength = 3
refusal_number Checksum = 4
refusal_number ThresholdOrder = 5
refusal_number Temperature = 6
refusal_number PoweredOff = 7
refusal_number PoweredOn = 8

-- the number of the refusal in an answer, 0 where there is none
abbrev pub number_in : {A : Type 0} → Answer A → ℕ
number_in (Ok a) = 0
number_in (Err why) = refusal_number why

-- an answer as document 01 gives it: the refusal's number, 0 where there is none; which of the answers that it names for
-- the call, in its order from 1, 0 where the call is refused; and the values that come with it
pub record Said : Type 0 where
  pub refusal : ℕ
  pub which : ℕ
  pub values : List ℕ

abbrev pub refused_with : Refusal → Said
refused_with why = record { refusal = refusal_number why; which = 0; values = [] }

abbrev pub says : ℕ → List ℕ → Said
says n vs = record { refusal = 0; which = n; values = vs }

-- what is said of an answer, by what is said where the call is accepted
abbrev pub said_by : {A : Type 0} → (A → Said) → Answer A → Said
said_by given (Ok a) = given a
said_by given (Err why) = refused_with why

-- accepted, and nothing more
abbrev pub said_plain : Answer (Unit {0}) → Said
said_plain = said_by (λ u. says 1 [])

-- silent, set, written, dropped, data
abbrev pub frame_given : FrameAnswer → Said
frame_given frame.Silent = says 1 []
frame_given frame.Set = says 2 []
frame_given frame.Written = says 3 []
frame_given frame.Dropped = says 4 []
frame_given (frame.Data value) = says 5 (value ∷ [])

-- of a frame's answer
abbrev pub said_frame : Answer FrameAnswer → Said
said_frame = said_by frame_given

-- nothing, loaded, burned; offset and byte
abbrev pub said_tick : TickAnswer → Said
said_tick tick.Nothing = says 1 []
said_tick (tick.Loaded offset byte) = says 2 (offset ∷ byte ∷ [])
said_tick (tick.Burned offset byte) = says 3 (offset ∷ byte ∷ [])
said_tick (tick.Refused why) = refused_with why

-- the count of ticks
abbrev pub said_settle : Answer ℕ → Said
said_settle = said_by (λ count. says 1 (count ∷ []))

-- the count of bytes
abbrev pub said_unsaved : Answer ℕ → Said
said_unsaved = said_by (λ count. says 1 (count ∷ []))

-- ---- which answer a call gets
-- creation (document 01: making), by whether port, image length, thresholds length, checksum and thresholds' order are
-- right: 1 to 5, the lowest number first
abbrev pub creation_answer : (port image thresholds checksum ordered : Bool) → Answer (Unit {0})
creation_answer port image thresholds checksum ordered =
    cond (not port) (Err Port)
    (cond (not image) (Err ImageLength)
    (cond (not thresholds) (Err ThresholdsLength)
    (cond (not checksum) (Err Checksum)
    (cond (not ordered) (Err ThresholdOrder) (Ok tt)))))

-- power-on: 8 while powered
abbrev pub power_on_answer : (powered : Bool) → Answer (Unit {0})
power_on_answer powered = cond powered (Err PoweredOn) (Ok tt)

-- cut, reset pin, lines and sample: 7 powered off, which precedes 6, a sample's temperature out of range
abbrev pub call_answer : (powered acceptable : Bool) → Answer (Unit {0})
call_answer powered acceptable =
    cond (not powered) (Err PoweredOff) (cond (not acceptable) (Err Temperature) (Ok tt))

-- the answer of a frame that reads this value
abbrev pub frame_answer : Action → ℕ → Answer FrameAnswer
frame_answer action.Refused value = Err PoweredOff
frame_answer action.Silent value = Ok frame.Silent
frame_answer (action.SetAddress a) value = Ok frame.Set
frame_answer action.Dropped value = Ok frame.Dropped
frame_answer action.Reset value = Ok frame.Written
frame_answer (action.Command word) value = Ok frame.Written
frame_answer (action.Customer offset byte) value = Ok frame.Written
frame_answer (action.Control i word) value = Ok frame.Written
frame_answer (action.Read r increment) value = Ok (frame.Data value)

-- how much is unsaved (document 02, P3): 7 powered off
abbrev pub unsaved_answer : (powered : Bool) → ℕ → Answer ℕ
unsaved_answer powered count = cond powered (Ok count) (Err PoweredOff)

-- Any call, lists of calls, and what each answer says.
-- Assumes nothing.
use Rattle.std.specs.Prelude.{List, [], ◌∷◌}
use Rattle.answers.specs.Answers.{Said, said_plain, said_frame, said_tick}
use Rattle.xenpak.specs.Frame.{frame}
use Rattle.xenpak.specs.Calls.{power_on, power_cut, reset_pin, tick, lines, sample}
use Rattle.xenpak.specs.declared.Module.{Module}
use Rattle.xenpak.specs.declared.Outcome.{Outcome}
use Rattle.calls.specs.declared.Call.{Call}
use Rattle.calls.specs.declared.Call.TheVariants as call
use Rattle.calls.specs.declared.CallAnswer.{CallAnswer}
use Rattle.calls.specs.declared.CallAnswer.TheVariants as call-answer

abbrev pub said : CallAnswer → Said
said (call-answer.Plain answer) = said_plain answer
said (call-answer.Frame answer) = said_frame answer
said (call-answer.Tick answer) = said_tick answer

-- an outcome, its answer as one of those of calls
abbrev pub told : {A : Type 0} → (A → CallAnswer) → Outcome A → Outcome CallAnswer
told tell o = record { next = o.next; answer = tell o.answer }

unfoldable pub step : Module → Call → Outcome CallAnswer
step m call.PowerOn = told call-answer.Plain (power_on m)
step m (call.Cut cut) = told call-answer.Plain (power_cut m cut)
step m call.ResetPin = told call-answer.Plain (reset_pin m)
step m (call.Frame word) = told call-answer.Frame (frame m word)
step m call.Tick = told call-answer.Tick (tick m)
step m (call.Lines l) = told call-answer.Plain (lines m l)
step m (call.Sample s) = told call-answer.Plain (sample m s)

-- the record after a list of calls, each on the record that the last one left
unfoldable pub run : Module → List Call → Module
run m [] = m
run m (c ∷ cs) = run (step m c).next cs

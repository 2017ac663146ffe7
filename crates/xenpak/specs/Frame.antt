-- A frame: what a register reads, the answer, and the record after it. Document 01, "Frames" and "Registers".
-- Assumes nothing.
use Rattle.std.specs.Prelude.{ℕ}
use Rattle.registers.specs.declared.Register.{Register}
use Rattle.action.specs.Action.{action_of}
use Rattle.action.specs.declared.Action.{Action}
use Rattle.jobs.specs.Job.{is_busy, job_after, command_after}
use Rattle.store.specs.Bytes.{written_copy}
use Rattle.monitor.specs.Monitor.{monitor_after}
use Rattle.alarms.specs.Alarms.{alarms_after}
use Rattle.answers.specs.Answers.{Answer, frame_answer}
use Rattle.answers.specs.declared.FrameAnswer.{FrameAnswer}
use Rattle.values.specs.Values.{register_of, register_byte, register_value}
use Rattle.differing.specs.Differing.{differing_after}
use Rattle.bus.specs.Bus.{bus_after}
use Rattle.xenpak.specs.declared.Module.{Module}
use Rattle.xenpak.specs.declared.Outcome.{Outcome}

-- what a register reads
abbrev pub value_at : Module → Register → ℕ
value_at m r = register_value r (register_byte r m.copy m.thresholds) m.job m.command m.alarms m.monitor

-- each part after a frame
abbrev pub module_after : Module → Action → Module
module_after m a =
    record {
      store = m.store;
      job = job_after m.job a;
      copy = written_copy m.copy a;
      differing = differing_after m.differing m.store m.copy a;
      powered = m.powered;
      port = m.port;
      thresholds = m.thresholds;
      command = command_after m.command a;
      bus = bus_after m.bus a;
      alarms = alarms_after m.alarms a;
      monitor = monitor_after m.monitor a;
    }

-- a read gives the value before it clears
abbrev pub frame_by : Module → Action → Outcome (Answer FrameAnswer)
frame_by m a = record { next = module_after m a; answer = frame_answer a (value_at m (register_of a)) }

unfoldable pub frame : Module → ℕ → Outcome (Answer FrameAnswer)
frame m word = frame_by m (action_of m.powered m.port m.bus.address (is_busy m.job) word)

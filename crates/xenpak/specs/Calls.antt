-- Each call's answer, and the record after it. Document 01, "The record and its calls", "Load, burn, cut" and "Alarms".
-- Assumes nothing.
use Rattle.std.specs.Prelude.{ℕ, Bool, true, false, List, Ok, Err}
use Rattle.jobs.specs.Job.{first_load, first_command}
use Rattle.jobs.specs.declared.Job.{Job}
use Rattle.work.specs.Work.{work_of, after_work}
use Rattle.work.specs.declared.Work.{Work}
use Rattle.store.specs.Bytes.{tick_answer, loaded_copy, burned_store, torn_store, zeros}
use Rattle.store.specs.declared.Cut.{Cut}
use Rattle.differing.specs.Differing.{differing_started, differing_ticked, differing_cut}
use Rattle.differing.specs.declared.Differing.{Differing}
use Rattle.bus.specs.Bus.{no_bus}
use Rattle.dom.specs.Codes.{acceptable}
use Rattle.thresholds.specs.Thresholds.{thresholds_of}
use Rattle.dom.specs.declared.Sample.{Sample}
use Rattle.flags.specs.Flags.{flags_of}
use Rattle.monitor.specs.Monitor.{no_monitor, sampled_monitor}
use Rattle.monitor.specs.declared.Monitor.{Monitor}
use Rattle.alarms.specs.Alarms.{no_alarms, restarted, after_lines, after_sample}
use Rattle.alarms.specs.declared.Alarms.{Alarms}
use Rattle.alarms.specs.declared.Lines.{Lines}
use Rattle.answers.specs.Answers.{Answer, power_on_answer, call_answer}
use Rattle.answers.specs.declared.TickAnswer.{TickAnswer}
use Rattle.xenpak.specs.declared.Module.{Module}
use Rattle.xenpak.specs.declared.Outcome.{Outcome}

abbrev pub accepted : Module → Outcome (Answer (Unit {0}))
accepted m = record { next = m; answer = Ok tt }

-- a refusal gives the record unchanged
abbrev pub kept : Answer (Unit {0}) → Module → Module → Module
kept (Ok u) m next = next
kept (Err why) m next = m

-- a call with this answer, which would leave the record `next`
abbrev pub taken : Answer (Unit {0}) → Module → Module → Outcome (Answer (Unit {0}))
taken answer m next = record { next = kept answer m next; answer = answer }

-- ---- starts
-- what power-on and reset share, with this power and these alarms: a first load, with copy, address, last sample, held
-- byte and counter at zero
abbrev pub started : Bool → Alarms → Module → Module
started powered alarms m =
    record {
      store = m.store;
      job = first_load;
      copy = zeros 256;
      differing = differing_started m.differing;
      powered = powered;
      port = m.port;
      thresholds = m.thresholds;
      command = first_command;
      bus = no_bus;
      alarms = alarms;
      monitor = no_monitor;
    }

-- power-on also zeroes the lines
unfoldable pub power_on : Module → Outcome (Answer (Unit {0}))
power_on m = taken (power_on_answer m.powered) m (started true no_alarms m)

-- a reset keeps them
unfoldable pub reset_pin : Module → Outcome (Answer (Unit {0}))
reset_pin m = taken (call_answer m.powered true) m (started m.powered (restarted m.alarms) m)

-- ---- cut: the power goes; the other fields keep their values
abbrev pub after_cut : Module → Cut → Module
after_cut m cut =
    record {
      store = torn_store m.store (work_of true m.job) cut;
      job = m.job;
      copy = m.copy;
      differing = differing_cut m.differing m.store m.copy (work_of true m.job) cut;
      powered = false;
      port = m.port;
      thresholds = m.thresholds;
      command = m.command;
      bus = m.bus;
      alarms = m.alarms;
      monitor = m.monitor;
    }

unfoldable pub power_cut : Module → Cut → Outcome (Answer (Unit {0}))
power_cut m cut = taken (call_answer m.powered true) m (after_cut m cut)

-- ---- tick
-- a module with this store and copy, their counts and this job
abbrev pub with_bytes : List ℕ → List ℕ → Differing → Job → Module → Module
with_bytes store copy differing job m =
    record {
      store = store;
      job = job;
      copy = copy;
      differing = differing;
      powered = m.powered;
      port = m.port;
      thresholds = m.thresholds;
      command = m.command;
      bus = m.bus;
      alarms = m.alarms;
      monitor = m.monitor;
    }

abbrev pub tick_by : Module → Work → Outcome TickAnswer
tick_by m w =
    record {
      next =
          with_bytes (burned_store m.store m.copy w) (loaded_copy m.store m.copy w)
          (differing_ticked m.differing m.store m.copy w) (after_work m.job w) m;
      answer = tick_answer m.store m.copy w;
    }

unfoldable pub tick : Module → Outcome TickAnswer
tick m = tick_by m (work_of m.powered m.job)

-- ---- lines, sample
abbrev pub with_alarms : Alarms → Monitor → Module → Module
with_alarms alarms monitor m =
    record {
      store = m.store;
      job = m.job;
      copy = m.copy;
      differing = m.differing;
      powered = m.powered;
      port = m.port;
      thresholds = m.thresholds;
      command = m.command;
      bus = m.bus;
      alarms = alarms;
      monitor = monitor;
    }

abbrev pub lined : Module → Lines → Module
lined m l = with_alarms (after_lines m.alarms l) m.monitor m

unfoldable pub lines : Module → Lines → Outcome (Answer (Unit {0}))
lines m l = taken (call_answer m.powered true) m (lined m l)

abbrev pub sampled : Module → Sample → Module
sampled m s =
    with_alarms (after_sample m.alarms (flags_of (thresholds_of m.thresholds) s)) (sampled_monitor s m.monitor) m

unfoldable pub sample : Module → Sample → Outcome (Answer (Unit {0}))
sample m s = taken (call_answer m.powered (acceptable s.temperature)) m (sampled m s)

-- Making a module (document 01: making): refusals 1 to 5 in order, the fresh module and the blank one.
-- Assumes nothing.
use Rattle.std.specs.Prelude.{ℕ, false, cond, List, eqb, leb, length, Ok, Err}
use Rattle.nvr.specs.Image.{checksum_right}
use Rattle.jobs.specs.Job.{no_job}
use Rattle.store.specs.Bytes.{zeros}
use Rattle.thresholds.specs.Thresholds.{thresholds_of, ordered}
use Rattle.monitor.specs.Monitor.{no_monitor}
use Rattle.alarms.specs.Alarms.{no_alarms}
use Rattle.differing.specs.Differing.{counts_of}
use Rattle.bus.specs.Bus.{no_bus}
use Rattle.answers.specs.Answers.{Answer, creation_answer}
use Rattle.answers.specs.declared.Refusal.{Refusal}
use Rattle.xenpak.specs.Calls.{taken}
use Rattle.xenpak.specs.declared.Module.{Module}
use Rattle.xenpak.specs.declared.Outcome.{Outcome}

-- off, with this store, counted beside a copy of zeros, and these thresholds; all else at zero
abbrev pub fresh : ℕ → List ℕ → List ℕ → Module
fresh port image thresholds =
    record {
      store = image;
      job = no_job;
      copy = zeros 256;
      differing = counts_of image (zeros 256);
      powered = false;
      port = port;
      thresholds = thresholds;
      command = 0;
      bus = no_bus;
      alarms = no_alarms;
      monitor = no_monitor;
    }

-- port 0, all bytes zero, off
abbrev pub blank : Module
blank = fresh 0 (zeros 256) (zeros 40)

-- bytes of the right length
abbrev pub sized : ℕ → List ℕ → Refusal → Answer (List ℕ)
sized n bytes why = cond (eqb (length bytes) n) (Ok bytes) (Err why)

-- 1: port above 31; 2: image not 256 bytes; 3: thresholds not 40 bytes; 4: basic checksum wrong; 5: a quantity's
-- thresholds not in order
abbrev pub judged : (port : ℕ) (image thresholds : List ℕ) → Answer (Unit {0})
judged port image thresholds =
    creation_answer (leb port 31) (eqb (length image) 256) (eqb (length thresholds) 40) (checksum_right image)
    (ordered (thresholds_of thresholds))

-- the module, or the refusal
abbrev pub granted : Answer (Unit {0}) → Module → Answer Module
granted (Ok u) m = Ok m
granted (Err why) m = Err why

-- a fresh module, or why there is none
abbrev pub checked : (port : ℕ) (image thresholds : List ℕ) → Answer Module
checked port image thresholds = granted (judged port image thresholds) (fresh port image thresholds)

-- a fresh module; refused, making gives the blank module
unfoldable pub make : ℕ → List ℕ → List ℕ → Outcome (Answer (Unit {0}))
make port image thresholds = taken (judged port image thresholds) blank (fresh port image thresholds)

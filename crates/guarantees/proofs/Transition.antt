-- What one call can do: the module's next record beside the reference model's, the burn log's entries and the event.
-- The walk over all calls is made once, in `transition`; a fact about every call is then one line for each of its cases.
-- Assumes nothing.
use Prim.Native.Nat.{ℕ, suc, zero, ◌-◌, ◌*◌, ◌/◌, ◌%◌, ◌^◌, ◌≤◌, ◌<◌}
use native.Mathlib.Nat.{div-one}
use native.Mathlib.Omega.{arith}
use mathlib.Core.Bool.{Bool, true, false, cond, not, ◌&&◌, ◌||◌}
use mathlib.Core.List.{List, [], ◌∷◌}
use mathlib.Core.Path.{◌≡◌, refl, sym, ap, ap₂, ◌∙◌, subst}
use lib.Bits.{bit_and, bit_or}
use lib.Dec.{eqb, leb, ltb}
use lib.IntN.{ℤ, pos, negsuc}
use lib.ListN.{set}
use lib.Signed.{le_z, lt_z}
use borrow.Author.Tests.{leb-true, leb-false, le-leb, lt-leb}
use Rattle.words.specs.Words as words
use Rattle.mdio.specs.Frame.{asked, request_of}
use Rattle.mdio.specs.declared.Request.{Request}
use Rattle.mdio.specs.declared.Request.TheVariants as request
use Rattle.registers.specs.Map.{register_at}
use Rattle.registers.proofs.Between.{range_true, in_range}
use Rattle.registers.specs.declared.Register.{Register}
use Rattle.action.specs.Action.{action_of, request_action, write_to}
use Rattle.action.specs.declared.Action.{Action}
use Rattle.action.specs.declared.Action.TheVariants as action
use Rattle.nvr.specs.Command.{kept_bits, burn_in, command_of}
use Rattle.nvr.specs.Image.{region_of, is_customer}
use Rattle.nvr.specs.declared.image.Region.{Region}
use Rattle.nvr.specs.declared.image.Region.TheVariants as region
use Rattle.nvr.proofs.Regions.{customer_is}
use Rattle.nvr.specs.declared.command.Command.{Command}
use Rattle.nvr.specs.declared.command.Command.TheVariants as command
use Rattle.jobs.specs.Job as job
use Rattle.jobs.specs.Job.{word_of, is_busy}
use Rattle.work.specs.Work.{work_of}
use Rattle.store.specs.Bytes.{zeros, tick_answer}
use Rattle.jobs.specs.declared.Job.{Job as ModuleJob}
use Rattle.store.specs.declared.Cut.{Cut}
use Rattle.store.specs.declared.Cut.TheVariants.{Clean, Torn}
use Rattle.dom.specs.Codes.{acceptable}
use Rattle.dom.specs.declared.Sample.{Sample}
use Rattle.alarms.specs.Alarms as alarms
use Rattle.controls.specs.Controls.{control_written}
use Rattle.controls.specs.declared.Controls.{Controls}
use Rattle.alarms.specs.declared.Lines.{Lines}
use Rattle.values.specs.Values.{register_of}
use Rattle.xenpak.specs.Frame.{value_at, module_after, frame}
use Rattle.xenpak.specs.Calls as calls
use Rattle.calls.specs.Calls.{said, step}
use Rattle.xenpak.specs.Calls.{taken, tick_by}
use Rattle.answers.specs.Answers.{Said, said_plain, said_frame, said_tick, power_on_answer, call_answer, frame_answer}
use Rattle.calls.specs.declared.Call.{Call}
use Rattle.calls.specs.declared.Call.TheVariants as call
use Rattle.xenpak.specs.declared.Module.{Module}
use Rattle.guarantees.specs.Reference.{Job, none, load, burn, Reference, reference, with_copy, with_address, with_controls, with_word, zero_copy, zero_controls, signed, out_of_range, bit, Frame, silent, sets, writes, reads, frame_of, customer_at, customer_offset, mask_at, with_status, busy, idle_once_shown, started, cut_ref, tick_ref, command_job, command_status, commanded, writable, written, read_ref, incremented, frame_ref, call_ref, step_ref}
use Rattle.guarantees.specs.BurnLog.{Entry, tick_log, cut_log, call_log, step_log}
use Rattle.guarantees.specs.History.{Event, nothing, powered_on, was_reset, ticked, got_lines, got_sample, data_from, frame_event, call_event, step_event, Model, model, step_model}
use Rattle.guarantees.specs.Behaviour.{refused, says, frame_said, tick_said, call_said, step_said}
use Rattle.guarantees.proofs.Located.{single, Located, apart, located, at0000, at8000, copy, customer, at9000, at9001, at9002, at9003, at9004, at9005, at9006, at9007, threshold, ata060, ata061, ata064, ata065, ata066, ata067, ata068, ata069, ata070, ata071, ata074, ata075, unlisted}
use Rattle.guarantees.proofs.Reading.{idled, read_alarms, reads_at}
use Rattle.guarantees.proofs.StatusWord.{Kept, status_put, Ended, busy-word, shown-word}

-- ---- frames: the code's request is the reference model's frame
as_frame : Request → Frame
as_frame request.Silent = silent
as_frame (request.SetAddress a) = sets a
as_frame (request.Write v) = writes v
as_frame request.Read = reads false
as_frame request.ReadIncrement = reads true

operations : (n v : ℕ) (turned : Bool) → n < 4
    → as_frame (cond (eqb n 0) (cond turned (request.SetAddress v) request.Silent) (cond (eqb n 1) (cond turned (request.Write v) request.Silent) (cond (eqb n 2) request.ReadIncrement request.Read)))
    ≡ cond (ltb n 2 && not turned) silent (cond (eqb n 0) (sets v) (cond (eqb n 1) (writes v) (cond (eqb n 3) (reads false) (reads true))))
unfolding as_frame
operations zero v true h = refl
operations zero v false h = refl
operations (suc zero) v true h = refl
operations (suc zero) v false h = refl
operations (suc (suc zero)) v turned h = refl
operations (suc (suc (suc zero))) v turned h = refl
operations (suc (suc (suc (suc n)))) v turned h = absurd (omega arith)

frame_is : (word port : ℕ) → as_frame (request_of word port) ≡ frame_of port word
unfolding request_of asked frame_of as_frame
frame_is w port = rw (div-one w) (go (eqb (w / 2 ^ 30) 0) (eqb (w / 2 ^ 23 % 32) port) (eqb (w / 2 ^ 18 % 32) 1))
  where
    op : ℕ
    op = w / 2 ^ 28 % 4

    turned : Bool
    turned = eqb (w / 2 ^ 16 % 4) 2

    go : (s p d : Bool)
        → as_frame (cond (s && p && d) (asked op (w / 2 ^ 16 % 4) (w % 2 ^ 16)) request.Silent)
        ≡ cond (not s || not p || not d) silent
        (cond (ltb op 2 && not turned) silent
        (cond (eqb op 0) (sets (w % 2 ^ 16)) (cond (eqb op 1) (writes (w % 2 ^ 16)) (cond (eqb op 3) (reads false) (reads true)))))
    go true true true = operations op (w % 2 ^ 16) turned (omega arith)
    go true true false = refl
    go true false d = refl
    go false p d = refl

-- ---- samples: the code's test and the reference model's
not_above : (a b : ℕ) → not (leb (suc a) b) ≡ leb b a
not_above a b = go (leb (suc a) b) refl
  where
    go : (t : Bool) → leb (suc a) b ≡ t → not t ≡ leb b a
    go true e = sym (lt-leb b a (leb-true (suc a) b e))
    go false e = sym (le-leb b a (omega (arith, leb-false (suc a) b e)))

not_less : (a b : ℤ) → not (lt_z a b) ≡ le_z b a
not_less (pos a) (pos b) = not_above a b
not_less (pos a) (negsuc b) = refl
not_less (negsuc a) (pos b) = refl
not_less (negsuc a) (negsuc b) = not_above b a

neither : (x y : Bool) → not (x || y) ≡ (not x && not y)
neither true y = refl
neither false y = refl

range_is : (t : ℤ) → not (out_of_range t) ≡ acceptable t
range_is t = neither (lt_z t (signed 0xd800)) (lt_z (signed 0x7d00) t) ∙ ap₂ ◌&&◌ (not_less t (signed 0xd800)) (not_less (signed 0x7d00) t)

-- ---- what the reference model holds of a module
abbrev pub job_ref : ModuleJob → Job
job_ref j = cond (eqb j.kind 0) none (cond (eqb j.kind 2) (burn j.due j.last) (load j.due j.last))

abbrev pub controls_ref : Controls → List ℕ
controls_ref c = c.rxalarm ∷ c.txalarm ∷ c.lasi ∷ 0 ∷ 0 ∷ 0 ∷ c.txflag ∷ c.rxflag ∷ []

abbrev pub reference_of : Module → Reference
reference_of m =
    reference m.powered m.store m.copy m.bus.address (controls_ref m.alarms.controls) (word_of m.job m.command) (job_ref m.job)

-- ---- what holds of every job
-- a burn stays in the customer bytes
abbrev pub BurnSound : Job → Type 0
BurnSound none = Unit {0}
BurnSound (load due last) = Unit {0}
BurnSound (burn due last) = (119 ≤ due) × (due ≤ last) × (last ≤ 166)

pub record JobSound (j : ModuleJob) (command : ℕ) : Type 0 where
  pub kept : Kept command
  pub ended : Ended j.ended
  pub burns : BurnSound (job_ref j)

busy_is : (j : ModuleJob) (command : ℕ) → JobSound j command → busy (word_of j command) ≡ is_busy j
busy_is j command h = busy-word command h.kept (eqb j.kind 0) h.ended

-- the customer registers are the customer bytes'
customer-offset : (a : ℕ) → customer_at a ≡ true → customer_offset (a - 0x8007) ≡ true
customer-offset a t = let r = range_true 0x807e 0x80ad a t in in_range 119 166 (a - 0x8007) (omega arith) (omega arith)

-- ---- one call
-- what the model makes of a call: its next reference model and answer, the burn log's entries, the event
pub record Reaction : Type 0 where
  pub reference : Reference
  pub said : Said
  pub entries : List Entry
  pub event : Event

abbrev reacts : Reference → Said → List Entry → Event → Reaction
reacts r y l e = record { reference = r; said = y; entries = l; event = e }

-- the module's next record and what it says, beside what the model makes of the call
pub data Transition (m : Module) : Module → Said → Reaction → Type 0 where
  -- refused, silent, dropped
  unchanged : {n : Module} {x y : Said} → n ≡ m → x ≡ y → Transition m n x (reacts (reference_of m) y [] nothing)
  powering : {x : Said} → Transition m (calls.started true alarms.no_alarms m) x (reacts (started (reference_of m)) x [] powered_on)
  cutting : {x : Said} (cut : Cut)
      → Transition m (calls.after_cut m cut) x (reacts (cut_ref (reference_of m) cut) x (cut_log (job_ref m.job) cut) nothing)
  resetting : {x : Said} → m.powered ≡ true → Transition m (module_after m action.Reset) x (reacts (started (reference_of m)) x [] was_reset)
  ticking :
      Transition m (tick_by m (work_of true m.job)).next (said_tick (tick_answer m.store m.copy (work_of true m.job)))
      (reacts (tick_ref (reference_of m) (job_ref m.job)) (tick_said (reference_of m) (job_ref m.job)) (tick_log m.copy (job_ref m.job)) ticked)
  lining : {x : Said} (l : Lines) → Transition m (calls.lined m l) x (reacts (reference_of m) x [] (got_lines l))
  sampling : {x : Said} (s : Sample) → Transition m (calls.sampled m s) x (reacts (reference_of m) x [] (got_sample s))
  addressing : {x : Said} (a : ℕ) → Transition m (module_after m (action.SetAddress a)) x (reacts (with_address a (reference_of m)) x [] nothing)
  commanding : {x : Said} (v : ℕ) → is_busy m.job ≡ false
      → Transition m (module_after m (action.Command v)) x (reacts (commanded v (reference_of m)) x [] nothing)
  writing : {x : Said} (offset v : ℕ) → customer_offset offset ≡ true
      → Transition m (module_after m (action.Customer offset (v % 256))) x (reacts (with_copy (set m.copy offset (v % 256)) (reference_of m)) x [] nothing)
  -- control i is at 9000 + k, under this mask
  controlling : {x : Said} (i k mask : ℕ) → ((c : Controls) (v : ℕ) → controls_ref (control_written c i v) ≡ set (controls_ref c) k (bit_and v mask)) → (v : ℕ)
      → Transition m (module_after m (action.Control i v)) x
      (reacts (with_controls (set (controls_ref m.alarms.controls) k (bit_and v mask)) (reference_of m)) x [] nothing)
  reading : {x : Said} (increment : Bool)
      → Transition m (module_after m (action.Read (register_at m.bus.address) increment)) x
      (reacts
      (cond increment (with_address (incremented m.bus.address) (read_ref (reference_of m) m.bus.address)) (read_ref (reference_of m) m.bus.address))
      x [] (data_from m.bus.address))

module _ (m : Module) where
  -- what an action does to the module, beside a write that is taken or not: written, 3, or dropped, 4
  abbrev Written : Action → ℕ → Bool → Reference → Event → Type 0
  Written x value b r e =
      Transition m (module_after m x) (said_frame (frame_answer x value)) (reacts (cond b r (reference_of m)) (cond b (says 3 []) (says 4 [])) [] e)

  -- a choice that is made by busy: the module's test and the reference model's
  unless : (b c : Bool) → b ≡ c → (x : Action) (value : ℕ) {r : Reference} → said_frame (frame_answer x value) ≡ says 3 []
      → (c ≡ false → Transition m (module_after m x) (says 3 []) (reacts r (says 3 []) [] nothing))
      → Written (cond (not c) x action.Dropped) value (not b) r nothing
  unless true true e x value q p = unchanged refl refl
  unless false false e x value q p = rw q (p refl)
  unless true false e x value q p = absurd (let z : ◌≡◌ {A = ℕ} 0 1 = cc in omega arith)
  unless false true e x value q p = absurd (let z : ◌≡◌ {A = ℕ} 0 1 = cc in omega arith)

  -- a write at an address of no register of its own, and of no customer byte
  drops : (a v value : ℕ) → single a ≡ false → customer_at a ≡ false
      → Written action.Dropped value (writable (reference_of m) v a) (written (reference_of m) v a) (cond (eqb a 0x0000 && bit 15 v) was_reset nothing)
  drops a v value s u =
      rw (apart a s 0x0000 refl, apart a s 0x8000 refl, u, apart a s 0x9000 refl, apart a s 0x9001 refl, apart a s 0x9002 refl, apart a s 0x9006 refl, apart a s 0x9007 refl)
      (unchanged refl refl)

  on_write : m.powered ≡ true → JobSound m.job m.command → (v value : ℕ) {a : ℕ} {r : Register} → Located a r
      → Written (write_to r (is_busy m.job) v) value (writable (reference_of m) v a) (written (reference_of m) v a)
      (cond (eqb a 0x0000 && bit 15 v) was_reset nothing)
  unfolding written words.bit
  on_write on h v value at0000 = resets (bit 15 v)
    where
      resets : (b : Bool) → Written (cond b action.Reset action.Dropped) value b (started (reference_of m)) (cond b was_reset nothing)
      resets true = resetting on
      resets false = unchanged refl refl
  on_write on h v value at8000 = unless (busy (word_of m.job m.command)) (is_busy m.job) (busy_is m.job m.command h) (action.Command v) value refl (commanding v)
  on_write on h v value {a} (copy s c u t) = drops a v value s u
  on_write on h v value {a} (customer s c u t) =
      rw (apart a s 0x0000 refl, apart a s 0x8000 refl, u)
      (unless (busy (word_of m.job m.command)) (is_busy m.job) (busy_is m.job m.command h) (action.Customer (a - 0x8007) (v % 256)) value refl (λ _. writing (a - 0x8007) v (customer-offset a u)))
  on_write on h v value at9000 = controlling 0 0 (mask_at 0x9000) (λ c v. refl) v
  on_write on h v value at9001 = controlling 1 1 (mask_at 0x9001) (λ c v. refl) v
  on_write on h v value at9002 = controlling 2 2 (mask_at 0x9002) (λ c v. refl) v
  on_write on h v value at9003 = unchanged refl refl
  on_write on h v value at9004 = unchanged refl refl
  on_write on h v value at9005 = unchanged refl refl
  on_write on h v value at9006 = controlling 3 6 (mask_at 0x9006) (λ c v. refl) v
  on_write on h v value at9007 = controlling 4 7 (mask_at 0x9007) (λ c v. refl) v
  on_write on h v value {a} (threshold s c u t) = drops a v value s u
  on_write on h v value ata060 = unchanged refl refl
  on_write on h v value ata061 = unchanged refl refl
  on_write on h v value ata064 = unchanged refl refl
  on_write on h v value ata065 = unchanged refl refl
  on_write on h v value ata066 = unchanged refl refl
  on_write on h v value ata067 = unchanged refl refl
  on_write on h v value ata068 = unchanged refl refl
  on_write on h v value ata069 = unchanged refl refl
  on_write on h v value ata070 = unchanged refl refl
  on_write on h v value ata071 = unchanged refl refl
  on_write on h v value ata074 = unchanged refl refl
  on_write on h v value ata075 = unchanged refl refl
  on_write on h v value {a} (unlisted s c u t) = drops a v value s u

  -- what the module does for a request and for a frame, and what it says
  abbrev requested : Request → Action
  requested q = request_action q m.bus.address (is_busy m.job)

  abbrev asks : ℕ → Action
  asks word = requested (request_of word m.port)

  abbrev frame_says : Action → Said
  frame_says x = said_frame (frame_answer x (value_at m (register_of x)))

  -- what a read at the address register gives
  abbrev pub value_read : ℕ
  value_read = value_at m (register_at m.bus.address)

  -- what the model makes of a frame
  abbrev frame_reacts : Frame → Reaction
  frame_reacts f = reacts (frame_ref (reference_of m) f) (frame_said (reference_of m) value_read f) [] (frame_event m.bus.address f)

  on_request : m.powered ≡ true → JobSound m.job m.command → (q : Request)
      → Transition m (module_after m (requested q)) (frame_says (requested q)) (frame_reacts (as_frame q))
  unfolding frame_ref frame_event as_frame
  on_request on h request.Silent = unchanged refl refl
  on_request on h (request.SetAddress a) = addressing a
  on_request on h (request.Write v) = on_write on h v _ (located m.bus.address)
  on_request on h request.Read = reading false
  on_request on h request.ReadIncrement = reading true

  -- what the model makes of a call that it refuses with this number, or accepts if it is 0
  abbrev judged : ℕ → Reaction → Reaction
  judged number y =
      reacts (cond (eqb number 0) y.reference (reference_of m)) (cond (eqb number 0) y.said (refused number)) (cond (eqb number 0) y.entries []) (cond (eqb number 0) y.event nothing)

  -- a call that needs power
  when : (number : ℕ) (n : Bool → Module) (x : Bool → Said) (y : Reaction) → n false ≡ m → x false ≡ refused 7
      → (m.powered ≡ true → Transition m (n true) (x true) (judged number y))
      → (b : Bool) → m.powered ≡ b → Transition m (n b) (x b) (judged (cond b number 7) y)
  when number n x y f q t true p = t p
  when number n x y f q t false p = unchanged f q

  abbrev reaction : Call → Reaction
  reaction c =
      reacts (step_ref m.port (reference_of m) c) (step_said m.port (reference_of m) value_read c) (step_log (reference_of m) c) (step_event m.port (reference_of m) c)

pub transition : (m : Module) → JobSound m.job m.command → (c : Call) → Transition m (step m c).next (said (step m c).answer) (reaction m c)
unfolding step step_ref step_said step_log step_event call_ref call_said call_log call_event calls.power_on calls.power_cut calls.reset_pin calls.tick calls.lines calls.sample frame action_of
transition m h call.PowerOn = go m.powered
  where
    go : (b : Bool)
        → Transition m (taken (power_on_answer b) m (calls.started true alarms.no_alarms m)).next (said_plain (power_on_answer b))
        (judged m (cond b 8 0) (reacts (started (reference_of m)) (says 1 []) [] powered_on))
    go true = unchanged refl refl
    go false = powering
transition m h (call.Cut cut) =
    when m 0 (λ b. (taken (call_answer b true) m (calls.after_cut m cut)).next) (λ b. said_plain (call_answer b true))
    (reacts (cut_ref (reference_of m) cut) (says 1 []) (cut_log (job_ref m.job) cut) nothing) refl refl (λ on. cutting cut) m.powered refl
transition m h call.ResetPin =
    when m 0 (λ b. (taken (call_answer b true) m (calls.started m.powered (alarms.restarted m.alarms) m)).next) (λ b. said_plain (call_answer b true))
    (reacts (started (reference_of m)) (says 1 []) [] was_reset) refl refl (λ on. resetting on) m.powered refl
transition m h (call.Frame word) =
    when m 0 (λ b. module_after m (cond b (asks m word) action.Refused)) (λ b. frame_says m (cond b (asks m word) action.Refused))
    (frame_reacts m (frame_of m.port word)) refl refl
    (λ on.
    subst (λ (f : Frame). Transition m (module_after m (asks m word)) (frame_says m (asks m word)) (frame_reacts m f)) (frame_is word m.port)
    (on_request m on h (request_of word m.port))) m.powered refl
transition m h call.Tick =
    when m 0 (λ b. (tick_by m (work_of b m.job)).next) (λ b. said_tick (tick_answer m.store m.copy (work_of b m.job)))
    (reacts (tick_ref (reference_of m) (job_ref m.job)) (tick_said (reference_of m) (job_ref m.job)) (tick_log m.copy (job_ref m.job)) ticked)
    refl refl (λ on. ticking) m.powered refl
transition m h (call.Lines l) =
    when m 0 (λ b. (taken (call_answer b true) m (calls.lined m l)).next) (λ b. said_plain (call_answer b true))
    (reacts (reference_of m) (says 1 []) [] (got_lines l)) refl refl (λ on. lining l) m.powered refl
transition m h (call.Sample s) =
    when m (cond (out_of_range s.temperature) 6 0) (λ b. (taken (call_answer b (acceptable s.temperature)) m (calls.sampled m s)).next)
    (λ b. said_plain (call_answer b (acceptable s.temperature))) got refl refl
    (λ on. subst (λ (b : Bool). Transition m (taken (call_answer true b) m (calls.sampled m s)).next (said_plain (call_answer true b)) (judged m (cond (out_of_range s.temperature) 6 0) got)) (range_is s.temperature) (go (out_of_range s.temperature)))
    m.powered refl
  where
    got : Reaction
    got = reacts (reference_of m) (says 1 []) [] (got_sample s)

    go : (b : Bool) → Transition m (taken (call_answer true (not b)) m (calls.sampled m s)).next (said_plain (call_answer true (not b))) (judged m (cond b 6 0) got)
    go true = unchanged refl refl
    go false = sampling s

-- ---- the module keeps what the reference model holds
pub zeros_are : zeros 256 ≡ zero_copy
unfolding zeros zero_copy
zeros_are = refl

start_ref : (m : Module) → m.powered ≡ true → reference_of (module_after m action.Reset) ≡ started (reference_of m)
start_ref m on = ap₂ (λ (p : Bool) (c : List ℕ). reference p m.store c 0 zero_controls 0x000b (load 0 255)) on zeros_are

tick-ref : (m : Module) → JobSound m.job m.command → reference_of (tick_by m (work_of true m.job)).next ≡ tick_ref (reference_of m) (job_ref m.job)
unfolding tick_ref
tick-ref m h = go (eqb m.job.kind 0) (eqb m.job.kind 2) (ltb m.job.due m.job.last) refl refl refl
  where
    last : with_status 1 (bit_or m.command 8) ≡ bit_or m.command 4
    last = status_put m.command h.kept 1 2 (omega arith) refl

    go : (b c d : Bool) → eqb m.job.kind 0 ≡ b → eqb m.job.kind 2 ≡ c → ltb m.job.due m.job.last ≡ d
        → reference_of (tick_by m (work_of true m.job)).next ≡ tick_ref (reference_of m) (job_ref m.job)
    go true c d p q r = rw (p, p)
    go false true true p q r = rw (p, q, r, p, q)
    go false true false p q r = rw (p, q, r, last)
    go false false true p q r = rw (p, q, r, p, q)
    go false false false p q r = rw (p, q, r, last)

cut-ref : (m : Module) (cut : Cut) → reference_of (calls.after_cut m cut) ≡ cut_ref (reference_of m) cut
unfolding cut_ref
cut-ref m cut = go cut (eqb m.job.kind 0) (eqb m.job.kind 2) refl refl
  where
    go : (k : Cut) (b c : Bool) → eqb m.job.kind 0 ≡ b → eqb m.job.kind 2 ≡ c
        → reference_of (calls.after_cut m k) ≡ cut_ref (reference_of m) k
    go k true c p q = rw p
    go Clean false true p q = rw (p, q)
    go (Torn byte) false true p q = rw (p, q)
    go k false false p q = rw (p, q)

-- a command's job
command_ref : Command → Job
command_ref command.LoadAll = load 0 255
command_ref (command.LoadByte offset) = load offset offset
command_ref command.BurnCustomer = burn 119 166
command_ref (command.BurnByte offset) = burn offset offset
command_ref command.Failed = none

command-job : (c : Command) → job_ref (job.command_job c) ≡ command_ref c
unfolding command_ref
command-job command.LoadAll = refl
command-job (command.LoadByte offset) = refl
command-job command.BurnCustomer = refl
command-job (command.BurnByte offset) = refl
command-job command.Failed = refl

command_word : (c : Command) (w : ℕ) → word_of (job.command_job c) w ≡ bit_or w (4 * command_status (command_ref c))
unfolding command_ref
command_word command.LoadAll w = refl
command_word (command.LoadByte offset) w = refl
command_word command.BurnCustomer w = refl
command_word (command.BurnByte offset) w = refl
command_word command.Failed w = refl

burn-in : (r : Region) (o : ℕ) → command_ref (burn_in r o) ≡ cond (is_customer r) (burn o o) none
unfolding command_ref
burn-in region.Basic o = refl
burn-in region.Checksum o = refl
burn-in region.Customer o = refl
burn-in region.Vendor o = refl

burn_ref : (o : ℕ) → command_ref (burn_in (region_of o) o) ≡ cond (customer_offset o) (burn o o) none
burn_ref o = burn-in (region_of o) o ∙ ap (λ (b : Bool). cond b (burn o o) none) (customer_is o)

command-ref : (v : ℕ) → command_ref (command_of v) ≡ command_job v
unfolding command_of command_job command_ref words.bit
command-ref v = go (eqb (v % 4) 3) (eqb (v % 4) 2) (bit 5 v)
  where
    o : ℕ
    o = v / 256

    go : (a b w : Bool)
        → command_ref (cond a (cond w command.BurnCustomer command.LoadAll) (cond b (cond w (burn_in (region_of o) o) (command.LoadByte o)) command.Failed))
        ≡ cond a (cond w (burn 119 166) (load 0 255)) (cond (not b) none (cond (not w) (load o o) (cond (customer_offset o) (burn o o) none)))
    go true b true = refl
    go true b false = refl
    go false true true = burn_ref o
    go false true false = refl
    go false false w = refl

pub new_job : (v : ℕ) → job_ref (job.command_job (command_of v)) ≡ command_job v
new_job v = command-job (command_of v) ∙ command-ref v

new_word : (v : ℕ) → word_of (job.command_job (command_of v)) (kept_bits v) ≡ with_status (command_status (command_job v)) v
new_word v = command_word (command_of v) (kept_bits v) ∙ ap (λ (j : Job). bit_or (kept_bits v) (4 * command_status j)) (command-ref v)

module _ (m : Module) where
  read-ref : JobSound m.job m.command → (a : ℕ) → reference_of (module_after m (action.Read (register_at a) false)) ≡ read_ref (reference_of m) a
  unfolding read_ref read_alarms
  read-ref h a =
      (λ i. after ((reads_at (located a)).job m.job i) ((reads_at (located a)).alarms m.alarms i).controls) ∙ go (eqb a 0x8000)
    where
      after : ModuleJob → Controls → Reference
      after j c = reference m.powered m.store m.copy m.bus.address (controls_ref c) (word_of j m.command) (job_ref j)

      go : (b : Bool)
          → after (cond b (idled m.job) m.job) m.alarms.controls
          ≡ cond b (with_word (idle_once_shown (word_of m.job m.command)) (job_ref m.job) (reference_of m)) (reference_of m)
      go true = ap (λ (w : ℕ). with_word w (job_ref m.job) (reference_of m)) (sym (shown-word m.command h.kept (eqb m.job.kind 0) h.ended))
      go false = refl

  reads_ref : JobSound m.job m.command → (a : ℕ) (increment : Bool)
      → reference_of (module_after m (action.Read (register_at a) increment))
      ≡ cond increment (with_address (incremented m.bus.address) (read_ref (reference_of m) a)) (read_ref (reference_of m) a)
  reads_ref h a true = ap (with_address (incremented m.bus.address)) (read-ref h a)
  reads_ref h a false = read-ref h a

to_ref : {m n : Module} {x : Said} {y : Reaction} → JobSound m.job m.command → Transition m n x y → reference_of n ≡ y.reference
unfolding commanded
to_ref h (unchanged p q) = ap reference_of p
to_ref {m} h powering = ap (λ (c : List ℕ). reference true m.store c 0 zero_controls 0x000b (load 0 255)) zeros_are
to_ref {m} h (cutting cut) = cut-ref m cut
to_ref {m} h (resetting on) = start_ref m on
to_ref {m} h ticking = tick-ref m h
to_ref h (lining l) = refl
to_ref h (sampling s) = refl
to_ref h (addressing a) = refl
to_ref {m} h (commanding v free) = λ i. with_word (new_word v i) (new_job v i) (reference_of m)
to_ref h (writing offset v at) = refl
to_ref {m} h (controlling i k mask law v) = ap (λ (c : List ℕ). with_controls c (reference_of m)) (law m.alarms.controls v)
to_ref {m} h (reading increment) = reads_ref m h m.bus.address increment

pub step-ref : (m : Module) → JobSound m.job m.command → (c : Call) → reference_of (step m c).next ≡ step_ref m.port (reference_of m) c
step-ref m h c = to_ref h (transition m h c)

-- ---- port and thresholds stay
pub record Fixed : Type 0 where
  pub port : ℕ
  pub thresholds : List ℕ

abbrev pub fixed_of : Module → Fixed
fixed_of m = record { port = m.port; thresholds = m.thresholds }

to_fixed : {m n : Module} {x : Said} {y : Reaction} → Transition m n x y → fixed_of n ≡ fixed_of m
to_fixed (unchanged p q) = ap fixed_of p
to_fixed powering = refl
to_fixed (cutting cut) = refl
to_fixed (resetting on) = refl
to_fixed ticking = refl
to_fixed (lining l) = refl
to_fixed (sampling s) = refl
to_fixed (addressing a) = refl
to_fixed (commanding v free) = refl
to_fixed (writing offset v at) = refl
to_fixed (controlling i k mask law v) = refl
to_fixed (reading increment) = refl

pub step_fixed : (m : Module) → JobSound m.job m.command → (c : Call) → fixed_of (step m c).next ≡ fixed_of m
step_fixed m h c = to_fixed (transition m h c)

-- ---- so it goes by its model
-- the model of a module that has seen these events
abbrev pub model_of : Module → List Event → Model
model_of m h = model m.port m.thresholds (reference_of m) h

pub step-model : (m : Module) → JobSound m.job m.command → (h : List Event) (c : Call)
    → model_of (step m c).next (step_event m.port (reference_of m) c ∷ h) ≡ step_model (model_of m h) c
step-model m s h c =
    ap₂ (λ (f : Fixed) (r : Reference). model f.port f.thresholds r (step_event m.port (reference_of m) c ∷ h)) (step_fixed m s c) (step-ref m s c)

-- ---- it says what the model says
tick-said : (m : Module) → said_tick (tick_answer m.store m.copy (work_of true m.job)) ≡ tick_said (reference_of m) (job_ref m.job)
tick-said m = go (eqb m.job.kind 0) (eqb m.job.kind 2) refl refl
  where
    go : (b c : Bool) → eqb m.job.kind 0 ≡ b → eqb m.job.kind 2 ≡ c
        → said_tick (tick_answer m.store m.copy (work_of true m.job)) ≡ tick_said (reference_of m) (job_ref m.job)
    go true c p q = rw p
    go false true p q = rw (p, q)
    go false false p q = rw (p, q)

to_said : {m n : Module} {x : Said} {y : Reaction} → Transition m n x y → x ≡ y.said
to_said (unchanged p q) = q
to_said powering = refl
to_said (cutting cut) = refl
to_said (resetting on) = refl
to_said {m} ticking = tick-said m
to_said (lining l) = refl
to_said (sampling s) = refl
to_said (addressing a) = refl
to_said (commanding v free) = refl
to_said (writing offset v at) = refl
to_said (controlling i k mask law v) = refl
to_said (reading increment) = refl

-- by what a read at the address register gives
pub step-said : (m : Module) → JobSound m.job m.command → (c : Call)
    → said (step m c).answer ≡ step_said m.port (reference_of m) (value_read m) c
step-said m h c = to_said (transition m h c)

-- A refused call, and a frame that is silent or dropped, leaves the record, for every record and call.
-- Assumes nothing.
use Prim.Native.Nat.{ℕ}
use native.Mathlib.Omega.{arith}
use mathlib.Core.Bool.{Bool, true, false}
use mathlib.Core.Logic.{◌≢◌}
use mathlib.Core.Path.{◌≡◌, refl, ap}
use Rattle.std.specs.Prelude.{Ok, Err}
use Rattle.action.specs.Action.{action_of}
use Rattle.action.specs.declared.Action.{Action}
use Rattle.action.specs.declared.Action.TheVariants as action
use Rattle.jobs.specs.Job.{is_busy}
use Rattle.work.specs.Work.{work_of}
use Rattle.work.specs.declared.Work.{Work}
use Rattle.work.specs.declared.Work.TheVariants as work
use Rattle.dom.specs.Codes.{acceptable}
use Rattle.calls.specs.Calls.{said, step}
use Rattle.xenpak.specs.Frame.{frame, module_after}
use Rattle.answers.specs.Answers.{Answer, power_on_answer, call_answer, frame_answer}
use Rattle.store.specs.Bytes.{tick_answer}
use Rattle.xenpak.specs.Calls as calls
use Rattle.xenpak.specs.Calls.{kept, tick_by}
use Rattle.answers.specs.declared.FrameAnswer.TheVariants as frame-answer
use Rattle.answers.specs.declared.TickAnswer.TheVariants as tick-answer
use Rattle.calls.specs.declared.CallAnswer.{CallAnswer}
use Rattle.calls.specs.declared.CallAnswer.TheVariants.{Plain, Frame, Tick}
use Rattle.calls.specs.declared.Call.{Call}
use Rattle.calls.specs.declared.Call.TheVariants as call
use Rattle.xenpak.specs.declared.Module.{Module}
use Rattle.guarantees.specs.Guarantees.{RefusedUnchanged, SilentUnchanged, DroppedUnchanged}

-- the answers that leave the record
abbrev leaves : CallAnswer → Bool
leaves (Plain (Ok u)) = false
leaves (Plain (Err why)) = true
leaves (Frame (Ok frame-answer.Silent)) = true
leaves (Frame (Ok frame-answer.Set)) = false
leaves (Frame (Ok frame-answer.Written)) = false
leaves (Frame (Ok frame-answer.Dropped)) = true
leaves (Frame (Ok (frame-answer.Data value))) = false
leaves (Frame (Err why)) = true
leaves (Tick tick-answer.Nothing) = false
leaves (Tick (tick-answer.Loaded offset byte)) = false
leaves (Tick (tick-answer.Burned offset byte)) = false
leaves (Tick (tick-answer.Refused why)) = true

not_so : {A : Type 0} → false ≡ true → A
not_so e = absurd (let z : ◌≡◌ {A = ℕ} 0 1 = cc in omega arith)

by_frame : (m : Module) (a : Action) (value : ℕ) → leaves (Frame (frame_answer a value)) ≡ true → module_after m a ≡ m
by_frame m action.Refused value e = refl
by_frame m action.Silent value e = refl
by_frame m (action.SetAddress a) value e = not_so e
by_frame m action.Dropped value e = refl
by_frame m action.Reset value e = not_so e
by_frame m (action.Command word) value e = not_so e
by_frame m (action.Customer offset byte) value e = not_so e
by_frame m (action.Control i word) value e = not_so e
by_frame m (action.Read r increment) value e = not_so e

by_tick : (m : Module) (w : Work) → leaves (Tick (tick_answer m.store m.copy w)) ≡ true → (tick_by m w).next ≡ m
by_tick m work.Refused e = refl
by_tick m work.Nothing e = not_so e
by_tick m (work.Load offset) e = not_so e
by_tick m (work.Burn offset) e = not_so e

by_answer : (m n : Module) (a : Answer (Unit {0})) → leaves (Plain a) ≡ true → kept a m n ≡ m
by_answer m n (Ok u) e = not_so e
by_answer m n (Err why) e = refl

unchanged : (m : Module) (c : Call) → leaves (step m c).answer ≡ true → (step m c).next ≡ m
unfolding step calls.power_on calls.power_cut calls.reset_pin calls.tick calls.lines calls.sample frame
unchanged m call.PowerOn e = by_answer m _ (power_on_answer m.powered) e
unchanged m (call.Cut cut) e = by_answer m _ (call_answer m.powered true) e
unchanged m call.ResetPin e = by_answer m _ (call_answer m.powered true) e
unchanged m (call.Frame word) e = by_frame m (action_of m.powered m.port m.bus.address (is_busy m.job) word) _ e
unchanged m call.Tick e = by_tick m (work_of m.powered m.job) e
unchanged m (call.Lines l) e = by_answer m _ (call_answer m.powered true) e
unchanged m (call.Sample s) e = by_answer m _ (call_answer m.powered (acceptable s.temperature)) e

refused_leaves : (a : CallAnswer) → (said a).refusal ≢ 0 → leaves a ≡ true
refused_leaves (Plain (Ok u)) f = absurd (f refl)
refused_leaves (Plain (Err why)) f = refl
refused_leaves (Frame (Ok frame-answer.Silent)) f = refl
refused_leaves (Frame (Ok frame-answer.Set)) f = absurd (f refl)
refused_leaves (Frame (Ok frame-answer.Written)) f = absurd (f refl)
refused_leaves (Frame (Ok frame-answer.Dropped)) f = refl
refused_leaves (Frame (Ok (frame-answer.Data value))) f = absurd (f refl)
refused_leaves (Frame (Err why)) f = refl
refused_leaves (Tick tick-answer.Nothing) f = absurd (f refl)
refused_leaves (Tick (tick-answer.Loaded offset byte)) f = absurd (f refl)
refused_leaves (Tick (tick-answer.Burned offset byte)) f = absurd (f refl)
refused_leaves (Tick (tick-answer.Refused why)) f = refl

pub refused_unchanged : RefusedUnchanged
refused_unchanged m c f = unchanged m c (refused_leaves (step m c).answer f)

pub silent_unchanged : SilentUnchanged
silent_unchanged m c e = unchanged m c (ap leaves e)

pub dropped_unchanged : DroppedUnchanged
dropped_unchanged m c e = unchanged m c (ap leaves e)

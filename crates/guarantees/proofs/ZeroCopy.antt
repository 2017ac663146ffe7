-- The copy begins as 256 zeros: after power-on, the reset pin and a reset by a frame there is a byte at each offset, and it
-- is 0.
-- Assumes nothing.
use Prim.Native.Nat.{ℕ}
use native.Mathlib.Omega.{arith}
use mathlib.Core.Bool.{Bool, true, false, cond}
use mathlib.Core.Path.{◌≡◌, sym, subst}
use Rattle.std.specs.Prelude.{Ok}
use Rattle.words.specs.Words.{bit}
use Rattle.mdio.specs.Frame.{request_of}
use Rattle.mdio.specs.declared.Request.{Request}
use Rattle.mdio.specs.declared.Request.TheVariants as request
use Rattle.registers.specs.Map.{rows, register_at}
use Rattle.action.specs.Action.{request_action, action_of}
use Rattle.action.specs.declared.Action.{Action}
use Rattle.action.specs.declared.Action.TheVariants as action
use Rattle.jobs.specs.Job.{is_busy}
use Rattle.store.specs.Bytes.{written_copy}
use Rattle.store.proofs.Zeros.{zeros_at}
use Rattle.alarms.specs.Alarms.{no_alarms, restarted}
use Rattle.alarms.specs.declared.Alarms.{Alarms}
use Rattle.answers.specs.Answers.{Answer, power_on_answer, call_answer, frame_answer}
use Rattle.answers.specs.declared.FrameAnswer.TheVariants.{Written}
use Rattle.values.specs.Values.{register_of}
use Rattle.xenpak.specs.Frame.{value_at, frame}
use Rattle.xenpak.specs.Calls.{kept, started, power_on, reset_pin}
use Rattle.xenpak.specs.declared.Module.{Module}
use Rattle.guarantees.specs.Guarantees.{Zeros, ZeroCopy}

-- a start that is accepted
start_zeros : (m : Module) (powered : Bool) (x : Alarms) (a : Answer (Unit {0})) → a ≡ Ok tt → Zeros (kept a m (started powered x m)).copy
start_zeros m powered x a e = subst (λ (a : Answer (Unit {0})). Zeros (kept a m (started powered x m)).copy) (sym e) (zeros_at 256)

-- a frame at 0000 that is written
module _ (m : Module) where
  abbrev At0000 : Action → Type 0
  At0000 a = frame_answer a (value_at m (register_of a)) ≡ Ok Written → Zeros (written_copy m.copy a)

  reset-or_dropped : (b : Bool) → At0000 (cond b action.Reset action.Dropped)
  reset-or_dropped true e = zeros_at 256
  reset-or_dropped false e = absurd (let z : ◌≡◌ {A = ℕ} 0 1 = cc in omega arith)

  on_request : (q : Request) → At0000 (request_action q 0x0000 (is_busy m.job))
  unfolding register_at rows
  on_request request.Silent e = absurd (let z : ◌≡◌ {A = ℕ} 0 1 = cc in omega arith)
  on_request (request.SetAddress a) e = absurd (let z : ◌≡◌ {A = ℕ} 0 1 = cc in omega arith)
  on_request (request.Write v) e = reset-or_dropped (bit 15 v) e
  on_request request.Read e = absurd (let z : ◌≡◌ {A = ℕ} 0 1 = cc in omega arith)
  on_request request.ReadIncrement e = absurd (let z : ◌≡◌ {A = ℕ} 0 1 = cc in omega arith)

  on_frame : (b : Bool) (q : Request) → At0000 (cond b (request_action q 0x0000 (is_busy m.job)) action.Refused)
  on_frame true q e = on_request q e
  on_frame false q e = absurd (let z : ◌≡◌ {A = ℕ} 0 1 = cc in omega arith)

pub zero-copy : (m : Module) → ZeroCopy m
unfolding power_on reset_pin frame action_of
zero-copy m =
    record {
      at_power_on = start_zeros m true no_alarms (power_on_answer m.powered);
      at_reset_pin = start_zeros m m.powered (restarted m.alarms) (call_answer m.powered true);
      at_reset_frame =
          λ word p.
          subst (λ (a : ℕ). At0000 m (cond m.powered (request_action (request_of word m.port) a (is_busy m.job)) action.Refused)) (sym p)
          (on_frame m m.powered (request_of word m.port));
    }

-- The burn log (document 01: the burn ledger): offset and byte each time a tick or a torn cut (document 01: struck) puts a
-- byte into the reference model's store, in order; and its application to an image.
-- Assumes nothing.
use Rattle.std.specs.Prelude.{ℕ, List, [], ◌∷◌, ◌++◌, get_or, set, if◌then◌else◌}
use Rattle.store.specs.declared.Cut.{Cut}
use Rattle.store.specs.declared.Cut.TheVariants.{Clean, Torn}
use Rattle.calls.specs.declared.Call.{Call}
use Rattle.calls.specs.declared.Call.TheVariants as call
use Rattle.guarantees.specs.Reference.{Job, none, load, burn, Reference, accepts, step_ref}

pub record Entry : Type 0 where
  pub offset : ℕ
  pub byte : ℕ

abbrev pub entry : ℕ → ℕ → List Entry
entry o b = record { offset = o; byte = b } ∷ []

-- a tick of a burn
abbrev pub tick_log : (copy : List ℕ) → Job → List Entry
tick_log copy none = []
tick_log copy (load due last) = []
tick_log copy (burn due last) = entry due (get_or copy due 0)

-- a cut torn while a burn is due
abbrev pub cut_log : Job → Cut → List Entry
cut_log none cut = []
cut_log (load due last) cut = []
cut_log (burn due last) Clean = []
cut_log (burn due last) (Torn byte) = entry due byte

-- the entries of an accepted call; a refused one has none
unfoldable pub call_log : Reference → Call → List Entry
call_log r call.PowerOn = []
call_log r (call.Cut cut) = cut_log r.job cut
call_log r call.ResetPin = []
call_log r (call.Frame word) = []
call_log r call.Tick = tick_log r.copy r.job
call_log r (call.Lines l) = []
call_log r (call.Sample s) = []

unfoldable pub step_log : Reference → Call → List Entry
step_log r c = if accepts r c then call_log r c else []

-- the entries of a list of calls
unfoldable pub burn_log : (port : ℕ) → Reference → List Call → List Entry
burn_log port r [] = []
burn_log port r (c ∷ cs) = step_log r c ++ burn_log port (step_ref port r c) cs

-- writes the entries into an image, in order
unfoldable pub applied : List Entry → (image : List ℕ) → List ℕ
applied [] image = image
applied (e ∷ es) image = applied es (set image e.offset e.byte)

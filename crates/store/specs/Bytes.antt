-- Store and copy: what a tick, a cut, a frame and a start do to them. Document 01, "Load, burn, cut".
-- Assumes nothing.
use Rattle.std.specs.Prelude.{ℕ, List, ◌≡◌, get_or, set, replicate}
use Rattle.action.specs.declared.Action.{Action}
use Rattle.action.specs.declared.Action.TheVariants as action
use Rattle.work.specs.declared.Work.{Work}
use Rattle.work.specs.declared.Work.TheVariants.{Refused, Nothing, Load, Burn}
use Rattle.answers.specs.declared.Refusal.TheVariants.{PoweredOff}
use Rattle.answers.specs.declared.TickAnswer.{TickAnswer}
use Rattle.answers.specs.declared.TickAnswer.TheVariants as tick
use Rattle.store.specs.declared.Cut.{Cut}
use Rattle.store.specs.declared.Cut.TheVariants.{Clean, Torn}

-- what a tick answers: the offset and the byte that it moves
abbrev pub tick_answer : List ℕ → List ℕ → Work → TickAnswer
tick_answer store copy Refused = tick.Refused PoweredOff
tick_answer store copy Nothing = tick.Nothing
tick_answer store copy (Load due) = tick.Loaded due (get_or store due 0)
tick_answer store copy (Burn due) = tick.Burned due (get_or copy due 0)

-- a load puts store into copy
abbrev pub loaded_copy : List ℕ → List ℕ → Work → List ℕ
loaded_copy store copy Refused = copy
loaded_copy store copy Nothing = copy
loaded_copy store copy (Load due) = set copy due (get_or store due 0)
loaded_copy store copy (Burn due) = copy

-- a burn puts copy into store
abbrev pub burned_store : List ℕ → List ℕ → Work → List ℕ
burned_store store copy Refused = store
burned_store store copy Nothing = store
burned_store store copy (Load due) = store
burned_store store copy (Burn due) = set store due (get_or copy due 0)

-- a tick's answer, store and copy
pub record Moved (s c : List ℕ) (work : Work) (a : TickAnswer) (s' c' : List ℕ) : Type 0 where
  pub answer : a ≡ tick_answer s c work
  pub store : s' ≡ burned_store s c work
  pub copy : c' ≡ loaded_copy s c work

abbrev pub torn_at : List ℕ → ℕ → Cut → List ℕ
torn_at store due Clean = store
torn_at store due (Torn byte) = set store due byte

-- torn (document 01: struck) while a burn is due, the cut's byte goes to the offset due; otherwise it harms nothing
abbrev pub torn_store : List ℕ → Work → Cut → List ℕ
torn_store store Refused cut = store
torn_store store Nothing cut = store
torn_store store (Load due) cut = store
torn_store store (Burn due) cut = torn_at store due cut

-- n zeros
unfoldable pub zeros : ℕ → List ℕ
zeros n = replicate n 0

-- the copy after a frame: 256 zeros after a reset; a customer register takes its byte
abbrev pub written_copy : List ℕ → Action → List ℕ
written_copy copy action.Refused = copy
written_copy copy action.Silent = copy
written_copy copy (action.SetAddress a) = copy
written_copy copy action.Dropped = copy
written_copy copy action.Reset = zeros 256
written_copy copy (action.Command word) = copy
written_copy copy (action.Customer offset byte) = set copy offset byte
written_copy copy (action.Control i word) = copy
written_copy copy (action.Read r increment) = copy

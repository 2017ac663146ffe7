-- How many customer bytes of the store differ from the copy, and from zero: counted, and kept when a byte of store or copy
-- changes. Document 02, P3.
-- Assumes nothing.
use Rattle.std.specs.Prelude.{ℕ, zero, suc, ◌+◌, ◌-◌, ◌%◌, Bool, true, cond, not, List, ◌≡◌, eqb, length, get_or}
use Rattle.action.specs.declared.Action.{Action}
use Rattle.action.specs.declared.Action.TheVariants as action
use Rattle.nvr.specs.Image.{region_of, is_customer}
use Rattle.work.specs.declared.Work.{Work}
use Rattle.work.specs.declared.Work.TheVariants.{Refused, Nothing, Load, Burn}
use Rattle.store.specs.Bytes.{loaded_copy, burned_store, torn_store, written_copy, zeros}
use Rattle.store.specs.declared.Cut.{Cut}
use Rattle.store.specs.declared.Cut.TheVariants.{Clean, Torn}
use Rattle.differing.specs.declared.Differing.{Differing}

abbrev pub differing : ℕ → ℕ → Differing
differing c z = record { copy = c; zero = z }

abbrev pub differ : ℕ → ℕ → Bool
differ a b = not (eqb a b)

-- 1 where it is so
abbrev pub one : Bool → ℕ
one b = cond b 1 0

-- ---- counted
-- how many numbers below n are so
abbrev pub how_many : ℕ → (ℕ → Bool) → ℕ
how_many zero p = 0
how_many (suc n) p = how_many n p + one (p n)

-- whether the bytes at an offset differ
abbrev pub differ_at : List ℕ → List ℕ → (offset : ℕ) → Bool
differ_at a b o = differ (get_or a o 0) (get_or b o 0)

-- how many of the 48 customer bytes, from offset 119 on, differ: of copy and store the full count (document 02)
unfoldable pub differences : List ℕ → List ℕ → ℕ
differences a b = how_many 48 (λ i. differ_at a b (119 + i))

-- of the store: from the copy, from zero
abbrev pub counts_of : (store copy : List ℕ) → Differing
counts_of store copy = differing (differences store copy) (differences store (zeros 256))

-- ---- kept
-- a count, in eight bits, when one customer byte changes: one less if it differed, one more if it differs now
abbrev pub recount : ℕ → (was is : Bool) → ℕ
recount n was is = (n + 256 + one is - one was) % 256

-- the copy gets a byte at an offset
abbrev pub copied : Differing → (store copy : List ℕ) → (offset byte : ℕ) → Differing
copied d store copy o b = differing (recount d.copy (differ_at store copy o) (differ (get_or store o 0) b)) d.zero

-- the store gets it
abbrev pub stored : Differing → (store copy : List ℕ) → (offset byte : ℕ) → Differing
stored d store copy o b =
    differing (recount d.copy (differ_at store copy o) (differ b (get_or copy o 0)))
    (recount d.zero (differ (get_or store o 0) 0) (differ b 0))

-- a load puts store into copy: of all offsets, of which only a customer byte counts
abbrev pub loaded : Differing → (store copy : List ℕ) → (due : ℕ) → Differing
loaded d store copy due = cond (is_customer (region_of due)) (copied d store copy due (get_or store due 0)) d

-- a start zeroes the copy: as many bytes of the store differ from it then as from zero
abbrev pub differing_started : Differing → Differing
differing_started d = differing d.zero d.zero

-- after a tick: a load, or a burn, which puts copy into store
abbrev pub differing_ticked : Differing → List ℕ → List ℕ → Work → Differing
differing_ticked d store copy Refused = d
differing_ticked d store copy Nothing = d
differing_ticked d store copy (Load due) = loaded d store copy due
differing_ticked d store copy (Burn due) = stored d store copy due (get_or copy due 0)

abbrev pub differing_torn : Differing → List ℕ → List ℕ → ℕ → Cut → Differing
differing_torn d store copy due Clean = d
differing_torn d store copy due (Torn byte) = stored d store copy due byte

-- after a cut: torn (document 01: struck) while a burn is due, its byte goes into the store there
abbrev pub differing_cut : Differing → List ℕ → List ℕ → Work → Cut → Differing
differing_cut d store copy Refused cut = d
differing_cut d store copy Nothing cut = d
differing_cut d store copy (Load due) cut = d
differing_cut d store copy (Burn due) cut = differing_torn d store copy due cut

-- after a frame: a reset is a start, and a customer register takes its byte
abbrev pub differing_after : Differing → List ℕ → List ℕ → Action → Differing
differing_after d store copy action.Refused = d
differing_after d store copy action.Silent = d
differing_after d store copy (action.SetAddress a) = d
differing_after d store copy action.Dropped = d
differing_after d store copy action.Reset = differing_started d
differing_after d store copy (action.Command word) = d
differing_after d store copy (action.Customer offset byte) = copied d store copy offset byte
differing_after d store copy (action.Control i word) = d
differing_after d store copy (action.Read r increment) = d

-- ---- so what is kept is what is counted
-- only customer bytes are burned
abbrev pub BurnsCustomer : Work → Type 0
BurnsCustomer Refused = Unit {0}
BurnsCustomer Nothing = Unit {0}
BurnsCustomer (Load due) = Unit {0}
BurnsCustomer (Burn due) = is_customer (region_of due) ≡ true

-- and only customer registers take a byte
abbrev pub WritesCustomer : Action → Type 0
WritesCustomer action.Refused = Unit {0}
WritesCustomer action.Silent = Unit {0}
WritesCustomer (action.SetAddress a) = Unit {0}
WritesCustomer action.Dropped = Unit {0}
WritesCustomer action.Reset = Unit {0}
WritesCustomer (action.Command word) = Unit {0}
WritesCustomer (action.Customer offset byte) = is_customer (region_of offset) ≡ true
WritesCustomer (action.Control i word) = Unit {0}
WritesCustomer (action.Read r increment) = Unit {0}

-- of a store and a copy of 256 bytes, what the counts become is what is counted in the bytes after it
pub record Kept (store copy : List ℕ) : Type 0 where
  pub starts : differing_started (counts_of store copy) ≡ counts_of store (zeros 256)
  pub ticks : (work : Work) → BurnsCustomer work
      → differing_ticked (counts_of store copy) store copy work ≡ counts_of (burned_store store copy work) (loaded_copy store copy work)
  pub cuts : (work : Work) (cut : Cut) → BurnsCustomer work
      → differing_cut (counts_of store copy) store copy work cut ≡ counts_of (torn_store store work cut) copy
  pub frames : (a : Action) → WritesCustomer a
      → differing_after (counts_of store copy) store copy a ≡ counts_of store (written_copy copy a)

abbrev pub CountsKept : Type 0
CountsKept = (store copy : List ℕ) → length store ≡ 256 → length copy ≡ 256 → Kept store copy

-- What a bench recording records, from document 02's list of kinds (P1): a second telling, byte by byte, beside that of
-- `recording`. Of the code it takes the types of the calls.
-- Assumes nothing.
use Rattle.std.specs.Prelude.{ℕ, ◌+◌, ◌*◌, ◌/◌, ◌%◌, ◌^◌, ◌<◌, Bool, false, cond, ◌≡◌, ℤ, pos, negsuc}
use mathlib.Core.List.{List, [], ◌∷◌, ◌++◌, flat_map}
use Rattle.store.specs.declared.Cut.TheVariants.{Clean, Torn}
use Rattle.calls.specs.declared.Call.{Call}
use Rattle.calls.specs.declared.Call.TheVariants.{PowerOn, Cut, ResetPin, Frame, Tick, Lines, Sample}
use Rattle.guarantees.specs.Reference.{bit, signed, within}
use Rattle.guarantees.specs.Behaviour.{bits_of}

-- ---- one record: one byte of kind, then a body
-- numbers come high byte first
abbrev pub extended : ℕ → List ℕ → ℕ
extended n [] = n
extended n (b ∷ bs) = extended (n * 256 + b) bs

abbrev pub number : List ℕ → ℕ
number bytes = extended 0 bytes

-- the bytes of a record, and its call
pub data Record : List ℕ → Call → Type 0 where
  power_on : Record (0x01 ∷ []) PowerOn
  clean_cut : Record (0x02 ∷ []) (Cut Clean)
  -- document 02: struck cut
  torn_cut : (b : ℕ) → Record (0x03 ∷ b ∷ []) (Cut (Torn b))
  reset : Record (0x04 ∷ []) ResetPin
  frame : (a b c d : ℕ) → Record (0x05 ∷ a ∷ b ∷ c ∷ d ∷ []) (Frame (number (a ∷ b ∷ c ∷ d ∷ [])))
  tick : Record (0x06 ∷ []) Tick
  sample : (a b c d e f g h : ℕ)
      → Record (0x07 ∷ a ∷ b ∷ c ∷ d ∷ e ∷ f ∷ g ∷ h ∷ [])
      (Sample
      (record {
        temperature = signed (number (a ∷ b ∷ []));
        bias = number (c ∷ d ∷ []);
        transmit = number (e ∷ f ∷ []);
        receive = number (g ∷ h ∷ []);
      }))
  -- receive, transmit, then link levels in bits 2 to 0, the higher bits ignored
  lines : (a b c d e : ℕ)
      → Record (0x08 ∷ a ∷ b ∷ c ∷ d ∷ e ∷ [])
      (Lines
      (record {
        receive = number (a ∷ b ∷ []);
        transmit = number (c ∷ d ∷ []);
        signal = bit 2 e;
        block = bit 1 e;
        lanes = bit 0 e;
      }))

-- ---- a recording
-- whole records, the calls that they record, and the bytes behind them
pub data Records : List ℕ → List Call → List ℕ → Type 0 where
  none : (rest : List ℕ) → Records rest [] rest
  one_more : {first bytes rest : List ℕ} {c : Call} {cs : List Call} → Record first c → Records bytes cs rest
      → Records (first ++ bytes) (c ∷ cs) rest

-- how it ends: with its last record, with an unknown kind, or in the body of a kind
pub data Ending : Type 0 where
  complete : Ending
  unknown short : (kind : ℕ) → Ending

-- the bytes behind the last whole record: none; a kind that is none of 01 to 08; some of a record's, but not all
pub data Ends : List ℕ → Ending → Type 0 where
  at_end : Ends [] complete
  at_unknown : (kind : ℕ) (bytes : List ℕ) → within 0x01 0x08 kind ≡ false → Ends (kind ∷ bytes) (unknown kind)
  in_body : (kind : ℕ) (bytes : List ℕ) (missing : ℕ) (more : List ℕ) {c : Call}
      → Record (kind ∷ (bytes ++ missing ∷ more)) c → Ends (kind ∷ bytes) (short kind)

-- the bytes record these calls, and end so
pub record Recording (bytes : List ℕ) (calls : List Call) (ending : Ending) : Type 0 where
  pub rest : List ℕ
  pub records : Records bytes calls rest
  pub ends : Ends rest ending

-- ---- recording calls
-- a number in two bytes, high byte first
abbrev pub word : ℕ → List ℕ
word n = n / 256 ∷ n % 256 ∷ []

-- three link levels in bits 2 to 0
abbrev pub level_bits : (signal block lanes : Bool) → ℕ
level_bits s b l = cond s 4 0 + cond b 2 0 + cond l 1 0

abbrev pub encode : Call → List ℕ
encode PowerOn = 0x01 ∷ []
encode (Cut Clean) = 0x02 ∷ []
encode (Cut (Torn b)) = 0x03 ∷ b ∷ []
encode ResetPin = 0x04 ∷ []
encode (Frame w) = 0x05 ∷ word (w / 2 ^ 16) ++ word (w % 2 ^ 16)
encode Tick = 0x06 ∷ []
encode (Sample s) = 0x07 ∷ word (bits_of s.temperature) ++ word s.bias ++ word s.transmit ++ word s.receive
encode (Lines l) =
    0x08 ∷ word l.receive ++ word l.transmit
    ++ level_bits l.signal l.block l.lanes ∷ []

-- the calls of a list, one behind the other
abbrev pub encoded : List Call → List ℕ
encoded cs = flat_map encode cs

-- the arguments are as wide as document 01 has them
abbrev pub Signed16 : ℤ → Type 0
Signed16 (pos n) = n < 2 ^ 15
Signed16 (negsuc n) = n < 2 ^ 15

abbrev pub Fits : Call → Type 0
Fits PowerOn = Unit
Fits (Cut Clean) = Unit
Fits (Cut (Torn b)) = b < 2 ^ 8
Fits ResetPin = Unit
Fits (Frame w) = w < 2 ^ 32
Fits Tick = Unit
Fits (Sample s) = Signed16 s.temperature × (s.bias < 2 ^ 16) × (s.transmit < 2 ^ 16) × (s.receive < 2 ^ 16)
Fits (Lines l) = (l.receive < 2 ^ 16) × (l.transmit < 2 ^ 16)

-- a byte of a recording
abbrev pub Byte : ℕ → Type 0
Byte b = b < 2 ^ 8

-- of each of a list
abbrev pub All : {A : Type 0} → (A → Type 0) → List A → Type 0
All P [] = Unit
All P (x ∷ xs) = P x × All P xs

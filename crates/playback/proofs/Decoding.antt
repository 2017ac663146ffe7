-- What the decoder finds where a record begins, and where a recording ends.
-- Assumes nothing.
use Prim.Native.Nat.{ℕ, suc, ◌+◌, ◌*◌, ◌-◌, ◌≤◌}
use native.Mathlib.Omega.{arith}
use mathlib.Core.Bool.{true, false, cond, not}
use mathlib.Core.List.{List, [], ◌∷◌, ◌++◌}
use mathlib.Core.Path.{◌≡◌, refl, sym, ap, ◌∙◌}
use lib.Dec.{ltb}
use lib.ListN.{length, get_or, drop, length-append, length-drop}
use lib.Seq.{get_or-drop, drop-drop}
use borrow.Author.Tests.{le-leb, lt-leb, lt-ltb, le-ltb}
use Rattle.std.specs.Prelude.{Option, Some, None, Ok, Err}
use Rattle.words.specs.Words.{bit}
use Rattle.calls.specs.declared.Call.{Call}
use Rattle.recording.specs.Recording.{known, body_length, call_of, body_at, item_at}
use Rattle.recording.specs.declared.Flaw.TheVariants.{UnknownKind, CutShort}
use Rattle.recording.specs.declared.Item.{Item}
use Rattle.playback.specs.Format.{number, Record, power_on, clean_cut, torn_cut, reset, frame, tick, sample, lines, Ending, complete, unknown, short, Ends, at_end, at_unknown, in_body}
use Rattle.playback.specs.Playback.{kind_of}

-- ---- what an item may be
-- a record, and the position after it; a kind that is none of these; a body cut short
abbrev pub item_call : (kind : ℕ) → Call → (next : ℕ) → Option Item
item_call kind c next = Some (record { kind = kind; body = Ok (record { call = c; next = next }) })

abbrev pub item_unknown : (kind : ℕ) → Option Item
item_unknown kind = Some (record { kind = kind; body = Err UnknownKind })

abbrev pub item_short : (kind : ℕ) → Option Item
item_short kind = Some (record { kind = kind; body = Err CutShort })

-- ---- by the bytes from a position on
abbrev pub item_of : ℕ → ℕ → List ℕ → Option Item
item_of at kind body =
    Some
    (record {
      kind = kind;
      body = cond (not (known kind)) (Err UnknownKind)
          (cond (ltb (length body) (body_length kind)) (Err CutShort)
          (Ok (record { call = call_of kind body; next = at + 1 + body_length kind })));
    })

module _ (bytes : List ℕ) (at : ℕ) where
  pub no_item : drop at bytes ≡ [] → item_at bytes at ≡ None
  unfolding item_at
  no_item e = rw (le-leb (length bytes) at (omega (arith, ap length e, length-drop at bytes)))

  pub some_item : (kind : ℕ) (body : List ℕ) → drop at bytes ≡ kind ∷ body → item_at bytes at ≡ item_of at kind body
  unfolding item_at body_at
  some_item kind body e =
      let left : length bytes - at ≡ suc (length body) = sym (length-drop at bytes) ∙ ap length e in
      let here : get_or bytes at 0 ≡ kind = ap (λ (n : ℕ). get_or bytes n 0) (omega arith) ∙ sym (get_or-drop at bytes 0 0) ∙ ap (λ (l : List ℕ). get_or l 0 0) e in
      let rest : drop (at + 1) bytes ≡ body = sym (drop-drop 1 at bytes) ∙ ap (drop 1) e in
      let size : length bytes - (at + 1) ≡ length body = omega arith in
      rw (lt-leb (length bytes) at (omega arith), here, rest, size)

-- ---- a record
-- a known kind with its whole body
whole_item : (bytes : List ℕ) (at kind : ℕ) (body : List ℕ) {c : Call} {next : ℕ} → known kind ≡ true
    → body_length kind ≤ length body → call_of kind body ≡ c → at + 1 + body_length kind ≡ next → drop at bytes ≡ kind ∷ body
    → item_at bytes at ≡ item_call kind c next
whole_item bytes at kind body k h e n d =
    some_item bytes at kind body d ∙ rw (k, le-ltb (length body) (body_length kind) h, e, n)

two : (a b : ℕ) → a * 256 + b ≡ number (a ∷ b ∷ [])
two a b = omega arith

four : (a b c d : ℕ) → (a * 256 + b) * 0x10000 + (c * 256 + d) ≡ number (a ∷ b ∷ c ∷ d ∷ [])
four a b c d = omega arith

pub record_item : {r : List ℕ} {c : Call} → Record r c → (bytes : List ℕ) (at : ℕ) (rest : List ℕ) → drop at bytes ≡ r ++ rest
    → item_at bytes at ≡ item_call (kind_of c) c (at + length r)
unfolding call_of bit
record_item power_on bytes at rest d = whole_item bytes at 0x01 rest refl (omega arith) refl (omega arith) d
record_item clean_cut bytes at rest d = whole_item bytes at 0x02 rest refl (omega arith) refl (omega arith) d
record_item (torn_cut a) bytes at rest d = whole_item bytes at 0x03 (a ∷ rest) refl (omega arith) refl (omega arith) d
record_item reset bytes at rest d = whole_item bytes at 0x04 rest refl (omega arith) refl (omega arith) d
record_item (frame a b c d) bytes at rest p =
    whole_item bytes at 0x05 (a ∷ b ∷ c ∷ d ∷ rest) refl (omega arith) (rw (four a b c d)) (omega arith) p
record_item tick bytes at rest d = whole_item bytes at 0x06 rest refl (omega arith) refl (omega arith) d
record_item (sample a b c d e f g h) bytes at rest p =
    whole_item bytes at 0x07 (a ∷ b ∷ c ∷ d ∷ e ∷ f ∷ g ∷ h ∷ rest) refl (omega arith)
    (rw (two a b, two c d, two e f, two g h)) (omega arith) p
record_item (lines a b c d e) bytes at rest p =
    whole_item bytes at 0x08 (a ∷ b ∷ c ∷ d ∷ e ∷ rest) refl (omega arith) (rw (two a b, two c d)) (omega arith) p

-- ---- an end
-- what it is to the decoder
abbrev pub end_item : Ending → Option Item
end_item complete = None
end_item (unknown kind) = item_unknown kind
end_item (short kind) = item_short kind

-- a record is as long as its kind says
shape : {r : List ℕ} {c : Call} → Record r c → (known (get_or r 0 0) ≡ true) × (length r ≡ 1 + body_length (get_or r 0 0))
shape power_on = (refl, refl)
shape clean_cut = (refl, refl)
shape (torn_cut a) = (refl, refl)
shape reset = (refl, refl)
shape (frame a b c d) = (refl, refl)
shape tick = (refl, refl)
shape (sample a b c d e f g h) = (refl, refl)
shape (lines a b c d e) = (refl, refl)

pub end-item : {rest : List ℕ} {e : Ending} → Ends rest e → (bytes : List ℕ) (at : ℕ) → drop at bytes ≡ rest
    → item_at bytes at ≡ end_item e
end-item at_end bytes at d = no_item bytes at d
end-item (at_unknown kind body u) bytes at d = let k : known kind ≡ false = u in some_item bytes at kind body d ∙ rw k
end-item (in_body kind body missing more r) bytes at d =
    let s = shape r in
    some_item bytes at kind body d
    ∙ rw (s.0, lt-ltb (length body) (body_length kind) (omega (arith, s.1, length-append body (missing ∷ more))))

-- Every list of bytes is a recording in one way only; every list of calls has a recording of its own.
-- Assumes nothing.
use Prim.Native.Nat.{ℕ, zero, suc, ◌+◌, ◌-◌, ◌^◌, ◌≤◌, ◌<◌}
use native.Mathlib.Omega.{arith}
use mathlib.Core.Bool.{Bool, true, false, cond}
use mathlib.Core.List.{List, [], ◌∷◌, ◌++◌, flat_map}
use mathlib.Core.Path.{◌≡◌, refl, sym, ap, ap₂, ◌∙◌, subst}
use lib.Dec.{ltb}
use lib.IntN.{ℤ, pos, negsuc}
use lib.ListN.{length, get_or, take, drop, replicate, length-append, length-drop, length-replicate, take-append-drop}
use lib.Seq.{drop-append_seam, length-take-le}
use borrow.Author.Tests.{lt-ltb, le-ltb, ltb-true, ltb-false}
use Rattle.std.specs.Prelude.{Option, Some, None, Result, Ok, Err}
use Rattle.store.specs.declared.Cut.TheVariants.{Clean, Torn}
use Rattle.calls.specs.declared.Call.{Call}
use Rattle.calls.specs.declared.Call.TheVariants.{PowerOn, Cut, ResetPin, Frame, Tick, Lines, Sample}
use Rattle.guarantees.specs.Reference.{bit, signed}
use Rattle.guarantees.specs.Behaviour.{bits_of}
use Rattle.recording.specs.Recording.{known, body_length, item_at}
use Rattle.recording.proofs.KnownKinds.{bounds}
use Rattle.recording.specs.declared.Body.{Body}
use Rattle.recording.specs.declared.Flaw.{Flaw}
use Rattle.recording.specs.declared.Flaw.TheVariants.{UnknownKind, CutShort}
use Rattle.recording.specs.declared.Item.{Item}
use Rattle.playback.specs.Format.{Record, power_on, clean_cut, torn_cut, reset, frame, tick, sample, lines, Records, none, one_more, Ending, complete, unknown, short, Ends, at_end, at_unknown, in_body, Recording, number, word, level_bits, encode, encoded, Signed16, Fits, Byte, All}
use Rattle.playback.specs.Playback.{kind_of, EveryRecording, EveryCall}
use Rattle.playback.proofs.Decoding.{item_call, record_item, end_item, end-item}

-- ---- in one way only
-- an ending is told by what it is to the decoder, which is no call
abbrev ending_by : (kind : ℕ) → Result Body Flaw → Ending
ending_by kind (Ok b) = complete
ending_by kind (Err UnknownKind) = unknown kind
ending_by kind (Err CutShort) = short kind

abbrev ending_of : Option Item → Ending
ending_of None = complete
ending_of (Some i) = ending_by i.kind i.body

-- the call of an item, and one more than the position after it, 0 where it has none
abbrev call_by : Result Body Flaw → List Call
call_by (Ok b) = b.call ∷ []
call_by (Err flaw) = []

abbrev next_by : Result Body Flaw → ℕ
next_by (Ok b) = b.next + 1
next_by (Err flaw) = 0

abbrev calls_of : Option Item → List Call
calls_of None = []
calls_of (Some i) = call_by i.body

abbrev next_of : Option Item → ℕ
next_of None = 0
next_of (Some i) = next_by i.body

end_told : (e : Ending) → ending_of (end_item e) ≡ e
end_told complete = refl
end_told (unknown kind) = refl
end_told (short kind) = refl

no_call : {k n : ℕ} {c : Call} (e : Ending) → item_call k c n ≡ end_item e → ⊥
no_call complete p = absurd (omega (arith, ap next_of p))
no_call (unknown kind) p = absurd (omega (arith, ap next_of p))
no_call (short kind) p = absurd (omega (arith, ap next_of p))

-- two records at the start of the same bytes are the same
same_first : {r s x y : List ℕ} {c d : Call} → Record r c → Record s d → r ++ x ≡ s ++ y → (c ≡ d) × (x ≡ y)
same_first {r} {s} {x} {y} {c} {d} p q e =
    let i : item_call (kind_of c) c (0 + length r) ≡ item_call (kind_of d) d (0 + length s) = sym (record_item p (r ++ x) 0 x refl) ∙ record_item q (r ++ x) 0 y e in
    let m : length r ≡ length s = omega (arith, ap next_of i) in
    let same : c ∷ [] ≡ d ∷ [] = ap calls_of i in
    (cc, sym (drop-append_seam r x) ∙ ap₂ drop m e ∙ drop-append_seam s y)

pub only : {bytes more rest left : List ℕ} {cs ds : List Call} {e f : Ending} → Records bytes cs rest → Ends rest e
    → Records more ds left → Ends left f → bytes ≡ more → (ds ≡ cs) × (f ≡ e)
only {e = e} {f} (none rest) u (none left) v p =
    (refl, sym (end_told f) ∙ ap ending_of (sym (end-item v left 0 refl) ∙ ap (λ (l : List ℕ). item_at l 0) (sym p) ∙ end-item u rest 0 refl) ∙ end_told e)
only {e = e} (none rest) u (one_more r rs) v p = absurd (no_call e (sym (record_item r rest 0 _ p) ∙ end-item u rest 0 refl))
only {f = f} (one_more r rs) u (none left) v p = absurd (no_call f (sym (record_item r left 0 _ (sym p)) ∙ end-item v left 0 refl))
only (one_more r rs) u (one_more s ss) v p =
    let first = same_first r s p in
    let rest = only rs u ss v first.1 in
    (ap₂ ◌∷◌ (sym first.0) rest.0, rest.1)

-- ---- in some way
-- n bytes
abbrev tabulated : ℕ → (ℕ → ℕ) → List ℕ
tabulated zero f = []
tabulated (suc n) f = f 0 ∷ tabulated n (λ i. f (suc i))

tabulated_is : (l : List ℕ) → tabulated (length l) (λ i. get_or l i 0) ≡ l
tabulated_is [] = refl
tabulated_is (x ∷ l) = ap (◌∷◌ x) (tabulated_is l)

-- a known kind and as many bytes as it asks for are a record
record Whole (bytes : List ℕ) : Type 0 where
  call : Call
  is : Record bytes call

record_of : (kind : ℕ) → known kind ≡ true → (f : ℕ → ℕ) → Whole (kind ∷ tabulated (body_length kind) f)
record_of (suc zero) e f = record { call = _; is = power_on }
record_of (suc (suc zero)) e f = record { call = _; is = clean_cut }
record_of (suc (suc (suc zero))) e f = record { call = _; is = torn_cut (f 0) }
record_of (suc (suc (suc (suc zero)))) e f = record { call = _; is = reset }
record_of (suc (suc (suc (suc (suc zero))))) e f = record { call = _; is = frame (f 0) (f 1) (f 2) (f 3) }
record_of (suc (suc (suc (suc (suc (suc zero)))))) e f = record { call = _; is = tick }
record_of (suc (suc (suc (suc (suc (suc (suc zero))))))) e f = record { call = _; is = sample (f 0) (f 1) (f 2) (f 3) (f 4) (f 5) (f 6) (f 7) }
record_of (suc (suc (suc (suc (suc (suc (suc (suc zero)))))))) e f = record { call = _; is = lines (f 0) (f 1) (f 2) (f 3) (f 4) }
record_of zero e f = absurd (let z : ◌≡◌ {A = ℕ} 0 1 = cc in omega arith)
record_of (suc (suc (suc (suc (suc (suc (suc (suc (suc k))))))))) e f =
    let b = bounds (suc (suc (suc (suc (suc (suc (suc (suc (suc k))))))))) e in absurd (omega arith)

whole_record : (kind : ℕ) (body : List ℕ) → known kind ≡ true → length body ≡ body_length kind → Whole (kind ∷ body)
whole_record kind body e n =
    subst (λ (l : List ℕ). Whole (kind ∷ l)) (ap (λ (k : ℕ). tabulated k (λ i. get_or body i 0)) (sym n) ∙ tabulated_is body)
    (record_of kind e (λ i. get_or body i 0))

record Read (bytes : List ℕ) : Type 0 where
  calls : List Call
  ending : Ending
  recording : Recording bytes calls ending

no_record : {bytes : List ℕ} {e : Ending} → Ends bytes e → Read bytes
no_record {bytes} {e} ends = record { calls = []; ending = e; recording = record { rest = bytes; records = none bytes; ends = ends } }

read : (n : ℕ) (bytes : List ℕ) → length bytes ≤ n → Read bytes
read zero [] h = no_record at_end
read zero (kind ∷ body) h = absurd (omega arith)
read (suc n) [] h = no_record at_end
read (suc n) (kind ∷ body) h = go (known kind) refl (ltb (length body) (body_length kind)) refl (λ rest. read n rest)
  where
    go : (a : Bool) → known kind ≡ a → (b : Bool) → ltb (length body) (body_length kind) ≡ b
        → ((rest : List ℕ) → length rest ≤ n → Read rest) → Read (kind ∷ body)
    go false p b q more = no_record (at_unknown kind body p)
    go true p true q more =
        let some : length body < body_length kind = ltb-true (length body) (body_length kind) q in
        let zeros : List ℕ = replicate (body_length kind - length body - 1) 0 in
        let filled : length (body ++ 0 ∷ zeros) ≡ body_length kind =
        length-append body (0 ∷ zeros) ∙ omega (arith, length-replicate {A = ℕ} (body_length kind - length body - 1) 0) in
        no_record (in_body kind body 0 zeros (whole_record kind (body ++ 0 ∷ zeros) p filled).is)
    go true p false q more =
        let all : body_length kind ≤ length body = ltb-false (length body) (body_length kind) q in
        let first = whole_record kind (take (body_length kind) body) p (length-take-le (body_length kind) body all) in
        let rest = more (drop (body_length kind) body) (omega (arith, length-drop (body_length kind) body)) in
        record {
          calls = first.call ∷ rest.calls;
          ending = rest.ending;
          recording =
              record {
                rest = rest.recording.rest;
                records =
                    subst (λ (l : List ℕ). Records (kind ∷ l) (first.call ∷ rest.calls) rest.recording.rest) (take-append-drop (body_length kind) body)
                    (one_more first.is rest.recording.records);
                ends = rest.recording.ends;
              };
        }

pub every_recording : EveryRecording
every_recording bytes =
    let r = read (length bytes) bytes (omega arith) in
    record {
      calls = r.calls;
      ending = r.ending;
      recording = r.recording;
      only = λ cs e other. only r.recording.records r.recording.ends other.records other.ends refl;
    }

-- ---- of every list of calls
word_number : (n : ℕ) → number (word n) ≡ n
word_number n = omega arith

signed_bits : (t : ℤ) → Signed16 t → signed (bits_of t) ≡ t
signed_bits (pos n) h = rw (lt-ltb n 0x8000 h)
signed_bits (negsuc n) h =
    let back : 0x10000 - suc (0xffff - n) ≡ n = omega arith in
    rw (le-ltb (0xffff - n) 0x8000 (omega arith), lt-ltb (0xffff - n) 0x10000 (omega arith), back)

levels : (a b c : Bool) → (bit 2 (level_bits a b c) ≡ a) × (bit 1 (level_bits a b c) ≡ b) × (bit 0 (level_bits a b c) ≡ c)
levels true true true = (refl, refl, refl)
levels true true false = (refl, refl, refl)
levels true false true = (refl, refl, refl)
levels true false false = (refl, refl, refl)
levels false true true = (refl, refl, refl)
levels false true false = (refl, refl, refl)
levels false false true = (refl, refl, refl)
levels false false false = (refl, refl, refl)

encode_record : (c : Call) → Fits c → Record (encode c) c
encode_record PowerOn f = power_on
encode_record (Cut Clean) f = clean_cut
encode_record (Cut (Torn b)) f = torn_cut b
encode_record ResetPin f = reset
encode_record (Frame w) f = subst (λ (n : ℕ). Record (encode (Frame w)) (Frame n)) (omega arith) (frame _ _ _ _)
encode_record Tick f = tick
encode_record (Sample s) f =
    subst (Record (encode (Sample s)))
    (rw (word_number (bits_of s.temperature), signed_bits s.temperature f.0, word_number s.bias, word_number s.transmit, word_number s.receive))
    (sample _ _ _ _ _ _ _ _)
encode_record (Lines l) f =
    let bits = levels l.signal l.block l.lanes in
    subst (Record (encode (Lines l))) (rw (word_number l.receive, word_number l.transmit, bits.0, bits.1, bits.2)) (lines _ _ _ _ _)

encoded-records : (cs : List Call) → All Fits cs → Records (encoded cs) cs []
unfolding flat_map
encoded-records [] f = none []
encoded-records (c ∷ cs) f = one_more (encode_record c f.0) (encoded-records cs f.1)

-- its bytes
bits_word : (t : ℤ) → Signed16 t → bits_of t < 2 ^ 16
bits_word (pos n) h = omega arith
bits_word (negsuc n) h = omega arith

level_most : (b : Bool) (n : ℕ) → cond b n 0 ≤ n
level_most true n = omega arith
level_most false n = omega arith

encode-bytes : (c : Call) → Fits c → All Byte (encode c)
encode-bytes PowerOn f = omega arith
encode-bytes (Cut Clean) f = omega arith
encode-bytes (Cut (Torn b)) f = omega arith
encode-bytes ResetPin f = omega arith
encode-bytes (Frame w) f = omega arith
encode-bytes Tick f = omega arith
encode-bytes (Sample s) f = omega (arith, bits_word s.temperature f.0)
encode-bytes (Lines l) f = omega (arith, level_most l.signal 4, level_most l.block 2, level_most l.lanes 1)

pub all_append : {A : Type 0} (P : A → Type 0) (xs ys : List A) → All P xs → All P ys → All P (xs ++ ys)
all_append P [] ys p q = q
all_append P (x ∷ xs) ys p q = (p.0, all_append P xs ys p.1 q)

encoded-bytes : (cs : List Call) → All Fits cs → All Byte (encoded cs)
unfolding flat_map
encoded-bytes [] f = tt
encoded-bytes (c ∷ cs) f = all_append Byte (encode c) (encoded cs) (encode-bytes c f.0) (encoded-bytes cs f.1)

pub every_call : EveryCall
every_call cs f =
    record {
      bytes = encoded-bytes cs f;
      recording = record { rest = []; records = encoded-records cs f; ends = at_end };
      own = λ ds g e. (only (encoded-records cs f) at_end (encoded-records ds g) at_end (sym e)).0;
    }

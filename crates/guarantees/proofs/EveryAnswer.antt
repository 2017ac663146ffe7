-- Every read gives what the model gives, every call answers so, and what can be seen is what the model shows, along every
-- list of calls on a module that goes by its model.
-- Assumes nothing.
use Prim.Native.Nat.{ℕ, zero, suc, ◌+◌, ◌*◌, ◌<◌, ◌^◌}
use native.Mathlib.Omega.{arith}
use borrow.Author.Tests.{ltb-true, ltb-false, ne_eqb}
use mathlib.Core.Bool.{Bool, true, false, cond, ◌&&◌}
use mathlib.Core.List.{List, [], ◌∷◌}
use mathlib.Core.Path.{◌≡◌, refl, sym, ap, ap₂, ◌∙◌, subst}
use lib.Bits.{bit_or, or_lt}
use lib.Dec.{eqb, ltb}
use lib.ListN.{length, get_or}
use Rattle.words.specs.Words.{bit, of_bits, share}
use Rattle.words.proofs.Laws.{bit-above, bit-of_bits, of_bits-below, bits_equal}
use Rattle.registers.specs.declared.Register.{Register}
use Rattle.jobs.specs.Job.{pma_word}
use Rattle.jobs.specs.declared.Job.{Job}
use Rattle.latch.specs.Latch.{latched}
use Rattle.latch.specs.declared.Latch.{Latch}
use Rattle.lasi.specs.Lasi.{rx_alarm, tx_alarm, lasi_status}
use Rattle.xenpak.specs.Frame.{value_at}
use Rattle.xenpak.specs.declared.Module.{Module}
use Rattle.calls.specs.Calls.{said, step, run}
use Rattle.calls.specs.declared.Call.{Call}
use Rattle.calls.specs.declared.Call.TheVariants as call
use Rattle.guarantees.specs.Reference.{frame_of}
use Rattle.guarantees.specs.History.{Event, step_event, Model, run_model, Source}
use Rattle.guarantees.specs.Behaviour.{Held, Memory, remembered, low_byte, word_below, word_of, read_at, refused, frame_said, call_said, step_said, answers_by_model, seen_by_model, along_model}
use Rattle.guarantees.specs.Guarantees.{answers, seen, along}
use Rattle.guarantees.proofs.Located.{Located, apart, located, at0000, at8000, copy, customer, at9000, at9001, at9002, at9003, at9004, at9005, at9006, at9007, threshold, ata060, ata061, ata064, ata065, ata066, ata067, ata068, ata069, ata070, ata071, ata074, ata075, unlisted}
use Rattle.guarantees.proofs.Reading.{bits_are, Low, low0, low1, low2, low3, alike, HeldSound, none, some}
use Rattle.guarantees.proofs.Transition.{reference_of, JobSound, transition, value_read, step-said, Fixed, step_fixed, model_of, step-model}
use Rattle.guarantees.proofs.Memory.{FirstSound, running, over, Remembers, memory_sound}
use Rattle.guarantees.proofs.Unsaved.{Counted, to_counted, unsaved_is}
use Rattle.guarantees.proofs.Store.{step_sound}
use Rattle.guarantees.proofs.Alarms.{LatchSound, AlarmsSound, alarms_sound, rx_bit, tx_bit, lasi-bit, flag_bit, line_is}

-- ---- a word is the word of its bits
-- from the lowest up, and from the highest down
up_to : ℕ → (ℕ → Bool) → List Bool
up_to zero p = []
up_to (suc n) p = p 0 ∷ up_to n (λ i. p (suc i))

up-to : (n : ℕ) (p : ℕ → Bool) (i : ℕ) → i < n → get_or (up_to n p) i false ≡ p i
unfolding up_to
up-to zero p i h = absurd (omega arith)
up-to (suc n) p zero h = refl
up-to (suc n) p (suc i) h = up-to n (λ i. p (suc i)) i (omega arith)

up-length : (n : ℕ) (p : ℕ → Bool) → length (up_to n p) ≡ n
unfolding up_to
up-length zero p = refl
up-length (suc n) p = ap suc (up-length n (λ i. p (suc i)))

twice : (b : Bool) (n : ℕ) → cond b (2 ^ suc n) 0 ≡ 2 * cond b (2 ^ n) 0
twice true n = let e : 2 ^ suc n ≡ 2 * 2 ^ n = omega arith in e
twice false n = refl

word-last : (n : ℕ) (p : ℕ → Bool) → of_bits (up_to (suc n) p) ≡ of_bits (up_to n p) + cond (p n) (2 ^ n) 0
unfolding up_to
word-last zero p = omega arith
word-last (suc n) p = omega (arith, word-last n (λ i. p (suc i)), twice (p (suc n)) n)

word_below_lem : (n : ℕ) (p : ℕ → Bool) → of_bits (up_to n p) ≡ word_below n p
unfolding up_to
word_below_lem zero p = refl
word_below_lem (suc n) p = word-last n p ∙ ap (λ (w : ℕ). w + cond (p n) (2 ^ n) 0) (word_below_lem n p)

word_is : (v : ℕ) (p : ℕ → Bool) → v < 2 ^ 16 → ((i : ℕ) → bit i v ≡ p i) → v ≡ word_of p
unfolding word_of
word_is v p h e = bits_equal 16 h below (λ i. go i (ltb i 16) refl) ∙ word_below_lem 16 p
  where
    below : of_bits (up_to 16 p) < 2 ^ 16
    below = rw (up-length 16 p) at (of_bits-below (up_to 16 p))

    go : (i : ℕ) (b : Bool) → ltb i 16 ≡ b → bit i v ≡ bit i (of_bits (up_to 16 p))
    go i true l = e i ∙ sym (bit-of_bits (up_to 16 p) i ∙ up-to 16 p i (ltb-true i 16 l))
    go i false l = bit-above 16 i v h (ltb-false i 16 l) ∙ sym (bit-above 16 i (of_bits (up_to 16 p)) below (ltb-false i 16 l))

latched-word : {s : Source} {h : List Event} {l : Latch} → LatchSound s h l → latched l < 2 ^ 16
latched-word {l = l} ok = or_lt 16 l.live l.since ok.live_word ok.since_word

three_word : (x y z : Bool) → of_bits (x ∷ y ∷ z ∷ []) < 2 ^ 16
three_word x y z = let h = of_bits-below (x ∷ y ∷ z ∷ []) in omega arith

alarm-word : {s : Source} {h : List Event} {l : Latch} → LatchSound s h l → (b : Bool) → bit_or (latched l) (of_bits (false ∷ b ∷ false ∷ [])) < 2 ^ 16
alarm-word {l = l} ok b = or_lt 16 (latched l) (of_bits (false ∷ b ∷ false ∷ [])) (latched-word ok) (three_word false b false)

-- ---- what a read gives
first_word : {left : ℕ} {j : Job} → FirstSound left j → pma_word j ≡ 0x2040 + cond (eqb left 0) 0 0x8000
first_word {left} {j} (running k d l p) = rw (k, ne_eqb left 0 (λ e. omega arith))
first_word {left} {j} (over k z) = rw (k, z)

low_is : {q a k byte : ℕ} {b : Bool} {x : Held} → Low q a → HeldSound b k byte x → (now : ℕ) → cond (b && eqb k q) byte now ≡ low_byte x a now
low_is n none now = refl
low_is n (some {byte = byte} i) now = ap (λ (t : Bool). cond t byte now) (alike i n)

-- a module goes by its model, after these events
pub record Sound (h : List Event) (m : Module) : Type 0 where
  pub job : JobSound m.job m.command
  pub alarms : AlarmsSound m.thresholds h m.alarms
  pub memory : Remembers (remembered h) m
  pub counted : Counted m

module _ (m : Module) (h : List Event) (ok : Sound h m) (on : m.powered ≡ true) where
  abbrev k : Memory
  k = remembered h

  value_is : {a : ℕ} {r : Register} → Located a r → value_at m r ≡ read_at (model_of m h) k a
  unfolding read_at
  value_is at0000 = first_word ok.memory.first
  value_is at8000 = refl
  value_is {a} (copy s c u t) = rw (apart a s 0x0000 refl, apart a s 0x8000 refl, c)
  value_is {a} (customer s c u t) = rw (apart a s 0x0000 refl, apart a s 0x8000 refl, c)
  value_is at9000 = refl
  value_is at9001 = refl
  value_is at9002 = refl
  value_is at9003 = word_is (rx_alarm m.alarms) _ (alarm-word ok.alarms.rxfaults (share (latched m.alarms.rxalarm) m.alarms.controls.rxflag)) (rx_bit m h ok.alarms on)
  value_is at9004 = word_is (tx_alarm m.alarms) _ (alarm-word ok.alarms.txfaults (share (latched m.alarms.txalarm) m.alarms.controls.txflag)) (tx_bit m h ok.alarms on)
  value_is at9005 = word_is (lasi_status m.alarms) _ (three_word m.alarms.changed (share (tx_alarm m.alarms) m.alarms.controls.txalarm) (share (rx_alarm m.alarms) m.alarms.controls.rxalarm)) (lasi-bit m h ok.alarms on)
  value_is at9006 = refl
  value_is at9007 = refl
  value_is {a} (threshold s c u t) = rw (apart a s 0x0000 refl, apart a s 0x8000 refl, c, apart a s 0x9000 refl, apart a s 0x9001 refl, apart a s 0x9002 refl, apart a s 0x9006 refl, apart a s 0x9007 refl, apart a s 0x9003 refl, apart a s 0x9004 refl, apart a s 0x9005 refl, apart a s 0xa070 refl, apart a s 0xa071 refl, apart a s 0xa074 refl, apart a s 0xa075 refl, t)
  value_is ata060 = rw (ok.memory.sample, bits_are k.sample.temperature)
  value_is ata061 = rw (ok.memory.sample, bits_are k.sample.temperature) (low_is low0 ok.memory.held _)
  value_is ata064 = rw ok.memory.sample
  value_is ata065 = rw ok.memory.sample (low_is low1 ok.memory.held _)
  value_is ata066 = rw ok.memory.sample
  value_is ata067 = rw ok.memory.sample (low_is low2 ok.memory.held _)
  value_is ata068 = rw ok.memory.sample
  value_is ata069 = rw ok.memory.sample (low_is low3 ok.memory.held _)
  value_is ata070 = word_is (latched m.alarms.txalarm) _ (latched-word ok.alarms.txalarm) (flag_bit m h ok.alarms on ok.alarms.txalarm)
  value_is ata071 = word_is (latched m.alarms.rxalarm) _ (latched-word ok.alarms.rxalarm) (flag_bit m h ok.alarms on ok.alarms.rxalarm)
  value_is ata074 = word_is (latched m.alarms.txwarning) _ (latched-word ok.alarms.txwarning) (flag_bit m h ok.alarms on ok.alarms.txwarning)
  value_is ata075 = word_is (latched m.alarms.rxwarning) _ (latched-word ok.alarms.rxwarning) (flag_bit m h ok.alarms on ok.alarms.rxwarning)
  value_is {a} (unlisted s c u t) = rw (apart a s 0x0000 refl, apart a s 0x8000 refl, c, apart a s 0x9000 refl, apart a s 0x9001 refl, apart a s 0x9002 refl, apart a s 0x9006 refl, apart a s 0x9007 refl, apart a s 0x9003 refl, apart a s 0x9004 refl, apart a s 0x9005 refl, apart a s 0xa070 refl, apart a s 0xa071 refl, apart a s 0xa074 refl, apart a s 0xa075 refl, t, apart a s 0xa060 refl, apart a s 0xa064 refl, apart a s 0xa066 refl, apart a s 0xa068 refl, apart a s 0xa061 refl, apart a s 0xa065 refl, apart a s 0xa067 refl, apart a s 0xa069 refl)

-- only a frame to a powered module reads
unread : (m : Module) (c : Call) (v w : ℕ) → (m.powered ≡ true → v ≡ w) → step_said m.port (reference_of m) v c ≡ step_said m.port (reference_of m) w c
unfolding step_said call_said
unread m call.PowerOn v w e = refl
unread m (call.Cut cut) v w e = refl
unread m call.ResetPin v w e = refl
unread m (call.Frame word) v w e = go m.powered refl
  where
    go : (b : Bool) → m.powered ≡ b
        → cond (eqb (cond b 0 7) 0) (frame_said (reference_of m) v (frame_of m.port word)) (refused (cond b 0 7))
        ≡ cond (eqb (cond b 0 7) 0) (frame_said (reference_of m) w (frame_of m.port word)) (refused (cond b 0 7))
    go true on = ap (λ (k : ℕ). frame_said (reference_of m) k (frame_of m.port word)) (e on)
    go false off = refl
unread m call.Tick v w e = refl
unread m (call.Lines l) v w e = refl
unread m (call.Sample s) v w e = refl

said_is : (m : Module) (c : Call) (h : List Event) → Sound h m
    → said (step m c).answer ≡ step_said m.port (reference_of m) (read_at (model_of m h) (remembered h) m.bus.address) c
said_is m c h ok =
    step-said m ok.job c
    ∙ unread m c (value_read m) (read_at (model_of m h) (remembered h) m.bus.address) (λ on. value_is m h ok on (located m.bus.address))

-- ---- along a list
step_whole : (m : Module) (c : Call) (h : List Event) → Sound h m → Sound (step_event m.port (reference_of m) c ∷ h) (step m c).next
unfolding remembered
step_whole m c h ok =
    let t = transition m ok.job c in
    record {
      job = step_sound m ok.job c;
      alarms =
          subst (λ (f : Fixed). AlarmsSound f.thresholds (step_event m.port (reference_of m) c ∷ h) (step m c).next.alarms) (sym (step_fixed m ok.job c))
          (alarms_sound t h ok.alarms);
      memory = memory_sound t (remembered h) ok.memory;
      counted = to_counted t ok.job ok.counted;
    }

pub run-answers : (m : Module) (h : List Event) → Sound h m → (cs : List Call) → answers m cs ≡ answers_by_model (model_of m h) cs
unfolding answers answers_by_model
run-answers m h ok [] = refl
run-answers m h ok (c ∷ cs) =
    ap₂ ◌∷◌ (said_is m c h ok)
    (run-answers (step m c).next _ (step_whole m c h ok) cs ∙ ap (λ (k : Model). answers_by_model k cs) (step-model m ok.job h c))

pub seen_is : (m : Module) (h : List Event) → Sound h m → seen m ≡ seen_by_model (model_of m h)
seen_is m h ok =
    λ j. record { line = line_is m h ok.alarms j; counter = ok.memory.count j; stored = λ o. get_or m.store o 0; unsaved = unsaved_is m ok.counted j }

-- a view of the record that is the model's
pub run_along : {A : Type 0} (f : Module → A) (g : Model → A) → ((m : Module) (h : List Event) → Sound h m → f m ≡ g (model_of m h))
    → (m : Module) (h : List Event) → Sound h m → (cs : List Call) → along f m cs ≡ along_model g (model_of m h) cs
unfolding along along_model
run_along f g e m h ok [] = ap (λ (x : _). x ∷ []) (e m h ok)
run_along f g e m h ok (c ∷ cs) =
    ap₂ ◌∷◌ (e m h ok)
    (run_along f g e (step m c).next _ (step_whole m c h ok) cs ∙ ap (λ (k : Model). along_model g k cs) (step-model m ok.job h c))

-- what holds of a module that goes by its model and of that model holds after every list
pub run_whole : (P : Module → Model → Type 0) → ((m : Module) (h : List Event) → Sound h m → P m (model_of m h))
    → (m : Module) (h : List Event) → Sound h m → (cs : List Call) → P (run m cs) (run_model (model_of m h) cs)
unfolding run run_model
run_whole P p m h ok [] = p m h ok
run_whole P p m h ok (c ∷ cs) =
    subst (λ (k : Model). P (run (step m c).next cs) (run_model k cs)) (step-model m ok.job h c)
    (run_whole P p (step m c).next _ (step_whole m c h ok) cs)

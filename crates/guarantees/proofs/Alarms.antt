-- The alarm registers hold what the history rule says, and so does the alarm line.
-- Assumes nothing.
use Prim.Native.Nat.{ℕ, zero, suc, ◌≤◌, ◌<◌, ◌^◌}
use native.Mathlib.Omega.{arith}
use borrow.Author.Tests.{ne_eqb}
use mathlib.Core.Bool.{Bool, true, false, cond, not, ◌&&◌, ◌||◌, and_comm}
use mathlib.Core.List.{List, [], ◌∷◌}
use mathlib.Core.Path.{◌≡◌, refl, sym, ap, ap₂, ◌∙◌, subst}
use lib.Bits.{bit_and, bit_or, and_le_r, or_lt}
use lib.Dec.{eqb}
use lib.ListN.{length, get_or}
use Rattle.words.specs.Words.{bit, any_bit, of_bits, share}
use Rattle.words.proofs.Laws.{bit-and, bit-or, bit_zero, bit-of_bits, of_bits-below, any_same}
use Rattle.thresholds.specs.Thresholds.{thresholds_of}
use Rattle.dom.specs.declared.Sample.{Sample}
use Rattle.flags.specs.Flags as flags
use Rattle.flags.specs.Flags.{Side, codes_of, crossed, tx_bits, rx_bits, flags_of}
use Rattle.latch.specs.Latch.{no_latch, fed, cleared, latched}
use Rattle.latch.specs.declared.Latch.{Latch}
use Rattle.controls.specs.declared.Controls.{Controls}
use Rattle.alarms.specs.Alarms as alarms
use Rattle.alarms.specs.Alarms.{no_alarms}
use Rattle.alarms.specs.declared.Alarms.{Alarms}
use Rattle.alarms.specs.declared.Lines.{Lines}
use Rattle.lasi.specs.Lasi.{rx_alarm, tx_alarm, lasi_status}
use Rattle.answers.specs.Answers.{Said}
use Rattle.xenpak.specs.declared.Module.{Module}
use Rattle.reads.specs.Reads.{line_of}
use Rattle.guarantees.specs.History.{Event, nothing, powered_on, was_reset, ticked, got_lines, got_sample, data_from, high_alarm, low_alarm, high_warning, low_warning, tx_flags, rx_flags, Effect, keeps, clears, forgets, gives, Source, latest_after, since_after, latest_has, some_since, stands, rx_faults, tx_faults, link_of, link, link_change, tx_alarms, rx_alarms, tx_warnings, rx_warnings, shares_below, shares, rx_alarm_bit, tx_alarm_bit, lasi_bit, line_by_history}
use Rattle.guarantees.proofs.Located.{located}
use Rattle.guarantees.proofs.Reading.{read_alarms, reads_at}
use Rattle.guarantees.proofs.Transition.{Reaction, Transition, unchanged, powering, cutting, resetting, ticking, lining, sampling, addressing, commanding, writing, controlling, reading, model_of}

other : (i k : ℕ) → k < i → eqb i k ≡ false
other i k h = ne_eqb i k (λ e. omega arith)

-- ---- one latch
-- the latch after an effect
data Follows (l : Latch) : Effect → Latch → Type 0 where
  kept : Follows l keeps l
  cleared_by : Follows l clears (cleared l)
  emptied : Follows l forgets no_latch
  given : (bits : ℕ → Bool) (w : ℕ) → w < 2 ^ 16 → ((i : ℕ) → bit i w ≡ bits i) → Follows l (gives bits) (fed w l)

-- its two words have the bits that the history says, and no more than 16
pub record LatchSound (s : Source) (h : List Event) (l : Latch) : Type 0 where
  pub live : (i : ℕ) → bit i l.live ≡ latest_has s h i
  pub since : (i : ℕ) → bit i l.since ≡ some_since s h i
  pub live_word : l.live < 2 ^ 16
  pub since_word : l.since < 2 ^ 16

latch_bits : {l l' : Latch} {x : Effect} → Follows l x l' → (i : ℕ) {a b : Bool} → bit i l.live ≡ a → bit i l.since ≡ b
    → (bit i l'.live ≡ latest_after x i a) × (bit i l'.since ≡ since_after x i b)
latch_bits kept i p q = (p, q)
latch_bits cleared_by i p q = (p, bit_zero i)
latch_bits emptied i p q = (bit_zero i, bit_zero i)
latch_bits {l} (given bits w s e) i p q = (e i, bit-or i l.since w ∙ ap₂ ◌||◌ q (e i))

latch_words : {l l' : Latch} {x : Effect} → Follows l x l' → l.live < 2 ^ 16 → l.since < 2 ^ 16 → (l'.live < 2 ^ 16) × (l'.since < 2 ^ 16)
latch_words kept p q = (p, q)
latch_words cleared_by p q = (p, omega arith)
latch_words emptied p q = (omega arith, omega arith)
latch_words {l} (given bits w s e) p q = (s, or_lt 16 l.since w q s)

latch_step : (s : Source) (h : List Event) (e : Event) {l l' : Latch} → Follows l (s h e) l' → LatchSound s h l → LatchSound s (e ∷ h) l'
unfolding latest_has some_since
latch_step s h e f ok =
    record {
      live = λ i. (latch_bits f i (ok.live i) (ok.since i)).0;
      since = λ i. (latch_bits f i (ok.live i) (ok.since i)).1;
      live_word = (latch_words f ok.live_word ok.since_word).0;
      since_word = (latch_words f ok.live_word ok.since_word).1;
    }

no-latch : (s : Source) → LatchSound s [] no_latch
unfolding latest_has some_since
no-latch s = record { live = bit_zero; since = bit_zero; live_word = omega arith; since_word = omega arith }

-- ---- all of them
-- the alarms, controls apart, after an event
record AlarmsFollow (t : List ℕ) (h : List Event) (e : Event) (a a' : Alarms) : Type 0 where
  rxfaults : Follows a.rxfaults (rx_faults h e) a'.rxfaults
  txfaults : Follows a.txfaults (tx_faults h e) a'.txfaults
  txalarm : Follows a.txalarm (tx_alarms t h e) a'.txalarm
  rxalarm : Follows a.rxalarm (rx_alarms t h e) a'.rxalarm
  txwarning : Follows a.txwarning (tx_warnings t h e) a'.txwarning
  rxwarning : Follows a.rxwarning (rx_warnings t h e) a'.rxwarning
  up : a'.link ≡ latest_after (link h e) 0 a.link
  changed : a'.changed ≡ since_after (link_change h e) 0 a.changed

-- the alarms hold what the history says
pub record AlarmsSound (t : List ℕ) (h : List Event) (a : Alarms) : Type 0 where
  pub rxfaults : LatchSound rx_faults h a.rxfaults
  pub txfaults : LatchSound tx_faults h a.txfaults
  pub txalarm : LatchSound (tx_alarms t) h a.txalarm
  pub rxalarm : LatchSound (rx_alarms t) h a.rxalarm
  pub txwarning : LatchSound (tx_warnings t) h a.txwarning
  pub rxwarning : LatchSound (rx_warnings t) h a.rxwarning
  pub up : a.link ≡ latest_has link h 0
  pub changed : a.changed ≡ some_since link_change h 0

pub no-alarms : (t : List ℕ) → AlarmsSound t [] no_alarms
unfolding latest_has some_since
no-alarms t =
    record {
      rxfaults = no-latch rx_faults;
      txfaults = no-latch tx_faults;
      txalarm = no-latch (tx_alarms t);
      rxalarm = no-latch (rx_alarms t);
      txwarning = no-latch (tx_warnings t);
      rxwarning = no-latch (rx_warnings t);
      up = refl;
      changed = refl;
    }

follows_on : {t : List ℕ} {h : List Event} {e : Event} {a a' : Alarms} → AlarmsFollow t h e a a' → AlarmsSound t h a → AlarmsSound t (e ∷ h) a'
unfolding latest_has some_since
follows_on {t} {h} {e} f ok =
    record {
      rxfaults = latch_step rx_faults h e f.rxfaults ok.rxfaults;
      txfaults = latch_step tx_faults h e f.txfaults ok.txfaults;
      txalarm = latch_step (tx_alarms t) h e f.txalarm ok.txalarm;
      rxalarm = latch_step (rx_alarms t) h e f.rxalarm ok.rxalarm;
      txwarning = latch_step (tx_warnings t) h e f.txwarning ok.txwarning;
      rxwarning = latch_step (rx_warnings t) h e f.rxwarning ok.rxwarning;
      up = f.up ∙ ap (latest_after (link h e) 0) ok.up;
      changed = f.changed ∙ ap (since_after (link_change h e) 0) ok.changed;
    }

-- ---- what each event does
module _ (t : List ℕ) (h : List Event) (a : Alarms) where
  abbrev all : {e : Event} {a' : Alarms} → Follows a.rxfaults (rx_faults h e) a'.rxfaults → Follows a.txfaults (tx_faults h e) a'.txfaults
      → Follows a.txalarm (tx_alarms t h e) a'.txalarm → Follows a.rxalarm (rx_alarms t h e) a'.rxalarm
      → Follows a.txwarning (tx_warnings t h e) a'.txwarning → Follows a.rxwarning (rx_warnings t h e) a'.rxwarning
      → a'.link ≡ latest_after (link h e) 0 a.link → a'.changed ≡ since_after (link_change h e) 0 a.changed → AlarmsFollow t h e a a'
  all rf tf ta ra tw rw' u c =
      record { rxfaults = rf; txfaults = tf; txalarm = ta; rxalarm = ra; txwarning = tw; rxwarning = rw'; up = u; changed = c }

  nothing-all : (c : Controls) → AlarmsFollow t h nothing a (alarms.with_controls c a)
  nothing-all c = all kept kept kept kept kept kept refl refl

  tick-all : AlarmsFollow t h ticked a a
  tick-all = all kept kept kept kept kept kept refl refl

  power_all : AlarmsFollow t h powered_on a no_alarms
  power_all = all emptied emptied emptied emptied emptied emptied refl refl

  reset-all : AlarmsFollow t h was_reset a (alarms.restarted a)
  reset-all = all cleared_by cleared_by emptied emptied emptied emptied refl refl

  lines-all : (l : Lines) → a.link ≡ latest_has link h 0 → AlarmsFollow t h (got_lines l) a (alarms.after_lines a l)
  unfolding bit
  lines-all l up =
      all (given _ (bit_and l.receive 0x0039) (omega (arith, and_le_r l.receive 0x0039)) (λ i. bit-and i l.receive 0x0039))
      (given _ (bit_and l.transmit 0x03d9) (omega (arith, and_le_r l.transmit 0x03d9)) (λ i. bit-and i l.transmit 0x03d9)) kept kept kept kept
      refl (ap (λ (b : Bool). a.changed || cond b (not (link_of l)) (link_of l)) up)

-- a flag's place in its word: eight bits, and none above
placed : (f : ℕ → Bool) → ((i : ℕ) → 8 ≤ i → f i ≡ false) → (i : ℕ)
    → get_or (f 0 ∷ f 1 ∷ f 2 ∷ f 3 ∷ f 4 ∷ f 5 ∷ f 6 ∷ f 7 ∷ []) i false ≡ f i
placed f none zero = refl
placed f none (suc zero) = refl
placed f none (suc (suc zero)) = refl
placed f none (suc (suc (suc zero))) = refl
placed f none (suc (suc (suc (suc zero)))) = refl
placed f none (suc (suc (suc (suc (suc zero))))) = refl
placed f none (suc (suc (suc (suc (suc (suc zero)))))) = refl
placed f none (suc (suc (suc (suc (suc (suc (suc zero))))))) = refl
placed f none (suc (suc (suc (suc (suc (suc (suc (suc i)))))))) = sym (none _ (omega arith))

-- eight bits make a word
byte_word : (bs : List Bool) → length bs ≡ 8 → of_bits bs < 2 ^ 16
byte_word bs e = let h : of_bits bs < 2 ^ 8 = rw e at (of_bits-below bs) in omega arith

module _ (t : List ℕ) (s : Sample) where
  -- the code's flags at a level, whose columns are these
  abbrev crossing : (Side → ℕ) → Side → ℕ → Bool
  crossing columns = crossed (thresholds_of t) (codes_of s) columns

  tx_none : (high low i : ℕ) → 8 ≤ i → tx_flags t high low s i ≡ false
  tx_none high low i h = rw (other i 7 (omega arith), other i 6 (omega arith), other i 3 (omega arith), other i 2 (omega arith), other i 1 (omega arith), other i 0 (omega arith))

  rx_none : (high low i : ℕ) → 8 ≤ i → rx_flags t high low s i ≡ false
  rx_none high low i h = rw (other i 7 (omega arith), other i 6 (omega arith))

  tx-alarm : (i : ℕ) → bit i (of_bits (tx_bits (crossing flags.alarm))) ≡ tx_flags t high_alarm low_alarm s i
  tx-alarm i = bit-of_bits (tx_bits (crossing flags.alarm)) i ∙ placed (tx_flags t high_alarm low_alarm s) (tx_none high_alarm low_alarm) i

  rx-alarm : (i : ℕ) → bit i (of_bits (rx_bits (crossing flags.alarm))) ≡ rx_flags t high_alarm low_alarm s i
  rx-alarm i = bit-of_bits (rx_bits (crossing flags.alarm)) i ∙ placed (rx_flags t high_alarm low_alarm s) (rx_none high_alarm low_alarm) i

  tx_warning : (i : ℕ) → bit i (of_bits (tx_bits (crossing flags.warning))) ≡ tx_flags t high_warning low_warning s i
  tx_warning i = bit-of_bits (tx_bits (crossing flags.warning)) i ∙ placed (tx_flags t high_warning low_warning s) (tx_none high_warning low_warning) i

  rx_warning : (i : ℕ) → bit i (of_bits (rx_bits (crossing flags.warning))) ≡ rx_flags t high_warning low_warning s i
  rx_warning i = bit-of_bits (rx_bits (crossing flags.warning)) i ∙ placed (rx_flags t high_warning low_warning s) (rx_none high_warning low_warning) i

  sample-all : (h : List Event) (a : Alarms) → AlarmsFollow t h (got_sample s) a (alarms.after_sample a (flags_of (thresholds_of t) s))
  unfolding flags_of
  sample-all h a =
      all t h a kept kept (given _ _ (byte_word (tx_bits (crossing flags.alarm)) refl) tx-alarm) (given _ _ (byte_word (rx_bits (crossing flags.alarm)) refl) rx-alarm)
      (given _ _ (byte_word (tx_bits (crossing flags.warning)) refl) tx_warning) (given _ _ (byte_word (rx_bits (crossing flags.warning)) refl) rx_warning) refl refl

-- a read clears what it is from
cleared_at : (b : Bool) (l : Latch) → Follows l (cond b clears keeps) (cond b (cleared l) l)
cleared_at true l = cleared_by
cleared_at false l = kept

-- the link alarm too
forgot_at : (b c : Bool) → cond b false c ≡ since_after (cond b clears keeps) 0 c
forgot_at true c = refl
forgot_at false c = refl

link_at : (b c : Bool) → c ≡ latest_after (cond b clears keeps) 0 c
link_at true c = refl
link_at false c = refl

read_all : (t : List ℕ) (h : List Event) (x : Alarms) (a : ℕ) → AlarmsFollow t h (data_from a) x (read_alarms a x)
unfolding read_alarms
read_all t h x a =
    all t h x (cleared_at (eqb a 0x9003) x.rxfaults) (cleared_at (eqb a 0x9004) x.txfaults) (cleared_at (eqb a 0xa070) x.txalarm)
    (cleared_at (eqb a 0xa071) x.rxalarm) (cleared_at (eqb a 0xa074) x.txwarning) (cleared_at (eqb a 0xa075) x.rxwarning)
    (link_at (eqb a 0x9005) x.link) (forgot_at (eqb a 0x9005) x.changed)

to_alarms : {m n : Module} {x : Said} {y : Reaction} → Transition m n x y → (h : List Event) → m.alarms.link ≡ latest_has link h 0
    → AlarmsFollow m.thresholds h y.event m.alarms n.alarms
to_alarms {m} (unchanged p q) h up =
    subst (λ (n : Module). AlarmsFollow m.thresholds h nothing m.alarms n.alarms) (sym p) (nothing-all m.thresholds h m.alarms m.alarms.controls)
to_alarms {m} powering h up = power_all m.thresholds h m.alarms
to_alarms {m} (cutting cut) h up = nothing-all m.thresholds h m.alarms m.alarms.controls
to_alarms {m} (resetting on) h up = reset-all m.thresholds h m.alarms
to_alarms {m} ticking h up = tick-all m.thresholds h m.alarms
to_alarms {m} (lining l) h up = lines-all m.thresholds h m.alarms l up
to_alarms {m} (sampling s) h up = sample-all m.thresholds s h m.alarms
to_alarms {m} (addressing a) h up = nothing-all m.thresholds h m.alarms m.alarms.controls
to_alarms {m} (commanding v free) h up = nothing-all m.thresholds h m.alarms m.alarms.controls
to_alarms {m} (writing offset v at) h up = nothing-all m.thresholds h m.alarms m.alarms.controls
to_alarms {m} (controlling i k mask law v) h up = nothing-all m.thresholds h m.alarms _
to_alarms {m} (reading increment) h up =
    let a = m.bus.address in
    subst (AlarmsFollow m.thresholds h (data_from a) m.alarms) (sym ((reads_at (located a)).alarms m.alarms)) (read_all m.thresholds h m.alarms a)

pub alarms_sound : {m n : Module} {x : Said} {y : Reaction} → Transition m n x y → (h : List Event) → AlarmsSound m.thresholds h m.alarms
    → AlarmsSound m.thresholds (y.event ∷ h) n.alarms
alarms_sound t h ok = follows_on (to_alarms t h ok.up) ok

-- ---- what the registers read
stands-bit : {s : Source} {h : List Event} {l : Latch} → LatchSound s h l → (i : ℕ) → bit i (latched l) ≡ (latest_has s h i || some_since s h i)
stands-bit {l = l} ok i = bit-or i l.live l.since ∙ ap₂ ◌||◌ (ok.live i) (ok.since i)

or_left : (a b c : Bool) → (a || (b || c)) ≡ (b || (a || c))
or_left true true c = refl
or_left true false c = refl
or_left false b c = refl

-- one of the bits, from the lowest up, and from the highest down
any_last : (n : ℕ) (p : ℕ → Bool) → any_bit (suc n) p ≡ (p n || any_bit n p)
unfolding any_bit
any_last zero p = refl
any_last (suc n) p = ap (λ (x : Bool). p 0 || x) (any_last n (λ i. p (suc i))) ∙ or_left (p 0) (p (suc n)) (any_bit n (λ i. p (suc i)))

any_below : (n w : ℕ) (p : ℕ → Bool) → any_bit n (λ i. bit i w && p i) ≡ shares_below n w p
unfolding any_bit bit
any_below zero w p = refl
any_below (suc n) w p = any_last n (λ i. bit i w && p i) ∙ ap (λ (x : Bool). bit n w && p n || x) (any_below n w p)

share_bits : (a w : ℕ) {p : ℕ → Bool} → ((i : ℕ) → bit i a ≡ p i) → share a w ≡ shares w p
unfolding share
share_bits a w {p} k = any_same 16 (λ i. and_comm (bit i a) (bit i w) ∙ ap (λ (x : Bool). bit i w && x) (k i)) ∙ any_below 16 w p

-- bit 1 alone
bit-one : (x : Bool) (i : ℕ) → get_or (false ∷ x ∷ false ∷ []) i false ≡ (eqb i 1 && x)
bit-one x zero = refl
bit-one x (suc zero) = refl
bit-one x (suc (suc zero)) = refl
bit-one x (suc (suc (suc i))) = rw (other (suc (suc (suc i))) 1 (omega arith))

three_bits : (x y z : Bool) (i : ℕ) → get_or (x ∷ y ∷ z ∷ []) i false ≡ cond (eqb i 2) z (cond (eqb i 1) y (cond (eqb i 0) x false))
three_bits x y z zero = refl
three_bits x y z (suc zero) = refl
three_bits x y z (suc (suc zero)) = refl
three_bits x y z (suc (suc (suc i))) = rw (other (suc (suc (suc i))) 2 (omega arith), other (suc (suc (suc i))) 1 (omega arith), other (suc (suc (suc i))) 0 (omega arith))

-- faults, and a summary of flags in bit 1
alarm-bit : {s f : Source} {h : List Event} {faults flags : Latch} (w : ℕ) → LatchSound s h faults → LatchSound f h flags → (i : ℕ)
    → bit i (bit_or (latched faults) (of_bits (false ∷ share (latched flags) w ∷ false ∷ [])))
    ≡ ((latest_has s h i || some_since s h i) || eqb i 1 && shares w (λ k. latest_has f h k || some_since f h k))
alarm-bit {faults = faults} {flags = flags} w p q i =
    bit-or i (latched faults) (of_bits (false ∷ share (latched flags) w ∷ false ∷ []))
    ∙ ap₂ ◌||◌ (stands-bit p i)
    (bit-of_bits (false ∷ share (latched flags) w ∷ false ∷ []) i ∙ bit-one (share (latched flags) w) i
    ∙ ap (λ (x : Bool). eqb i 1 && x) (share_bits (latched flags) w (stands-bit q)))

module _ (m : Module) (h : List Event) (ok : AlarmsSound m.thresholds h m.alarms) (on : m.powered ≡ true) where
  abbrev a : Alarms
  a = m.alarms

  pub rx_bit : (i : ℕ) → bit i (rx_alarm a) ≡ rx_alarm_bit (model_of m h) i
  rx_bit i = rw on (alarm-bit a.controls.rxflag ok.rxfaults ok.rxalarm i)

  pub tx_bit : (i : ℕ) → bit i (tx_alarm a) ≡ tx_alarm_bit (model_of m h) i
  tx_bit i = rw on (alarm-bit a.controls.txflag ok.txfaults ok.txalarm i)

  pub lasi-bit : (i : ℕ) → bit i (lasi_status a) ≡ lasi_bit (model_of m h) i
  lasi-bit i =
      bit-of_bits (a.changed ∷ share (tx_alarm a) a.controls.txalarm ∷ share (rx_alarm a) a.controls.rxalarm ∷ []) i
      ∙ three_bits a.changed (share (tx_alarm a) a.controls.txalarm) (share (rx_alarm a) a.controls.rxalarm) i
      ∙ (λ k.
      cond (eqb i 2) (share_bits (rx_alarm a) a.controls.rxalarm rx_bit k)
      (cond (eqb i 1) (share_bits (tx_alarm a) a.controls.txalarm tx_bit k) (cond (eqb i 0) (ok.changed k) false)))

  pub flag_bit : {s : Source} {l : Latch} → LatchSound s h l → (i : ℕ) → bit i (latched l) ≡ stands (model_of m h) s i
  flag_bit p i = rw on (stands-bit p i)

-- ---- the line
pub line_is : (m : Module) (h : List Event) → AlarmsSound m.thresholds h m.alarms → line_of m ≡ line_by_history (model_of m h)
unfolding line_by_history
line_is m h ok = go m.powered refl
  where
    go : (b : Bool) → m.powered ≡ b
        → (b && share (lasi_status m.alarms) m.alarms.controls.lasi) ≡ (b && shares m.alarms.controls.lasi (lasi_bit (model_of m h)))
    go true p = share_bits (lasi_status m.alarms) m.alarms.controls.lasi (lasi-bit m h ok p)
    go false p = refl

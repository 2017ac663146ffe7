-- Playing whole records, then what ends them: the lines are those of the calls, column by column.
-- Assumes nothing.
use Prim.Native.Nat.{ℕ, ◌+◌, ◌-◌, ◌%◌, ◌^◌}
use native.Mathlib.Omega.{arith}
use mathlib.Core.Bool.{Bool, true, false, cond}
use mathlib.Core.List.{List, [], ◌∷◌, ◌++◌, map}
use mathlib.Core.Path.{◌≡◌, refl, sym, ap, ap₂, ◌∙◌}
use lib.ListN.{length, drop}
use lib.Seq.{drop-drop, drop-append_seam}
use Rattle.std.specs.Prelude.{Option}
use Rattle.answers.specs.Answers.{Said}
use Rattle.xenpak.specs.declared.Module.{Module}
use Rattle.reads.specs.Reads.{line_of}
use Rattle.calls.specs.Calls.{said, step, run}
use Rattle.calls.specs.declared.Call.{Call}
use Rattle.printout.specs.declared.Line.{Line}
use Rattle.recording.specs.Recording.{item_at}
use Rattle.recording.specs.declared.Item.{Item}
use Rattle.player.specs.Player.{player, still, step_by, step_at, Transcript, stopped, before, go_on, transcript}
use Rattle.player.specs.declared.Player.{Player}
use Rattle.player.specs.declared.Step.{Step}
use Rattle.player.proofs.Playing.{from, from_is, enough}
use Rattle.guarantees.specs.Guarantees.{answers, along}
use Rattle.playback.specs.Format.{Records, none, one_more, Ending, complete, unknown, short, Ends}
use Rattle.playback.specs.Playback.{kind_of, count_from}
use Rattle.playback.proofs.Decoding.{item_call, record_item, end_item, end-item}

-- ---- whole records
-- the player after a call, and the call's line; after calls, and their lines
abbrev pub after_call : Player → Call → Player
after_call p c = player (step p.unit c).next ((p.index + 1) % 2 ^ 64) p.over

abbrev pub call_line : Player → Call → Line
call_line p c =
    record {
      index = p.index;
      kind = kind_of c;
      refusal = (said (step p.unit c).answer).refusal;
      alarm = line_of (step p.unit c).next;
    }

abbrev pub after : Player → List Call → Player
after p [] = p
after p (c ∷ cs) = after (after_call p c) cs

abbrev pub lines : Player → List Call → List Line
lines p [] = []
lines p (c ∷ cs) = call_line p c ∷ lines (after_call p c) cs

module _ (final : Bool) (p : Player) (block : List ℕ) (at : ℕ) where
  abbrev onward : Step → Transcript
  onward s = go_on s.shown (stopped p at) (from final s.player block)

  -- while the play goes on, the item says what comes; then nothing does
  by_item : (i : Option Item) → p.over ≡ false → item_at block at ≡ i → from final p block at ≡ onward (step_by final p (length block) i)
  unfolding step_at
  by_item i o e =
      from_is final p block at
      ∙ ap onward (ap₂ (λ (b : Bool) (i : Option Item). cond b (still p) (step_by final p (length block) i)) o e)

  pub when_over : p.over ≡ true → from final p block at ≡ stopped p at
  unfolding step_at
  when_over o =
      from_is final p block at
      ∙ ap onward (ap (λ (b : Bool). cond b (still p) (step_by final p (length block) (item_at block at))) o)

-- the rest is played from where it begins
pub record Rest (final : Bool) (p : Player) (block : List ℕ) (at : ℕ) (cs : List Call) (rest : List ℕ) : Type 0 where
  pub next : ℕ
  pub left : drop next block ≡ rest
  pub is : from final p block at ≡ before (lines p cs) (from final (after p cs) block next)

pub whole_records : {bytes rest : List ℕ} {cs : List Call} → Records bytes cs rest → (final : Bool) (p : Player) (block : List ℕ) (at : ℕ)
    → p.over ≡ false → drop at block ≡ bytes → Rest final p block at cs rest
whole_records (none rest) final p block at o d = record { next = at; left = d; is = refl }
whole_records (one_more {first} {bytes} {c = c} {cs} r rs) final p block at o d =
    let next : drop (at + length first) block ≡ bytes = sym (drop-drop (length first) at block) ∙ ap (drop (length first)) d ∙ drop-append_seam first bytes in
    let rest = whole_records rs final (after_call p c) block (at + length first) o next in
    record {
      next = rest.next;
      left = rest.left;
      is = by_item final p block at (item_call (kind_of c) c (at + length first)) o (record_item r block at bytes d) ∙ ap (before (call_line p c ∷ [])) rest.is;
    }

-- ---- what ends them
-- its line, if it has one, is the last
abbrev pub over_after : Player → Player
over_after p = player p.unit ((p.index + 1) % 2 ^ 64) true

abbrev pub end_line : Player → (kind number : ℕ) → Line
end_line p kind number = record { index = p.index; kind = kind; refusal = number; alarm = line_of p.unit }

abbrev pub end_player : (final : Bool) → Player → Ending → Player
end_player final p complete = p
end_player final p (unknown kind) = over_after p
end_player final p (short kind) = cond final (over_after p) p

abbrev pub end_lines : (final : Bool) → Player → Ending → List Line
end_lines final p complete = []
end_lines final p (unknown kind) = end_line p kind 9 ∷ []
end_lines final p (short kind) = cond final (end_line p kind 10 ∷ []) []

pub record Ended (final : Bool) (p : Player) (block rest : List ℕ) (e : Ending) (t : Transcript) : Type 0 where
  pub shown : t.lines ≡ end_lines final p e
  pub player : t.player ≡ end_player final p e
  pub left : t.player.over ≡ false → drop t.used block ≡ rest

pub the_end : {rest : List ℕ} {e : Ending} → Ends rest e → (final : Bool) (p : Player) (block : List ℕ) (at : ℕ) → p.over ≡ false
    → drop at block ≡ rest → Ended final p block rest e (from final p block at)
the_end {rest} {e} ends final p block at o d = go e final (by_item final p block at (end_item e) o (end-item ends block at d))
  where
    gone_on : {b : Bool} {e : Ending} → end_lines b p e ≡ [] → end_player b p e ≡ p → from final p block at ≡ stopped p at
        → Ended b p block rest e (from final p block at)
    gone_on l q f = rw f (record { shown = sym l; player = sym q; left = λ _. d })

    refused : {b : Bool} {e : Ending} (l : Line) → end_lines b p e ≡ l ∷ [] → end_player b p e ≡ over_after p
        → from final p block at ≡ before (l ∷ []) (from final (over_after p) block (length block))
        → Ended b p block rest e (from final p block at)
    refused l s q f =
        rw (f, when_over final (over_after p) block (length block) refl)
        (record { shown = sym s; player = sym q; left = λ n. absurd (let z : ◌≡◌ {A = ℕ} 0 1 = cc in omega arith) })

    go : (e : Ending) (b : Bool) → from final p block at ≡ onward final p block at (step_by b p (length block) (end_item e))
        → Ended b p block rest e (from final p block at)
    go complete b f = gone_on {b = b} {e = complete} refl refl f
    go (unknown kind) b f = refused {b = b} {e = unknown kind} (end_line p kind 9) refl refl f
    go (short kind) true f = refused {b = true} {e = short kind} (end_line p kind 10) refl refl f
    go (short kind) false f = gone_on {b = false} {e = short kind} refl refl f

-- ---- both
pub over-after : (p : Player) (cs : List Call) → (after p cs).over ≡ p.over
over-after p [] = refl
over-after p (c ∷ cs) = over-after (after_call p c) cs

pub record PlayedAs (final : Bool) (p : Player) (bytes rest : List ℕ) (cs : List Call) (e : Ending) (t : Transcript) : Type 0 where
  pub shown : t.lines ≡ lines p cs ++ end_lines final (after p cs) e
  pub player : t.player ≡ end_player final (after p cs) e
  pub left : t.player.over ≡ false → drop t.used bytes ≡ rest

pub played_as : {bytes rest : List ℕ} {cs : List Call} {e : Ending} → Records bytes cs rest → Ends rest e → (final : Bool) (p : Player)
    → p.over ≡ false → PlayedAs final p bytes rest cs e (transcript final p bytes)
played_as {bytes} {rest} {cs} {e} records ends final p o =
    let r = whole_records records final p bytes 0 o refl in
    let f = the_end ends final (after p cs) bytes r.next (over-after p cs ∙ o) r.left in
    rw (enough (length bytes) (length bytes - 0) final p bytes 0 (omega arith) (omega arith) ∙ r.is)
    (record { shown = ap (◌++◌ (lines p cs)) f.shown; player = f.player; left = f.left })

-- ---- columns
pub unit_after : (p : Player) (cs : List Call) → (after p cs).unit ≡ run p.unit cs
unfolding run
unit_after p [] = refl
unit_after p (c ∷ cs) = unit_after (after_call p c) cs

pub kinds : (p : Player) (cs : List Call) → map (λ (l : Line). l.kind) (lines p cs) ≡ map kind_of cs
kinds p [] = refl
kinds p (c ∷ cs) = ap (◌∷◌ (kind_of c)) (kinds (after_call p c) cs)

pub refusals : (p : Player) (cs : List Call) → map (λ (l : Line). l.refusal) (lines p cs) ≡ map (λ (s : Said). s.refusal) (answers p.unit cs)
unfolding answers
refusals p [] = refl
refusals p (c ∷ cs) = ap (◌∷◌ (said (step p.unit c).answer).refusal) (refusals (after_call p c) cs)

along_head : (m : Module) (cs : List Call) → along line_of m cs ≡ line_of m ∷ drop 1 (along line_of m cs)
unfolding along
along_head m [] = refl
along_head m (c ∷ cs) = refl

pub alarms : (p : Player) (cs : List Call) → map (λ (l : Line). l.alarm) (lines p cs) ≡ drop 1 (along line_of p.unit cs)
unfolding along
alarms p [] = refl
alarms p (c ∷ cs) = ap (◌∷◌ (line_of (step p.unit c).next)) (alarms (after_call p c) cs) ∙ sym (along_head (step p.unit c).next cs)

-- from an index on, modulo 2^64
abbrev counted : ℕ → List Line → Type 0
counted i ls = map (λ (l : Line). l.index) ls ≡ map (λ (k : ℕ). k % 2 ^ 64) (count_from i (length ls))

pub indexes : (p : Player) (cs : List Call) (final : Bool) (e : Ending) (i : ℕ) → p.index ≡ i % 2 ^ 64
    → counted i (lines p cs ++ end_lines final (after p cs) e)
indexes p [] final complete i h = refl
indexes p [] final (unknown kind) i h = ap (λ (n : ℕ). n ∷ []) h
indexes p [] true (short kind) i h = ap (λ (n : ℕ). n ∷ []) h
indexes p [] false (short kind) i h = refl
indexes p (c ∷ cs) final e i h = ap₂ ◌∷◌ h (indexes (after_call p c) cs final e (i + 1) (ap (λ (n : ℕ). (n + 1) % 2 ^ 64) h ∙ omega arith))

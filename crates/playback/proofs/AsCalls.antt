-- A recording plays as its calls do; on a module that creation accepts, as the independent model has it.
-- Assumes nothing.
use Prim.Native.Nat.{ℕ}
use mathlib.Core.Bool.{Bool, true, false}
use mathlib.Core.List.{List, [], ◌∷◌, ◌++◌, map, map-append, flatten}
use mathlib.Core.Path.{◌≡◌, refl, sym, ap, ap₂, ◌∙◌}
use lib.ListN.{length, get_or}
use Rattle.words.specs.Words.{bit, any_bit, share}
use Rattle.store.specs.Bytes.{zeros}
use Rattle.xenpak.specs.Calls as calls
use Rattle.xenpak.specs.declared.Module.{Module}
use Rattle.reads.specs.Reads.{line_of}
use Rattle.calls.specs.Calls.{step, run}
use Rattle.calls.specs.declared.Call.{Call}
use Rattle.creation.specs.Creation.{make}
use Rattle.printout.specs.declared.Line.{Line}
use Rattle.printout.specs.Line.{decimal, line_text}
use Rattle.recording.specs.Recording.{call_of, body_at, item_at}
use Rattle.player.specs.Player.{started, step_at, playing}
use Rattle.player.specs.declared.Player.{Player}
use Rattle.guarantees.specs.History.{Model, fresh, step_model, run_model, line_by_history}
use Rattle.guarantees.specs.Behaviour.{make_refusal, Seen, seen_by_model, along_model}
use Rattle.guarantees.specs.Guarantees.{seen, along}
use Rattle.guarantees.proofs.TwoRuns.{every_answer}
use Rattle.playback.specs.Format.{Ending, complete, unknown, short}
use Rattle.playback.specs.Playback.{last, Playback, PlaybackByModel, Blank, Example}
use Rattle.playback.proofs.Columns.{after, lines, end_player, end_line, end_lines, played_as, unit_after, kinds, refusals, alarms, indexes}

-- what the last line shows
module _ {A : Type 0} (f : Line → A) (p : Player) where
  column : (ls : List Line) (e : Ending) (xs : List A) (u s : ℕ → A) → map f ls ≡ xs
      → ((k : ℕ) → f (end_line p k 9) ≡ u k) → ((k : ℕ) → f (end_line p k 10) ≡ s k)
      → map f (ls ++ end_lines true p e) ≡ xs ++ last e u s
  column ls e xs u s h uk sk = map-append f ls (end_lines true p e) ∙ ap₂ ◌++◌ h (go e)
    where
      go : (e : Ending) → map f (end_lines true p e) ≡ last e u s
      go complete = refl
      go (unknown kind) = ap (λ (a : A). a ∷ []) (uk kind)
      go (short kind) = ap (λ (a : A). a ∷ []) (sk kind)

end_unit : (p : Player) (e : Ending) → (end_player true p e).unit ≡ p.unit
end_unit p complete = refl
end_unit p (unknown kind) = refl
end_unit p (short kind) = refl

pub playback : Playback
playback m bytes calls ending r =
    let p : Player = started m in
    let t = played_as r.records r.ends true p refl in
    let line = ap line_of (unit_after p calls) in
    record {
      after = ap (λ (q : Player). q.unit) t.player ∙ end_unit (after p calls) ending ∙ unit_after p calls;
      indexes = rw t.shown (indexes p calls true ending 0 refl);
      kinds = rw t.shown (column (λ l. l.kind) (after p calls) (lines p calls) ending _ _ _ (kinds p calls) (λ k. refl) (λ k. refl));
      refusals = rw t.shown (column (λ l. l.refusal) (after p calls) (lines p calls) ending _ _ _ (refusals p calls) (λ k. refl) (λ k. refl));
      alarms = rw t.shown (column (λ l. l.alarm) (after p calls) (lines p calls) ending _ _ _ (alarms p calls) (λ k. line) (λ k. line));
    }

-- ---- by the model
-- a view of what is seen, along a list, is seen along it
module _ {A : Type 0} (f : Seen → A) where
  along-seen : (m : Module) (cs : List Call) → map f (along seen m cs) ≡ along (λ (m : Module). f (seen m)) m cs
  unfolding along
  along-seen m [] = refl
  along-seen m (c ∷ cs) = ap (◌∷◌ (f (seen m))) (along-seen (step m c).next cs)

  model-seen : (k : Model) (cs : List Call) → map f (along_model seen_by_model k cs) ≡ along_model (λ (k : Model). f (seen_by_model k)) k cs
  unfolding along_model
  model-seen k [] = refl
  model-seen k (c ∷ cs) = ap (◌∷◌ (f (seen_by_model k))) (model-seen (step_model k c) cs)

along-last : (m : Module) (cs : List Call) → get_or (along line_of m cs) (length cs) false ≡ line_of (run m cs)
unfolding along run
along-last m [] = refl
along-last m (c ∷ cs) = along-last (step m c).next cs

model-last : (k : Model) (cs : List Call) → get_or (along_model line_by_history k cs) (length cs) false ≡ line_by_history (run_model k cs)
unfolding along_model run_model
model-last k [] = refl
model-last k (c ∷ cs) = model-last (step_model k c) cs

pub playback_by_model : PlaybackByModel
playback_by_model port image t e bytes calls ending r =
    let m : Module = (make port image t).next in
    let k : Model = fresh port image t in
    let p = playback m bytes calls ending r in
    let a = (every_answer port image t).lives e calls in
    let along-lines : along line_of m calls ≡ along_model line_by_history k calls =
    sym (along-seen (λ s. s.line) m calls) ∙ ap (map (λ (s : Seen). s.line)) a.seen_alike ∙ model-seen (λ s. s.line) k calls in
    let line : line_of (run m calls) ≡ line_by_history (run_model k calls) =
    sym (along-last m calls) ∙ ap (λ (ls : List Bool). get_or ls (length calls) false) along-lines ∙ model-last k calls in
    record { refusals = p.refusals ∙ rw a.answered; alarms = p.alarms ∙ rw (along-lines, line) }

pub blank-made : Blank
unfolding make_refusal make zeros
blank-made = record { not_refused = refl; made = refl }

pub example : Example
unfolding flatten playing step_at item_at body_at call_of decimal line_text make bit any_bit share zeros step calls.power_on calls.power_cut calls.tick
example = refl

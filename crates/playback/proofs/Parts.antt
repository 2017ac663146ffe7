-- Playing some records, then what is left of the bytes, is playing all.
-- Assumes nothing.
use Prim.Native.Nat.{ℕ, zero, suc, ◌+◌, ◌≤◌}
use native.Mathlib.Nat.{zero-add, suc-add}
use native.Mathlib.Omega.{arith}
use mathlib.Core.Bool.{Bool, true, false, cond, not}
use mathlib.Core.List.{List, [], ◌∷◌}
use mathlib.Core.Path.{◌≡◌, refl, sym, ap, ◌∙◌}
use lib.Dec.{ltb}
use lib.ListN.{length, drop, length-drop}
use lib.Seq.{drop-drop}
use Rattle.std.specs.Prelude.{Option, Some, None, Result, Ok, Err}
use Rattle.recording.specs.Recording.{known, body_length, call_of, item_at}
use Rattle.recording.specs.declared.Body.{Body}
use Rattle.recording.specs.declared.Flaw.{Flaw}
use Rattle.recording.specs.declared.Flaw.TheVariants.{UnknownKind, CutShort}
use Rattle.recording.specs.declared.Item.{Item}
use Rattle.player.specs.Player.{still, step_of, step_by, step_at, Transcript, stopped, before, go_on, playing, transcript}
use Rattle.player.specs.declared.Player.{Player}
use Rattle.player.specs.declared.Shown.{Shown}
use Rattle.player.specs.declared.Step.{Step}
use Rattle.player.proofs.Playing.{Onward, onward, enough}
use Rattle.playback.specs.Playback.{InParts}
use Rattle.playback.proofs.Decoding.{item_call, no_item, some_item}

-- ---- first some records, then more
module _ (last : Bool) (bytes : List ℕ) where
  nothing : (m : ℕ) (p : Player) (at : ℕ) → (step_at last p bytes at).shown ≡ None → playing m last p bytes at ≡ stopped p at
  unfolding playing
  nothing zero p at e = refl
  nothing (suc m) p at e = rw e

  -- then from where they end
  abbrev then : (m : ℕ) → Transcript → Transcript
  then m t = before t.lines (playing m last t.player bytes t.used)

  split : (n m : ℕ) (p : Player) (at : ℕ) → playing (n + m) last p bytes at ≡ then m (playing n last p bytes at)
  unfolding playing
  split zero m p at = ap (λ (k : ℕ). playing k last p bytes at) (zero-add m)
  split (suc n) m p at =
      ap (λ (k : ℕ). playing k last p bytes at) (suc-add n m)
      ∙ go (step_at last p bytes at).shown refl (λ next. split n m (step_at last p bytes at).player next)
    where
      q : Player
      q = (step_at last p bytes at).player

      go : (s : Option Shown) → (step_at last p bytes at).shown ≡ s
          → ((next : ℕ) → playing (n + m) last q bytes next ≡ then m (playing n last q bytes next))
          → go_on s (stopped p at) (λ next. playing (n + m) last q bytes next)
          ≡ then m (go_on s (stopped p at) (λ next. playing n last q bytes next))
      go (Some s) e rest = ap (before (s.line ∷ [])) (rest s.next)
      go None e rest = sym (nothing m p at e)

  -- they end within the bytes
  within : (n : ℕ) (p : Player) (at : ℕ) → at ≤ length bytes → (playing n last p bytes at).used ≤ length bytes
  unfolding playing
  within zero p at h = h
  within (suc n) p at h = go (step_at last p bytes at).shown (onward last p bytes at) (λ next. within n (step_at last p bytes at).player next)
    where
      q : Player
      q = (step_at last p bytes at).player

      go : (s : Option Shown) → Onward p at (length bytes) q s → ((next : ℕ) → next ≤ length bytes → (playing n last q bytes next).used ≤ length bytes)
          → (go_on s (stopped p at) (λ next. playing n last q bytes next)).used ≤ length bytes
      go (Some s) w rest = rest s.next w.1
      go None w rest = h

-- ---- the bytes from a position on play alike
abbrev behind_body : ℕ → Result Body Flaw → Result Body Flaw
behind_body k (Ok b) = Ok (record { call = b.call; next = k + b.next })
behind_body k (Err flaw) = Err flaw

abbrev behind_item : ℕ → Option Item → Option Item
behind_item k None = None
behind_item k (Some i) = Some (record { kind = i.kind; body = behind_body k i.body })

abbrev behind_shown : ℕ → Option Shown → Option Shown
behind_shown k None = None
behind_shown k (Some s) = Some (record { line = s.line; next = k + s.next })

abbrev behind_step : ℕ → Step → Step
behind_step k s = record { player = s.player; shown = behind_shown k s.shown }

abbrev behind : ℕ → Transcript → Transcript
behind k t = record { lines = t.lines; used = k + t.used; player = t.player }

module _ (bytes : List ℕ) (k : ℕ) where
  item_behind : (at : ℕ) → item_at bytes (k + at) ≡ behind_item k (item_at (drop k bytes) at)
  item_behind at = go (drop (k + at) bytes) refl
    where
      body_by : ℕ → (kind : ℕ) (body : List ℕ) (a b : Bool) → Result Body Flaw
      body_by at kind body a b =
          cond (not a) (Err UnknownKind)
          (cond b (Err CutShort) (Ok (record { call = call_of kind body; next = at + 1 + body_length kind })))

      by : (kind : ℕ) (body : List ℕ) (a b : Bool)
          → Some (record { kind = kind; body = body_by (k + at) kind body a b })
          ≡ behind_item k (Some (record { kind = kind; body = body_by at kind body a b }))
      by kind body false b = refl
      by kind body true true = refl
      by kind body true false = ap (item_call kind (call_of kind body)) (omega arith)

      go : (l : List ℕ) → drop (k + at) bytes ≡ l → item_at bytes (k + at) ≡ behind_item k (item_at (drop k bytes) at)
      go [] e = no_item bytes (k + at) e ∙ ap (behind_item k) (sym (no_item (drop k bytes) at (drop-drop at k bytes ∙ e)))
      go (kind ∷ body) e =
          some_item bytes (k + at) kind body e ∙ by kind body (known kind) (ltb (length body) (body_length kind))
          ∙ ap (behind_item k) (sym (some_item (drop k bytes) at kind body (drop-drop at k bytes ∙ e)))

  module _ (last : Bool) (h : k ≤ length bytes) where
    step_behind : (p : Player) (at : ℕ) → step_at last p bytes (k + at) ≡ behind_step k (step_at last p (drop k bytes) at)
    unfolding step_at
    step_behind p at =
        ap (λ (i : Option Item). cond p.over (still p) (step_by last p (length bytes) i)) (item_behind at)
        ∙ go p.over (item_at (drop k bytes) at) last
      where
        size : length bytes ≡ k + length (drop k bytes)
        size = omega (arith, length-drop k bytes)

        of : (kind : ℕ) (b : Result Body Flaw) (final : Bool)
            → step_of final p kind (length bytes) (behind_body k b) ≡ behind_step k (step_of final p kind (length (drop k bytes)) b)
        of kind (Ok b) final = refl
        of kind (Err UnknownKind) final = ap (λ (n : ℕ). step_of final p kind n (Err UnknownKind)) size
        of kind (Err CutShort) true = ap (λ (n : ℕ). step_of true p kind n (Err CutShort)) size
        of kind (Err CutShort) false = refl

        go : (over : Bool) (i : Option Item) (final : Bool)
            → cond over (still p) (step_by final p (length bytes) (behind_item k i))
            ≡ behind_step k (cond over (still p) (step_by final p (length (drop k bytes)) i))
        go true i final = refl
        go false None final = refl
        go false (Some i) final = of i.kind i.body final

    playing_behind : (n : ℕ) (p : Player) (at : ℕ) → playing n last p bytes (k + at) ≡ behind k (playing n last p (drop k bytes) at)
    unfolding playing
    playing_behind zero p at = refl
    playing_behind (suc n) p at =
        ap (λ (s : Step). go_on s.shown (stopped p (k + at)) (λ next. playing n last s.player bytes next)) (step_behind p at)
        ∙ go (step_at last p (drop k bytes) at).shown (λ next. playing_behind n (step_at last p (drop k bytes) at).player next)
      where
        q : Player
        q = (step_at last p (drop k bytes) at).player

        go : (s : Option Shown) → ((next : ℕ) → playing n last q bytes (k + next) ≡ behind k (playing n last q (drop k bytes) next))
            → go_on (behind_shown k s) (stopped p (k + at)) (λ next. playing n last q bytes next)
            ≡ behind k (go_on s (stopped p at) (λ next. playing n last q (drop k bytes) next))
        go (Some s) rest = ap (before (s.line ∷ [])) (rest s.next)
        go None rest = refl

pub in_parts : InParts
in_parts n last p bytes =
    let t : Transcript = playing n last p bytes 0 in
    let left : List ℕ = drop t.used bytes in
    let all : playing (length bytes) last t.player left 0 ≡ transcript last t.player left =
    enough (length bytes) (length left) last t.player left 0 (omega (arith, length-drop t.used bytes)) (omega arith) in
    sym
    (enough (length bytes) (n + length bytes) last p bytes 0 (omega arith) (omega arith)
    ∙ split last bytes n (length bytes) p 0
    ∙ ap (λ (at : ℕ). before t.lines (playing (length bytes) last t.player bytes at)) (omega arith)
    ∙ ap (before t.lines) (playing_behind bytes t.used last (within last bytes n p 0 (omega arith)) (length bytes) t.player 0)
    ∙ ap (λ (u : Transcript). before t.lines (behind t.used u)) all)

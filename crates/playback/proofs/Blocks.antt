-- A recording that comes in blocks plays as the whole does.
-- Assumes nothing.
use Prim.Native.Nat.{ℕ, ◌-◌}
use native.Mathlib.Omega.{arith}
use mathlib.Core.Bool.{Bool, true, false}
use mathlib.Core.List.{List, [], ◌∷◌, ◌++◌, append-nil, append_assoc, map, flatten}
use mathlib.Core.Path.{◌≡◌, refl, sym, ap, ◌∙◌}
use lib.ListN.{length, drop}
use lib.Seq.{drop-drop}
use Rattle.calls.specs.declared.Call.{Call}
use Rattle.printout.specs.declared.Line.{Line}
use Rattle.player.specs.Player.{Transcript, stopped, playing, transcript}
use Rattle.player.specs.declared.Player.{Player}
use Rattle.player.proofs.Playing.{enough}
use Rattle.playback.specs.Format.{Records, none, one_more, Ending, complete, unknown, short, Ends, at_unknown}
use Rattle.playback.specs.Playback.{both, Block, Result, block_then, in_blocks, InBlocks}
use Rattle.playback.proofs.Recordings.{every_recording}
use Rattle.playback.proofs.Parts.{in_parts}
use Rattle.playback.proofs.Columns.{after_call, call_line, after, over-after, lines, when_over, over_after, end_player, end_lines, played_as}

-- ---- more bytes behind
records-append : {bytes rest : List ℕ} {cs : List Call} → Records bytes cs rest → (more : List ℕ) → Records (bytes ++ more) cs (rest ++ more)
records-append (none rest) more = none (rest ++ more)
records-append (one_more {first} {bytes} r rs) more =
    rw (append_assoc first bytes more) (one_more r (records-append rs more))

records_then : {bytes rest left : List ℕ} {cs ds : List Call} → Records bytes cs rest → Records rest ds left → Records bytes (cs ++ ds) left
records_then (none rest) qs = qs
records_then (one_more r rs) qs = one_more r (records_then rs qs)

after-append : (p : Player) (cs ds : List Call) → after p (cs ++ ds) ≡ after (after p cs) ds
after-append p [] ds = refl
after-append p (c ∷ cs) ds = after-append (after_call p c) cs ds

lines-append : (p : Player) (cs ds : List Call) → lines p (cs ++ ds) ≡ lines p cs ++ lines (after p cs) ds
lines-append p [] ds = refl
lines-append p (c ∷ cs) ds = ap (◌∷◌ (call_line p c)) (lines-append (after_call p c) cs ds)

-- ---- a player that is over plays nothing
over_transcript : (final : Bool) (p : Player) (bytes : List ℕ) → p.over ≡ true → transcript final p bytes ≡ stopped p 0
over_transcript final p bytes o =
    enough (length bytes) (length bytes - 0) final p bytes 0 (omega arith) (omega arith) ∙ when_over final p bytes 0 o

-- ---- a block, then the rest
module _ (p : Player) (xs ys : List ℕ) where
  abbrev t : Transcript
  t = transcript false p xs

  abbrev Joined : Type 0
  Joined = block_then t (in_blocks t.player (drop t.used xs ++ ys) []) ≡ in_blocks p (xs ++ ys) []

  -- the block ends with its last record, or in one that the rest goes on with
  goes_on : {rest : List ℕ} {cs : List Call} {e : Ending} → Records xs cs rest → Ends rest e → end_lines false (after p cs) e ≡ []
      → end_player false (after p cs) e ≡ after p cs → p.over ≡ false → Joined
  unfolding in_blocks
  goes_on {rest} {cs} {e} records ends no_line same o =
      let q : Player = after p cs in
      let first = played_as records ends false p o in
      let is_q : t.player ≡ q = first.player ∙ same in
      let q_on : q.over ≡ false = over-after p cs ∙ o in
      let left : drop t.used xs ≡ rest = first.left (ap (λ (r : Player). r.over) is_q ∙ q_on) in
      let told = every_recording (rest ++ ys) in
      let r = told.recording in
      let second = played_as r.records r.ends true q q_on in
      let whole = played_as (records_then (records-append records ys) r.records) r.ends true p o in
      rw (is_q, left, first.shown, no_line, append-nil (lines p cs), second.shown, second.player, whole.shown, whole.player, lines-append p cs told.calls, after-append p cs told.calls, append_assoc)

  -- the block ends with an unknown kind
  ends_there : {rest : List ℕ} {cs : List Call} {kind : ℕ} → Records xs cs rest → Ends rest (unknown kind) → p.over ≡ false → Joined
  unfolding in_blocks
  ends_there {cs = cs} records (at_unknown kind body u) o =
      let first = played_as records (at_unknown kind body u) false p o in
      let whole = played_as (records-append records ys) (at_unknown kind (body ++ ys) u) true p o in
      rw (first.player, over_transcript true (over_after (after p cs)) (drop t.used xs ++ ys) refl, first.shown, whole.shown, whole.player, append-nil)

  joined : Joined
  joined = go p.over refl
    where
      by : {rest : List ℕ} {cs : List Call} (e : Ending) → Records xs cs rest → Ends rest e → p.over ≡ false → Joined
      by complete records end o = goes_on records end refl refl o
      by (unknown kind) records end o = ends_there records end o
      by (short kind) records end o = goes_on records end refl refl o

      go : (b : Bool) → p.over ≡ b → Joined
      go true o = rw (over_transcript false p xs o)
      go false o = let told = every_recording xs in by told.ending told.recording.records told.recording.ends o

-- ---- all of them
-- likewise where there is room for some of its records only
some_joined : (n : ℕ) (p : Player) (xs ys : List ℕ)
    → block_then (playing n false p xs 0) (in_blocks (playing n false p xs 0).player (drop (playing n false p xs 0).used xs ++ ys) [])
    ≡ in_blocks p (xs ++ ys) []
some_joined n p xs ys =
    let t : Transcript = playing n false p xs 0 in
    let left : List ℕ = drop t.used xs in
    let u : Transcript = transcript false t.player left in
    let rest : Result = in_blocks u.player (drop u.used left ++ ys) [] in
    ap (block_then t) (sym (joined t.player left ys))
    ∙ ap (λ (ls : List Line). record { lines = ls; player = rest.player }) (sym (append_assoc t.lines u.lines rest.lines))
    ∙ ap (λ (l : List ℕ). block_then (both t u) (in_blocks u.player (l ++ ys) [])) (drop-drop u.used t.used xs)
    ∙ ap (λ (v : Transcript). block_then v (in_blocks v.player (drop v.used xs ++ ys) [])) (in_parts n false p xs)
    ∙ joined p xs ys

blocks_joined : (p : Player) (held : List ℕ) (blocks : List Block)
    → in_blocks p held blocks ≡ in_blocks p (held ++ flatten (map (λ (b : Block). b.bytes) blocks)) []
unfolding in_blocks flatten
blocks_joined p held [] = rw (append-nil held)
blocks_joined p held (b ∷ bs) =
    let t : Transcript = playing b.room false p (held ++ b.bytes) 0 in
    let more : List ℕ = flatten (map (λ (b : Block). b.bytes) bs) in
    ap (block_then t) (blocks_joined t.player (drop t.used (held ++ b.bytes)) bs)
    ∙ some_joined b.room p (held ++ b.bytes) more
    ∙ ap (λ (l : List ℕ). in_blocks p l []) (append_assoc held b.bytes more)

pub in_blocks_lem : InBlocks
in_blocks_lem p blocks = blocks_joined p [] blocks

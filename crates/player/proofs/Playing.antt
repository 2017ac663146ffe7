-- Playing records one after the other: a step goes on, a block ends, and the loop that plays it.
-- Assumes nothing.
use Rattle.std.proofs.Common.{◌≡◌, ℕ, zero, suc, ◌+◌, ◌-◌, ◌*◌, ◌/◌, ◌<◌, ◌≤◌, Bool, true, false, cond, not, eqb, ltb, leb, List, [], ◌∷◌, ◌++◌, Option, Some, None, Result, Ok, Err, length, get_or, drop, sym, refl, ap, ◌∙◌, append_assoc, append-nil, arith, ltb-false, ltb-true, le-leb, leb-false, leb-true}
use lib.Seq.{length-sets}
use Rattle.io.proofs.Counting.{prefix_len_of_le}
use Rattle.printout.specs.Line.{line_text, longest, Put, Written}
use Rattle.printout.specs.declared.Line.{Line}
use Rattle.printout.proofs.Text.{then, with_room}
use Rattle.recording.specs.Recording.{known, body_length, call_of, body_at, item_at}
use Rattle.recording.specs.declared.Body.{Body}
use Rattle.recording.specs.declared.Flaw.{Flaw}
use Rattle.recording.specs.declared.Flaw.TheVariants.{UnknownKind, CutShort}
use Rattle.recording.specs.declared.Item.{Item}
use Rattle.player.specs.Player.{step_of, step_by, step_at, still, Transcript, stopped, before, go_on, playing, text_of, Plays}
use Rattle.player.specs.declared.Player.{Player}
use Rattle.player.specs.declared.Shown.{Shown}
use Rattle.player.specs.declared.Step.{Step}

-- ---- one step
-- a body has at most 8 bytes
body-length : (kind : ℕ) → body_length kind ≤ 8
body-length kind = of (eqb kind 0x03) (omega arith) (of (eqb kind 0x05) (omega arith) (of (eqb kind 0x07) (omega arith) (of (eqb kind 0x08) (omega arith) (omega arith))))
  where
    of : (b : Bool) {x y : ℕ} → x ≤ 8 → y ≤ 8 → cond b x y ≤ 8
    of true h k = h
    of false h k = k

-- what an item says of the position that it was found at: bytes are left or none, a record ends within them, and of one that
-- does not at most 8 are there
abbrev pub WithinBody : (at size : ℕ) → Result Body Flaw → Type 0
WithinBody at size (Ok b) = (at < b.next) × (b.next ≤ size)
WithinBody at size (Err UnknownKind) = at < size
WithinBody at size (Err CutShort) = (at < size) × (size ≤ at + 8)

abbrev pub Within : (at size : ℕ) → Option Item → Type 0
Within at size None = size ≤ at
Within at size (Some i) = WithinBody at size i.body

module _ (bytes : List ℕ) (at : ℕ) where
  abbrev kind : ℕ
  kind = get_or bytes at 0

  abbrev short : Bool
  short = ltb (length bytes - (at + 1)) (body_length kind)

  pub item-within : Within at (length bytes) (item_at bytes at)
  unfolding item_at body_at
  item-within = go (leb (length bytes) at) refl (known kind) short refl
    where
      go : (a : Bool) → leb (length bytes) at ≡ a → (b c : Bool) → short ≡ c
          → Within at (length bytes)
          (cond a None
          (Some
          (record {
            kind = kind;
            body = cond (not b) (Err UnknownKind)
                (cond c (Err CutShort) (Ok (record { call = call_of kind (drop (at + 1) bytes); next = at + 1 + body_length kind })));
          })))
      go true p b c q = leb-true (length bytes) at p
      go false p false c q = leb-false (length bytes) at p
      go false p true true q =
          (leb-false (length bytes) at p, omega (arith, ltb-true (length bytes - (at + 1)) (body_length kind) q, body-length kind))
      go false p true false q =
          (omega arith, omega (arith, leb-false (length bytes) at p, ltb-false (length bytes - (at + 1)) (body_length kind) q))

-- a step with a line goes on within the bytes; one without leaves the player, and if the play goes on at most 8 bytes are left
abbrev pub Onward : Player → (at size : ℕ) → Player → Option Shown → Type 0
Onward p at size q (Some s) = (at < s.next) × (s.next ≤ size)
Onward p at size q None = (q ≡ p) × (p.over ≡ false → size ≤ at + 8)

pub onward : (last : Bool) (p : Player) (bytes : List ℕ) (at : ℕ)
    → Onward p at (length bytes) (step_at last p bytes at).player (step_at last p bytes at).shown
unfolding step_at
onward last p bytes at = go p.over refl (item_at bytes at) (item-within bytes at)
  where
    cut : (b : Bool) (kind : ℕ) → WithinBody at (length bytes) (Err CutShort)
        → Onward p at (length bytes) (step_of b p kind (length bytes) (Err CutShort)).player (step_of b p kind (length bytes) (Err CutShort)).shown
    cut true kind w = (w.0, omega arith)
    cut false kind w = (refl, λ f. w.1)

    of : (kind : ℕ) (b : Result Body Flaw) → WithinBody at (length bytes) b
        → Onward p at (length bytes) (step_of last p kind (length bytes) b).player (step_of last p kind (length bytes) b).shown
    of kind (Ok b) w = w
    of kind (Err UnknownKind) w = (w, omega arith)
    of kind (Err CutShort) w = cut last kind w

    by : (i : Option Item) → Within at (length bytes) i
        → Onward p at (length bytes) (step_by last p (length bytes) i).player (step_by last p (length bytes) i).shown
    by None w = (refl, λ f. omega arith)
    by (Some i) w = of i.kind i.body w

    go : (b : Bool) → p.over ≡ b → (i : Option Item) → Within at (length bytes) i
        → Onward p at (length bytes) (cond b (still p) (step_by last p (length bytes) i)).player (cond b (still p) (step_by last p (length bytes) i)).shown
    go true e i w = (refl, λ f. let z : true ≡ false = sym e ∙ f in let n : ◌≡◌ {A = ℕ} 0 1 = cc in absurd (omega arith))
    go false e i w = by i w

-- where no byte is left there is no line
pub at_the_end : (last : Bool) (p : Player) (bytes : List ℕ) (at : ℕ) → length bytes ≤ at → step_at last p bytes at ≡ still p
unfolding step_at item_at
at_the_end last p bytes at h = rw (le-leb (length bytes) at h) (go p.over)
  where
    go : (b : Bool) → cond b (still p) (still p) ≡ still p
    go true = refl
    go false = refl

-- ---- a block
-- any number of records that is enough plays the same
pub enough : (n m : ℕ) (last : Bool) (p : Player) (bytes : List ℕ) (at : ℕ) → length bytes ≤ at + n → length bytes ≤ at + m
    → playing n last p bytes at ≡ playing m last p bytes at
unfolding playing
enough zero zero last p bytes at h k = refl
enough zero (suc m) last p bytes at h k = rw (at_the_end last p bytes at (omega arith))
enough (suc n) zero last p bytes at h k = rw (at_the_end last p bytes at (omega arith))
enough (suc n) (suc m) last p bytes at h k =
    go (step_at last p bytes at).shown (onward last p bytes at) (λ next. enough n m last (step_at last p bytes at).player bytes next)
  where
    go : (s : Option Shown) → Onward p at (length bytes) (step_at last p bytes at).player s
        → ((next : ℕ) → length bytes ≤ next + n → length bytes ≤ next + m
        → playing n last (step_at last p bytes at).player bytes next ≡ playing m last (step_at last p bytes at).player bytes next)
        → go_on s (stopped p at) (playing n last (step_at last p bytes at).player bytes)
        ≡ go_on s (stopped p at) (playing m last (step_at last p bytes at).player bytes)
    go (Some s) w rest = ap (before (s.line ∷ [])) (rest s.next (omega arith) (omega arith))
    go None w rest = refl

-- if the play goes on, at most 8 bytes are left
pub left_over : (n : ℕ) (last : Bool) (p : Player) (bytes : List ℕ) (at : ℕ) → length bytes ≤ at + n
    → (playing n last p bytes at).player.over ≡ false → length bytes ≤ (playing n last p bytes at).used + 8
unfolding playing
left_over zero last p bytes at h f = omega arith
left_over (suc n) last p bytes at h f =
    go (step_at last p bytes at).shown (onward last p bytes at) (λ next. left_over n last (step_at last p bytes at).player bytes next) f
  where
    go : (s : Option Shown) → Onward p at (length bytes) (step_at last p bytes at).player s
        → ((next : ℕ) → length bytes ≤ next + n → (playing n last (step_at last p bytes at).player bytes next).player.over ≡ false
        → length bytes ≤ (playing n last (step_at last p bytes at).player bytes next).used + 8)
        → (go_on s (stopped p at) (playing n last (step_at last p bytes at).player bytes)).player.over ≡ false
        → length bytes ≤ (go_on s (stopped p at) (playing n last (step_at last p bytes at).player bytes)).used + 8
    go (Some s) w rest f = rest s.next (omega arith) f
    go None w rest f = w.1 f

-- all records from a position on
abbrev pub from : (last : Bool) → Player → List ℕ → (at : ℕ) → Transcript
from last p bytes at = playing (length bytes - at) last p bytes at

pub from_is : (last : Bool) (p : Player) (bytes : List ℕ) (at : ℕ)
    → from last p bytes at ≡ go_on (step_at last p bytes at).shown (stopped p at) (from last (step_at last p bytes at).player bytes)
unfolding playing
from_is last p bytes at =
    enough (length bytes - at) (suc (length bytes)) last p bytes at (omega arith) (omega arith) ∙ go (step_at last p bytes at).shown
  where
    go : (s : Option Shown)
        → go_on s (stopped p at) (playing (length bytes) last (step_at last p bytes at).player bytes)
        ≡ go_on s (stopped p at) (from last (step_at last p bytes at).player bytes)
    go (Some s) =
        ap (before (s.line ∷ [])) (enough (length bytes) (length bytes - s.next) last (step_at last p bytes at).player bytes s.next (omega arith) (omega arith))
    go None = refl

-- ---- the loop
pub text_append : (ls : List Line) (l : Line) → text_of (ls ++ l ∷ []) ≡ text_of ls ++ line_text l
text_append [] l = append-nil (line_text l)
text_append (k ∷ ls) l = rw (text_append ls l) (sym (append_assoc (line_text k) (text_of ls) (line_text l)))

pub before-before : (ls : List Line) (l : Line) (t : Transcript) → before ls (before (l ∷ []) t) ≡ before (ls ++ l ∷ []) t
before-before ls l t = ap (λ (ks : List Line). record { lines = ks; used = t.used; player = t.player }) (sym (append_assoc ls (l ∷ []) t.lines))

-- some lines are written, and so many records more are to be played from a position on
pub record Playing (p₀ : Player) (block : List ℕ) (last : Bool) (out₀ : List ℕ) (p : Player) (out : List ℕ) (at written room : ℕ) : Type 0 where
  pub lines : List Line
  pub fits : written + room * longest ≤ length out₀
  pub sized : length out ≡ length out₀
  pub put : Put (text_of lines) out₀ 0 out written
  pub rest : playing (length out₀ / longest) last p₀ block 0 ≡ before lines (playing room last p block at)

pub none : (p : Player) (block : List ℕ) (last : Bool) (out : List ℕ) → Playing p block last out p out 0 0 (length out / longest)
none p block last out =
    record {
      lines = [];
      fits = omega arith;
      sized = refl;
      put = record { bytes = refl; ends = refl };
      rest = refl;
    }

module _ (p₀ : Player) (block : List ℕ) (last : Bool) (out₀ : List ℕ) (p : Player) (out : List ℕ) (at written room : ℕ)
    (h : Playing p₀ block last out₀ p out at written room) where
  -- nothing more is played
  whole : {q : Player} → q ≡ p → playing room last p block at ≡ stopped p at
      → Plays (playing (length out₀ / longest) last p₀ block 0) out₀ out (record { player = q; used = at; written = written })
  whole same done =
      rw (h.rest, done, append-nil h.lines)
      (record {
        player = same;
        used = refl;
        written = omega (arith, h.put.ends);
        bytes = h.put.bytes;
        fits = prefix_len_of_le written out (omega (arith, h.fits, h.sized));
      })

  pub spent : room ≤ 0 → Plays (playing (length out₀ / longest) last p₀ block 0) out₀ out (record { player = p; used = at; written = written })
  unfolding playing
  spent n = whole refl (let z : room ≡ 0 = omega arith in ap (λ (n : ℕ). playing n last p block at) z)

  module _ (s : Step) (is : s ≡ step_at last p block at) (left : ℕ) (some : room ≡ suc left) where
    step_is : playing room last p block at ≡ go_on s.shown (stopped p at) (λ next. playing left last s.player block next)
    unfolding playing
    step_is =
        ap (λ (n : ℕ). playing n last p block at) some
        ∙ ap (λ (s : Step). go_on s.shown (stopped p at) (λ next. playing left last s.player block next)) (sym is)

    pub more : {n : Shown} {out' : List ℕ} {written' : ℕ} → s.shown ≡ Some n
        → Written (line_text n.line) out written out' written' → Playing p₀ block last out₀ s.player out' n.next written' left
    more {n} {out'} {written'} e w =
        let l : Line = n.line in
        let put : Put (line_text l) out written out' written' = with_room (omega (arith, h.fits, h.sized)) w in
        record {
          lines = h.lines ++ l ∷ [];
          fits = omega (arith, h.fits, w.short);
          sized = ap length put.bytes ∙ length-sets out written (line_text l) ∙ h.sized;
          put = rw (text_append h.lines l) (then h.put put);
          rest = h.rest ∙ ap (before h.lines) (rw e at step_is) ∙ before-before h.lines l (playing left last s.player block n.next);
        }

    pub ended : s.shown ≡ None
        → Plays (playing (length out₀ / longest) last p₀ block 0) out₀ out (record { player = s.player; used = at; written = written })
    ended e =
        let on : Onward p at (length block) s.player s.shown = rw is (onward last p block at) in
        whole (rw e at on).0 (rw e at step_is)

-- Making judges one thing after another: bytes that were taken as an array have its length, and are the array.
-- Assumes nothing.
use Rattle.std.specs.Prelude.{ℕ, ℤ, Bool, true, false, cond, List, ◌≡◌, ◌≤◌, eqb, length, Ok, Err}
use borrow.Author.Tests.{le-leb}
use mathlib.Core.Path.{refl, ap}
use Rattle.nvr.specs.Image.{checksum_right}
use Rattle.thresholds.specs.Thresholds.{thresholds_of, ordered}
use Rattle.answers.specs.Answers.{Answer, creation_answer}
use Rattle.answers.specs.declared.Refusal.{Refusal}
use Rattle.xenpak.specs.Calls.{taken}
use Rattle.xenpak.specs.declared.Module.{Module}
use Rattle.xenpak.specs.declared.Outcome.{Outcome}
use Rattle.creation.specs.Creation.{fresh, sized, granted, checked}

-- bytes that were taken as an array have its length
pub fits : (n : ℕ) (bytes : List ℕ) (why : Refusal) (a : List ℕ) → sized n bytes why ≡ Ok a → eqb (length bytes) n ≡ true
fits n bytes why a e = go (eqb (length bytes) n) e
  where
    go : (b : Bool) → cond b (Ok bytes) (Err why) ≡ Ok a → b ≡ true
    go true e = refl
    go false e = cc

-- and are the array
pub same : (n : ℕ) (bytes : List ℕ) (why : Refusal) (a : List ℕ) → sized n bytes why ≡ Ok a → a ≡ bytes
same n bytes why a e = go (eqb (length bytes) n) e
  where
    go : (b : Bool) → cond b (Ok bytes) (Err why) ≡ Ok a → a ≡ bytes
    go true e = cc
    go false e = cc

-- and others have not
pub short : (n : ℕ) (bytes : List ℕ) (why w : Refusal) → sized n bytes why ≡ Err w → (eqb (length bytes) n ≡ false) × (w ≡ why)
short n bytes why w e = go (eqb (length bytes) n) e
  where
    go : (b : Bool) → cond b (Ok bytes) (Err why) ≡ Err w → (b ≡ false) × (w ≡ why)
    go true e = cc
    go false e = (refl, cc)

-- what each judgement comes to
pub judged_as : (port : ℕ) (image thresholds : List ℕ) {b c d e : Bool} → port ≤ 31 → eqb (length image) 256 ≡ b → eqb (length thresholds) 40 ≡ c
    → checksum_right image ≡ d → ordered (thresholds_of thresholds) ≡ e → granted (creation_answer true b c d e) (fresh port image thresholds) ≡ checked port image thresholds
judged_as port image thresholds p q r s t = rw (le-leb port 31 p, q, r, s, t) refl

-- and of another image that is the same
pub right : {store image : List ℕ} {d : Bool} → store ≡ image → d ≡ checksum_right store → checksum_right image ≡ d
right e f = rw (f, e) refl

pub in_order : {codes thresholds : List ℕ} {t : List (List ℤ)} {d : Bool} → codes ≡ thresholds → t ≡ thresholds_of codes → d ≡ ordered t → ordered (thresholds_of thresholds) ≡ d
in_order e f g = rw (g, f, e) refl

-- refused, the record is the other one
pub refused : (answer : Answer (Unit {0})) (m n : Module) {why : Refusal} → granted answer n ≡ Err why → ◌≡◌ {A = Outcome (Answer (Unit {0}))} (record { next = m; answer = Err why }) (taken answer m n)
refused (Ok u) m n e = cc
refused (Err w) m n e = ap (λ (x : Answer (Unit {0})). taken x m n) (by_case e)
  where
    by_case : {why : Refusal} → ◌≡◌ {A = Answer Module} (Err w) (Err why) → ◌≡◌ {A = Answer (Unit {0})} (Err why) (Err w)
    by_case e = cc

-- What was judged so far, at each refusal and at the end.
use Rattle.std.specs.Prelude.{◌≡◌, Err}
use Rattle.std.proofs.Common.{rules}
use mathlib.Core.Path.{refl, sym, ap, ◌∙◌}
use Rattle.answers.specs.declared.Refusal.TheVariants.{ImageLength, ThresholdsLength}
use Rattle.creation.proofs.Judging.{fits, same, short, judged_as, right, in_order}
use Rattle.creation.proofs.checked.Goals as goal

pub returns-in_err-codes : goal.returns-in_err-codes
returns-in_err-codes c =
    let image = fits 256 c.args.image.now ImageLength c.in_ok-store.store (sym c.sized.ensures ∙ c.in_ok-store.was) in
    let table = short 40 c.args.thresholds.now ThresholdsLength c.in_err-codes.field-0.0 (sym c.sized-2.ensures ∙ c.in_err-codes.was) in
    let e : c.from_residual-in_err-codes.result ≡ Err c.in_err-codes.field-0.0 = search rules in
    e ∙ ap Err table.1 ∙ judged_as c.args.port c.args.image.now c.args.thresholds.now c.if-not-low.false image table.0 refl refl

pub returns-then-not-checksum_right : goal.returns-then-not-checksum_right
returns-then-not-checksum_right c =
    let image = fits 256 c.args.image.now ImageLength c.in_ok-store.store (sym c.sized.ensures ∙ c.in_ok-store.was) in
    let store = same 256 c.args.image.now ImageLength c.in_ok-store.store (sym c.sized.ensures ∙ c.in_ok-store.was) in
    let table = fits 40 c.args.thresholds.now ThresholdsLength c.in_ok-codes.codes (sym c.sized-2.ensures ∙ c.in_ok-codes.was) in
    judged_as c.args.port c.args.image.now c.args.thresholds.now c.if-not-low.false image table (right store (sym c.if-not-checksum_right.true ∙ c.checksum_right.ensures)) refl

pub returns-then-not-ordered : goal.returns-then-not-ordered
returns-then-not-ordered c =
    let image = fits 256 c.args.image.now ImageLength c.in_ok-store.store (sym c.sized.ensures ∙ c.in_ok-store.was) in
    let store = same 256 c.args.image.now ImageLength c.in_ok-store.store (sym c.sized.ensures ∙ c.in_ok-store.was) in
    let table = fits 40 c.args.thresholds.now ThresholdsLength c.in_ok-codes.codes (sym c.sized-2.ensures ∙ c.in_ok-codes.was) in
    let codes = same 40 c.args.thresholds.now ThresholdsLength c.in_ok-codes.codes (sym c.sized-2.ensures ∙ c.in_ok-codes.was) in
    judged_as c.args.port c.args.image.now c.args.thresholds.now c.if-not-low.false image table (right store (sym c.if-not-checksum_right.false ∙ c.checksum_right.ensures))
    (in_order codes c.thresholds_of.ensures (sym c.if-not-ordered.true ∙ c.ordered.ensures))

pub returns : goal.returns
returns c =
    let image = fits 256 c.args.image.now ImageLength c.in_ok-store.store (sym c.sized.ensures ∙ c.in_ok-store.was) in
    let store = same 256 c.args.image.now ImageLength c.in_ok-store.store (sym c.sized.ensures ∙ c.in_ok-store.was) in
    let table = fits 40 c.args.thresholds.now ThresholdsLength c.in_ok-codes.codes (sym c.sized-2.ensures ∙ c.in_ok-codes.was) in
    let codes = same 40 c.args.thresholds.now ThresholdsLength c.in_ok-codes.codes (sym c.sized-2.ensures ∙ c.in_ok-codes.was) in
    rw (c.fresh.ensures, store, codes)
    (judged_as c.args.port c.args.image.now c.args.thresholds.now c.if-not-low.false image table (right store (sym c.if-not-checksum_right.false ∙ c.checksum_right.ensures))
    (in_order codes c.thresholds_of.ensures (sym c.if-not-ordered.false ∙ c.ordered.ensures)))

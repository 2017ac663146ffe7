-- Each row is its four codes, each as a number.
use mathlib.Core.Path.{refl}
use lib.IntN.{pos}
use borrow.Author.Rules.{rules}
use Rattle.dom.specs.Codes.{signed_code}
use Rattle.thresholds.proofs.Mapped.{mapped}
use Rattle.thresholds.proofs.thresholds_of.Goals as goal

pub returns : goal.returns
returns c =
    let temperature = mapped signed_code 0 c.map.ensures.items (search rules) (λ p q x y h. search rules) in
    let bias = mapped pos 0 c.map-2.ensures.items (search rules) (λ p q x y h. search rules) in
    let transmit = mapped pos 0 c.map-3.ensures.items (search rules) (λ p q x y h. search rules) in
    let receive = mapped pos 0 c.map-4.ensures.items (search rules) (λ p q x y h. search rules) in
    rw (temperature, bias, transmit, receive, c.codes_at.ensures, c.codes_at-2.ensures, c.codes_at-3.ensures, c.codes_at-4.ensures) refl

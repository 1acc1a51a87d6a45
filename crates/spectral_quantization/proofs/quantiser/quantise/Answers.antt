-- `quantiser::quantise` meets its contract: on either side of zero it cuts the sum that the definition has there.
-- Assumes nothing.
use mathlib.Core.Path.{◌≡◌, refl, sym, ap, ◌∙◌}
use mathlib.Core.Bool.{true, false}
use lib.Ieee.{Float, round, of_bits, le}
use mir.Syntax.{w16}
use mir.ValLaws.{to_z-of_z}
use Rattle.spectral_quantization.specs.Single.{◌+ᶠ◌, ◌-ᶠ◌, ◌/ᶠ◌, constant}
use Rattle.spectral_quantization.specs.Quantiser.{moved, cut}
use Rattle.spectral_quantization.proofs.Cuts.{cut-is-cast}
use Rattle.spectral_quantization.proofs.quantiser.quantise.Goals as goal

-- on either side of zero
module _ (x gain : Float) where
  up : le (constant 0 1) x ≡ true → x /ᶠ gain +ᶠ constant 375 1000 ≡ moved x gain
  up h = rw h refl

  down : le (constant 0 1) x ≡ false → x /ᶠ gain -ᶠ constant 375 1000 ≡ moved x gain
  down h = rw h refl

pub returns-then-x : goal.returns-then-x
unfolding constant round of_bits
returns-then-x c =
    let a = c.args in
    to_z-of_z w16 c.saturating_f32_to_i16.result (record { sfits = c.saturating_f32_to_i16.type_inv })
    ∙ c.saturating_f32_to_i16.ensures
    ∙ sym (cut-is-cast (a.x /ᶠ a.gain +ᶠ constant 375 1000))
    ∙ ap cut (up a.x a.gain c.if-x.true)

pub returns-else-x : goal.returns-else-x
unfolding constant round of_bits
returns-else-x c =
    let a = c.args in
    to_z-of_z w16 c.saturating_f32_to_i16-else-x.result (record { sfits = c.saturating_f32_to_i16-else-x.type_inv })
    ∙ c.saturating_f32_to_i16-else-x.ensures
    ∙ sym (cut-is-cast (a.x /ᶠ a.gain -ᶠ constant 375 1000))
    ∙ ap cut (down a.x a.gain c.if-x.false)

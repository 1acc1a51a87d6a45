-- The quantiser, document 01, "Floats": "one line at a time, single precision: x/gain, plus 0.375 if x >= 0 else minus, cut toward
-- zero, held to -32768..32767, NaN to 0".
use Rattle.std.specs.Prelude.{ℕ, ◌*◌, ◌/◌, min, Bool, true, false, cond, ℤ, pos, neg_ℤ, Float}
use Rattle.std.specs.Float.{nan, inf, fin}
use Rattle.std.specs.Float.Ieee.{up, down, le}
use Rattle.spectral_quantization.specs.Single.{◌+ᶠ◌, ◌-ᶠ◌, ◌/ᶠ◌, constant}

-- "x/gain, plus 0.375 if x >= 0 else minus": -0 is at least 0, a NaN is not
abbrev pub moved : Float → Float → Float
moved x gain = cond (le (constant 0 1) x) (x /ᶠ gain +ᶠ constant 375 1000) (x /ᶠ gain -ᶠ constant 375 1000)

-- "held to -32768..32767": a size, with its sign
abbrev pub held : Bool → ℕ → ℤ
held true size = neg_ℤ (pos (min size 32768))
held false size = pos (min size 32767)

-- "cut toward zero": the size of a finite value is m * 2^e = m * up e / down e; an infinity is beyond either end. "NaN to 0"
abbrev pub cut : Float → ℤ
cut nan = pos 0
cut (inf s) = held s 32768
cut (fin s m e) = held s (m * up e / down e)

abbrev pub quantised : Float → Float → ℤ
quantised x gain = cut (moved x gain)

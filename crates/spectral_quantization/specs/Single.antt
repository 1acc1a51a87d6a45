-- Single precision: the logic's account of IEEE 754 at binary32, where each operation is rounded once, to the nearest number.
use Rattle.std.specs.Prelude.{ℕ, false, Float}
use Rattle.std.specs.Float.{binary32}
use Rattle.std.specs.Float.Ieee.{round, add, sub, mul, div}

infixl 6 ◌+ᶠ◌
infixl 6 ◌-ᶠ◌
infixl 7 ◌*ᶠ◌
infixl 7 ◌/ᶠ◌
abbrev pub ◌+ᶠ◌ : Float → Float → Float
x +ᶠ y = add binary32 x y

abbrev pub ◌-ᶠ◌ : Float → Float → Float
x -ᶠ y = sub binary32 x y

abbrev pub ◌*ᶠ◌ : Float → Float → Float
x *ᶠ y = mul binary32 x y

abbrev pub ◌/ᶠ◌ : Float → Float → Float
x /ᶠ y = div binary32 x y

-- a number that the source writes: the nearest to a / b
unfoldable pub constant : ℕ → ℕ → Float
constant a b = round binary32 false a b

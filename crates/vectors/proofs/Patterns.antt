-- A pattern of 32 bits that is no NaN's. Assumes nothing.
use Prim.Native.Nat.{ℕ, ◌%◌, ◌≤◌}
use mathlib.Core.Bool.{not}
use borrow.Author.Tests.{le-ltb}
use lib.Dec.{T}
use lib.Ieee.{binary32, nan_bits}
use lib.Ieee.Bits.{nan_bits_above}

pub no_nan : (bits : ℕ) → bits % 0x8000_0000 ≤ 0x7f80_0000 → T (not (nan_bits binary32 bits))
no_nan bits h = rw (nan_bits_above binary32 bits, le-ltb 0x7f80_0000 (bits % 0x8000_0000) h) tt

-- What a writer is handed, a record and places for the indices, is the content that the slices give.
-- Assumes nothing.
use Prim.Native.Nat.{ℕ}
use mathlib.Core.Path.{◌≡◌, refl}
use mathlib.Core.List.{List}
use lib.IntN.{ℤ}
use Rattle.side_info.specs.declared.SideInfo.{SideInfo}
use Rattle.frame_writer.specs.Frame.{Content}
use Rattle.host.specs.Given.{side_of, places_of, content_of}

pub handed-given : {side : SideInfo} {places : List ℕ} (words : List ℕ) (first second : ℕ) (indices : List ℕ) (lines : List ℤ) (residual : List ℕ) → side ≡ side_of words → places ≡ places_of indices →
    ◌≡◌ {A = Content} (record { side = side; first = first; second = second; indices = places; lines = lines; residual = residual }) (content_of words first second indices lines residual)
handed-given words first second indices lines residual s p = rw (s, p) refl

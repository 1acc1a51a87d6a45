-- What the reader returns, the writer takes: a frame that was read, as content to write, and what is then not given of 4 and 13 to 16.
use Rattle.std.specs.Prelude.{ℕ, ◌+◌, ◌*◌, ◌/◌, ◌≤◌, ◌<◌, ◌≡◌, true, length, get_or}
use Rattle.common.specs.Configuration.{ne}
use Rattle.common.specs.Tables.{Tables}
use Rattle.common.specs.declared.configuration.Configuration.{Configuration}
use Rattle.contexts.specs.Lines.{escapes_at}
use Rattle.tns_data.specs.Tns.{sixteen_of}
use Rattle.spectral_data.specs.Spectral.{levels_of}
use Rattle.residual_data.specs.Residual.{nonzero}
use Rattle.frame_reader.specs.Frame.{Frame}
use Rattle.frame_reader.specs.Stated.{FewEscapes}
use Rattle.frame_writer.specs.Frame.{Content, symbols_of, least_bit, early_bits, reserved, fields_pass, first_failing}

abbrev pub content_of : Frame → Content
content_of x =
    record {
      side = x.side;
      first = x.tns.first.order;
      second = x.tns.second.order;
      indices = sixteen_of x.tns;
      lines = x.lines;
      residual = x.residual;
    }

-- in the crate reading no pair was read with fourteen escapes: only such a pair has a line above 32,767. The standard reading has none
abbrev pub FewInCrate : Configuration → Frame → Type 0
FewInCrate k x = k.reading ≡ 0 → FewEscapes x

-- each pair was read with the escapes that its lines, as they are returned, have: a frame may spend more
abbrev pub SameEscapes : Frame → Type 0
SameEscapes x = (p : ℕ) → p < x.side.lastnz / 2 → escapes_at x.lines p ≡ get_or (levels_of x.pairs) p 0

-- in least-bit mode the readings part, and the crate's may alter a line whose pair was not escaped
abbrev pub StandardLate : Configuration → Frame → Type 0
StandardLate k x = least_bit (content_of x) ≡ true → k.reading ≡ 1

pub record Taken (k : Configuration) (t : Tables) (bytes : ℕ) (x : Frame) : Type 0 where
  -- 4
  pub count : length x.lines ≡ ne k.duration k.fs_ind
  -- 13
  pub fields : fields_pass k.fs_ind (ne k.duration k.fs_ind) (content_of x) ≡ true
  -- 14
  pub lines : FewInCrate k x → first_failing (content_of x) ≡ length x.lines
  -- 15
  pub residual : length x.residual ≤ nonzero x.lines
  -- 16: the bits that the content needs are those that were read
  pub room : StandardLate k x → FewInCrate k x → SameEscapes x → length (early_bits k.fs_ind (ne k.duration k.fs_ind) (content_of x)) + reserved (symbols_of k t (8 * bytes) (ne k.duration k.fs_ind) (content_of x)) ≤ 8 * bytes

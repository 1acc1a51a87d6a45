-- The one statement: in every row of the table the definitions give what document 01 states. It is computed.
-- Assumes nothing.
use mathlib.Core.Path.{◌≡◌, refl}
use mathlib.Core.List.{map}
use Rattle.common.specs.Tables.{all_at_least, total}
use Rattle.common.specs.Flat.{tabulate}
use Rattle.buffer_reader.specs.Tail.{field}
use Rattle.buffer_writer.specs.Writes.{put_field}
use Rattle.side_info.specs.Layout.{put_fields}
use Rattle.side_info.specs.Reader.{least_width}
use Rattle.common.specs.Last.{last_below, floor_log2}
use Rattle.range_decoder.specs.Decoder.{owner}
use Rattle.residual_data.specs.Sums.{weighted}
use Rattle.cases.specs.Starred.{Case, odd_lines, starred}

pub all-as-stated : map (λ (c : Case). c.defined) starred ≡ map (λ (c : Case). c.stated) starred
unfolding all_at_least total tabulate put_field put_fields field least_width last_below floor_log2 owner weighted odd_lines
all-as-stated = refl

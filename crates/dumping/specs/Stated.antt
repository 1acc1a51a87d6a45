-- What is stated of the tables while a recording is dumped: each has its size, and a table that was taken is its field's content.
use Rattle.std.specs.Prelude.{ℕ, ◌*◌, ◌≡◌, List, length}
use Rattle.common.specs.Tables.{Tables}
use Rattle.recording.specs.Contents.{words_of}
use Rattle.recording.specs.Tagged.{tag_lookup, tag_frequencies, tag_bits, tag_orders, tag_coefficients}

pub record Sized (t : Tables) : Type 0 where
  pub lookup : length t.lookup ≡ 4096
  pub frequencies : length t.frequencies ≡ 64 * 17
  pub bits : length t.bits ≡ 64 * 17
  pub orders : length t.orders ≡ 2 * 8
  pub coefficients : length t.coefficients ≡ 8 * 17

pub record Taken (tag : ℕ) (content : List ℕ) (t : Tables) : Type 0 where
  pub lookup : tag ≡ tag_lookup → t.lookup ≡ content
  pub frequencies : tag ≡ tag_frequencies → t.frequencies ≡ words_of content
  pub bits : tag ≡ tag_bits → t.bits ≡ words_of content
  pub orders : tag ≡ tag_orders → t.orders ≡ words_of content
  pub coefficients : tag ≡ tag_coefficients → t.coefficients ≡ words_of content

-- What a field holds: its bytes, the 16-bit numbers of a table, a configuration.
use Rattle.std.specs.Prelude.{ℕ, ◌+◌, ◌*◌, List, [], ◌∷◌, get_or, take, drop}
use Rattle.common.specs.declared.configuration.Configuration.{Configuration}
use Rattle.recording.specs.declared.reader.Field.{Field}

abbrev pub content_of : List ℕ → Field → List ℕ
content_of input x = take x.size (drop x.content input)

-- "16-bit big-endian"; an odd byte behind the last pair makes no number
unfoldable pub words_of : List ℕ → List ℕ
words_of [] = []
words_of (high ∷ []) = []
words_of (high ∷ low ∷ rest) = (high * 256 + low) ∷ words_of rest

-- "configuration (fs_ind, duration, reading)"
abbrev pub configuration_of : List ℕ → Configuration
configuration_of xs = record { fs_ind = get_or xs 0 0; duration = get_or xs 1 0; reading = get_or xs 2 0 }

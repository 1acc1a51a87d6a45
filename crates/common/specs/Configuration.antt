-- Document 01, "Configuration and table set", first paragraph: the limits of a configuration, and its encoded lines `ne`.
use Rattle.std.specs.Prelude.{ℕ, Bool, not, ◌&&◌, [], ◌∷◌, leb, get_or}
use Rattle.common.specs.Reply.{Reply, Answer, accepted, given, and_then, outside_limits, wrong_length}
use Rattle.common.specs.declared.configuration.Configuration.{Configuration}
use Rattle.common.specs.declared.configuration.ConfigurationError.{ConfigurationError}
use Rattle.common.specs.declared.configuration.ConfigurationError.TheVariants.{OutsideLimits, WrongLength}

-- `fs_ind` 0..4; duration 0 (10 ms) or 1 (7.5 ms); reading 0 (crate) or 1 (standard)
abbrev pub configuration_passes : Configuration → Bool
configuration_passes c = leb c.fs_ind 4 && leb c.duration 1 && leb c.reading 1

-- `ne` by duration and `fs_ind`
abbrev pub ne : ℕ → ℕ → ℕ
ne duration fs =
    get_or (get_or ((80 ∷ 160 ∷ 240 ∷ 320 ∷ 400 ∷ []) ∷ (60 ∷ 120 ∷ 180 ∷ 240 ∷ 300 ∷ []) ∷ []) duration []) fs 0

-- "frame not 20..400 bytes" is refusal 2
abbrev pub length_passes : ℕ → Bool
length_passes bytes = leb 20 bytes && leb bytes 400

-- the number of encoded lines, or refusal 1
abbrev pub lines_of : Configuration → Answer ℕ
lines_of c = given (not (configuration_passes c)) outside_limits (accepted (ne c.duration c.fs_ind))

-- the same for a call on a frame of so many bytes: 1, then 2
abbrev pub frame_lines : Configuration → ℕ → Answer ℕ
frame_lines c bytes = and_then (lines_of c) (λ n. given (not (length_passes bytes)) (wrong_length bytes) (accepted n))

-- document 01's number and values of each refusal
abbrev pub reply_of : ConfigurationError → Reply
reply_of OutsideLimits = outside_limits
reply_of (WrongLength bytes) = wrong_length bytes

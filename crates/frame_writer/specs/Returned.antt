-- What the call answers, and what the lent frame holds behind it: a refused call changes nothing.
use Rattle.std.specs.Prelude.{Result, Ok, Err, List, ℕ}
use Rattle.common.specs.Reply.{Reply, Answer, accepted, refused, and_then, outside_limits, wrong_length, tables_fail, wrong_count, field_outside, line_outside, residual_too_long, no_room}
use Rattle.common.specs.declared.configuration.ConfigurationError.{ConfigurationError}
use Rattle.common.specs.declared.configuration.ConfigurationError.TheVariants.{OutsideLimits as ConfigurationOutside, WrongLength as ConfigurationLength}
use Rattle.frame_writer.specs.Frame.{Content}
use Rattle.frame_writer.specs.declared.Content.{Content as Lent}
use Rattle.frame_writer.specs.declared.WriteError.{WriteError}
use Rattle.frame_writer.specs.declared.WriteError.TheVariants.{OutsideLimits, WrongLength, TablesFail, WrongCount, FieldOutside, LineOutside, ResidualTooLong, NoRoom}

-- document 01's number and values of each refusal
abbrev pub reply_of : WriteError → Reply
reply_of OutsideLimits = outside_limits
reply_of (WrongLength len) = wrong_length len
reply_of TablesFail = tables_fail
reply_of (WrongCount count) = wrong_count count
reply_of FieldOutside = field_outside
reply_of (LineOutside place) = line_outside place
reply_of ResidualTooLong = residual_too_long
reply_of NoRoom = no_room

-- what each error from below says here
abbrev pub of_configuration : ConfigurationError → WriteError
of_configuration ConfigurationOutside = OutsideLimits
of_configuration (ConfigurationLength len) = WrongLength len

-- what is lent to be written
abbrev pub content_of : Lent → Content
content_of w =
    record { side = w.side; first = w.first_order; second = w.second_order; indices = w.indices; lines = w.lines.now; residual = w.residual.now }

-- nothing is told of a frame but that it is written
abbrev pub written_of : Result (Unit {0}) WriteError → Answer (Unit {0})
written_of (Ok u) = accepted tt
written_of (Err e) = refused (reply_of e)

abbrev pub told : Answer (List ℕ) → Answer (Unit {0})
told a = and_then a (λ f. accepted tt)

abbrev pub frame_behind : Answer (List ℕ) → List ℕ → List ℕ
frame_behind (accepted f) before = f
frame_behind (refused r) before = before

-- What the contract says decides the answer: every refusal by its number and value. Assumes nothing.
use mathlib.Core.Path.{◌≡◌, refl, ap}
use mathlib.Core.Bool.{cond}
use lib.Dec.{eqb}
use lib.ListN.{get_or}
use Rattle.std.specs.Prelude.{Result, Ok, Err}
use Rattle.common.specs.Reply.{Reply, Answer, accepted, refused}
use Rattle.common.proofs.Unique.{from_back}
use Rattle.frame_writer.specs.Returned.{reply_of, written_of}
use Rattle.frame_writer.specs.declared.WriteError.{WriteError}
use Rattle.frame_writer.specs.declared.WriteError.TheVariants.{OutsideLimits, WrongLength, TablesFail, WrongCount, FieldOutside, LineOutside, ResidualTooLong, NoRoom}

unfoldable pub error_back : Reply → WriteError
error_back r =
    let value = get_or r.values 0 0 in
    cond (eqb r.number 1) OutsideLimits
    (cond (eqb r.number 2) (WrongLength value)
    (cond (eqb r.number 3) TablesFail
    (cond (eqb r.number 4) (WrongCount value)
    (cond (eqb r.number 13) FieldOutside
    (cond (eqb r.number 14) (LineOutside value)
    (cond (eqb r.number 15) ResidualTooLong NoRoom))))))

error-back : (e : WriteError) → error_back (reply_of e) ≡ e
unfolding error_back
error-back OutsideLimits = refl
error-back (WrongLength len) = refl
error-back TablesFail = refl
error-back (WrongCount count) = refl
error-back FieldOutside = refl
error-back (LineOutside place) = refl
error-back ResidualTooLong = refl
error-back NoRoom = refl

written_back : Answer (Unit {0}) → Result (Unit {0}) WriteError
written_back (accepted u) = Ok u
written_back (refused r) = Err (error_back r)

written-found : (r : Result (Unit {0}) WriteError) → written_back (written_of r) ≡ r
unfolding written_back
written-found (Ok u) = refl
written-found (Err e) = ap Err (error-back e)

pub written-unique : (a b : Result (Unit {0}) WriteError) → written_of a ≡ written_of b → a ≡ b
written-unique = from_back written_of written_back written-found

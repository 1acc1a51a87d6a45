-- The five theorems of the round trip, each by its name: what is written bears its content, and so does what is damaged, with other lines;
-- what bears content is read as far as its bits have room. Assumes nothing.
use Rattle.round_trip.specs.RoundTrip.{WrittenIsRead, DamageIsKnown, SignsAreHarmless, ReadAgain}
use Rattle.round_trip.proofs.Trip.{read-is-written}
use Rattle.round_trip.proofs.Damage.{damage-is-known as damage, signs-harmless}
use Rattle.round_trip.proofs.Again.{read_again as again}
use Rattle.round_trip.proofs.InCrate.{crate-not-read, crate-misread}

-- 1. Whatever the standard writer accepts, the standard reader reads, and returns what went in, less what was dropped for room
pub written-is-read : WrittenIsRead 1
written-is-read = read-is-written

-- 2. Damage behind the head's own bits and the side information gives 9 in a step `bit`, or 12, or leaves every symbol as it was
pub damage-is-known : DamageIsKnown 1
damage-is-known = damage

-- 3. Where only signs, late bits and bits that are nobody's differ, the frame is accepted
pub signs-are-harmless : SignsAreHarmless 1
signs-are-harmless = signs-harmless

-- 4. What was read with the least escapes for its lines is written again at the same length, and reads the same
pub read_again : ReadAgain 1
read_again = again written-is-read

-- 5. In the crate reading the first two are false, by one frame each
pub not-in-the-crate : (WrittenIsRead 0 → ⊥) × (DamageIsKnown 0 → ⊥)
not-in-the-crate = (crate-not-read, crate-misread)

-- What is known of a number that was read: a flag is 0 or 1, a field below 2 to its width, J below its limit.
-- Assumes nothing.
use Prim.Native.Nat.{ℕ, ◌≤◌, ◌<◌, ◌^◌}
use mathlib.Core.Path.{◌≡◌, refl, sym}
use mathlib.Core.Bool.{Bool, true, false, cond}
use mathlib.Core.List.{List}
use native.Mathlib.Omega.{arith}
use borrow.Author.Tests.{leb-false}
use lib.Dec.{leb, eqb}
use Rattle.common.specs.Reply.{Reply, Answer, accepted, refused, given, and_then, side, joint_too_large25, joint_too_large24}
use Rattle.common.proofs.Bools.{by-test}
use Rattle.buffer_reader.specs.Steps.{found, refusing}
use Rattle.buffer_reader.specs.declared.Cursor.{Cursor}
use Rattle.buffer_reader.proofs.Steps.{Holds, holds_at, field-holds, flag-holds}
use Rattle.side_info.specs.Reader.{side_field, side_flag, part_bits, joint_bits, read_joint}
use Rattle.side_info.proofs.Widths.{by-msb}

-- a value is below a limit
abbrev pub Below : ℕ → ℕ × Cursor → Type 0
Below limit r = r.0 < limit

-- whatever a reading's value is, what follows it holds
pub holds_after : {A B : Type 0} (P : A → Type 0) (b : Answer B) (k : B → Answer A) → ((x : B) → Holds P (k x)) → Holds P (and_then b k)
holds_after P (accepted x) k go = go x
holds_after P (refused r) k go = tt

-- behind a check that was passed its test is false
pub holds-checked : {A : Type 0} (P : A → Type 0) (t : Bool) (r : Reply) (a : Answer A) → (t ≡ false → Holds P a) → Holds P (given t r a)
holds-checked P true r a h = tt
holds-checked P false r a h = h refl

-- J's limit, by msb
abbrev pub joint_limit : ℕ → ℕ
joint_limit msb = cond (eqb msb 0) 33460056 16708096

pub joint-holds : (msb : ℕ) (f : List ℕ) (c : Cursor) → Holds (Below (joint_limit msb)) (read_joint msb f c)
joint-holds msb f c = holds_after (Below (joint_limit msb)) (side_field (joint_bits msb) f c) _ (λ r. by (eqb msb 0) r)
  where
    by : (t : Bool) (r : ℕ × Cursor) → Holds (Below (cond t 33460056 16708096)) (cond t (refusing (leb 33460056 r.0) (joint_too_large25 r.0) (found r.0)) (refusing (leb 16708096 r.0) (joint_too_large24 r.0) (found r.0)) f r.1)
    by true r =
        holds-checked (Below 33460056) (leb 33460056 r.0) (joint_too_large25 r.0) (accepted r) (λ e. leb-false 33460056 r.0 e)
    by false r =
        holds-checked (Below 16708096) (leb 16708096 r.0) (joint_too_large24 r.0) (accepted r) (λ e. leb-false 16708096 r.0 e)

module _ (f : List ℕ) (c : Cursor) {v : ℕ} {d : Cursor} where
  pub flag-low : accepted (v, d) ≡ side_flag f c → v < 2
  flag-low e = holds_at (Below 2) (side_flag f c) (flag-holds side f c) (sym e)

  pub field-low : (n : ℕ) → accepted (v, d) ≡ side_field n f c → v < 2 ^ n
  field-low n e = holds_at (Below (2 ^ n)) (side_field n f c) (field-holds side n f c) (sym e)

  pub joint-low : (msb : ℕ) → accepted (v, d) ≡ read_joint msb f c → v < 2 ^ 25
  joint-low msb e =
      by-test (eqb msb 0) (λ t. omega (arith, rw t at below)) (λ t. omega (arith, rw t at below))
    where
      below : v < joint_limit msb
      below = holds_at (Below (joint_limit msb)) (read_joint msb f c) (joint-holds msb f c) (sym e)

-- a gain's part
pub part_low : (v msb : ℕ) → v < 2 ^ part_bits msb → v ≤ 3
part_low v msb = by-msb (λ part joint. v < 2 ^ part → v ≤ 3) msb (λ l. omega arith) (λ l. omega arith)

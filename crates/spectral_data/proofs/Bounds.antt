-- What holds behind each part of the spectral stage: the range passes again, no cursor goes back, the lines keep their bounds, and a
-- refusal is 9 at a bit, or 10 or 11 at a symbol. By the forms of codings. Assumes nothing.
use Prim.Native.Nat.{ℕ, zero, suc, ◌+◌, ◌*◌, ◌^◌, ◌≤◌, ◌<◌}
use mathlib.Core.Path.{◌≡◌, refl, ap}
use mathlib.Core.Bool.{Bool, true, false, cond, ◌&&◌, false≢true}
use mathlib.Core.List.{List, [], ◌∷◌}
use mathlib.Core.Logic.{◌⊎◌, inl, inr}
use native.Mathlib.Omega.{arith}
use borrow.Author.Tests.{ltb-true, ltb-false, eqb-false}
use lib.Dec.{ltb, eqb}
use lib.ListN.{length}
use lib.IntN.{ℤ, pos, neg_ℤ, nat_abs}
use Rattle.common.specs.Reply.{Reply, symbol, bit, in_step, no_tail_room, head_past_end, low_beyond_limit, fourteen_escapes}
use Rattle.common.specs.Tables.{row_at, row_passes, rows_pass, lookup_passes, part_passes}
use Rattle.common.proofs.Bools.{and_right}
use Rattle.common.proofs.Cumulatives.{row-passed}
use Rattle.contexts.specs.Contexts.{row_of, escape_symbol, lookup_start, first_part, second_part}
use Rattle.contexts.proofs.Lookups.{row_low}
use Rattle.coding.specs.Coding.{met, symbol_by, tail_bit_by}
use Rattle.coding.proofs.Keeps.{BothMoved, both-byte, both-bit, Keeps, keeps-done, keeps-onward, keeps-if, keeps-refusing, met-symbol, met-bit}
use Rattle.spectral_data.specs.Spectral.{Pair, Levels, low_bits, behind_escape, read_levels, read_sign, read_pair, read_pairs}
use Rattle.spectral_data.specs.Private.{Turned, last, escape, turn_by, Bounded, signs_by}
use Rattle.spectral_data.proofs.Sizes.{low-more, first-most, second-most, second-few, signed-size}

-- the refusals of this stage, 9 to 11 in their steps: level 13 is the last of a symbol, and behind it a sign may be met at 14
pub data Meets (standard : Bool) : Reply → Type 0 where
  bit_missing : (p level tail : ℕ) → level ≤ 14 → Meets standard (in_step (bit p level) (no_tail_room 1 tail))
  byte_missing : (p level head : ℕ) → level ≤ 13 → Meets standard (in_step (symbol p level) (head_past_end head))
  low_beyond : (p level low limit : ℕ) → level ≤ 13 → Meets standard (in_step (symbol p level) (low_beyond_limit low limit))
  too_many : (p : ℕ) → standard ≡ true → Meets standard (fourteen_escapes p)

-- a pair's bounds; in the standard reading it has fewer than fourteen escapes
pub record Sized (standard : Bool) (x : Pair) : Type 0 where
  pub few : x.escapes ≤ 14
  pub fewer : standard ≡ true → x.escapes < 14
  pub symbol_most : x.last ≤ 16
  pub ended : ((x.escapes < 14) × (x.last < 16)) ⊎ ((x.escapes ≡ 14) × (x.last ≡ 16))
  pub first : nat_abs x.first ≤ 32767
  pub second : nat_abs x.second ≤ 81919
  pub second_few : x.escapes < 14 → nat_abs x.second ≤ 32767

pub data All (Q : Pair → Type 0) : List Pair → Type 0 where
  none : All Q []
  more : {x : Pair} {xs : List Pair} → Q x → All Q xs → All Q (x ∷ xs)

-- the pairs are as many as were asked for, and so is each
pub record Pairs (Q : Pair → Type 0) (n : ℕ) (xs : List Pair) : Type 0 where
  pub count : length xs ≡ n
  pub each : All Q xs

-- two low bits
abbrev pub Bits : ℕ × ℕ → Type 0
Bits low = (low.0 ≤ 1) × (low.1 ≤ 1)

-- a level behind which there may be another
abbrev pub Onward : Bool → ℕ → Type 0
Onward standard level = standard ≡ true → level < 13

module _ (standard : Bool) (p level : ℕ) where
  bit-going : level ≤ 14 → Keeps BothMoved (Meets standard) (λ b. b ≤ 1) (met (bit p level) tail_bit_by)
  bit-going h = met-bit (Meets standard) (bit p level) (λ tail. bit_missing p level tail h) both-bit

  -- whatever is known of the level beside
  low-going : (Known : Type 0) → Known → (lsb : Bool) → level ≤ 14 → Keeps BothMoved (Meets standard) (λ low. Bits low × Known) (low_bits lsb p level)
  low-going Known known lsb h =
      keeps-if (Meets standard) (λ low. Bits low × Known) (lsb && eqb level 0) _ _
      (λ e. keeps-done (Meets standard) (λ low. Bits low × Known) (0, 0) ((omega arith, omega arith), known))
      (λ e. keeps-onward (Meets standard) (λ a. a ≤ 1) (λ low. Bits low × Known) _ _ (bit-going h)
      (λ a qa. keeps-onward (Meets standard) (λ b. b ≤ 1) (λ low. Bits low × Known) _ _ (bit-going h)
      (λ b qb. keeps-done (Meets standard) (λ low. Bits low × Known) (a, b) ((qa, qb), known))))

-- behind an escape that is no damage
behind-going : (standard lsb : Bool) (p level : ℕ) → level ≤ 13 → Keeps BothMoved (Meets standard) (λ low. Bits low × Onward standard level) (behind_escape standard lsb p level)
behind-going true lsb p level h =
    keeps-refusing (Meets true) (λ low. Bits low × Onward true level) (eqb level 13) (fourteen_escapes p) (low_bits lsb p level) (too_many p refl)
    (λ test. low-going true p level (Onward true level) (λ is. omega (arith, eqb-false level 13 test)) lsb (omega arith))
behind-going false lsb p level h = low-going false p level (Onward false level) (λ no. absurd (false≢true no)) lsb (omega arith)

-- ---- signs and pairs, whatever is said of refusals and of a pair

-- a line of its magnitude
abbrev pub Of : ℕ → ℤ → Type 0
Of magnitude z = nat_abs z ≡ magnitude

module _ (P : Reply → Type 0) (Q : Pair → Type 0) where
  sign-keeps : (p level magnitude : ℕ) → ((tail : ℕ) → P (in_step (bit p level) (no_tail_room 1 tail))) → Keeps BothMoved P (Of magnitude) (read_sign p level magnitude)
  sign-keeps p level magnitude missing =
      keeps-if P (Of magnitude) (ltb 0 magnitude) _ _
      (λ e. keeps-onward P (λ b. b ≤ 1) (Of magnitude) _ _ (met-bit P (bit p level) missing both-bit)
      (λ minus q. keeps-done P (Of magnitude) (cond (eqb minus 1) (neg_ℤ (pos magnitude)) (pos magnitude)) (signed-size (eqb minus 1) magnitude)))
      (λ e. keeps-done P (Of magnitude) (pos 0) (omega (arith, ltb-false 0 magnitude e)))

  pub signs-keep : (p : ℕ) (l : Levels) → ((tail : ℕ) → P (in_step (bit p l.escapes) (no_tail_room 1 tail))) →
      ((first second : ℤ) → Of (l.low_first + first_part l.last * 2 ^ l.escapes) first → Of (l.low_second + second_part l.last * 2 ^ l.escapes) second → Q (record { escapes = l.escapes; last = l.last; first = first; second = second })) →
      Keeps BothMoved P Q (signs_by p l)
  signs-keep p l missing so =
      keeps-onward P _ Q _ _ (sign-keeps p l.escapes _ missing)
      (λ first q. keeps-onward P _ Q _ _ (sign-keeps p l.escapes _ missing)
      (λ second r. keeps-done P Q (record { escapes = l.escapes; last = l.last; first = first; second = second }) (so first second q r)))

  pub pairs-keep : (lookup frequencies : List ℕ) (standard lsb : Bool) → ((p t : ℕ) → Keeps BothMoved P Q (read_pair lookup frequencies standard lsb p t)) → (rate ne p n context : ℕ) → Keeps BothMoved P (Pairs Q n) (read_pairs lookup frequencies standard lsb rate ne p n context)
  unfolding read_pairs
  pairs-keep lookup frequencies standard lsb pair rate ne p zero context = keeps-done P (Pairs Q 0) [] (record { count = refl; each = none })
  pairs-keep lookup frequencies standard lsb pair rate ne p (suc n) context =
      keeps-onward P Q (Pairs Q (suc n)) _ _ (pair p (lookup_start context rate ne (2 * p)))
      (λ x q. keeps-onward P (Pairs Q n) (Pairs Q (suc n)) _ _ (pairs-keep lookup frequencies standard lsb pair rate ne (p + 1) n _)
      (λ xs r. keeps-done P (Pairs Q (suc n)) (x ∷ xs) (record { count = ap suc r.count; each = more q r.each })))

-- ---- the stage

-- a pair's levels where all are read, by the reading
abbrev pub Limited : Bool → Levels → Type 0
Limited standard l = Bounded l × (standard ≡ true → l.escapes < 14)

-- what a turn can say
abbrev pub Turnwise : Turned → Type 0
Turnwise (last k) = k < 16
Turnwise (escape a b) = (a ≤ 1) × (b ≤ 1)

module _ (lookup frequencies : List ℕ) (looked : lookup_passes lookup ≡ true) (rows : part_passes 64 17 frequencies ≡ true) where
  -- every row that a lookup names passes
  pub row_ok : (t level : ℕ) → row_passes (row_at 17 (row_of lookup t level) frequencies) ≡ true
  row_ok t level =
      row-passed 64 17 (row_of lookup t level) frequencies (and_right (eqb (length frequencies) (64 * 17)) (rows_pass 64 17 frequencies) rows)
      (omega (arith, row_low lookup looked t level))

  module _ (standard : Bool) where
    symbol-going : (p t level : ℕ) → level ≤ 13 → Keeps BothMoved (Meets standard) (λ k. k < length (row_at 17 (row_of lookup t level) frequencies)) (met (symbol p level) (symbol_by (row_at 17 (row_of lookup t level) frequencies)))
    symbol-going p t level h =
        met-symbol (Meets standard) (symbol p level) (λ head. byte_missing p level head h) (λ low limit. low_beyond p level low limit h) both-byte
        (row_at 17 (row_of lookup t level) frequencies) (row_ok t level)

    module _ (lsb : Bool) (p : ℕ) where
      pub turn-going : (t level : ℕ) → level ≤ 13 → Keeps BothMoved (Meets standard) Turnwise (turn_by lookup frequencies standard lsb p t level)
      turn-going t level h =
          keeps-onward (Meets standard) _ Turnwise _ _ (symbol-going p t level h)
          (λ k there. keeps-if (Meets standard) Turnwise (ltb k escape_symbol) _ _
          (λ e. keeps-done (Meets standard) Turnwise (last k) (ltb-true k 16 e))
          (λ e. keeps-onward (Meets standard) (λ low. Bits low × Onward standard level) Turnwise _ _ (behind-going standard lsb p level h)
          (λ low q. keeps-done (Meets standard) Turnwise (escape low.0 low.1) q.0)))

      pub levels-going : (t left level a b : ℕ) → level + left ≡ 14 → (standard ≡ true → level < 14) → a < 2 ^ level → b < 2 ^ level → Keeps BothMoved (Meets standard) (Limited standard) (read_levels lookup frequencies standard lsb p t left level a b)
      unfolding read_levels
      levels-going t zero level a b e fewer p q =
          keeps-done (Meets standard) (Limited standard) _ (record { few = omega arith; symbol_most = omega arith; first_low = p; second_low = q; ended = inr (omega arith, refl) }, fewer)
      levels-going t (suc left) level a b e fewer x y =
          keeps-onward (Meets standard) _ (Limited standard) _ _ (symbol-going p t level (omega arith))
          (λ k there. keeps-if (Meets standard) (Limited standard) (ltb k escape_symbol) _ _
          (λ small. keeps-done (Meets standard) (Limited standard) _ (record { few = omega arith; symbol_most = omega (arith, ltb-true k 16 small); first_low = x; second_low = y; ended = inl (omega arith, ltb-true k 16 small) }, fewer))
          (λ large. keeps-onward (Meets standard) (λ low. Bits low × Onward standard level) (Limited standard) _ _ (behind-going standard lsb p level (omega arith))
          (λ low q. levels-going t left (level + 1) (a + low.0 * 2 ^ level) (b + low.1 * 2 ^ level) (omega arith) (λ is. omega (arith, q.1 is)) (low-more level a low.0 x q.0.0) (low-more level b low.1 y q.0.1))))

      signs-going : (l : Levels) → Limited standard l → Keeps BothMoved (Meets standard) (Sized standard) (signs_by p l)
      signs-going l (b, fewer) =
          signs-keep (Meets standard) (Sized standard) p l (λ tail. bit_missing p l.escapes tail b.few)
          (λ first second q r. record {
            few = b.few;
            fewer = fewer;
            symbol_most = b.symbol_most;
            ended = b.ended;
            first = rw q (first-most l b);
            second = rw r (second-most l b);
            second_few = λ h. rw r (second-few l b h);
          })

      pub pair-going : (t : ℕ) → Keeps BothMoved (Meets standard) (Sized standard) (read_pair lookup frequencies standard lsb p t)
      pair-going t =
          keeps-onward (Meets standard) (Limited standard) (Sized standard) _ _ (levels-going t 14 0 0 0 refl (λ is. omega arith) (omega arith) (omega arith)) (λ l b. signs-going l b)

    pub pairs-going : (lsb : Bool) (rate ne p n context : ℕ) → Keeps BothMoved (Meets standard) (Pairs (Sized standard) n) (read_pairs lookup frequencies standard lsb rate ne p n context)
    pairs-going lsb = pairs-keep (Meets standard) (Sized standard) lookup frequencies standard lsb (pair-going lsb)

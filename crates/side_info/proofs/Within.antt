-- The tables of the limits by shape as the code finds them, and the flags that decide the shape.
-- Assumes nothing.
use Prim.Native.Nat.{ℕ, zero, suc, ◌≤◌, ◌<◌}
use mathlib.Core.Path.{◌≡◌, refl}
use mathlib.Core.Bool.{false}
use mathlib.Core.List.{[], ◌∷◌}
use native.Mathlib.Omega.{arith}
use Rattle.common.specs.Tables.{all_at_most}
use Rattle.common.proofs.Bools.{not-passed}
use Rattle.common.proofs.Rows.{at_most}
use Rattle.side_info.specs.Record.{gain_most, idx_most, sns_passes}
use Rattle.side_info.specs.declared.Sns.{Sns}
use Rattle.side_info.proofs.Joints.{sns-limits}

pub gain-middle : (shape : ℕ) → (shape ≡ 0 → ⊥) → (shape ≡ 3 → ⊥) → shape ≤ 3 → gain_most shape ≡ 3
gain-middle zero p q h = absurd (p refl)
gain-middle (suc zero) p q h = refl
gain-middle (suc (suc zero)) p q h = refl
gain-middle (suc (suc (suc zero))) p q h = absurd (q refl)
gain-middle (suc (suc (suc (suc n)))) p q h = absurd (omega arith)

pub gain-limit : (shape : ℕ) → gain_most shape ≤ 7
unfolding all_at_most
gain-limit shape = at_most 7 (1 ∷ 3 ∷ 3 ∷ 7 ∷ []) shape refl

pub idx-low : (shape : ℕ) → shape ≤ 1 → idx_most shape ≡ 2390003
idx-low zero h = refl
idx-low (suc zero) h = refl
idx-low (suc (suc n)) h = absurd (omega arith)

pub idx-last : (shape : ℕ) → 1 < shape → (shape ≡ 2 → ⊥) → shape ≤ 3 → idx_most shape ≡ 774911
idx-last zero l q h = absurd (omega arith)
idx-last (suc zero) l q h = absurd (omega arith)
idx-last (suc (suc zero)) l q h = absurd (q refl)
idx-last (suc (suc (suc zero))) l q h = refl
idx-last (suc (suc (suc (suc n)))) l q h = absurd (omega arith)

pub idx-limit : (shape : ℕ) → idx_most shape ≤ 15158271
unfolding all_at_most
idx-limit shape = at_most 15158271 (2390003 ∷ 2390003 ∷ 15158271 ∷ 774911 ∷ []) shape refl

-- a flag above 1 fails the second stage
pub msb-fails : (s : Sns) → 1 < s.msb → sns_passes s ≡ false
msb-fails s h = not-passed (sns_passes s) (λ e. omega (arith, (sns-limits s e).stage))

pub submode-fails : (s : Sns) → 1 < s.submode_lsb → sns_passes s ≡ false
submode-fails s h = not-passed (sns_passes s) (λ e. omega (arith, (sns-limits s e).mode))

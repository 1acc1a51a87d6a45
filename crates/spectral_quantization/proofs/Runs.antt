-- One pair more: the running numbers behind it, by what the parts of the step found, and how far they have come.
-- Assumes nothing.
use Prim.Native.Nat.{ℕ, suc, ◌+◌, ◌*◌, ◌≤◌, max}
use mathlib.Core.Path.{◌≡◌, refl}
use mathlib.Core.Bool.{Bool, true, false, cond}
use mathlib.Core.List.{List}
use native.Mathlib.Omega.{arith}
use native.Mathlib.Numerals.{add-one}
use Rattle.common.proofs.Bools.{by-test}
use Rattle.contexts.specs.Contexts.{lookup_start, context_behind}
use Rattle.contexts.proofs.Lookups.{behind-most}
use Rattle.spectral_quantization.specs.declared.estimate.Frame.{Frame}
use Rattle.spectral_quantization.specs.declared.estimate.Running.{Running}
use Rattle.spectral_quantization.specs.Estimate.{sum_below, up_to_last, pair_cost, least_bits, first, second, context_at, kept}
use Rattle.spectral_quantization.specs.Private.{keeps, running_at, on_pair, Bounded}

-- what the parts of the step found: the pair's cost, its least bits and the context behind it
pub record Found (lookup bits : List ℕ) (f : Frame) (p a b : ℕ) (s : Running) (cost least context : ℕ) : Type 0 where
  pub small : a ≤ 32768
  pub small₂ : b ≤ 32768
  pub come : Bounded p s
  pub cost-is : cost ≡ pair_cost lookup bits f.mode (lookup_start s.context f.rate f.ne (2 * p)) a b
  pub cost-most : cost ≤ 1044465
  pub least-is : least ≡ least_bits f.mode a b
  pub least-most : least ≤ 4
  pub context-is : context ≡ context_behind s.context a b

-- the lines up to the pair are kept, or what was kept before stays
abbrev behind : ℕ → Running → ℕ → ℕ → ℕ → Bool → Running
behind p s cost least context keep =
    record {
      sum = s.sum + cost;
      least = s.least + least;
      place = cond keep (2 * p + 2) s.place;
      kept = cond keep (s.sum + cost) s.kept;
      context = context;
    }

module _ {lookup bits : List ℕ} {f : Frame} {p a b : ℕ} {s : Running} {cost least context : ℕ} (g : Found lookup bits f p a b s cost least context) where
  kept-most : (keep : Bool) → cond keep (s.sum + cost) s.kept ≤ 1044465 * (p + 1)
  kept-most true = omega (arith, g.come.sum, g.cost-most)
  kept-most false = omega (arith, g.come.kept)

  pub pair-behind : {keep : Bool} → keeps f.target a b (s.sum + cost) ≡ keep → (behind p s cost least context keep ≡ on_pair lookup bits f p a b s) × Bounded (p + 1) (behind p s cost least context keep)
  unfolding on_pair
  pair-behind {keep} k = (
    rw (← g.cost-is, ← g.least-is, ← g.context-is, k) refl,
    record {
      sum = omega (arith, g.come.sum, g.cost-most);
      kept = kept-most keep;
      least = omega (arith, g.come.least, g.least-most);
      context = rw g.context-is (behind-most s.context a b (omega (arith, g.small)) (omega (arith, g.small₂)));
    },
  )

-- before the first pair, and behind one pair more
abbrev pub before_all : Running
before_all = record { sum = 0; least = 0; place = 2; kept = 0; context = 0 }

pub start-bounded : Bounded 0 before_all
start-bounded = record { sum = omega arith; kept = omega arith; least = omega arith; context = omega arith }

module _ (lookup bits : List ℕ) (f : Frame) (xs : List ℕ) where
  pub running_none : before_all ≡ running_at lookup bits f xs 0
  unfolding sum_below up_to_last context_at
  running_none = refl

  pub running_more : (p : ℕ) → running_at lookup bits f xs (p + 1) ≡ on_pair lookup bits f p (first xs p) (second xs p) (running_at lookup bits f xs p)
  unfolding sum_below up_to_last context_at on_pair
  running_more p =
      let lines : 2 * max 1 (suc p) ≡ 2 * p + 2 = omega arith in
      by-test (kept xs lookup bits f.ne f.rate f.mode f.target p)
      (λ t. rw (add-one, on_pair, t, ← lines) refl)
      (λ t. rw (add-one, on_pair, t) refl)

-- What a met refusal says decides it: the step tells the case, the number the refusal. Assumes nothing.
use mathlib.Core.Path.{◌≡◌, refl}
use mathlib.Core.Bool.{cond}
use lib.Dec.{eqb}
use lib.ListN.{get_or}
use Rattle.common.specs.Reply.{Step, nowhere, side, start, order, coef, symbol, bit, Reply}
use Rattle.common.proofs.Unique.{from_back}
use Rattle.coding.specs.Coding.{met_of}
use Rattle.coding.specs.declared.Refusal.{Refusal}
use Rattle.coding.specs.declared.Refusal.TheVariants.{NoTailRoom, PastEnd, LowBeyondLimit}
use Rattle.coding.specs.declared.Met.{Met}
use Rattle.coding.specs.declared.Met.TheVariants.{Side, Start, Order, Coef, Symbol, Bit}

unfoldable pub refusal_back : Reply → Refusal
refusal_back r =
    cond (eqb r.number 9) (NoTailRoom (get_or r.values 0 0) (get_or r.values 1 0))
    (cond (eqb r.number 10) (PastEnd (get_or r.values 0 0)) (LowBeyondLimit (get_or r.values 0 0) (get_or r.values 1 0)))

unfoldable pub step_back : Step → Refusal → Met
step_back nowhere e = Side e
step_back side e = Side e
step_back start e = Start e
step_back (order f) e = Order f e
step_back (coef f k) e = Coef f k e
step_back (symbol p level) e = Symbol p level e
step_back (bit p level) e = Bit p level e

unfoldable pub met_back : Reply → Met
met_back r = step_back r.step (refusal_back r)

pub met-back : (m : Met) → met_back (met_of m) ≡ m
unfolding refusal_back step_back met_back
met-back (Side (NoTailRoom w b)) = refl
met-back (Side (PastEnd h)) = refl
met-back (Side (LowBeyondLimit l m)) = refl
met-back (Start (NoTailRoom w b)) = refl
met-back (Start (PastEnd h)) = refl
met-back (Start (LowBeyondLimit l m)) = refl
met-back (Order f (NoTailRoom w b)) = refl
met-back (Order f (PastEnd h)) = refl
met-back (Order f (LowBeyondLimit l m)) = refl
met-back (Coef f k (NoTailRoom w b)) = refl
met-back (Coef f k (PastEnd h)) = refl
met-back (Coef f k (LowBeyondLimit l m)) = refl
met-back (Symbol p v (NoTailRoom w b)) = refl
met-back (Symbol p v (PastEnd h)) = refl
met-back (Symbol p v (LowBeyondLimit l m)) = refl
met-back (Bit p v (NoTailRoom w b)) = refl
met-back (Bit p v (PastEnd h)) = refl
met-back (Bit p v (LowBeyondLimit l m)) = refl

pub met-unique : (a b : Met) → met_of a ≡ met_of b → a ≡ b
met-unique = from_back met_of met_back met-back

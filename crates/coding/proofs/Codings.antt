-- What a step can meet: a symbol step refuses 10 or 11 and a tail bit 9, and nothing else, where the frame's length has been judged.
-- By the readings' forms. Assumes nothing.
use Prim.Native.Nat.{ℕ, ◌+◌, ◌≤◌}
use mathlib.Core.Path.{◌≡◌, refl}
use mathlib.Core.Bool.{true, false}
use mathlib.Core.List.{List}
use native.Mathlib.Omega.{arith}
use borrow.Author.Tests.{le-ltb}
use lib.Dec.{leb}
use lib.ListN.{length}
use Rattle.common.specs.Reply.{Reply, Answer, refused, head_past_end}
use Rattle.buffer_reader.specs.Reads.{take_three, take_bit}
use Rattle.buffer_reader.specs.declared.Cursor.{Cursor}
use Rattle.buffer_reader.proofs.Roomy.{Ends, ends-given, ends-then, ends-refused}
use Rattle.range_decoder.specs.Decoder.{start_decoder, symbol_step}
use Rattle.range_decoder.specs.declared.DecoderState.{DecoderState}
use Rattle.coding.specs.Private.{InStep}
use Rattle.coding.proofs.Keeps.{step-ends, bit-ends}

pub never : false ≡ true → ⊥
never e = let z : ◌≡◌ {A = ℕ} 0 1 = cc in omega arith

-- of an answer: if it refuses, then 9, 10 or 11
abbrev pub Stepped : {A : Type 0} → Answer A → Type 0
Stepped a = Ends InStep (λ x. Unit {0}) a

module _ (f : List ℕ) (short : length f ≤ 65535) where
  pub bit-stepped : (c : Cursor) → Stepped (take_bit f c)
  bit-stepped c = bit-ends InStep (λ tail. refl) (λ d. Unit {0}) f short (λ d l u. tt) c tt

  pub start-stepped : (c : Cursor) → Stepped (start_decoder f c)
  start-stepped c =
      ends-then InStep (λ x. Unit {0}) (λ x. Unit {0}) (take_three f c) _
      (rw (le-ltb 65535 (length f) short)
      (ends-given InStep (λ x. Unit {0}) (leb (length f) (c.head + 2)) (head_past_end c.head) _ refl (λ e. tt)))
      (λ x e u. tt)

  pub symbol-stepped : (s : DecoderState) (row : List ℕ) (c : Cursor) → Stepped (symbol_step s row f c)
  symbol-stepped s row c = step-ends InStep (λ head. refl) (λ low limit. refl) (λ d. Unit {0}) f short (λ d l u. tt) s row c tt

pub stepped-refusal : {A : Type 0} (a : Answer A) {r : Reply} → Stepped a → a ≡ refused r → InStep r
stepped-refusal a h e = ends-refused InStep (λ x. Unit {0}) a h e

-- What the symbol step answers, case by case: which refusal by which fact, and where none holds, by what the search found.
-- Assumes nothing.
use Prim.Native.Nat.{ℕ, ◌+◌, ◌-◌, ◌*◌, ◌≤◌, ◌<◌}
use mathlib.Core.Path.{◌≡◌, refl, sym, ap, ◌∙◌}
use mathlib.Core.Bool.{true, false}
use mathlib.Core.List.{List}
use native.Mathlib.Omega.{arith}
use borrow.Author.Tests.{lt-ltb, le-ltb, le-leb, lt-leb}
use lib.ListN.{length, get_or}
use Rattle.common.specs.Reply.{refused, outside_limits, wrong_length, tables_fail, low_beyond_limit}
use Rattle.common.specs.Tables.{row_passes, cumulative}
use Rattle.common.proofs.Cumulatives.{part-within}
use Rattle.buffer_reader.specs.Steps.{next, found}
use Rattle.buffer_reader.specs.declared.Cursor.{Cursor}
use Rattle.range_decoder.specs.Decoder.{unit_of, owner, narrowed, renormalised, Decoded, symbol_step, range_passes, decode_symbol}
use Rattle.range_decoder.specs.Private.{Below}
use Rattle.range_decoder.specs.declared.DecoderState.{DecoderState}
use Rattle.range_decoder.proofs.Owners.{owner_owns}
use Rattle.range_decoder.proofs.Renormal.{range-limits}

-- what the search finds: the owner, where its part begins, and how wide that is
pub record Found (s : DecoderState) (row : List ℕ) (k base width : ℕ) : Type 0 where
  pub symbol : k ≡ owner (unit_of s.range) s.low row
  pub base-is : base ≡ unit_of s.range * cumulative row k
  pub width-is : width ≡ unit_of s.range * get_or row k 0

module _ (s : DecoderState) (row : List ℕ) where
  part_same : (k base width : ℕ) → Found s row k base width → ◌≡◌ {A = DecoderState} (record { low = s.low - base; range = width }) (narrowed (unit_of s.range) s.low row (owner (unit_of s.range) s.low row))
  part_same k base width g =
      ap (λ (b : ℕ). record { low = s.low - b; range = width }) g.base-is ∙
      ap (λ (w : ℕ). record { low = s.low - unit_of s.range * cumulative row k; range = w }) g.width-is ∙
      ap (narrowed (unit_of s.range) s.low row) g.symbol

  -- the owner's part begins at or below low, and low less its begin is below its width
  pub part-below : (k base width : ℕ) → range_passes s.range ≡ true → row_passes row ≡ true → s.low < 1024 * unit_of s.range → Found s row k base width → (base ≤ s.low) × Below (record { low = s.low - base; range = width })
  part-below k base width within passed limit g =
      let o = owner_owns row passed (unit_of s.range) s.low limit in
      let there : k < length row = rw g.symbol o.there in
      let starts : unit_of s.range * cumulative row k ≤ s.low = rw g.symbol o.starts in
      let ends : s.low < unit_of s.range * cumulative row k + unit_of s.range * get_or row k 0 = rw g.symbol o.ends in
      let most = part-within row passed (unit_of s.range) k there in
      let range : s.range ≤ 0xFFFFFF = (range-limits s.range within).1 in
      (omega (arith, g.base-is), record { most = omega (arith, g.width-is); below = omega (arith, g.base-is, g.width-is) })

  module _ (f : List ℕ) (c : Cursor) where
    pub step-beyond : 1024 * unit_of s.range ≤ s.low → symbol_step s row f c ≡ refused (low_beyond_limit s.low (1024 * unit_of s.range))
    step-beyond l = rw (le-leb (1024 * unit_of s.range) s.low l) refl

    pub step-on : (k base width : ℕ) → s.low < 1024 * unit_of s.range → Found s row k base width → symbol_step s row f c ≡ next (renormalised (record { low = s.low - base; range = width })) (λ t. found (record { symbol = k; state = t })) f c
    step-on k base width l g =
        rw (lt-leb (1024 * unit_of s.range) s.low l)
        (sym (ap (λ (t : DecoderState). next (renormalised t) (λ (u : DecoderState). found (record { symbol = k; state = u })) f c) (part_same k base width g) ∙ ap (λ (j : ℕ). next (renormalised (narrowed (unit_of s.range) s.low row (owner (unit_of s.range) s.low row))) (λ (u : DecoderState). found {A = Decoded} (record { symbol = j; state = u })) f c) g.symbol))

    pub decode-outside : range_passes s.range ≡ false → decode_symbol s row f c ≡ refused outside_limits
    decode-outside e = rw e refl

    pub decode-long : range_passes s.range ≡ true → 65535 < length f → decode_symbol s row f c ≡ refused (wrong_length (length f))
    decode-long e l = rw (e, lt-ltb 65535 (length f) l) refl

    pub decode-row : range_passes s.range ≡ true → length f ≤ 65535 → row_passes row ≡ false → decode_symbol s row f c ≡ refused tables_fail
    decode-row e l p = rw (e, le-ltb 65535 (length f) l, p) refl

    pub decode-on : range_passes s.range ≡ true → length f ≤ 65535 → row_passes row ≡ true → decode_symbol s row f c ≡ symbol_step s row f c
    decode-on e l p = rw (e, le-ltb 65535 (length f) l, p) refl

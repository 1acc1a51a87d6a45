-- Issue 13's first theorem, `parted`: the head's own bits are at most E, what comes late is cut so that the tail leaves E, and each bit is
-- put once over zeros; so every place of the frame has the bit of its owner. Assumes nothing.
use Prim.Native.Nat.{ℕ, zero, suc, ◌+◌, ◌-◌, ◌*◌, ◌/◌, ◌%◌, ◌^◌, ◌≤◌, ◌<◌}
use mathlib.Core.Path.{◌≡◌, refl, sym, ap, subst, ◌∙◌}
use mathlib.Core.Bool.{true, cond, not}
use mathlib.Core.List.{List, [], ◌∷◌}
use mathlib.Core.Logic.{inr}
use native.Mathlib.Omega.{arith}
use native.Mathlib.Nat.{add-zero, zero-add, zero-div}
use borrow.Author.Tests.{ltb-true, ltb-false, eqb-true, not-false}
use lib.Dec.{ltb, eqb}
use lib.ListN.{length, get_or, replicate, length-replicate, length-set, get_or-replicate}
use lib.Pow.{shr-shr}
use lib.Seq.{length-sets}
use Rattle.common.specs.Configuration.{ne, length_passes, configuration_passes, frame_lines}
use Rattle.common.specs.Reply.{accepted, given, tables_fail, wrong_count, field_outside, line_outside, residual_too_long, no_room}
use Rattle.common.specs.Tables.{Tables, tables_pass}
use Rattle.common.proofs.Sets.{coded-passed}
use Rattle.common.specs.declared.configuration.Configuration.{Configuration}
use Rattle.common.proofs.Bools.{by-test, and_right}
use Rattle.common.proofs.Configurations.{frame-known}
use Rattle.common.proofs.Replies.{accepted-same, given-split, then-split}
use Rattle.contexts.specs.Lines.{magnitude_at}
use Rattle.side_info.specs.Record.{side_passes}
use Rattle.buffer_reader.specs.Tail.{tail_bit}
use Rattle.buffer_reader.proofs.Tails.{tail-bit-there}
use Rattle.range_encoder.specs.Encoder.{start_encoder}
use Rattle.range_encoder.specs.Interval.{Sent}
use Rattle.range_encoder.specs.Runs.{AllPass, state_behind, bytes_behind, own_bytes, own_last, own_bits, own_length}
use Rattle.range_encoder.specs.Theory.{Continues}
use Rattle.range_encoder.proofs.Carry.{carry-exact, sound-start, sound-behind}
use Rattle.range_encoder.proofs.Continues.{laid-continues}
use Rattle.range_encoder.proofs.Finishes.{finish-reserved, last-bits}
use Rattle.range_encoder.proofs.Laid.{own_room, own-keeps}
use Rattle.sending.specs.Sending.{Bit, put_bits, laid, Stands}
use Rattle.sending.specs.Private.{AllBits}
use Rattle.sending.proofs.Puts.{put-bits-length}
use Rattle.sending.proofs.Stands.{puts-keep, stands-put}
use Rattle.tns_data.specs.Sent.{tns_passes}
use Rattle.spectral_data.specs.Private.{Modest}
use Rattle.residual_data.specs.Residual.{nonzero}
use Rattle.frame_writer.specs.Frame.{Content, symbols_of, early_bits, late_bits, reserved, tail_bits, fields_pass, line_fails, first_failing, write_frame}
use Rattle.frame_writer.specs.Whose.{Place, own_bit, in_tail, place_of, Parted}
use Rattle.frame_writer.proofs.Frames.{tail-room}
use Rattle.frame_writer.proofs.Lines.{first-none, kept-zero, all-modest}
use Rattle.frame_writer.proofs.Values.{content-passes, tail-low}

-- ---- places of the tail

-- bits that stand in a frame are those of their places
in_tail-stands : (f : List ℕ) (k : ℕ) (bits : List Bit) (i : ℕ) (beyond : Place) → Stands f k bits → i < length bits → tail_bit f (k + i) ≡ (in_tail bits i beyond).bit
unfolding Stands in_tail
in_tail-stands f k [] i beyond h l = absurd (omega arith)
in_tail-stands f k (b ∷ bs) zero beyond h l = rw (add-zero k) h.0
in_tail-stands f k (b ∷ bs) (suc i) beyond h l =
    let e : k + suc i ≡ k + 1 + i = omega arith in
    rw e (in_tail-stands f (k + 1) bs i beyond h.1 (omega arith))

-- behind them all is what stands beyond
pub behind-tail : (bits : List Bit) (i : ℕ) (beyond : Place) → length bits ≤ i → in_tail bits i beyond ≡ beyond
unfolding in_tail
behind-tail [] i beyond l = refl
behind-tail (b ∷ bs) zero beyond l = absurd (omega arith)
behind-tail (b ∷ bs) (suc i) beyond l = behind-tail bs i beyond (omega arith)

zeros-bit : (n i : ℕ) → i < 8 * n → tail_bit (replicate n 0) i ≡ 0
zeros-bit n i l =
    let zeros : List ℕ = replicate n 0 in
    let size : length zeros ≡ n = length-replicate n 0 in
    let byte : get_or zeros (length zeros - 1 - i / 8) 0 ≡ 0 = get_or-replicate n (length zeros - 1 - i / 8) 0 0 (omega arith) in
    tail-bit-there zeros i (omega arith) ∙ rw (byte, zero-div) refl

-- ---- places of the head

-- top bits that two bytes share are theirs
top_bit : (x y cut k : ℕ) → cut ≤ k → x / 2 ^ cut ≡ y / 2 ^ cut → x / 2 ^ k % 2 ≡ y / 2 ^ k % 2
top_bit x y cut k h e =
    let at : k ≡ cut + (k - cut) = omega arith in
    let same : x / 2 ^ k ≡ y / 2 ^ k =
    ap (λ (n : ℕ). x / 2 ^ n) at ∙ sym (shr-shr x cut (k - cut)) ∙ ap (λ (n : ℕ). n / 2 ^ (k - cut)) e ∙ shr-shr y cut (k - cut) ∙ ap (λ (n : ℕ). y / 2 ^ n) (sym at) in
    ap (λ (n : ℕ). n % 2) same

-- bit j from the front of a frame that begins with whole bytes and the top bits of one more
head-bit : (f : List ℕ) (bytes : List ℕ) (last bits i : ℕ) → Continues f 0 bytes last bits → 1 ≤ bits → bits ≤ 8 → i < 8 * length f → 8 * length f - 1 - i < 8 * length bytes + bits →
    let j = 8 * length f - 1 - i in
    tail_bit f i ≡ cond (ltb (j / 8) (length bytes)) (get_or bytes (j / 8) 0) last / 2 ^ (7 - j % 8) % 2
head-bit f bytes last bits i c some most l own =
    let j : ℕ = 8 * length f - 1 - i in
    let place : length f - 1 - i / 8 ≡ j / 8 = omega arith in
    let power : i % 8 ≡ 7 - j % 8 = omega arith in
    let there : tail_bit f i ≡ get_or f (j / 8) 0 / 2 ^ (7 - j % 8) % 2 =
    tail-bit-there f i (omega arith) ∙ rw (place, power) refl in
    by-test (ltb (j / 8) (length bytes))
    (λ e.
    let same : get_or f (j / 8) 0 ≡ get_or bytes (j / 8) 0 = rw (zero-add (j / 8)) at (c.same (j / 8) (ltb-true (j / 8) (length bytes) e)) in
    rw e (there ∙ ap (λ (x : ℕ). x / 2 ^ (7 - j % 8) % 2) same))
    (λ e.
    let end : j / 8 ≡ length bytes = omega (arith, ltb-false (j / 8) (length bytes) e) in
    let top : get_or f (j / 8) 0 / 2 ^ (8 - bits) ≡ last / 2 ^ (8 - bits) =
    ap (λ (p : ℕ). get_or f p 0 / 2 ^ (8 - bits)) end ∙ rw (zero-add (length bytes)) at c.top in
    rw e (there ∙ top_bit (get_or f (j / 8) 0) last (8 - bits) (7 - j % 8) (omega arith) top))

-- ---- the frame

module _ (reading bytes : ℕ) (symbols : List Sent) (bits : List Bit) (all : AllPass symbols) (low : AllBits bits) (room : length bits + reserved symbols ≤ 8 * bytes) where
  abbrev zeros : List ℕ
  zeros = replicate bytes 0

  abbrev put : List ℕ
  put = put_bits zeros 0 bits

  abbrev own : List ℕ
  own = own_bytes reading symbols

  abbrev frame : List ℕ
  frame = laid reading bytes symbols bits

  own-within : own_length reading symbols ≤ reserved symbols
  own-within =
      finish-reserved reading (bytes_behind start_encoder symbols) (state_behind start_encoder symbols) (sound-behind start_encoder symbols sound-start all) (carry-exact symbols all).holds.sent

  own-last : (1 ≤ own_bits reading symbols) × (own_bits reading symbols ≤ 8)
  own-last = last-bits reading (state_behind start_encoder symbols) (sound-behind start_encoder symbols sound-start all)

  zeros-length : length zeros ≡ bytes
  zeros-length = length-replicate bytes 0

  put-length : length put ≡ bytes
  put-length = put-bits-length zeros 0 bits ∙ zeros-length

  frame-length : length frame ≡ bytes
  frame-length = simp (length-set, length-sets) put-length

  fits : 0 + length own < length put
  fits = omega (arith, put-length, own_room reading bytes symbols all (omega (arith, room)))

  -- what is not the head's own is as the tail's bits left it
  kept : (i : ℕ) → i < 8 * bytes → own_length reading symbols + i < 8 * bytes → tail_bit frame i ≡ tail_bit put i
  kept i l h =
      (own-keeps put 0 own (own_last reading symbols) (own_bits reading symbols) fits).tails i (omega (arith, put-length))

  own-place : (i : ℕ) → i < 8 * bytes → 8 * bytes - 1 - i < own_length reading symbols → tail_bit frame i ≡ own_bit reading symbols (8 * bytes - 1 - i)
  own-place i l h =
      subst (λ (n : ℕ). i < 8 * n → 8 * n - 1 - i < own_length reading symbols → tail_bit frame i ≡ own_bit reading symbols (8 * n - 1 - i)) frame-length
      (head-bit frame own (own_last reading symbols) (own_bits reading symbols) i (laid-continues put 0 own (own_last reading symbols) (own_bits reading symbols) fits) own-last.0 own-last.1) l h

  tail-place : (i : ℕ) (beyond : Place) → i < length bits → tail_bit frame i ≡ (in_tail bits i beyond).bit
  tail-place i beyond h =
      kept i (omega (arith, room)) (omega (arith, room, own-within)) ∙
      rw (zero-add i) at (in_tail-stands put 0 bits i beyond (stands-put zeros 0 bits low (omega (arith, zeros-length, room))) h)

  unused-place : (i : ℕ) → i < 8 * bytes → length bits ≤ i → own_length reading symbols ≤ 8 * bytes - 1 - i → tail_bit frame i ≡ 0
  unused-place i l h o =
      kept i l (omega arith) ∙
      puts-keep zeros 0 bits i low (omega (arith, zeros-length, room)) (omega (arith, zeros-length)) (inr (omega arith)) ∙
      zeros-bit bytes i l

  place : (i : ℕ) → i < 8 * bytes → tail_bit frame i ≡ (place_of reading (8 * bytes) symbols bits i).bit
  place i l =
      by-test (ltb i (length bits))
      (λ e. tail-place i _ (ltb-true i (length bits) e))
      (λ e.
      let h = ltb-false i (length bits) e in
      by-test (ltb (8 * bytes - 1 - i) (own_length reading symbols))
      (λ o. rw (behind-tail bits i _ h, o) (own-place i l (ltb-true (8 * bytes - 1 - i) (own_length reading symbols) o)))
      (λ o. rw (behind-tail bits i _ h, o) (unused-place i l h (ltb-false (8 * bytes - 1 - i) (own_length reading symbols) o))))

  pub laid-parted : Parted reading bytes symbols bits (laid reading bytes symbols bits)
  laid-parted = record { size = frame-length; reserve = own-within; apart = room; bits = place }

-- ---- what is known where a frame is written

-- what the checks have found, by the number of lines
pub record Checked (k : Configuration) (t : Tables) (w : Content) (bytes n : ℕ) (frame : List ℕ) : Type 0 where
  pub tables : tables_pass t ≡ true
  pub count : length w.lines ≡ n
  pub fields : fields_pass k.fs_ind n w ≡ true
  pub lines : length w.lines ≤ first_failing w
  pub residual : length w.residual ≤ nonzero w.lines
  pub room : length (early_bits k.fs_ind n w) + reserved (symbols_of k t (8 * bytes) n w) ≤ 8 * bytes
  pub is : laid k.reading bytes (symbols_of k t (8 * bytes) n w) (tail_bits k t (8 * bytes) n w) ≡ frame

module _ (k : Configuration) (t : Tables) (w : Content) (bytes : ℕ) {frame : List ℕ} where
  checked : (n : ℕ) →
      given (not (tables_pass t)) tables_fail
      (given (not (eqb (length w.lines) n)) (wrong_count (length w.lines))
      (given (not (fields_pass k.fs_ind n w)) field_outside
      (given (ltb (first_failing w) (length w.lines)) (line_outside (first_failing w))
      (given (ltb (nonzero w.lines) (length w.residual)) residual_too_long
      (given (ltb (8 * bytes) (length (early_bits k.fs_ind n w) + reserved (symbols_of k t (8 * bytes) n w))) no_room
      (accepted (laid k.reading bytes (symbols_of k t (8 * bytes) n w) (tail_bits k t (8 * bytes) n w)))))))) ≡ accepted frame →
      Checked k t w bytes n frame
  checked n e =
      let a = given-split (not (tables_pass t)) tables_fail _ e in
      let b = given-split (not (eqb (length w.lines) n)) (wrong_count (length w.lines)) _ a.1 in
      let c = given-split (not (fields_pass k.fs_ind n w)) field_outside _ b.1 in
      let d = given-split (ltb (first_failing w) (length w.lines)) (line_outside (first_failing w)) _ c.1 in
      let f = given-split (ltb (nonzero w.lines) (length w.residual)) residual_too_long _ d.1 in
      let need = length (early_bits k.fs_ind n w) + reserved (symbols_of k t (8 * bytes) n w) in
      let g = given-split (ltb (8 * bytes) need) no_room _ f.1 in
      record {
        tables = not-false (tables_pass t) a.0;
        count = eqb-true (length w.lines) n (not-false (eqb (length w.lines) n) b.0);
        fields = not-false (fields_pass k.fs_ind n w) c.0;
        lines = ltb-false (first_failing w) (length w.lines) d.0;
        residual = ltb-false (nonzero w.lines) (length w.residual) f.0;
        room = ltb-false (8 * bytes) need g.0;
        is = accepted-same g.1;
      }

  module _ (e : write_frame k t w bytes ≡ accepted frame) where
    pub written-checked : Checked k t w bytes (ne k.duration k.fs_ind) frame
    written-checked =
        let p = then-split (frame_lines k bytes) _ e in
        subst (λ (n : ℕ). Checked k t w bytes n frame) (frame-known k bytes p.1).2 (checked p.0 p.2)

    pub written-limits : (configuration_passes k ≡ true) × (length_passes bytes ≡ true)
    written-limits =
        let p = then-split (frame_lines k bytes) _ e in
        let q = frame-known k bytes p.1 in
        (q.0, q.1)

-- ---- the symbols of content that passes

pub lines-modest : (w : Content) → length w.lines ≤ first_failing w → Modest w.lines
lines-modest w h = all-modest w.lines w.side.lastnz h

pub lines-zero : (w : Content) → length w.lines ≤ first_failing w → (k : ℕ) → w.side.lastnz ≤ k → k < length w.lines → magnitude_at w.lines k ≡ 0
lines-zero w h k l m =
    kept-zero w.lines w.side.lastnz k (first-none (line_fails w) 0 (length w.lines) (omega (arith, h)) k (omega arith) (omega (arith, m))) l

pub symbols-given : (k : Configuration) (t : Tables) (bits n : ℕ) (w : Content) → tables_pass t ≡ true → fields_pass k.fs_ind n w ≡ true → Modest w.lines → AllPass (symbols_of k t bits n w)
symbols-given k t bits n w tables fields modest =
    content-passes k t bits n w (coded-passed t tables) (and_right (side_passes k.fs_ind n w.side) (tns_passes w.side.tns_first w.side.tns_second w.first w.second w.indices) fields) modest

-- ---- the theorem

pub parted : (k : Configuration) (t : Tables) (w : Content) (bytes : ℕ) {frame : List ℕ} → write_frame k t w bytes ≡ accepted frame →
    let n = ne k.duration k.fs_ind in
    Parted k.reading bytes (symbols_of k t (8 * bytes) n w) (tail_bits k t (8 * bytes) n w) frame
parted k t w bytes e =
    let n = ne k.duration k.fs_ind in
    let j = written-checked k t w bytes e in
    let symbols = symbols_of k t (8 * bytes) n w in
    let all = symbols-given k t (8 * bytes) n w j.tables j.fields (lines-modest w j.lines) in
    subst (Parted k.reading bytes symbols (tail_bits k t (8 * bytes) n w)) j.is
    (laid-parted k.reading bytes symbols (tail_bits k t (8 * bytes) n w) all (tail-low k t (8 * bytes) n w)
    (tail-room symbols all k.reading (8 * bytes) (early_bits k.fs_ind n w) (late_bits w) j.room))

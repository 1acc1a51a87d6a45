-- The two readings of a frame: side information, start and TNS data do not look at the reading, the pairs part at a fourteenth escape,
-- and outside least-bit mode the residual bits are one. So they answer alike, or the standard one by 19. Assumes nothing.
use Prim.Native.Nat.{ℕ, ◌*◌, ◌/◌}
use mathlib.Core.Path.{◌≡◌, refl, sym, ap, subst, ◌∙◌}
use mathlib.Core.Bool.{Bool, true, false, not}
use mathlib.Core.List.{List}
use native.Mathlib.Nat.{zero-add}
use lib.Dec.{ltb, eqb}
use lib.ListN.{length, get_or}
use Rattle.common.specs.Reply.{Reply, Answer, accepted, refused, given, and_then, tables_fail, wrong_count}
use Rattle.common.specs.Configuration.{frame_lines}
use Rattle.common.specs.Tables.{Tables, tables_pass}
use Rattle.common.specs.declared.configuration.Configuration.{Configuration}
use Rattle.common.proofs.Replies.{no-refusal, accepted-same, then-split}
use Rattle.buffer_reader.specs.declared.Cursor.{Cursor}
use Rattle.side_info.specs.Reader.{read_all}
use Rattle.side_info.specs.declared.SideInfo.{SideInfo}
use Rattle.contexts.specs.Contexts.{rate_flag}
use Rattle.coding.specs.Coding.{Coded}
use Rattle.tns_data.specs.Tns.{Tns, read_tns, weighting_row}
use Rattle.spectral_data.specs.Spectral.{Pair, read_pairs, levels_of}
use Rattle.spectral_data.proofs.Readings.{Parted, same, damaged, parted-then, then-parted, OneFourteen, pairs-parted}
use Rattle.residual_data.specs.Residual.{available}
use Rattle.frame_reader.specs.Frame.{Data, Frame, start_in, read_data, finished, read_frame}
use Rattle.frame_reader.specs.Stated.{OutsideLeastBit, AlikeOrDamage, alike, damage, NoDamage}
use Rattle.frame_reader.proofs.Theorems.{by_mode}

-- two chains that end alike behind their first part end alike
then-alike : {A B : Type 0} (a : Answer A) (go on : A → Answer B) (z : Answer B) → ((x : A) → go x ≡ z → on x ≡ z) → and_then a go ≡ z → and_then a on ≡ z
then-alike (accepted x) go on z h e = h x e
then-alike (refused q) go on z h e = e

given-alike : {A : Type 0} (t : Bool) (q : Reply) (a b z : Answer A) → (a ≡ z → b ≡ z) → given t q a ≡ z → given t q b ≡ z
given-alike true q a b z h e = e
given-alike false q a b z h e = h e

given-either : (t : Bool) (q : Reply) (a b z : Answer Frame) → (a ≡ z → AlikeOrDamage z b) → given t q a ≡ z → AlikeOrDamage z (given t q b)
given-either true q a b z h e = alike (sym e)
given-either false q a b z h e = h e

mode-side : (reading ne : ℕ) (f : List ℕ) (d : Data) (c : Cursor) (room : ℕ) (lsb : Bool) → (d.side ≡ (by_mode reading ne f d c room lsb).side) × (d.pairs ≡ (by_mode reading ne f d c room lsb).pairs)
mode-side reading ne f d c room true = (refl, refl)
mode-side reading ne f d c room false = (refl, refl)

abbrev by-reading : Configuration → ℕ → Configuration
by-reading k reading = record { fs_ind = k.fs_ind; duration = k.duration; reading = reading }

module _ (k : Configuration) (t : Tables) (count : ℕ) (f : List ℕ) where
  abbrev crate : Configuration
  crate = by-reading k 0

  abbrev standard : Configuration
  standard = by-reading k 1

  abbrev bits : ℕ
  bits = 8 * length f

  abbrev origin : Cursor
  origin = record { head = 0; tail = 0 }

  abbrev data_in : ℕ → ℕ → Answer (Data × Cursor)
  data_in reading n = read_data (by-reading k reading) t bits n f origin

  abbrev ending : ℕ → ℕ → Data × Cursor → Answer Frame
  ending reading n x = finished reading n f x.0 x.1

  abbrev from : ℕ → ℕ → Answer Frame
  from reading n =
      given (not (tables_pass t)) tables_fail
      (given (ltb count n) (wrong_count count)
      (and_then (data_in reading n) (ending reading n)))

  -- ---- the data

  -- pair q has all fourteen
  abbrev Fourteen : ℕ → Data → Type 0
  Fourteen q d = get_or (levels_of d.pairs) q 0 ≡ 14

  data-parted : (n : ℕ) → Parted Fourteen (data_in 0 n) (data_in 1 n)
  data-parted n =
      then-parted Fourteen (read_all k.fs_ind n f origin) _ _
      (λ side. then-parted Fourteen (start_in f side.1) _ _
      (λ state. then-parted Fourteen (read_tns t.orders t.coefficients (weighting_row k.duration bits) side.0.tns_first side.0.tns_second state.0 f state.1) _ _
      (λ tns. behind side.0 tns)))
    where
      behind : (s : SideInfo) (tns : Coded Tns × Cursor) →
          let pairs : Bool → Answer (Coded (List Pair) × Cursor) = λ b. read_pairs t.lookup t.frequencies b (eqb s.lsb 1) (rate_flag bits k.fs_ind) n 0 (s.lastnz / 2) 0 tns.0.state f tns.1 in
          let made : Coded (List Pair) × Cursor → Answer (Data × Cursor) = λ x. accepted (record { side = s; tns = tns.0.value; pairs = x.0.value; range = x.0.state.range }, x.1) in
          Parted Fourteen (and_then (pairs false) made) (and_then (pairs true) made)
      behind s tns =
          parted-then (OneFourteen 0) Fourteen _ _ _
          (λ q xs d h e.
          let at : h.0 ≡ q = sym (zero-add h.0) ∙ sym h.1 in
          ap (λ (y : Data × Cursor). get_or (levels_of y.0.pairs) q 0) (sym (accepted-same e)) ∙ subst (λ (i : ℕ). get_or (levels_of xs.0.value) i 0 ≡ 14) at h.2)
          (pairs-parted t.lookup t.frequencies (eqb s.lsb 1) (rate_flag bits k.fs_ind) n 0 (s.lastnz / 2) 0 tns.0.state f tns.1)

  -- ---- the residual bits

  module _ (one two n : ℕ) (d : Data) (c : Cursor) where
    mode-alike : (room : ℕ) (z : Answer Frame) → OutsideLeastBit z → accepted (by_mode one n f d c room (eqb d.side.lsb 1)) ≡ z → accepted (by_mode two n f d c room (eqb d.side.lsb 1)) ≡ z
    mode-alike room (refused q) o h = absurd (no-refusal h)
    mode-alike room (accepted fr) o h =
        let sides = (mode-side one n f d c room (eqb d.side.lsb 1)).0 ∙ ap (λ (x : Frame). x.side) (accepted-same h) in
        let is : eqb d.side.lsb 1 ≡ false = ap (λ (x : SideInfo). eqb x.lsb 1) sides ∙ o in
        ap (λ b. accepted (by_mode two n f d c room b)) is ∙ sym (ap (λ b. accepted (by_mode one n f d c room b)) is) ∙ h

    ending-alike : (z : Answer Frame) → OutsideLeastBit z → ending one n (d, c) ≡ z → ending two n (d, c) ≡ z
    ending-alike z o = then-alike (available bits c d.range) _ _ z (λ room h. mode-alike room z o h)

    ending-pairs : (x : Frame) → ending one n (d, c) ≡ accepted x → d.pairs ≡ x.pairs
    ending-pairs x e =
        let u = then-split (available bits c d.range) (λ room. accepted (by_mode one n f d c room (eqb d.side.lsb 1))) e in
        (mode-side one n f d c u.0 (eqb d.side.lsb 1)).1 ∙ ap (λ (y : Frame). y.pairs) (accepted-same u.2)

  -- ---- the frame

  -- 5: outside least-bit mode the standard reading answers as the crate's on any bytes, or by 19; the zero flag, which is no part of a
  -- frame here, aside
  pub readings-alike : (z : Answer Frame) → OutsideLeastBit z → read_frame crate t count f ≡ z → AlikeOrDamage z (read_frame standard t count f)
  readings-alike z o e = lines (frame_lines crate (length f)) e
    where
      parted : (n : ℕ) → Parted Fourteen (data_in 0 n) (data_in 1 n) → and_then (data_in 0 n) (ending 0 n) ≡ z → AlikeOrDamage z (and_then (data_in 1 n) (ending 1 n))
      parted n (same q) h =
          alike (sym (ap (λ a. and_then a (ending 1 n)) (sym q) ∙ then-alike (data_in 0 n) (ending 0 n) (ending 1 n) z (λ x. ending-alike 0 1 n x.0 x.1 z o) h))
      parted n (damaged p q so) h =
          damage p (ap (λ a. and_then a (ending 1 n)) q)
          (λ x u. let v = then-split (data_in 0 n) (ending 0 n) (h ∙ u) in
          ap (λ (ps : List Pair). get_or (levels_of ps) p 0) (sym (ending-pairs 0 1 n v.0.0 v.0.1 x v.2)) ∙ so v.0 v.1)

      lines : (a : Answer ℕ) → and_then a (from 0) ≡ z → AlikeOrDamage z (and_then a (from 1))
      lines (refused r) h = alike (sym h)
      lines (accepted n) h =
          given-either (not (tables_pass t)) tables_fail _ _ z
          (given-either (ltb count n) (wrong_count count) _ _ z (parted n (data-parted n))) h

  -- and the crate's as the standard reading where that gives any answer but 19
  pub standard-alike : (z : Answer Frame) → OutsideLeastBit z → NoDamage z → read_frame standard t count f ≡ z → read_frame crate t count f ≡ z
  standard-alike z o none e = lines (frame_lines crate (length f)) e
    where
      parted : (n : ℕ) → Parted Fourteen (data_in 0 n) (data_in 1 n) → and_then (data_in 1 n) (ending 1 n) ≡ z → and_then (data_in 0 n) (ending 0 n) ≡ z
      parted n (same q) h =
          then-alike (data_in 0 n) (ending 1 n) (ending 0 n) z (λ x. ending-alike 1 0 n x.0 x.1 z o) (ap (λ a. and_then a (ending 1 n)) q ∙ h)
      parted n (damaged p q so) h =
          absurd (subst NoDamage (sym h ∙ ap (λ a. and_then a (ending 1 n)) q) none refl)

      lines : (a : Answer ℕ) → and_then a (from 1) ≡ z → and_then a (from 0) ≡ z
      lines (refused r) h = h
      lines (accepted n) h =
          given-alike (not (tables_pass t)) tables_fail _ _ z
          (given-alike (ltb count n) (wrong_count count) _ _ z (parted n (data-parted n))) h

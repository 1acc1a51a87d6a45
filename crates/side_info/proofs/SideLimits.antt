-- A side record passes refusal 13 just if each of its fields is within its limit: the test is thirteen tests joined, and each
-- of them says one limit. Assumes nothing.
use Prim.Native.Nat.{ℕ, ◌%◌, ◌≤◌}
use mathlib.Core.Path.{◌≡◌}
use mathlib.Core.Bool.{true}
use borrow.Author.Tests.{leb-true, eqb-true, le-leb, eq-eqb}
use lib.Dec.{leb, eqb}
use Rattle.common.proofs.Bools.{and_both}
use Rattle.side_info.specs.Record.{if_there, sns_passes, side_passes}
use Rattle.side_info.specs.declared.SideInfo.{SideInfo}
use Rattle.side_info.proofs.Joints.{parts}

-- the limits of a record that passes
pub record SideLimits (fs lines : ℕ) (s : SideInfo) : Type 0 where
  pub band : s.bandwidth ≤ fs
  pub even : s.lastnz % 2 ≡ 0
  pub two : 2 ≤ s.lastnz
  pub last : s.lastnz ≤ lines
  pub bit : s.lsb ≤ 1
  pub level : s.gain ≤ 255
  pub first : s.tns_first ≤ 1
  pub second : s.tns_second ≤ if_there (leb 3 s.bandwidth) 1
  pub filter : s.pitch ≤ 1
  pub stages : sns_passes s.sns ≡ true
  pub on-off : s.active ≤ if_there (eqb s.pitch 1) 1
  pub place : s.index ≤ if_there (eqb s.pitch 1) 511
  pub noises : s.noise ≤ 7

-- from the test to the limits
pub side-limits : (fs lines : ℕ) (s : SideInfo) → side_passes fs lines s ≡ true → SideLimits fs lines s
side-limits fs lines s e =
    let e12 = parts _ _ e in
    let e11 = parts _ _ e12.0 in
    let e10 = parts _ _ e11.0 in
    let e9 = parts _ _ e10.0 in
    let e8 = parts _ _ e9.0 in
    let e7 = parts _ _ e8.0 in
    let e6 = parts _ _ e7.0 in
    let e5 = parts _ _ e6.0 in
    let e4 = parts _ _ e5.0 in
    let e3 = parts _ _ e4.0 in
    let e2 = parts _ _ e3.0 in
    let e1 = parts _ _ e2.0 in
    record {
      band = leb-true _ _ e1.0;
      even = eqb-true _ _ e1.1;
      two = leb-true _ _ e2.1;
      last = leb-true _ _ e3.1;
      bit = leb-true _ _ e4.1;
      level = leb-true _ _ e5.1;
      first = leb-true _ _ e6.1;
      second = leb-true _ _ e7.1;
      filter = leb-true _ _ e8.1;
      stages = e9.1;
      on-off = leb-true _ _ e10.1;
      place = leb-true _ _ e11.1;
      noises = leb-true _ _ e12.1;
    }

-- and back, thirteen tests at once
pub limits-pass : (fs lines : ℕ) (s : SideInfo) → SideLimits fs lines s → side_passes fs lines s ≡ true
limits-pass fs lines s h =
    and_both _ _
    (and_both _ _
    (and_both _ _
    (and_both _ _
    (and_both _ _
    (and_both _ _
    (and_both _ _
    (and_both _ _
    (and_both _ _
    (and_both _ _
    (and_both _ _ (and_both _ _ (le-leb _ _ h.band) (eq-eqb _ _ h.even)) (le-leb _ _ h.two))
    (le-leb _ _ h.last))
    (le-leb _ _ h.bit))
    (le-leb _ _ h.level))
    (le-leb _ _ h.first))
    (le-leb _ _ h.second))
    (le-leb _ _ h.filter))
    h.stages)
    (le-leb _ _ h.on-off))
    (le-leb _ _ h.place))
    (le-leb _ _ h.noises)

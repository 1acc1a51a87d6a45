-- What is sent passes: each symbol for the head is one of a row that passes, and each bit for the tail is a bit, as its stage says.
-- Assumes nothing.
use Prim.Native.Nat.{ℕ, ◌-◌, ◌/◌}
use mathlib.Core.Path.{◌≡◌, refl}
use mathlib.Core.Bool.{true}
use lib.ListN.{length, take}
use Rattle.common.specs.Tables.{Tables, coded_pass}
use Rattle.common.specs.declared.configuration.Configuration.{Configuration}
use Rattle.common.proofs.Bools.{by-test}
use Rattle.common.proofs.Sets.{lookup-coded, frequencies-coded, orders-coded, coefficients-coded}
use Rattle.contexts.specs.Contexts.{rate_flag}
use Rattle.side_info.specs.Layout.{side_fields}
use Rattle.range_encoder.specs.Runs.{AllPass}
use Rattle.sending.specs.Private.{AllBits}
use Rattle.sending.proofs.Sends.{pass-append}
use Rattle.sending.proofs.Stands.{bits-append, take-bits-low}
use Rattle.tns_data.specs.Tns.{weighting_row}
use Rattle.tns_data.specs.Sent.{sent_tns, tns_of, tns_passes}
use Rattle.tns_data.proofs.Sends.{tns-all-pass}
use Rattle.spectral_data.specs.Private.{Modest}
use Rattle.spectral_data.specs.Sent.{pairs_bits}
use Rattle.spectral_data.proofs.Puts.{pairs-bits-low}
use Rattle.spectral_data.proofs.Sends.{pairs-all-pass}
use Rattle.residual_data.proofs.Puts.{residual-bits-low, late-bits-low}
use Rattle.frame_reader.proofs.Data.{weighting-most}
use Rattle.frame_writer.specs.Frame.{Content, least_bit, early_bits, late_bits, held_back, symbols_of, tail_bits}
use Rattle.frame_writer.proofs.Fields.{fields-bits-low}

-- ---- the symbols for the head

pub content-passes : (k : Configuration) (t : Tables) (bits n : ℕ) (w : Content) → coded_pass t ≡ true → tns_passes w.side.tns_first w.side.tns_second w.first w.second w.indices ≡ true → Modest w.lines → AllPass (symbols_of k t bits n w)
content-passes k t bits n w passes filters modest =
    let weighting = weighting_row k.duration bits in
    pass-append (sent_tns t.orders t.coefficients weighting (tns_of w.first w.second w.indices)) _
    (tns-all-pass t.orders t.coefficients weighting (orders-coded t passes) (coefficients-coded t passes) (weighting-most weighting k.duration bits refl) w.side.tns_first w.side.tns_second w.first w.second w.indices filters)
    (pairs-all-pass t.lookup t.frequencies (lookup-coded t passes) (frequencies-coded t passes) (rate_flag bits k.fs_ind) n w.lines modest 0 (w.side.lastnz / 2) 0)

-- ---- the bits for the tail

pub early-low : (fs ne : ℕ) (w : Content) → AllBits (early_bits fs ne w)
early-low fs ne w =
    bits-append _ (pairs_bits (least_bit w) w.lines 0 (w.side.lastnz / 2)) (fields-bits-low (side_fields fs ne w.side)) (pairs-bits-low (least_bit w) w.lines 0 (w.side.lastnz / 2))

late-low : (w : Content) → AllBits (late_bits w)
late-low w =
    by-test (least_bit w) (λ e. rw e (late-bits-low w.lines 0 (w.side.lastnz / 2))) (λ e. rw e (residual-bits-low 0 w.lines w.residual))

pub tail-low : (k : Configuration) (t : Tables) (bits ne : ℕ) (w : Content) → AllBits (tail_bits k t bits ne w)
tail-low k t bits ne w =
    let early = early_bits k.fs_ind ne w in
    let left = bits - length early - held_back k.reading (symbols_of k t bits ne w) in
    bits-append early (take left (late_bits w)) (early-low k.fs_ind ne w) (take-bits-low left (late_bits w) (late-low w))

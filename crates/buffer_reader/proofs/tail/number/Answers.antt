-- `tail::number` meets its contract: each return has as many bytes as were asked, the next byte always 256 times as heavy.
-- Assumes nothing.
use Prim.Native.Nat.{◌+◌, ◌≤◌}
use mathlib.Core.Path.{◌≡◌}
use lib.ListN.{length}
use native.Mathlib.Omega.{arith}
use Rattle.buffer_reader.proofs.Fields.{number-one, number-two, number-three, number-four}
use Rattle.buffer_reader.proofs.tail.number.Goals as goal

pub returns-then-num_bytes-eq1 : goal.returns-then-num_bytes-eq1
returns-then-num_bytes-eq1 c =
    let a = c.args in
    let fits : a.byte_index + 1 ≤ length a.buf.now = omega (arith, c.requires, c.if-num_bytes-eq1.true) in
    rw (c.if-num_bytes-eq1.true, number-one a.buf.now a.byte_index fits) c.from-one.ensures

pub returns-then-num_bytes-eq2 : goal.returns-then-num_bytes-eq2
returns-then-num_bytes-eq2 c =
    let a = c.args in
    let fits : a.byte_index + 2 ≤ length a.buf.now = omega (arith, c.requires, c.if-num_bytes-eq2.true) in
    rw (c.if-num_bytes-eq2.true, number-two a.buf.now a.byte_index fits) (omega (arith, c.from-one.ensures, c.from.ensures))

pub returns-then-num_bytes-eq3 : goal.returns-then-num_bytes-eq3
returns-then-num_bytes-eq3 c =
    let a = c.args in
    let fits : a.byte_index + 3 ≤ length a.buf.now = omega (arith, c.requires, c.if-num_bytes-eq3.true) in
    rw (c.if-num_bytes-eq3.true, number-three a.buf.now a.byte_index fits)
    (omega (arith, c.from-one.ensures, c.from.ensures, c.from-2.ensures))

pub returns : goal.returns
returns c =
    let a = c.args in
    let four : a.num_bytes ≡ 4 = omega (arith, c.requires, c.if-num_bytes-eq1.false, c.if-num_bytes-eq2.false, c.if-num_bytes-eq3.false) in
    let fits : a.byte_index + 4 ≤ length a.buf.now = omega (arith, c.requires, four) in
    rw (four, number-four a.buf.now a.byte_index fits)
    (omega (arith, c.from-one.ensures, c.from.ensures, c.from-2.ensures, c.from-3.ensures))

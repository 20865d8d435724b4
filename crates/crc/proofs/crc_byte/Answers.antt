-- `crc::crc_byte` meets its contract: so many of the eight steps are made.
-- Assumes nothing.
use mathlib.Core.Path.{◌≡◌, sym, ap, ◌∙◌}
use Prim.Native.Nat.{ℕ, ◌*◌}
use native.Mathlib.Omega.{arith}
use native.Mathlib.Numerals.{add-one}
use lib.Bits.{bit_xor}
use Rattle.crc.specs.Crc.{crc_bit, crc_steps, crc_byte}
use Rattle.crc.proofs.crc_byte.Goals as goal

pub loop-init : goal.loop-init
unfolding crc_steps
loop-init c = ap (λ (b : ℕ). bit_xor c.args.c (b * 256)) c.from.ensures

pub loop-preserved : goal.loop-preserved
unfolding crc_steps
loop-preserved c =
    let a = c.args in
    c.crc_bit-x.ensures ∙ ap crc_bit c.loop.invariant ∙ ap (λ (k : ℕ). crc_steps k (bit_xor a.c (a.b * 256))) (sym (add-one c.loop.counter))

pub returns : goal.returns
unfolding crc_byte
returns c =
    let e : c.loop.counter ≡ 8 = omega arith in
    c.loop.invariant ∙ ap (λ (k : ℕ). crc_steps k (bit_xor c.args.c (c.args.b * 256))) e

-- `bits_write::push_bytes` meets its contract.
-- Assumes nothing.
use native.Mathlib.Omega.{arith}
use mathlib.Core.Path.{◌≡◌, sym, ap, ◌∙◌}
use Prim.Native.Nat.{◌*◌, ◌/◌}
use Rattle.laws.specs.Bits.{unpack}
use Rattle.laws.proofs.ByteLaws.{length_unpack, bits_past, sets_bits}
use Rattle.bits_write.proofs.push_bytes.Goals as goal

pub returns-then-out-i : goal.returns-then-out-i
returns-then-out-i c =
    let a = c.args in
    let s = a.s.now in
    record { stored = sym (bits_past a.out.now a.at (unpack s) c.if-out-i.true); next_is = omega (arith, length_unpack s) }

pub returns-then-at-eq0 : goal.returns-then-at-eq0
returns-then-at-eq0 c =
    let a = c.args in
    let s = a.s.now in
    let copied = c.copy.ensures in
    let whole : a.at / 8 * 8 ≡ a.at = omega arith in
    record {
      stored = ap unpack copied.stored ∙ rw whole at (sets_bits a.out.now (a.at / 8) s);
      next_is = omega (arith, copied.next_is, length_unpack s);
    }

-- `bits_write::push_text7` meets its contract: the sevens, and then the pad.
-- Assumes nothing.
use native.Mathlib.Omega.{arith}
use mathlib.Core.Path.{ap, ◌∙◌}
use Prim.Native.Nat.{ℕ, ◌-◌, ◌%◌}
use Rattle.laws.specs.Bits.{bits_of}
use Rattle.laws.proofs.WroteLaws.{wrote_as}
use Rattle.bits_write.specs.Text7.{sevens, last_or}
use Rattle.bits_write.proofs.Text7Laws.{text7_wrote}
use Rattle.bits_write.proofs.WriteLaws.{pad_bits}
use Rattle.bits_write.proofs.push_text7.Goals as goal

pub returns : goal.returns
returns c =
    let push = c.push in
    let pad = c.pad_of in
    let s = c.push_sevens-pos in
    let a = c.args in
    let last = last_or a.last (sevens a.text.now) in
    let n = 8 - s.result % 8 in record {
      wrote = text7_wrote a.last a.text.now s.ensures.value s.ensures.wrote
          (wrote_as (ap (λ (v : ℕ). bits_of n v) pad.ensures ∙ pad_bits last n (omega arith)) push.ensures.wrote);
      value = omega (arith, push.ensures.value, s.ensures.value);
    }

-- `ax25_aprs::field::value` meets its contract: there are n bits to take.
-- Assumes nothing.
use borrow.Author.Rules.{rules}
use native.Mathlib.Omega.{arith}
use mathlib.Core.Path.{sym, ◌∙◌}
use Rattle.bits.proofs.ReadLaws.{taken_bits}
use Rattle.ax25_aprs.proofs.ValueLaws.{value_told}
use Rattle.ax25_aprs.proofs.field.value.Goals as goal

pub unwrap-v-requires : goal.unwrap-v-requires
unwrap-v-requires c =
    let a = c.args in
    rw (c.take_at.ensures ∙ taken_bits a.s.now a.at a.n (omega arith)) (search rules)

pub returns : goal.returns
returns c =
    let a = c.args in
    value_told a.s.now a.at a.n (omega arith) _ _ (sym c.take_at.ensures ∙ c.unwrap-v.ensures)

-- `send_lines::line::put_price` meets its contract.
-- Assumes nothing.
use native.Mathlib.Omega.{arith}
use Rattle.laws.proofs.WroteLaws.{wrote_then}
use Rattle.texts.proofs.NumberLaws.{numeral_length}
use Rattle.send_lines.specs.Line.{price_line}
use Rattle.send_lines.proofs.line.put_price.Goals as goal

pub copy-b-requires : goal.copy-b-requires
copy-b-requires c =
    let bytes = c.put_number-a in
    omega (arith, bytes.ensures.next_is, numeral_length c.args.p.length)

pub put_number-e-requires : goal.put_number-e-requires
put_number-e-requires c =
    let bytes = c.put_number-a in
    omega (arith, c.copy-b.ensures.next_is, bytes.ensures.next_is, numeral_length c.args.p.length)

pub copy-requires : goal.copy-requires
copy-requires c =
    let bytes = c.put_number-a in
    omega (
      arith,
      c.put_number-e.ensures.next_is,
      c.copy-b.ensures.next_is,
      bytes.ensures.next_is,
      numeral_length c.args.p.length,
      numeral_length c.args.p.count,
    )

pub returns : goal.returns
unfolding price_line
returns c =
    wrote_then c.put_number-a.ensures (wrote_then c.copy-b.ensures (wrote_then c.put_number-e.ensures c.copy.ensures))

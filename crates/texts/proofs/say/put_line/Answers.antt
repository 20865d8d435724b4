-- `texts::say::put_line` meets its contract.
-- Assumes nothing.
use native.Mathlib.Omega.{arith}
use Rattle.laws.proofs.WroteLaws.{wrote_then}
use Rattle.texts.specs.Say.{numbered_line}
use Rattle.texts.proofs.NumberLaws.{numeral_length}
use Rattle.texts.proofs.say.put_line.Goals as goal

pub copy-r-requires : goal.copy-r-requires
copy-r-requires c =
    (omega (arith, c.requires.0, c.requires.1, c.copy-p.ensures.next_is, c.put_number-q.ensures.next_is, numeral_length c.args.n), omega arith)

pub copy-e-requires : goal.copy-e-requires
copy-e-requires c =
    (omega (arith, c.requires.0, c.requires.1, c.copy-p.ensures.next_is, c.put_number-q.ensures.next_is, numeral_length c.args.n, c.copy-r.ensures.next_is), omega (arith, c.requires.2))

pub byte-requires : goal.byte-requires
byte-requires c =
    omega (arith, c.requires, c.copy-p.ensures.next_is, c.put_number-q.ensures.next_is, numeral_length c.args.n, c.copy-r.ensures.next_is, c.copy-e.ensures.next_is)

pub returns : goal.returns
unfolding numbered_line
returns c =
    wrote_then c.copy-p.ensures
    (wrote_then c.put_number-q.ensures
    (wrote_then c.copy-r.ensures (wrote_then c.copy-e.ensures c.byte.ensures)))

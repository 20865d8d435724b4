-- `receive_lines::line::put_digits` meets its contract.
-- Assumes nothing.
use mathlib.Core.Path.{sym, ◌∙◌}
use native.Mathlib.Omega.{arith}
use lib.ListN.{length}
use borrow.Author.Tests.{eqb-true, eqb-false}
use Rattle.laws.proofs.WroteLaws.{wrote_then, wrote_none}
use Rattle.texts.proofs.SayLaws.{digits_none, digits_some}
use Rattle.texts.proofs.ShowLaws.{hex_length}
use Rattle.receive_lines.proofs.line.put_digits.Goals as goal

pub returns-then-is_empty : goal.returns-then-is_empty
returns-then-is_empty c =
    let empty = eqb-true (length c.args.«data».now) 0 (sym c.is_empty.ensures ∙ c.if-is_empty.true) in
    (rw (digits_none _ empty) wrote_none, omega arith)

pub returns : goal.returns
returns c =
    let some = eqb-false (length c.args.«data».now) 0 (sym c.is_empty.ensures ∙ c.if-is_empty.false) in
    let blank = c.byte-p.ensures in
    let hex = c.put_hex.ensures in (
      rw (digits_some _ some) (wrote_then blank hex),
      omega (arith, c.requires, blank.next_is, hex.next_is, hex_length c.args.«data».now),
    )

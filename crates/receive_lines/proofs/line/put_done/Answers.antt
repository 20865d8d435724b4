-- `receive_lines::line::put_done` meets its contract.
-- Assumes nothing.
use native.Mathlib.Omega.{arith}
use Rattle.laws.proofs.WroteLaws.{wrote_then}
use Rattle.texts.specs.Say.{spelled_of}
use Rattle.receive_lines.specs.Line.{done_text}
use Rattle.texts.proofs.SayLaws.{word_few}
use Rattle.receive_lines.proofs.line.put_done.Goals as goal

pub put_digits-r-requires : goal.put_digits-r-requires
put_digits-r-requires c =
    (c.requires, omega (arith, c.copy-p.ensures.next_is, c.put_word-q.ensures.next_is, word_few c.args.command))

pub returns : goal.returns
unfolding done_text spelled_of
returns c =
    wrote_then c.copy-p.ensures
    (wrote_then (wrote_then c.put_word-q.ensures c.put_digits-r.ensures.0)
    (wrote_then c.copy-s.ensures (wrote_then c.put_readable-e.ensures.0 c.byte.ensures)))

-- `ax25_aprs::words::put_word` meets its contract. The first letters are written.
-- Assumes nothing.
use native.Mathlib.Omega.{arith}
use native.Mathlib.Numerals.{add-one}
use Prim.Native.Nat.{◌<◌}
use lib.ListN.{length}
use lib.Seq.{take-suc}
use Rattle.laws.proofs.WroteLaws.{wrote_then}
use Rattle.ax25_aprs.specs.Words.{word}
use Rattle.ax25_aprs.proofs.WordLaws.{word_size}
use Rattle.ax25_aprs.proofs.words.put_word.Goals as goal

pub byte-next-requires : goal.byte-next-requires
byte-next-requires c =
    let a = c.args in
    let short = word_size a.n (omega arith) (omega arith) in
    let more : c.loop-letter.letter-index < length (word a.n) = rw (c.word-letter-items.ensures) at c.loop-letter-test.true in
    omega (arith, short, more, c.loop-letter.invariant.0)

pub loop-letter-preserved : goal.loop-letter-preserved
loop-letter-preserved c =
    let a = c.args in
    let put = c.byte-next in
    let j = c.loop-letter.letter-index in
    let more : j < length (word a.n) = rw (c.word-letter-items.ensures) at c.loop-letter-test.true in (
      omega (arith, put.ensures.next_is, c.loop-letter.invariant.0),
      rw (add-one, take-suc (word a.n) j 0 more) (wrote_then c.loop-letter.invariant.1 (rw (c.word-letter-items.ensures) at put.ensures)),
    )

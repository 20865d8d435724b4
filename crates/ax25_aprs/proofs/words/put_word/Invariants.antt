-- `ax25_aprs::words::put_word` meets its contract. The first letters are written.
-- Assumes nothing.
use mathlib.Core.Path.{◌≡◌}
use Prim.Native.Nat.{◌+◌}
use lib.ListN.{take}
use Rattle.laws.specs.Wrote.{Wrote}
use Rattle.ax25_aprs.specs.Words.{word}
use Rattle.ax25_aprs.proofs.words.put_word.Given as goal

abbrev pub invariant-loop-letter : goal.invariant-loop-letter
invariant-loop-letter l = (l.next ≡ l.at + l.letter-index) × Wrote l.initial.out l.at (take l.letter-index (word l.n)) l.out l.next

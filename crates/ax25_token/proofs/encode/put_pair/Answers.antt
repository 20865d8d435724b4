-- `ax25_token::encode::put_pair` meets its contract, by its three writes.
-- Assumes nothing.
use mathlib.Core.Path.{◌≡◌}
use mathlib.Core.Bool.{Bool}
use mathlib.Core.List.{List}
use Prim.Native.Nat.{ℕ, ◌+◌}
use lib.ListN.{get_or}
use lib.Dec.{eqb}
use Rattle.laws.specs.Bits.{num, bits_of}
use Rattle.laws.specs.Wrote.{Wrote}
use Rattle.laws.proofs.WroteLaws.{wrote_then}
use Rattle.ax25_token.specs.Put.{paired_bits}
use Rattle.ax25_token.specs.Token.{number_at}
use Rattle.ax25_token.proofs.encode.put_pair.Goals as goal

-- the index, the digit and the number, one after another
pair_written : (c : List ℕ) (i k w x y : ℕ) {b d e g : List Bool} {at p q r : ℕ} → Wrote b at (bits_of 6 i) d p
    → x ≡ num (eqb (get_or c k 0) 50) → Wrote d p (bits_of 1 x) e q → y ≡ number_at c (k + 2) 1 → Wrote e q (bits_of w y) g r
    → Wrote b at (paired_bits i k w c) g r
unfolding paired_bits
pair_written c i k w x y f s g t h = wrote_then f (wrote_then (rw s at g) (rw t at h))

pub returns : goal.returns
returns c =
    let a = c.args in
    pair_written a.c.now a.i a.k a.w _ _ c.push-p.ensures.wrote c.two_at.ensures c.push-q.ensures.wrote c.number_at.ensures c.push.ensures.wrote

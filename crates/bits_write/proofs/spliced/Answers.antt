-- `bits_write::spliced` meets its contract: nothing wraps, and the sum is `splice`.
-- Assumes nothing.
use native.Mathlib.Omega.{arith}
use native.Mathlib.Nat.{le-mul_of_pos_right}
use mathlib.Core.Path.{◌≡◌}
use Prim.Native.Nat.{ℕ, ◌+◌, ◌-◌, ◌*◌, ◌/◌, ◌%◌, ◌^◌, ◌≤◌, ◌<◌}
use lib.Pow.{pow_pos}
use Rattle.bits_write.proofs.WriteLaws.{splice, splice_lt, bits_splice}
use Rattle.bits_write.proofs.spliced.Goals as goal

is_splice : (x v m r p q : ℕ) → p ≡ 2 ^ m → q ≡ 2 ^ r → (x / q / p * p + v % p) * q + x % q ≡ splice x v m r
unfolding splice
is_splice x v m r p q e f = rw (e, f)

-- the parts are no larger than the sum, and the sum is a byte
module _ (x v m r p q : ℕ) (small : m + r ≤ 8) (byte : x < 256) (e : p ≡ 2 ^ m) (f : q ≡ 2 ^ r) where
  sum_is : (x / q / p * p + v % p) * q + x % q ≡ splice x v m r
  sum_is = is_splice x v m r p q e f

  q_pos : 0 < q
  q_pos = rw f (pow_pos r)

  fits : (x / q / p * p + v % p ≤ (x / q / p * p + v % p) * q) × ((x / q / p * p + v % p) * q + x % q < 256)
  fits = (le-mul_of_pos_right (x / q / p * p + v % p) q_pos, omega (arith, sum_is, splice_lt 8 (8 - (m + r)) m r x v (omega arith) (omega arith)))

pub overflow_cast-result : goal.overflow_cast-result
overflow_cast-result c = omega (arith, fits c.from-w.result c.args.v c.args.m c.args.r c.power-p.result c.power-q.result c.requires (omega arith) c.power-p.ensures c.power-q.ensures)

pub returns : goal.returns
returns c =
    let a = c.args in
    rw (sum_is c.from-w.result a.v a.m a.r c.power-p.result c.power-q.result c.requires (omega arith) c.power-p.ensures c.power-q.ensures, c.from-w.ensures)
    (bits_splice 8 (8 - (a.m + a.r)) a.m a.r a.x a.v (omega arith))

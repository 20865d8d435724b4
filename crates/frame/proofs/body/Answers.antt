-- `frame::body` meets its contract.
-- Assumes nothing.
use mathlib.Core.Path.{◌≡◌}
use mathlib.Core.List.{List, [], ◌∷◌}
use Prim.Native.Nat.{ℕ, ◌+◌, ◌-◌, ◌≤◌, ◌<◌}
use native.Mathlib.Omega.{arith}
use lib.ListN.{length}
use Rattle.laws.specs.Wrote.{Wrote}
use Rattle.laws.proofs.WroteLaws.{wrote_then}
use Rattle.frame.specs.Frame.{terminator, fill_of, body_of}
use Rattle.frame.proofs.FrameLaws.{body_short, body_full}
use Rattle.frame.proofs.body.Goals as goal

-- the fragment has field bytes
full : {b c f : List ℕ} {p : ℕ} (field marker : ℕ) → field ≤ p → Wrote b 0 f c p → Wrote b 0 (body_of field f marker) c p
full {f = f} field marker h k = rw (body_full field f marker (omega (arith, k.next_is))) k

-- the fragment is shorter
short : {b c d e f : List ℕ} {p q r : ℕ} (field marker : ℕ) → p < field
    → Wrote b 0 f c p → Wrote c p (terminator ∷ []) d q → Wrote d q (fill_of (field - q) marker) e r → Wrote b 0 (body_of field f marker) e r
short {f = f} {q = q} field marker h k l m =
    let z : length f + 1 ≡ q = omega (arith, k.next_is, l.next_is) in
    rw (body_short field f marker (omega (arith, k.next_is)), z) (wrote_then k (wrote_then l m))

pub returns-then-field-end : goal.returns-then-field-end
returns-then-field-end c = full _ _ c.if-field-end.true c.copy-end.ensures

pub returns : goal.returns
returns c =
    short _ _ c.if-field-end.false c.copy-end.ensures c.byte-next.ensures c.fill.ensures

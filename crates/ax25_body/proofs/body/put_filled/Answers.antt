-- `ax25_body::body::put_filled` meets its contract.
-- Assumes nothing.
use native.Mathlib.Omega.{arith}
use mathlib.Core.Path.{◌≡◌, ap}
use Prim.Native.Nat.{ℕ, ◌-◌, ◌≤◌}
use lib.ListN.{length, drop, replicate, length-take}
use Rattle.laws.proofs.WroteLaws.{wrote_then}
use Rattle.ax25_token.specs.declared.Call.{Call}
use Rattle.ax25_token.specs.Call.{text_of}
use Rattle.ax25_body.proofs.BodyLaws.{filled_long, filled_short}
use Rattle.ax25_body.proofs.body.put_filled.Goals as goal

pub returns-then-c-ge9 : goal.returns-then-c-ge9
returns-then-c-ge9 c =
    let a = c.args in
    let p = c.put_text-p in
    let n : c.c.inside.len ≡ a.c.len = ap (λ (x : Call). x.len) c.c.view_is in
    let h : 9 ≤ length (text_of a.c) = omega (arith, p.ensures.wrote.next_is, p.ensures.value, n, c.if-c-ge9.true) in
    record { wrote = rw (filled_long 9 (text_of a.c) h) p.ensures.wrote; upper_bound = omega (arith, p.ensures.value, n, c.c.invariant) }

pub returns : goal.returns
returns c =
    let a = c.args in
    let v : Call = record { bytes = c.c.inside.bytes; len = c.c.inside.len } in
    let p = c.put_text-p in
    let w = c.copy.ensures in
    let q = rw (← c.c.view_is) at p.ensures in
    let e : v.len ≡ length (text_of v) = omega (arith, q.wrote.next_is, q.value) in
    let n = 9 - v.len in
    let k = length-take {A = ℕ} n (drop v.len (replicate 9 32)) in
    rw (← c.c.view_is) record { wrote = rw (filled_short 9 v.len (text_of v) e) (wrote_then q.wrote w); upper_bound = omega (arith, q.value, w.next_is, k, c.c.invariant) }

-- `send_lines::line::all` meets its contract: with the frames that are left, the text is whole.
-- Assumes nothing.
use mathlib.Core.Path.{◌≡◌}
use Prim.Native.Nat.{◌+◌, ◌-◌}
use native.Mathlib.Omega.{arith}
use Rattle.sender.specs.Send.{send_of}
use Rattle.send_lines.specs.Line.{framed_of}
use Rattle.send_lines.proofs.LineLaws.{frames_none, frames_next, frames_stop, next_few}
use Rattle.send_lines.proofs.line.all.Goals as goal

pub returns-in-Err : goal.returns-in-Err
returns-in-Err c =
    let a = c.args in
    let k = c.loop-k.k in
    c.loop-k.invariant.1 _ _
    (frames_stop a.message.now a.job.field a.job.mask (a.count - k) k (λ e. omega (arith, e, c.loop-k-test.true)) c.one.result c.one.ensures c.in-Err.is
    (rw c.from.ensures at c.put_refusal.ensures))

pub loop-k-preserved : goal.loop-k-preserved
loop-k-preserved c =
    let a = c.args in
    let k = c.loop-k.k in
    let e : a.count - (k + 1) ≡ (a.count - k) - 1 = omega arith in
    let few = next_few (framed_of a.job.field (send_of a.message.now a.job.field a.job.mask k)) _ _ _ _ c.one.result c.one.ensures c.in-Ok.is in (
      omega (arith, few, c.loop-k.invariant.0),
      λ g q w. c.loop-k.invariant.1 g q
          (frames_next a.message.now a.job.field a.job.mask (a.count - k) k (λ z. omega (arith, z, c.loop-k-test.true)) c.one.result c.one.ensures c.in-Ok.is (rw e at w)),
    )

pub returns : goal.returns
returns c =
    let a = c.args in
    let k = c.loop-k.k in
    c.loop-k.invariant.1 _ _ (frames_none a.message.now a.job.field a.job.mask (a.count - k) k (omega arith))

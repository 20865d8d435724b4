-- `crc::crc_rest` meets its contract: the groups that are left come after those that are in.
-- Assumes nothing.
use mathlib.Core.Path.{sym, ap, ◌∙◌}
use Prim.Native.Nat.{ℕ}
use native.Mathlib.Omega.{arith}
use Rattle.std.specs.Slice.Iter.{chunks_exact_rest}
use Rattle.crc.proofs.LinearLaws.{eights_of, eights_on, eights_end}
use Rattle.crc.proofs.crc_rest.Goals as goal

pub loop-eight-preserved : goal.loop-eight-preserved
loop-eight-preserved c =
    let s = c.in-Some.ensures.steps in
    let known = c.loop-eight.invariant in (
      s.0 ∙ known.0,
      ap (λ (x : ℕ). eights_of x (chunks_exact_rest c.next.new.self)) c.crc_eight-c.ensures
          ∙ sym (eights_on c.loop-eight.c _ _ _ s.1.0 (s.1.1 ∙ known.0))
          ∙ known.1,
    )

pub returns : goal.returns
returns c =
    let s = c.in-None.ensures.steps in
    let known = c.loop-eight.invariant in
    sym (eights_end c.loop-eight.c (chunks_exact_rest c.loop-eight.eight-iterator) (omega (arith, s.1.0, known.0))) ∙ known.1

-- `Joiner::grow` meets its contract: each way out is a case of the definition.
-- Assumes nothing.
use mathlib.Core.Path.{◌≡◌, sym, ◌∙◌}
use Prim.Native.Nat.{ℕ, ◌+◌, ◌-◌, ◌≤◌, ◌<◌}
use native.Mathlib.Omega.{arith}
use Rattle.frame.proofs.PartLaws.{put_copied}
use Rattle.receiver.specs.Join.{base_of}
use Rattle.receiver.proofs.JoinLaws.{grow_many, grow_long, grow_more, grow_last, base_max}
use Rattle.receiver.proofs.Joiner.grow.Goals as goal
use Rattle.receiver.proofs.Joiner.grow.Goals.{then-self-ge-RX_MAX_FRAGMENTS-via-then-self-ge-RX_MAX_FRAGMENTS, then-self-ge-RX_MAX_FRAGMENTS-via-else-self-ge-RX_MAX_FRAGMENTS+then-base-tail}

-- the test by what is left of the store, as a test of held plus tail
too_long : (base n : ℕ) → base ≤ 5000 → 5000 - base < n → 5000 < base + n
too_long base n l h = omega arith

long_enough : (base n : ℕ) → base ≤ 5000 → n ≤ 5000 - base → base + n ≤ 5000
long_enough base n l h = omega arith

pub returns-then-self-ge-RX_MAX_FRAGMENTS : goal.returns-then-self-ge-RX_MAX_FRAGMENTS
returns-then-self-ge-RX_MAX_FRAGMENTS c =
    let a = c.args in
    let base : c.max-base.result ≡ base_of a.self.held = c.max-base.ensures ∙ base_max a.self.held in
    rw c.reset.ensures
    (elim c.then-self-ge-RX_MAX_FRAGMENTS.branch [
      | then-self-ge-RX_MAX_FRAGMENTS-via-then-self-ge-RX_MAX_FRAGMENTS w ↦ sym (grow_many _ _ _ _ w.if-self-ge-RX_MAX_FRAGMENTS.true)
      | then-self-ge-RX_MAX_FRAGMENTS-via-else-self-ge-RX_MAX_FRAGMENTS+then-base-tail w ↦ sym (grow_long _ _ _ _ (rw base at (too_long _ _ (omega (arith, c.max-base.ensures)) w.if-base-tail.true)))
    ])

pub returns-then-first-ge128 : goal.returns-then-first-ge128
returns-then-first-ge128 c =
    let a = c.args in
    let base : c.max-base.result ≡ base_of a.self.held = c.max-base.ensures ∙ base_max a.self.held in
    let copied = put_copied c.max-base.result c.head.new.store c.copy_from_slice.new.self a.tail.now c.copy_from_slice.ensures.after (omega (arith, c.head.auto.store)) in
    rw (copied, c.head.ensures, base)
    (sym (grow_more _ _ _ _ c.if-self-ge-RX_MAX_FRAGMENTS.false (rw base at (long_enough _ _ (omega (arith, c.max-base.ensures)) c.if-base-tail.false)) c.if-first-ge128.true))

pub returns : goal.returns
returns c =
    let a = c.args in
    let base : c.max-base.result ≡ base_of a.self.held = c.max-base.ensures ∙ base_max a.self.held in
    let copied = put_copied c.max-base.result c.head.new.store c.copy_from_slice.new.self a.tail.now c.copy_from_slice.ensures.after (omega (arith, c.head.auto.store)) in
    c.finish.ensures
    ∙ rw (copied, c.head.ensures, base)
    (sym (grow_last _ _ _ _ c.if-self-ge-RX_MAX_FRAGMENTS.false (rw base at (long_enough _ _ (omega (arith, c.max-base.ensures)) c.if-base-tail.false)) c.if-first-ge128.false))

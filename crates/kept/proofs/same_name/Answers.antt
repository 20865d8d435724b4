-- `kept::same_name` meets its contract. The first i bytes are the same.
-- Assumes nothing.
use mathlib.Core.Path.{◌≡◌, sym, ap, ◌∙◌}
use mathlib.Core.List.{List}
use Prim.Native.Nat.{ℕ}
use lib.ListN.{length, get_or, take}
use lib.Seq.{get_or-take, ext_get_or, length-take-le}
use borrow.Author.Count.{below_more}
use native.Mathlib.Omega.{arith}
use Rattle.laws.proofs.TextLaws.{ne_same, eq_same}
use Rattle.kept.proofs.same_name.Goals as goal

pub returns-then-name-len : goal.returns-then-name-len
returns-then-name-len c =
    let a = c.args in
    sym (ne_same a.name.now (take a.len a.eight.now)
    (λ e. let z : length a.name.now ≡ a.len = ap length e ∙ length-take-le a.len a.eight.now (omega arith) in omega arith))

pub loop-i-init : goal.loop-i-init
loop-i-init c k h = absurd (omega arith)

pub bounds-eight-i : goal.bounds-eight-i
bounds-eight-i c = omega arith

pub returns-then-name-i : goal.returns-then-name-i
returns-then-name-i c =
    let a = c.args in
    let i = c.loop-i.i in
    sym (ne_same a.name.now (take a.len a.eight.now)
    (λ e. c.if-name-i.true (ap (λ (x : List ℕ). get_or x i 0) e ∙ get_or-take a.len a.eight.now i 0 (omega arith))))

pub loop-i-preserved : goal.loop-i-preserved
loop-i-preserved c = below_more _ _ c.loop-i.invariant c.if-name-i.false

pub returns : goal.returns
returns c =
    let a = c.args in
    let q : length a.name.now ≡ a.len = omega arith in
    let z = length-take-le a.len a.eight.now (omega arith) in
    sym (eq_same a.name.now (take a.len a.eight.now)
    (ext_get_or 0 a.name.now (take a.len a.eight.now) (q ∙ sym z)
    (λ k h. c.loop-i.invariant k (omega arith) ∙ sym (get_or-take a.len a.eight.now k 0 (omega arith)))))

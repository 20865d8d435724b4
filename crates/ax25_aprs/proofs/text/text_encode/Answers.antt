-- `ax25_aprs::text::text_encode` meets its contract. What is left to code is the text after its first i bytes.
-- Assumes nothing.
use native.Mathlib.Omega.{arith}
use borrow.Author.Rules.{rules}
use mathlib.Core.Path.{◌≡◌}
use Prim.Native.Nat.{ℕ}
use lib.ListN.{length, drop, length-drop}
use Rattle.laws.specs.Bits.{unpack}
use Rattle.laws.proofs.ListLaws.{from_place}
use Rattle.ax25_aprs.proofs.Steps.{turn, stop, all_done}
use mathlib.Core.Path.{◌≡◌, sym, ap, ◌∙◌}
use Rattle.std.proofs.Common.{None, Result, Err}
use Rattle.std.specs.Result.{result_ok}
use Rattle.std.proofs.lemmas.Result.{err_from_is_err_and}
use Rattle.refusals.specs.declared.Refusal.{Refusal}
use Rattle.refusals.specs.declared.Refusal.TheVariants as refusal
use Rattle.ax25_aprs.proofs.text.text_encode.Goals as goal

pub returns-in_err-size : goal.returns-in_err-size
returns-in_err-size c =
    let a = c.args in
    let s = a.s.now in
    let i = c.loop-i.i in
    let left = unpack c.part.new.out in
    let p = err_from_is_err_and c.from_residual.result c.from_residual.ensures.1 in
    let none : c.part.result ≡ None = c.ok_or.ensures.ok_part ∙ ap result_ok c.in_err-size.was in
    let same : ◌≡◌ {A = Result (ℕ × ℕ) Refusal} (Err c.in_err-size.field-0.0) (Err refusal.Format) = sym c.in_err-size.was ∙ rw none at c.ok_or.ensures.value in
    let format : c.in_err-size.field-0.0 ≡ refusal.Format = cc in
    let told : c.from_residual.result ≡ Err refusal.Format = p.1 ∙ ap (λ (e : Refusal). Err e) (p.2 ∙ format) in
    rw told (c.loop-i.invariant.3 left (Err refusal.Format) (stop a.position s i (omega arith) (unpack c.loop-i.out) c.loop-i.next left left (rw (from_place s i, none) at c.part.ensures)))

pub overflow_add-i : goal.overflow_add-i
overflow_add-i c = omega (arith, (turn c.args.position c.args.s.now c.loop-i.i (omega arith) (unpack c.loop-i.out) c.loop-i.next (unpack c.part.new.out) c.in_ok-size.size c.in_ok-size.place (rw (from_place c.args.s.now c.loop-i.i, c.ok_or.ensures.ok_part ∙ ap result_ok c.in_ok-size.was) at c.part.ensures)).within)

pub loop-i-smaller : goal.loop-i-smaller
loop-i-smaller c = omega (arith, turn c.args.position c.args.s.now c.loop-i.i (omega arith) (unpack c.loop-i.out) c.loop-i.next (unpack c.part.new.out) c.in_ok-size.size c.in_ok-size.place (rw (from_place c.args.s.now c.loop-i.i, c.ok_or.ensures.ok_part ∙ ap result_ok c.in_ok-size.was) at c.part.ensures))

pub loop-i-preserved : goal.loop-i-preserved
loop-i-preserved c =
    let t = turn c.args.position c.args.s.now c.loop-i.i (omega arith) (unpack c.loop-i.out) c.loop-i.next (unpack c.part.new.out) c.in_ok-size.size c.in_ok-size.place (rw (from_place c.args.s.now c.loop-i.i, c.ok_or.ensures.ok_part ∙ ap result_ok c.in_ok-size.was) at c.part.ensures) in
    (omega (arith, t), search rules, omega (arith, t), λ e r h. c.loop-i.invariant.3 e r (t.on e r h))

pub returns : goal.returns
returns c =
    let a = c.args in
    let s = a.s.now in
    let i = c.loop-i.i in
    let none : length (drop i s) ≡ 0 = omega (arith, length-drop i s) in
    c.loop-i.invariant.3 (unpack c.loop-i.out) _ (all_done a.position (drop i s) (unpack c.loop-i.out) c.loop-i.next none)

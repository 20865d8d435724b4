-- `ax25_aprs::text::text_decode` meets its contract. What is left to write is the text after the bits that were read.
-- Assumes nothing.
use native.Mathlib.Omega.{arith}
use borrow.Author.Rules.{rules}
use mathlib.Core.Path.{◌≡◌}
use Prim.Native.Nat.{ℕ, ◌+◌, ◌-◌, ◌*◌, ◌≤◌, ◌<◌}
use lib.ListN.{length, drop}
use lib.Seq.{drop-drop}
use Rattle.laws.specs.Bits.{unpack}
use Rattle.laws.proofs.BitLaws.{value_take_lt}
use Rattle.ax25_aprs.specs.Text.{code_text, code_span}
use Rattle.ax25_aprs.proofs.SelfLaws.{wrote_selves}
use Rattle.ax25_aprs.proofs.TextLaws.{read_short, read_step, span_le, code_length}
use Rattle.laws.proofs.WroteLaws.{wrote_none, wrote_then}
use Rattle.ax25_aprs.proofs.ValueLaws.{bits_left}
use Rattle.ax25_aprs.proofs.text.text_decode.Goals as goal

-- the place stays below a bound: a code of seven bits gives at most eight bytes, and more bits at most a byte each
room_on : (all i next n k m : ℕ) {most : ℕ} → next + (all + 14 - i) * 2 ≤ most → n * 7 ≤ all - i → 7 ≤ all - (i + n * 7) → k ≤ 14 → 7 * m ≤ 56 + k
    → next + n + m + (all + 14 - (i + n * 7 + 7 + k)) * 2 ≤ most
room_on all i next n k m h r l s c = omega arith

pub loop-out-init : goal.loop-out-init
loop-out-init c = (search rules, omega arith, λ e r h. h)

pub returns-then-remaining_at-lt7 : goal.returns-then-remaining_at-lt7
returns-then-remaining_at-lt7 c =
    let a = c.args in
    let i = c.loop-out.i in
    let u = unpack a.s.now in
    let selves = c.put_selves-n in
    let n = selves.result in
    let few : length (drop (i + n * 7) u) < 7 = omega (arith, bits_left a.s.now (i + n * 7), c.remaining_at-in-loop-out.ensures) in
    let many : n * 7 ≤ length (drop i u) = omega (arith, bits_left a.s.now i, selves.ensures.result_in_bounds.0) in
    c.loop-out.invariant.2 _ _ (wrote_selves a.position n i u many selves.ensures.result_in_bounds.1 selves.ensures.wrote (rw (read_short a.position (drop (i + n * 7) u) few) wrote_none))

pub put_code-next-requires : goal.put_code-next-requires
put_code-next-requires c =
    let a = c.args in
    let selves = c.put_selves-n in
    let b = drop (c.loop-out.i + selves.result * 7) (unpack a.s.now) in
    omega (arith, value_take_lt b 7, c.value-code.ensures, selves.ensures.result_in_bounds.0, c.remaining_at-in-loop-out.ensures)

pub overflow_add-i-in-loop-out : goal.overflow_add-i-in-loop-out
overflow_add-i-in-loop-out c =
    let a = c.args in
    omega (arith, c.span.ensures, span_le a.position c.value-code.result)

pub loop-out-smaller : goal.loop-out-smaller
loop-out-smaller c = omega (arith, c.remaining_at.ensures)

pub loop-out-preserved : goal.loop-out-preserved
loop-out-preserved c =
    let a = c.args in
    let u = unpack a.s.now in
    let selves = c.put_selves-n in
    let n = selves.result in
    let run : n * 7 ≤ length (drop c.loop-out.i u) = omega (arith, bits_left a.s.now c.loop-out.i, selves.ensures.result_in_bounds.0) in
    let i = c.loop-out.i + n * 7 in
    let b = drop i u in
    let left = c.remaining_at-in-loop-out.ensures in
    let read = c.value-code in
    let put = c.put_code-next in
    let k = code_span a.position read.result in
    let small = span_le a.position read.result in
    let many : 7 ≤ length b = omega (arith, bits_left a.s.now i, left) in
    let on : i + (7 + k) ≡ i + 7 + c.span.result = omega (arith, c.span.ensures) in (
      search rules,
      rw (c.span.ensures, put.ensures.next_is)
          (room_on (length a.s.now * 8) c.loop-out.i c.loop-out.next n k (length (code_text a.position read.result (drop (i + 7) u))) c.loop-out.invariant.1 selves.ensures.result_in_bounds.0 (omega (arith, left)) small (code_length a.position read.result (drop (i + 7) u))),
      λ e r h.
          c.loop-out.invariant.2 e r
          (wrote_selves a.position n c.loop-out.i u run selves.ensures.result_in_bounds.1 selves.ensures.wrote
          (rw (read_step a.position b many, ← read.ensures, drop-drop 7 i u, drop-drop (7 + k) i u, on) (wrote_then put.ensures h))),
    )

pub returns : goal.returns
returns c =
    let a = c.args in
    let b = drop c.loop-out.i (unpack a.s.now) in
    let few : length b < 7 = omega (arith, bits_left a.s.now c.loop-out.i, c.remaining_at.ensures) in
    c.loop-out.invariant.2 c.loop-out.out c.loop-out.next (rw (read_short a.position b few) wrote_none)

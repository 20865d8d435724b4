-- `monitor::put_frame` meets its contract.
-- Assumes nothing.
use Prim.Native.Nat.{◌+◌, ◌-◌, ◌*◌, ◌^◌, ◌≤◌, ◌<◌}
use native.Mathlib.Omega.{arith}
use lib.ListN.{length, take, drop}
use Rattle.texts.proofs.ShowLaws.{shown_length}
use Rattle.monitor.proofs.MonitorLaws.{behind_size, has_count, sizes, frame_lined}
use Rattle.monitor.proofs.put_frame.Goals as goal

pub addr_end-end-requires : goal.addr_end-end-requires
addr_end-end-requires c =
    let a = c.args in
    let z = sizes a.l a.n a.frame.now c.requires.1 in
    (z.few, c.requires.0)

pub slice_bounds-put_call-count : goal.slice_bounds-put_call-count
slice_bounds-put_call-count c =
    let a = c.args in
    let z = sizes a.l a.n a.frame.now c.requires.1 in
    let h : a.l + 1 ≤ length a.frame.now = omega (arith, z.front) in
    h

pub slice_bounds-put_call-start : goal.slice_bounds-put_call-start
slice_bounds-put_call-start c =
    let a = c.args in
    let z = sizes a.l a.n a.frame.now c.requires.1 in
    let h : a.l + 1 ≤ length a.frame.now = omega (arith, z.front) in
    h

pub put_call-p-requires : goal.put_call-p-requires
put_call-p-requires c =
    let a = c.args in
    let z = sizes a.l a.n a.frame.now c.requires.1 in
    (omega (arith, z.front, behind_size a.frame.now (a.l + 1)), c.requires.0, omega (arith, c.requires.3))

pub put_call-d-requires : goal.put_call-d-requires
put_call-d-requires c =
    let a = c.args in
    let z = sizes a.l a.n a.frame.now c.requires.1 in
    (omega (arith, z.front), c.requires.0, omega (arith, c.requires.3, c.byte-q.ensures.next_is, c.put_call-p.ensures.1))

pub slice_bounds-put_via-count : goal.slice_bounds-put_via-count
slice_bounds-put_via-count c =
    let a = c.args in
    let z = sizes a.l a.n a.frame.now c.requires.1 in
    z.front

pub slice_bounds-put_via-start : goal.slice_bounds-put_via-start
slice_bounds-put_via-start c =
    let a = c.args in
    let z = sizes a.l a.n a.frame.now c.requires.1 in
    z.front

pub put_via-v-requires : goal.put_via-v-requires
put_via-v-requires c =
    let a = c.args in
    let z = sizes a.l a.n a.frame.now c.requires.1 in
    let size = behind_size a.frame.now (2 * (a.l + 1)) in
    (z.few, c.requires.0, omega (arith, z.behind, size), omega (arith, c.requires.2, size), omega (arith, c.requires.3, z.few, c.put_call-d.ensures.1, c.byte-q.ensures.next_is, c.put_call-p.ensures.1))

pub byte-e-requires : goal.byte-e-requires
byte-e-requires c =
    let a = c.args in
    let z = sizes a.l a.n a.frame.now c.requires.1 in
    omega (arith, c.requires.3, z.few, c.put_via-v.ensures.1, c.put_call-d.ensures.1, c.byte-q.ensures.next_is, c.put_call-p.ensures.1)

pub overflow_add-end : goal.overflow_add-end
overflow_add-end c =
    let a = c.args in
    let z = sizes a.l a.n a.frame.now c.requires.1 in
    omega (arith, z.end, c.requires.2, c.addr_end-end.ensures)

pub slice_bounds-put_shown-count : goal.slice_bounds-put_shown-count
slice_bounds-put_shown-count c =
    let a = c.args in
    let z = sizes a.l a.n a.frame.now c.requires.1 in
    let h : c.addr_end-end.result + 2 ≤ length a.frame.now = omega (arith, z.end, c.addr_end-end.ensures) in
    h

pub slice_bounds-put_shown-start : goal.slice_bounds-put_shown-start
slice_bounds-put_shown-start c =
    let a = c.args in
    let z = sizes a.l a.n a.frame.now c.requires.1 in
    let h : c.addr_end-end.result + 2 ≤ length a.frame.now = omega (arith, z.end, c.addr_end-end.ensures) in
    h

pub put_shown-requires : goal.put_shown-requires
put_shown-requires c =
    let a = c.args in
    let z = sizes a.l a.n a.frame.now c.requires.1 in
    let at : c.byte-e.result < 2 ^ 59 = omega (arith, c.requires.3, z.few, c.byte-e.ensures.next_is, c.put_via-v.ensures.1, c.put_call-d.ensures.1, c.byte-q.ensures.next_is, c.put_call-p.ensures.1) in
    (at, omega (arith, c.requires.2, behind_size a.frame.now (c.addr_end-end.result + 2)))

pub returns : goal.returns
returns c =
    let a = c.args in
    let has = has_count a.l a.n a.frame.now c.requires.1 in
    let lined = frame_lined a.l a.n a.frame.now has c.put_call-p.ensures.0 c.byte-q.ensures c.put_call-d.ensures.0 c.put_via-v.ensures.0 c.byte-e.ensures (rw c.addr_end-end.ensures at c.put_shown.ensures) in
    let z = sizes a.l a.n a.frame.now c.requires.1 in
    let info = c.put_shown.ensures.next_is in
    let few = shown_length (take (length a.frame.now - (c.addr_end-end.result + 2)) (drop (c.addr_end-end.result + 2) a.frame.now)) in
    let short = behind_size a.frame.now (c.addr_end-end.result + 2) in
    (lined, omega (arith, info, few, short, z.few, c.byte-e.ensures.next_is, c.put_via-v.ensures.1, c.put_call-d.ensures.1, c.byte-q.ensures.next_is, c.put_call-p.ensures.1))

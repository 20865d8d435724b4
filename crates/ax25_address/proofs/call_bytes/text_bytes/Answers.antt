-- `ax25_address::call_bytes::text_bytes` meets its contract.
-- Assumes nothing.
use native.Mathlib.Omega.{arith}
use Rattle.ax25_token.proofs.Hyphen.{base_short}
use Rattle.ax25_address.proofs.CallField.{field_wrote}
use Rattle.ax25_address.proofs.call_bytes.text_bytes.Goals as goal

pub slice_bounds-put_base-end : goal.slice_bounds-put_base-end
slice_bounds-put_base-end c =
    let a = c.args in
    omega (arith, base_short a.c.now, c.hyphen-k.ensures)

pub returns : goal.returns
returns c =
    let a = c.args in
    field_wrote a.l a.c.now a.mark _ c.hyphen-k.ensures _ c.ssid_byte.ensures c.put_base-p.ensures.wrote c.byte.ensures

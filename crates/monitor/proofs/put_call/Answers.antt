-- `monitor::put_call` meets its contract.
-- Assumes nothing.
use native.Mathlib.Omega.{arith}
use mathlib.Core.Path.{◌≡◌, ap, ◌∙◌}
use Prim.Native.Nat.{◌≤◌}
use Rattle.ax25_token.specs.declared.Call.{Call}
use Rattle.ax25_token.specs.Call.{text_of}
use Rattle.monitor.proofs.MonitorLaws.{call_shown}
use Rattle.monitor.proofs.put_call.Goals as goal

pub returns : goal.returns
returns c =
    let call = c.addr_call-c in
    let v : Call = record { bytes = c.c.inside.bytes; len = c.c.inside.len } in
    let n : v.len ≡ call.result.len = ap (λ (x : Call). x.len) c.c.view_is in
    let few : v.len ≤ 10 = omega (arith, n, call.ensures.1) in
    call_shown v _ (ap text_of c.c.view_is ∙ call.ensures.0) few c.put_shown.ensures

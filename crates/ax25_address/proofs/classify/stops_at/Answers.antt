-- `ax25_address::classify::stops_at` meets its contract.
-- Assumes nothing.
use native.Mathlib.Omega.{arith}
use Prim.Native.Nat.{◌+◌}
use Rattle.std.proofs.lemmas.Grind.{common_steps}
use mathlib.Core.Path.{◌≡◌, ◌∙◌}
use lib.ListN.{drop}
use Rattle.laws.specs.Text.{ascii, starts}
use Rattle.ax25_address.specs.Classify.{stops_at}
use Rattle.ax25_address.proofs.SliceLaws.{starts_from}
use Rattle.ax25_address.proofs.classify.stops_at.Goals as goal

pub returns-then-comma-eq0 : goal.returns-then-comma-eq0
unfolding stops_at
returns-then-comma-eq0 c =
    let a = c.args in
    let h : c.starts_with.result ≡ starts (ascii "TCPIP,") (drop (a.i + 1) a.d.now) = c.starts_with.ensures.value ∙ starts_from (ascii "TCPIP,") a.d.now (a.i + 1) in
    grind (arith, common_steps)

-- `ax25_address::record::is_ap` meets its contract.
-- Assumes nothing.
use mathlib.Core.Path.{ap, ◌∙◌}
use Rattle.laws.specs.Text.{ascii, starts}
use Rattle.ax25_token.proofs.PutLaws.{map_up}
use Rattle.ax25_address.specs.Address.{addr_call}
use Rattle.ax25_address.proofs.record.is_ap.Goals as goal

pub returns : goal.returns
returns c =
    let a = c.args in
    c.call_starts.ensures ∙ ap (starts (ascii "AP")) (c.addr_call.ensures.0 ∙ map_up (addr_call a.l a.frame.now))

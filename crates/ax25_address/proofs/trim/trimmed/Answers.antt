-- `ax25_address::trim::trimmed` meets its contract.
-- Assumes nothing.
use mathlib.Core.Path.{◌∙◌}
use Rattle.laws.specs.Text.{trim}
use Rattle.ax25_token.proofs.PutLaws.{map_up}
use Rattle.ax25_address.specs.Address.{white}
use Rattle.ax25_address.proofs.trim.trimmed.Goals as goal

pub returns : goal.returns
returns c =
    let t = c.trimmed_as.ensures in
    (t.0 ∙ map_up (trim white c.args.s.now), t.1)

-- `ax25_address::alias::is_alias` meets its contract.
-- Assumes nothing.
use mathlib.Core.Path.{ap₂, ◌∙◌}
use Rattle.laws.specs.Text.{same}
use Rattle.ax25_token.proofs.PutLaws.{map_plain}
use Rattle.ax25_address.specs.Address.{addr_call}
use Rattle.ax25_address.proofs.alias.is_alias.Goals as goal

pub returns : goal.returns
returns c =
    let a = c.args in
    c.same_call.ensures ∙ ap₂ same (c.addr_call.ensures.0 ∙ map_plain (addr_call a.l a.f.now)) c.alias_call.ensures.0

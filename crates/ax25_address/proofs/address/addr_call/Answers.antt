-- `ax25_address::address::addr_call` meets its contract.
-- Assumes nothing.
use native.Mathlib.Omega.{arith}
use mathlib.Core.Path.{◌≡◌, ap, ◌∙◌}
use Rattle.ax25_token.proofs.CallLaws.{text_front}
use Rattle.ax25_address.proofs.LetterLaws.{field_text, field_whole}
use Rattle.ax25_token.specs.declared.Call.{Call}
use Rattle.ax25_token.specs.Call.{text_of}
use Rattle.ax25_token.specs.Put.{cased_of}
use Rattle.ax25_address.proofs.address.addr_call.Goals as goal

pub returns : goal.returns
returns c =
    let h = c.halved-h in
    let t = c.trimmed_as-c in
    let a = c.args in
    let v : Call = record { bytes = c.h.inside.bytes; len = c.h.inside.len } in
    let short : v.len ≡ h.result.len = ap (λ (x : Call). x.len) c.h.view_is in (
      field_text a.up a.l a.f.now _ _ _ _ (text_front v ∙ ap text_of c.h.view_is ∙ h.ensures.0) c.from.ensures t.ensures.2 c.suffixed.ensures.0 (omega arith),
      omega (arith, c.suffixed.ensures.1, t.ensures.1, short),
      field_whole (cased_of a.up) _ _ _ _ t.ensures.2 c.suffixed.ensures.0 (omega (arith, c.suffixed.ensures.1, t.ensures.1, short)),
    )

-- `ax25_address::trim::trimmed_as` meets its contract.
-- Assumes nothing.
use native.Mathlib.Omega.{arith}
use Rattle.ax25_token.specs.Put.{cased_of}
use Rattle.ax25_address.proofs.LetterLaws.{trimmed_text}
use Rattle.ax25_address.proofs.WhiteLaws.{call_trimmed}
use Rattle.ax25_address.proofs.trim.trimmed_as.Goals as goal

pub returns : goal.returns
returns c =
    let a = c.args in
    let s = a.s.now in
    let f = c.front-a in
    let e = c.end in
    trimmed_text (cased_of a.up) s _ _ (omega arith) (call_trimmed s f.result e.result f.ensures.1 e.ensures.1) c.copied.ensures.0

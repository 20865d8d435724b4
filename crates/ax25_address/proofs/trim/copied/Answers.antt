-- `ax25_address::trim::copied` meets its contract: the call holds the bytes before the place.
-- Assumes nothing.
use native.Mathlib.Omega.{arith}
use mathlib.Core.Path.{refl, ap, ◌∙◌}
use lib.ListN.{length-set}
use Rattle.ax25_token.specs.declared.Call.{Call}
use Rattle.ax25_token.specs.Call.{pushed}
use Rattle.ax25_token.specs.Put.{cased_of}
use Rattle.ax25_address.proofs.LetterLaws.{none_taken, letter_more}
use Rattle.ax25_address.proofs.trim.copied.Goals as goal

pub loop-i-init : goal.loop-i-init
loop-i-init c = (refl, none_taken (cased_of c.args.up) c.args.s.now)

pub loop-i-preserved : goal.loop-i-preserved
loop-i-preserved c =
    let a = c.args in
    let l = c.loop-i in
    let held : Call = record { bytes = l.bytes; len = l.i } in (
      length-set l.bytes l.i c.cased.result ∙ l.invariant.0,
      letter_more (cased_of a.up) a.s.now l.i (omega arith) held _ l.invariant.1 (ap (pushed held) c.cased.ensures),
    )

-- `kiss::encode_generic` meets its contract.
-- Assumes nothing.
use borrow.Author.Rules.{rules}
use mathlib.Core.Path.{refl}
use Rattle.ax25.specs.Encode.{Coded}
use Rattle.ax25_address.specs.Types.{Text}
use Rattle.kiss.specs.Generic.{generic_of}
use Rattle.kiss.proofs.TellLaws.{tell_short, tell_fits}
use Rattle.kiss.proofs.encode_generic.Goals as goal

pub returns-then-out-n : goal.returns-then-out-n
returns-then-out-n c =
    let a = c.args in
    let coded : Coded = record { bytes = generic_of a.«data».now; typ = Text } in
    tell_short (λ x. x.bytes) (λ x. x.typ) a.out.now coded refl c.generic_encode-n.ensures c.if-out-n.true

pub returns : goal.returns
returns c =
    let a = c.args in
    let coded : Coded = record { bytes = generic_of a.«data».now; typ = Text } in
    tell_fits (λ x. x.bytes) (λ x. x.typ) a.out.now coded refl c.generic_encode-n.ensures c.if-out-n.false c.generic_encode.ensures

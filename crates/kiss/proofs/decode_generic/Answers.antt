-- `kiss::decode_generic` meets its contract.
-- Assumes nothing.
use borrow.Author.Rules.{rules}
use mathlib.Core.Path.{refl}
use lib.ListN.{get_or, drop}
use Rattle.ax25_address.specs.Types.{Generic}
use Rattle.kiss.specs.Codec.{Decoded}
use Rattle.kiss.specs.Generic.{generic_back}
use Rattle.kiss.proofs.TellLaws.{tell_short, tell_fits}
use Rattle.kiss.proofs.decode_generic.Goals as goal

pub returns-then-out-n : goal.returns-then-out-n
returns-then-out-n c =
    let a = c.args in
    let m = a.message.now in
    let decoded : Decoded = record { command = Generic; bytes = generic_back (get_or m 0 0) (drop 1 m) } in
    tell_short (λ x. x.bytes) (λ x. x.command) a.out.now decoded refl c.generic_decode-n.ensures c.if-out-n.true

pub returns : goal.returns
returns c =
    let a = c.args in
    let m = a.message.now in
    let decoded : Decoded = record { command = Generic; bytes = generic_back (get_or m 0 0) (drop 1 m) } in
    tell_fits (λ x. x.bytes) (λ x. x.command) a.out.now decoded refl c.generic_decode-n.ensures c.if-out-n.false c.generic_decode.ensures

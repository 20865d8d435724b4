-- `ax25_address::record::parse` meets its contract.
-- Assumes nothing.
use native.Mathlib.Omega.{arith}
use mathlib.Core.Path.{ap, ◌∙◌}
use Rattle.ax25_address.specs.Record.{found_of}
use Rattle.ax25_address.proofs.DigiLaws.{end_above}
use Rattle.ax25_address.proofs.PlaceLaws.{found_has, short_none}
use Rattle.ax25_address.proofs.RecordLaws.{call_size, seen_some, seen_none}
use Rattle.ax25_address.proofs.record.parse.Goals as goal

pub digipeaters-requires : goal.digipeaters-requires
digipeaters-requires c =
    (omega (arith, c.call_len-l.ensures, call_size c.args.command), c.requires)

pub returns-in_err-n : goal.returns-in_err-n
returns-in_err-n c =
    let letters = c.call_len-l in
    let a = c.args in
    let none = short_none letters.result a.frame.now _ c.digipeaters.ensures c.in_err-n.was in
    ap found_of c.from_residual.ensures ∙ seen_none a.command letters.result a.frame.now letters.ensures none

pub is_ap-ap-requires : goal.is_ap-ap-requires
is_ap-ap-requires c =
    let letters = c.call_len-l in
    let a = c.args in
    let has = found_has letters.result a.frame.now _ c.digipeaters.ensures _ c.in_ok-n.was in
    (omega (arith, has.total, end_above letters.result c.in_ok-n.n), omega (arith, letters.ensures, call_size a.command))

pub found-requires : goal.found-requires
found-requires c =
    let letters = c.call_len-l in
    let a = c.args in
    let has = found_has letters.result a.frame.now _ c.digipeaters.ensures _ c.in_ok-n.was in
    (has.few, omega (arith, letters.ensures, call_size a.command), omega (arith, has.total), c.requires)

pub returns : goal.returns
returns c =
    let letters = c.call_len-l in
    let a = c.args in
    let has = found_has letters.result a.frame.now _ c.digipeaters.ensures _ c.in_ok-n.was in
    seen_some a.command letters.result a.frame.now letters.ensures _ has _ _ _ c.is_ap-ap.ensures c.typed.ensures c.found.ensures

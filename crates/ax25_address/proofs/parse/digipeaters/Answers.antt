-- `ax25_address::parse::digipeaters` meets its contract, by what the count says.
-- Assumes nothing.
use native.Mathlib.Omega.{arith}
use mathlib.Core.Path.{sym, ◌∙◌}
use Rattle.ax25_address.proofs.DigiLaws.{end_size, count_no, count_cut, count_few, count_end, count_is}
use Rattle.ax25_address.proofs.parse.digipeaters.Goals as goal

pub returns-then-frame-addr_end : goal.returns-then-frame-addr_end
returns-then-frame-addr_end c =
    let a = c.args in
    count_no a.l a.frame.now (omega (arith, c.if-frame-addr_end.true, c.addr_end.ensures))

pub returns-in_err-n : goal.returns-in_err-n
returns-in_err-n c =
    let a = c.args in
    let told = sym c.digi_fields.ensures ∙ c.in_err-n.was in
    c.from_residual.ensures ∙ count_cut a.l a.frame.now (omega (arith, c.if-frame-addr_end.false, c.addr_end.ensures)) told

pub addr_end-requires-2 : goal.addr_end-requires-2
addr_end-requires-2 c =
    let told = sym c.digi_fields.ensures ∙ c.in_ok-n.was in
    (count_few c.args.l c.args.frame.now (omega (arith, c.if-frame-addr_end.false, c.addr_end.ensures)) _ told, c.requires.0)

pub overflow_add-addr_end : goal.overflow_add-addr_end
overflow_add-addr_end c =
    let told = sym c.digi_fields.ensures ∙ c.in_ok-n.was in
    let few = count_few c.args.l c.args.frame.now (omega (arith, c.if-frame-addr_end.false, c.addr_end.ensures)) _ told in
    omega (arith, c.addr_end-2.ensures, end_size _ c.args.l few c.requires.0)

pub returns-then-frame-addr_end-2 : goal.returns-then-frame-addr_end-2
returns-then-frame-addr_end-2 c =
    let a = c.args in
    let told = sym c.digi_fields.ensures ∙ c.in_ok-n.was in
    count_end a.l a.frame.now (omega (arith, c.if-frame-addr_end.false, c.addr_end.ensures)) _ told (omega (arith, c.if-frame-addr_end-2.true, c.addr_end-2.ensures))

pub returns : goal.returns
returns c =
    let a = c.args in
    let told = sym c.digi_fields.ensures ∙ c.in_ok-n.was in
    count_is a.l a.frame.now (omega (arith, c.if-frame-addr_end.false, c.addr_end.ensures)) _ told (omega (arith, c.if-frame-addr_end-2.false, c.addr_end-2.ensures))

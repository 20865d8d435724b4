-- `monitor::put_monitor` meets its contract.
-- Assumes nothing.
use mathlib.Core.Path.{sym, ◌∙◌}
use native.Mathlib.Omega.{arith}
use Rattle.ax25_address.proofs.PlaceLaws.{short_none}
use Rattle.ax25_address.proofs.RecordLaws.{call_size}
use Rattle.texts.proofs.ShowLaws.{shown_length}
use Rattle.monitor.proofs.MonitorLaws.{monitor_none}
use Rattle.monitor.proofs.put_monitor.Goals as goal

pub digipeaters-requires : goal.digipeaters-requires
digipeaters-requires c =
    (omega (arith, c.call_len-l.ensures, call_size c.args.command), omega (arith, c.requires.0))

pub returns-in_default : goal.returns-in_default
returns-in_default c =
    let letters = c.call_len-l in
    let a = c.args in
    let none = short_none letters.result a.frame.now _ c.digipeaters.ensures c.in_default.is in
    let w = c.put_shown.ensures in
    (rw (← letters.ensures, monitor_none letters.result a.frame.now none) w, omega (arith, w.next_is, shown_length a.frame.now))

pub put_frame-requires : goal.put_frame-requires
put_frame-requires c =
    let letters = c.call_len-l in
    let told = sym c.in-Some.is ∙ c.digipeaters.ensures in
    (omega (arith, letters.ensures, call_size c.args.command), told, c.requires.0, c.requires.1)

-- `ax25_aprs::height::read` meets its contract.
-- Assumes nothing.
use mathlib.Core.Path.{ap, ◌∙◌}
use mathlib.Core.List.{List}
use Prim.Native.Nat.{ℕ}
use Rattle.ax25_aprs.specs.Text.{altitude, unsigned, no_plus}
use Rattle.ax25_address.proofs.WhiteLaws.{height_trimmed}
use Rattle.ax25_aprs.proofs.height.read.Goals as goal

pub returns : goal.returns
unfolding altitude
returns c =
    let s = c.args.s.now in
    let f = c.front-a in
    let e = c.end in
    c.signed.ensures ∙ ap (λ (l : List ℕ). unsigned (no_plus l)) (height_trimmed s f.result e.result f.ensures.1 e.ensures.1)

-- `ax25_aprs::text::all_selves` meets its contract.
-- Assumes nothing.
use borrow.Author.Tests.{eqb-true}
use mathlib.Core.Path.{refl}
use Rattle.laws.proofs.TextLaws.{below}
use Rattle.ax25_aprs.proofs.SelfLaws.{eight_selves}
use Rattle.ax25_aprs.proofs.text.all_selves.Goals as goal

pub returns : goal.returns
unfolding below
returns c =
    λ e. eight_selves c.args.v _ refl (eqb-true _ _ e)

-- `ax25_token::named` meets its contract, by the ways through it.
-- Assumes nothing.
use native.Mathlib.Omega.{arith}
use Rattle.ax25_token.proofs.Cases.{form_wide, form_pair, form_apin, form_apww, form_apdr}
use Rattle.ax25_token.proofs.TokenWays.{fixed_form_lem, named_pair, named_number, named_fixed}
use Rattle.ax25_token.proofs.named.Goals as goal
use Rattle.ax25_token.proofs.named.Goals.{in_default-via-then-i-lt37, in_default-via-else-i-lt37+else-i-lt42}

pub returns-in-37 : goal.returns-in-37
returns-in-37 c =
    named_pair _ _ c.args.at _ _ c.name-c.ensures.0 c.name-c.ensures.1 _ 2 (form_wide _ c.in-37.is) _ c.pair.ensures

pub returns-in-44 : goal.returns-in-44
returns-in-44 c =
    named_number _ _ c.args.at _ _ c.name-c.ensures.0 c.name-c.ensures.1 _ 20 4 (form_apin _ c.in-44.is) _ c.number.ensures

pub returns-in-45 : goal.returns-in-45
returns-in-45 c =
    named_number _ _ c.args.at _ _ c.name-c.ensures.0 c.name-c.ensures.1 _ 11 3 (form_apww _ c.in-45.is) _ c.number-in-45.ensures

pub returns-in-46 : goal.returns-in-46
returns-in-46 c =
    named_number _ _ c.args.at _ _ c.name-c.ensures.0 c.name-c.ensures.1 _ 16 5 (form_apdr _ c.in-46.is) _ c.number-in-46.ensures

pub returns-in-38-to-41 : goal.returns-in-38-to-41
returns-in-38-to-41 c =
    named_pair _ _ c.args.at _ _ c.name-c.ensures.0 c.name-c.ensures.1 _ 1 (form_pair _ (omega arith) (omega arith)) _ c.pair-in-38-to-41.ensures

pub returns-in_default : goal.returns-in_default
returns-in_default c =
    elim c.in_default.branch [
      | in_default-via-then-i-lt37 w ↦ absurd (omega arith)
      | in_default-via-else-i-lt37+else-i-lt42 w ↦ named_fixed _ _ c.args.at _ _ c.name-c.ensures.0 c.name-c.ensures.1 _ (fixed_form_lem _ (omega arith) (omega arith) (omega arith) (omega arith) (omega arith))
    ]

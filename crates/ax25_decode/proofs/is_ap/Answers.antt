-- `ax25_decode::is_ap` meets its contract.
-- Assumes nothing.
use mathlib.Core.Path.{refl, ◌∙◌}
use Rattle.ax25_decode.proofs.ReaderLaws.{ap_none, ap_some}
use borrow.Author.Rules.{rules}
use Rattle.ax25_decode.proofs.is_ap.Goals as goal

pub returns-in_default : goal.returns-in_default
returns-in_default c = ap_none _ _ _ c.token_decode.ensures.0 c.in_default.is

pub returns : goal.returns
returns c = c.call_starts.ensures ∙ ap_some _ _ _ c.in-Some.ensures.0 _ _ refl

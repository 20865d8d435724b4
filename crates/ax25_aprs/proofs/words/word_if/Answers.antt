-- `ax25_aprs::words::word_if` meets its contract.
-- Assumes nothing.
use mathlib.Core.Path.{sym, ap, ◌∙◌}
use mathlib.Core.List.{List}
use Prim.Native.Nat.{ℕ}
use Rattle.laws.specs.Text.{starts}
use Rattle.laws.proofs.Cases.{pick_true, pick_false}
use Rattle.ax25_address.proofs.SliceLaws.{starts_is}
use Rattle.ax25_aprs.proofs.words.word_if.Goals as goal

pub returns-then-starts_with : goal.returns-then-starts_with
returns-then-starts_with c =
    let s = c.args.s.now in
    let told = c.starts_with.ensures.value ∙ starts_is c.word.result.now s ∙ ap (λ (w : List ℕ). starts w s) c.word.ensures in
    sym (pick_true _ _ (sym told ∙ c.if-starts_with.true))

pub returns-else-starts_with : goal.returns-else-starts_with
returns-else-starts_with c =
    let s = c.args.s.now in
    let told = c.starts_with.ensures.value ∙ starts_is c.word.result.now s ∙ ap (λ (w : List ℕ). starts w s) c.word.ensures in
    sym (pick_false _ _ (sym told ∙ c.if-starts_with.false))

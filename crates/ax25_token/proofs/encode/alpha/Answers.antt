-- `ax25_token::encode::alpha` meets its contract, by the table's rule.
-- Assumes nothing.
use mathlib.Core.Path.{◌≡◌, refl, ap, ◌∙◌}
use mathlib.Core.List.{List}
use Prim.Native.Nat.{ℕ, ◌<◌}
use native.Mathlib.Omega.{arith}
use lib.Dec.{ltb}
use lib.ListN.{get_or}
use Rattle.std.specs.Bool.{then_some}
use Rattle.laws.specs.Pick.{pick}
use Rattle.laws.proofs.Cases.{by_test}
use Rattle.ax25_token.specs.Tables.{entry_code, alpha_of, letter_codes}
use Rattle.ax25_token.proofs.Alphabet.{entry_in}
use Rattle.ax25_token.proofs.encode.alpha.Goals as goal

code_is : (e : ℕ) → then_some (ltb e 37) e ≡ entry_code e
unfolding entry_code pick
code_is e = by_test (ltb e 37) (λ t. rw t) (λ t. rw t)

-- a letter's code is what its entry stands for
coded : (codes : List ℕ) (x i v : ℕ) → codes ≡ letter_codes → x < 256 → i ≡ x → v ≡ get_or codes i 0 → then_some (ltb (get_or codes i 0) 37) v ≡ alpha_of x
coded codes x i v e h p q =
    ap (then_some (ltb (get_or codes i 0) 37)) q
    ∙ code_is (get_or codes i 0)
    ∙ ap (λ (j : ℕ). entry_code (get_or codes j 0)) p
    ∙ entry_in _ _ e h

pub returns : goal.returns
unfolding letter_codes
returns c = c.then_some.ensures ∙ coded _ c.args.x c.from.result c.from-2.result refl (omega arith) c.from.ensures c.from-2.ensures

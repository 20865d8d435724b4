-- `ax25_token::encode::cased` meets its contract.
-- Assumes nothing.
use mathlib.Core.Path.{◌≡◌, sym, ◌∙◌}
use Prim.Native.Nat.{ℕ}
use native.Mathlib.Omega.{arith}
use Rattle.std.specs.Char.{to_ascii_uppercase}
use Rattle.laws.specs.Text.{upper}
use Rattle.laws.proofs.Cases.{by_le}
use Rattle.laws.proofs.TextLaws.{upper_low, upper_high, upper_small}
use Rattle.std.proofs.lemmas.Bool.Decides.{nat_tests}
use Rattle.ax25_token.proofs.PutLaws.{cased_plain, cased_up}
use Rattle.ax25_token.proofs.encode.cased.Goals as goal

-- the library's upper case is the source's
upper_is : (x : ℕ) → to_ascii_uppercase x ≡ upper x
upper_is x =
    by_le 97 x
    (λ p. by_le x 122
    (λ q. let e = upper_small x p q in grind (arith, nat_tests))
    (λ q. let e = upper_high x q in grind (arith, nat_tests)))
    (λ p. let e = upper_low x p in grind (arith, nat_tests))

pub returns-then-up : goal.returns-then-up
returns-then-up c = c.to_ascii_uppercase.ensures.value ∙ upper_is c.args.x ∙ sym (cased_up c.args.up c.args.x c.if-up.true)

pub returns-else-up : goal.returns-else-up
returns-else-up c = sym (cased_plain c.args.up c.args.x c.if-up.false)

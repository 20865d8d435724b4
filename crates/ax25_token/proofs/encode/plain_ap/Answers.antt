-- `ax25_token::encode::plain_ap` meets its contract.
-- Assumes nothing.
use mathlib.Core.Path.{◌≡◌, sym, ap, ◌∙◌}
use mathlib.Core.List.{List}
use Prim.Native.Nat.{ℕ}
use native.Mathlib.Omega.{arith}
use borrow.Author.Tests.{eq-eqb, ne_eqb}
use lib.Dec.{eqb}
use lib.ListN.{length}
use Rattle.laws.specs.Text.{ascii, starts}
use Rattle.laws.proofs.Cases.{by_test}
use mathlib.Core.Bool.{true}
use Rattle.ax25_token.specs.Token.{base_of, hyphened, plain_ap}
use Rattle.ax25_token.proofs.Cases.{plain_yes, plain_other, plain_hyphened}
use Rattle.ax25_token.proofs.Hyphen.{base_plain}
use Rattle.ax25_token.proofs.PutLaws.{base_less}
use Rattle.ax25_token.proofs.encode.plain_ap.Goals as goal

whole_is : (c : List ℕ) (k : ℕ) → starts (ascii "AP") c ≡ true → k ≡ length (base_of c) → eqb k (length c) ≡ plain_ap c
whole_is c k s e =
    by_test (hyphened c)
    (λ h. ne_eqb k (length c) (λ q. omega (arith, q, e, base_less c h)) ∙ sym (plain_hyphened c h))
    (λ h. eq-eqb k (length c) (omega (arith, e, ap length (base_plain c h))) ∙ sym (plain_yes c s h))

pub returns-then-starts : goal.returns-then-starts
returns-then-starts c = whole_is c.args.c.now c.hyphen.result (sym c.starts.ensures ∙ c.if-starts.true) c.hyphen.ensures

pub returns-else-starts : goal.returns-else-starts
returns-else-starts c = c.if-starts.false ∙ sym (plain_other _ (sym c.starts.ensures ∙ c.if-starts.false))

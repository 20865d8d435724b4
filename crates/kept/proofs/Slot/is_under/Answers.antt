-- `kept::Slot::is_under` meets its contract.
-- Assumes nothing.
use borrow.Author.Rules.{rules}
use mathlib.Core.Path.{sym, ap, ◌∙◌}
use lib.Dec.{leb}
use borrow.Author.Tests.{leb-true}
use Rattle.laws.specs.Text.{same}
use Rattle.laws.proofs.Cases.{and_right, pick_true, pick_false}
use Rattle.kept.specs.Keep.{is_under}
use Rattle.kept.proofs.Checks.{same_none}
use Rattle.kept.proofs.Slot.is_under.Goals as goal

pub same_name-requires : goal.same_name-requires
same_name-requires c = (
  leb-true c.args.self.now.len 8 (and_right (leb 1 c.args.self.now.len) _ (sym c.name_ok.ensures ∙ c.if-name_ok.true)),
  search rules,
)

pub returns-then-name_ok : goal.returns-then-name_ok
unfolding is_under
returns-then-name_ok c =
    c.same_name.ensures
    ∙ sym (ap (same c.args.name.now) (pick_true _ _ (sym c.name_ok.ensures ∙ c.if-name_ok.true)))

pub returns : goal.returns
unfolding is_under
returns c =
    c.is_empty.ensures
    ∙ sym (ap (same c.args.name.now) (pick_false _ _ (sym c.name_ok.ensures ∙ c.if-name_ok.false)) ∙ same_none c.args.name.now)

-- `refusals::mask_ok` meets its contract: the masks of 1 to 7 check bits, and no other.
-- Assumes nothing.
use mathlib.Core.Path.{sym}
use mathlib.Core.Logic.{inl, inr}
use borrow.Author.Tests.{ne_eqb}
use Rattle.refusals.specs.Limits.{top_of}
use Rattle.refusals.proofs.mask_ok.Goals as goal

pub returns-in-128 : goal.returns-in-128
unfolding top_of
returns-in-128 c =
    elim c.in-128.is [
      | inl e ↦ rw e
      | inr f ↦ elim f [
        | inl e ↦ rw e
        | inr f ↦ elim f [
          | inl e ↦ rw e
          | inr f ↦ elim f [
            | inl e ↦ rw e
            | inr f ↦ elim f [
              | inl e ↦ rw e
              | inr f ↦ elim f [
                | inl e ↦ rw e
                | inr e ↦ rw e
              ]
            ]
          ]
        ]
      ]
    ]

pub returns-in_default : goal.returns-in_default
unfolding top_of
returns-in_default c =
    let other = c.in_default.in_default-own.rest.1 in
    sym (simp (
      ne_eqb _ _ (λ e. other (inl e)),
      ne_eqb _ _ (λ e. other (inr (inl e))),
      ne_eqb _ _ (λ e. other (inr (inr (inl e)))),
      ne_eqb _ _ (λ e. other (inr (inr (inr (inl e))))),
      ne_eqb _ _ (λ e. other (inr (inr (inr (inr (inl e)))))),
      ne_eqb _ _ (λ e. other (inr (inr (inr (inr (inr (inl e))))))),
      ne_eqb _ _ (λ e. other (inr (inr (inr (inr (inr (inr e))))))),
    ))

-- `ax25_aprs::words::word_at` meets its contract: each arm is the one word that starts with its letter.
-- Assumes nothing.
use native.Mathlib.Omega.{arith}
use mathlib.Core.Path.{refl, sym, ap, ◌∙◌}
use Prim.Native.Nat.{ℕ}
use Rattle.std.proofs.Common.{Some}
use Rattle.laws.specs.Pick.{pick}
use Rattle.laws.specs.Text.{starts}
use Rattle.ax25_aprs.specs.Words.{words, word, first_of, word_at}
use Rattle.ax25_aprs.proofs.WordLaws.{word_none, letter_spells, by_no_letter}
use Rattle.ax25_aprs.proofs.words.word_at.Goals as goal

pub returns-in_err-first : goal.returns-in_err-first
returns-in_err-first c = rw c.from_residual.ensures (word_none c.args.s.now c.in_err-first.ensures.value)

pub returns-in-47 : goal.returns-in-47
unfolding word_at first_of words word starts pick
returns-in-47 c =
    letter_spells c.args.s.now 47 (ap (λ (x : ℕ). Some x) (sym c.in-47.is) ∙ c.in_ok-first.ensures.value) 1 (word 1) (λ t. refl) (omega arith) (omega arith) _ c.word_if.ensures

pub returns-in-86 : goal.returns-in-86
unfolding word_at first_of words word starts pick
returns-in-86 c =
    letter_spells c.args.s.now 86 (ap (λ (x : ℕ). Some x) (sym c.in-86.is) ∙ c.in_ok-first.ensures.value) 2 (word 2) (λ t. refl) (omega arith) (omega arith) _ c.word_if-in-86.ensures

pub returns-in-80 : goal.returns-in-80
unfolding word_at first_of words word starts pick
returns-in-80 c =
    letter_spells c.args.s.now 80 (ap (λ (x : ℕ). Some x) (sym c.in-80.is) ∙ c.in_ok-first.ensures.value) 3 (word 3) (λ t. refl) (omega arith) (omega arith) _ c.word_if-in-80.ensures

pub returns-in-72 : goal.returns-in-72
unfolding word_at first_of words word starts pick
returns-in-72 c =
    letter_spells c.args.s.now 72 (ap (λ (x : ℕ). Some x) (sym c.in-72.is) ∙ c.in_ok-first.ensures.value) 4 (word 4) (λ t. refl) (omega arith) (omega arith) _ c.word_if-in-72.ensures

pub returns-in-97 : goal.returns-in-97
unfolding word_at first_of words word starts pick
returns-in-97 c =
    letter_spells c.args.s.now 97 (ap (λ (x : ℕ). Some x) (sym c.in-97.is) ∙ c.in_ok-first.ensures.value) 5 (word 5) (λ t. refl) (omega arith) (omega arith) _ c.word_if-in-97.ensures

pub returns-in-65 : goal.returns-in-65
unfolding word_at first_of words word starts pick
returns-in-65 c =
    letter_spells c.args.s.now 65 (ap (λ (x : ℕ). Some x) (sym c.in-65.is) ∙ c.in_ok-first.ensures.value) 6 (word 6) (λ t. refl) (omega arith) (omega arith) _ c.word_if-in-65.ensures

pub returns-in-112 : goal.returns-in-112
unfolding word_at first_of words word starts pick
returns-in-112 c =
    letter_spells c.args.s.now 112 (ap (λ (x : ℕ). Some x) (sym c.in-112.is) ∙ c.in_ok-first.ensures.value) 7 (word 7) (λ t. refl) (omega arith) (omega arith) _ c.word_if-in-112.ensures

pub returns-in-68 : goal.returns-in-68
unfolding word_at first_of words word starts pick
returns-in-68 c =
    letter_spells c.args.s.now 68 (ap (λ (x : ℕ). Some x) (sym c.in-68.is) ∙ c.in_ok-first.ensures.value) 8 (word 8) (λ t. refl) (omega arith) (omega arith) _ c.word_if-in-68.ensures

pub returns-in-71 : goal.returns-in-71
unfolding word_at first_of words word starts pick
returns-in-71 c =
    letter_spells c.args.s.now 71 (ap (λ (x : ℕ). Some x) (sym c.in-71.is) ∙ c.in_ok-first.ensures.value) 9 (word 9) (λ t. refl) (omega arith) (omega arith) _ c.word_if-in-71.ensures

pub returns-in_default : goal.returns-in_default
returns-in_default c =
    by_no_letter c.args.s.now c.in_ok-first.field-0.now c.in_ok-first.ensures.value (λ e. omega arith) (λ e. omega arith) (λ e. omega arith) (λ e. omega arith) (λ e. omega arith) (λ e. omega arith) (λ e. omega arith) (λ e. omega arith) (λ e. omega arith)

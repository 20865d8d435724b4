-- Answers and refusals are apart; the cases of an answer with a lent output.
-- Assumes nothing.
use mathlib.Core.Path.{◌≡◌, refl, sym, ap, ◌∙◌}
use mathlib.Core.Bool.{Bool, true, false, false≢true}
use mathlib.Core.List.{List}
use Rattle.std.proofs.Common.{Option, None, Result, Ok, Err}
use Rattle.std.specs.Option.{ok_or}
use Rattle.std.specs.Result.{IsErrAnd}
use Rattle.std.proofs.lemmas.Result.{err_from_is_err_and}
use Prim.Native.Nat.{ℕ, ◌≤◌, ◌<◌}
use native.Mathlib.Nat.{zero-add}
use native.Mathlib.Omega.{arith}
use lib.ListN.{length, take}
use lib.Seq.{sets}
use borrow.Author.Tests.{lt-ltb, le-ltb}
use Rattle.laws.specs.Pick.{pick}
use Rattle.laws.specs.Wrote.{Wrote}
use Rattle.laws.proofs.Cases.{pick_true, pick_false, by_test, by_le}
use Rattle.laws.proofs.ListLaws.{take_sets}
use Rattle.refusals.specs.declared.Refusal.{Refusal}
use Rattle.refusals.specs.Outcome.{Outcome, refused, answer, accepted, number, outcome_of, Left, left, into}

-- an answer is no refusal
pub answer_not : {A : Type 0} {x : A} {n : ℕ} → ◌≡◌ {A = Outcome A} (answer x) (refused n) → ⊥
answer_not e = let z : ◌≡◌ {A = ℕ} 0 1 = cc in omega arith

-- two answers, or two refusals, that are the same
pub same_answer_lem : {A : Type 0} {x y : A} → ◌≡◌ {A = Outcome A} (answer x) (answer y) → x ≡ y
same_answer_lem e = cc

pub same_refusal : {A : Type 0} {n m : ℕ} → ◌≡◌ {A = Outcome A} (refused n) (refused m) → n ≡ m
same_refusal e = cc

-- what is accepted was not refused
pub not_refused : {A : Type 0} {o : Outcome A} {n : ℕ} → accepted o ≡ true → o ≡ refused n → ⊥
not_refused a e = false≢true (rw e at a)

pub accepted_is : {A : Type 0} {o : Outcome A} {a : A} → o ≡ answer a → accepted o ≡ true
accepted_is e = rw e

-- a test that did not refuse
pub past : {A : Type 0} (t : Bool) (n : ℕ) (rest : Outcome A) (a : A) → pick t (refused n) rest ≡ answer a → (t ≡ false) × (rest ≡ answer a)
past t n rest a e =
    by_test t
    (λ h. absurd (answer_not (sym (sym (pick_true _ _ h) ∙ e))))
    (λ h. (h, sym (pick_false _ _ h) ∙ e))

-- ---- with a lent output

pub into_refused : (n : ℕ) (out : List ℕ) → into (refused n) out ≡ left (refused n) out
unfolding into
into_refused n out = refl

-- what is left by an outcome is left by one that is the same
pub into_is : {s t : Outcome (List ℕ)} (out : List ℕ) {x : Left} → s ≡ t → x ≡ into s out → x ≡ into t out
into_is out e h = rw (← e) h

-- a refusal leaves the output as it was
pub into_refuses : {s : Outcome (List ℕ)} (out : List ℕ) (n : ℕ) → s ≡ refused n → left (refused n) out ≡ into s out
into_refuses out n e = into_is out (sym e) (sym (into_refused n out))

module _ (v out : List ℕ) where
  pub into_short : length out < length v → into (answer v) out ≡ left (refused 6) out
  unfolding into pick
  into_short h = rw (lt-ltb (length out) (length v) h)

  pub into_fits : length v ≤ length out → into (answer v) out ≡ left (answer (length v)) (sets out 0 v)
  unfolding into pick
  into_fits h = rw (le-ltb (length out) (length v) h)

  -- the bytes were written from the front, and the place after them is the answer
  pub into_wrote : {now : List ℕ} {next : ℕ} → length v ≤ length out → Wrote out 0 v now next → left (answer (length v)) now ≡ into (answer v) out
  into_wrote h w = rw (into_fits h, w.stored)

-- ---- what an answer says of the call

-- n bytes were written: the call's, at the front of the output t
pub record Handed (o : Outcome (List ℕ)) (t : List ℕ) (n : ℕ) : Type 0 where
  pub bytes : List ℕ
  pub is : o ≡ answer bytes
  pub front : take n t ≡ bytes

module _ (out t : List ℕ) where
  handed_by : (o : Outcome (List ℕ)) (n : ℕ) → left (answer n) t ≡ into o out → Handed o t n
  handed_by (refused m) n e = absurd (answer_not (ap (λ x. x.outcome) (e ∙ into_refused m out)))
  handed_by (answer v) n e =
      by_le (length v) (length out)
      (λ h.
      let q = e ∙ into_fits v out h in
      let size : n ≡ length v = same_answer_lem (ap (λ x. x.outcome) q) in
      record {
        bytes = v;
        is = refl;
        front = ap (take n) (ap (λ x. x.out) q) ∙ ap (λ (k : ℕ). take k (sets out 0 v)) (size ∙ sym (zero-add (length v))) ∙ take_sets out 0 v (omega arith);
      })
      (λ h. absurd (answer_not (ap (λ x. x.outcome) (e ∙ into_short v out h))))

  refused_by : (o : Outcome (List ℕ)) (n : ℕ) → left (refused n) t ≡ into o out → ((v : List ℕ) → o ≡ answer v → length v ≤ length out) → o ≡ refused n
  refused_by (refused m) n e few = sym (ap refused (same_refusal (ap (λ x. x.outcome) (e ∙ into_refused m out))))
  refused_by (answer v) n e few = absurd (answer_not (sym (ap (λ x. x.outcome) (e ∙ into_fits v out (few v refl)))))

  pub told_bytes : (o : Outcome (List ℕ)) (r : Result ℕ Refusal) (n : ℕ) → r ≡ Ok n → left (outcome_of r) t ≡ into o out → Handed o t n
  told_bytes o r n told e = handed_by o n (ap (λ (x : Result ℕ Refusal). left (outcome_of x) t) (sym told) ∙ e)

  pub told_refusal : (o : Outcome (List ℕ)) (r : Result ℕ Refusal) (x : Refusal) → r ≡ Err x → left (outcome_of r) t ≡ into o out
      → ((v : List ℕ) → o ≡ answer v → length v ≤ length out) → o ≡ refused (number x)
  told_refusal o r x told e few = refused_by o (number x) (ap (λ (y : Result ℕ Refusal). left (outcome_of y) t) (sym told) ∙ e) few

-- an outcome that was answered or refused
module _ {A : Type 0} {r : Result A Refusal} where
  pub outcome_ok : {o : Outcome A} {a : A} → outcome_of r ≡ o → r ≡ Ok a → o ≡ answer a
  outcome_ok e h = sym e ∙ ap outcome_of h

  pub outcome_err : {o : Outcome A} {x : Refusal} → outcome_of r ≡ o → r ≡ Err x → o ≡ refused (number x)
  outcome_err e h = sym e ∙ ap outcome_of h

-- ---- what the exit of a `?` returns

-- the refusal that it passes on
pub exit_err : {A : Type 0} (r : Result A Refusal) (e : Refusal) → IsErrAnd r (λ y. y ≡ e) → r ≡ Err e
exit_err r e h =
    let p = err_from_is_err_and r h in
    p.1 ∙ ap (λ (y : Refusal). Err y) p.2

pub exit_is : {A : Type 0} (r : Result A Refusal) (e : Refusal) → IsErrAnd r (λ y. y ≡ e) → outcome_of r ≡ refused (number e)
exit_is r e h = ap outcome_of (exit_err r e h)

same_err : {A : Type 0} {x y : Refusal} → ◌≡◌ {A = Result A Refusal} (Err y) (Err x) → y ≡ x
same_err e = cc

-- the refusal x that stands for a missing value
pub missing_is : {T : Type 0} {o : Option T} (x : Refusal) {y : Refusal} → Err y ≡ ok_or o x → o ≡ None → y ≡ x
missing_is x e n = same_err (rw n at e)

pub exit_missing : {T A : Type 0} {o : Option T} (x : Refusal) {y : Refusal} → Err y ≡ ok_or o x → o ≡ None
    → (r : Result A Refusal) → IsErrAnd r (λ z. z ≡ y) → r ≡ Err x
exit_missing x e n r h = exit_err r _ h ∙ ap (λ (z : Refusal). Err z) (missing_is x e n)

pub exit_none : {T A : Type 0} {o : Option T} (x : Refusal) {y : Refusal} → Err y ≡ ok_or o x → o ≡ None
    → (r : Result A Refusal) → IsErrAnd r (λ z. z ≡ y) → outcome_of r ≡ refused (number x)
exit_none x e n r h = ap outcome_of (exit_missing x e n r h)

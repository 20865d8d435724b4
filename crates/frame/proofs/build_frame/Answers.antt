-- `frame::build_frame` meets its contract, refusal by refusal.
-- Assumes nothing.
use mathlib.Core.Path.{◌≡◌, sym, ap, ◌∙◌}
use mathlib.Core.Bool.{Bool, true, false, false≢true}
use mathlib.Core.Logic.{inl, inr}
use mathlib.Core.List.{List}
use Prim.Native.Nat.{ℕ, zero, suc, ◌≤◌, ◌<◌}
use native.Mathlib.Omega.{arith}
use lib.ListN.{length}
use borrow.Author.Tests.{eqb-true}
use Rattle.std.specs.Bool.{◌==◌}
use Rattle.laws.specs.Wrote.{Wrote}
use Rattle.refusals.specs.Limits.{field_ok}
use Rattle.refusals.specs.Outcome.{Outcome, refused, answer, left, into}
use Rattle.refusals.proofs.OutcomeLaws.{into_refused, into_short, into_wrote}
use Rattle.frame.specs.Frame.{frame_of, build_of}
use Rattle.frame.proofs.FrameLaws.{frame_length, build_field, build_empty, build_long, build_marker, build_reply, build_hint, build_answer}
use Rattle.frame.proofs.build_frame.Goals as goal

-- nothing was written
refuses : {o : Outcome (List ℕ)} {n : ℕ} {out : List ℕ} → o ≡ refused n → left (refused n) out ≡ into o out
refuses {n = n} {out = out} e = rw (e, into_refused n out)

-- the frame was written
answers : {o : Outcome (List ℕ)} {v out l : List ℕ} {n : ℕ} → o ≡ answer v → length v ≤ length out → Wrote out 0 v l n → left (answer n) l ≡ into o out
answers {v = v} {out = out} {l = l} {n = n} e h w =
    let z : n ≡ length v = omega (arith, w.next_is) in rw e (ap (λ (k : ℕ). left (answer k) l) z ∙ into_wrote v out h w)

-- no bytes, and one or more
empty : {b : Bool} {n : ℕ} → b ≡ (n == 0) → b ≡ true → n ≡ 0
empty {n = n} e h = eqb-true n 0 (sym e ∙ h)

not_empty : {b : Bool} {n : ℕ} → b ≡ (n == 0) → b ≡ false → 0 < n
not_empty {n = zero} e h = absurd (false≢true (sym h ∙ e))
not_empty {n = suc n} e h = omega arith

pub returns-then-not-field_ok : goal.returns-then-not-field_ok
returns-then-not-field_ok c = refuses (build_field _ _ _ _ (sym c.field_ok.ensures ∙ c.if-not-field_ok.true))

pub returns-then-is_empty : goal.returns-then-is_empty
returns-then-is_empty c =
    let field_good : field_ok c.args.field ≡ true = sym c.field_ok.ensures ∙ c.if-not-field_ok.false in
    elim c.then-is_empty.either [
      | inl e ↦ refuses (build_empty _ _ _ _ field_good (empty c.is_empty.ensures e))
      | inr h ↦ refuses (build_long _ _ _ _ field_good h.1)
    ]

pub returns-then-marker-eq-TERMINATOR : goal.returns-then-marker-eq-TERMINATOR
returns-then-marker-eq-TERMINATOR c =
    let field_good : field_ok c.args.field ≡ true = sym c.field_ok.ensures ∙ c.if-not-field_ok.false in
    let some : 0 < length c.args.«data».now = not_empty c.is_empty.ensures c.if-is_empty.false in
    refuses (build_marker _ _ _ _ field_good some c.if-field-data.false c.if-marker-eq-TERMINATOR.true)

pub returns-then-control-gt3 : goal.returns-then-control-gt3
returns-then-control-gt3 c =
    let field_good : field_ok c.args.field ≡ true = sym c.field_ok.ensures ∙ c.if-not-field_ok.false in
    let some : 0 < length c.args.«data».now = not_empty c.is_empty.ensures c.if-is_empty.false in
    elim c.then-control-gt3.either [
      | inl h ↦ refuses (build_reply _ _ _ _ field_good some c.if-field-data.false (omega arith) h)
      | inr h ↦ refuses (build_hint _ _ _ _ field_good some c.if-field-data.false (omega arith) h.1)
    ]

pub returns-then-out-field : goal.returns-then-out-field
returns-then-out-field c =
    let a = c.args in
    let field_good : field_ok c.args.field ≡ true = sym c.field_ok.ensures ∙ c.if-not-field_ok.false in
    let some : 0 < length c.args.«data».now = not_empty c.is_empty.ensures c.if-is_empty.false in
    let built : build_of a.field a.«data».now a.control a.marker ≡ answer (frame_of a.field a.«data».now a.control a.marker) = build_answer _ _ _ _ field_good some c.if-field-data.false (omega arith) (omega arith) (omega arith) in
    rw built (sym (into_short _ _ (omega (arith, frame_length a.field a.«data».now a.control a.marker c.if-field-data.false))))

pub returns : goal.returns
returns c =
    let a = c.args in
    let field_good : field_ok c.args.field ≡ true = sym c.field_ok.ensures ∙ c.if-not-field_ok.false in
    let some : 0 < length c.args.«data».now = not_empty c.is_empty.ensures c.if-is_empty.false in
    let built : build_of a.field a.«data».now a.control a.marker ≡ answer (frame_of a.field a.«data».now a.control a.marker) = build_answer _ _ _ _ field_good some c.if-field-data.false c.if-marker-eq-TERMINATOR.false c.if-control-gt3.false c.if-control-gt7.false in
    answers built
    (omega (arith, frame_length a.field a.«data».now a.control a.marker c.if-field-data.false))
    c.frame.ensures

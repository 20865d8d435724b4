-- The claim holds: after any list of operations the receiver and its store are those of the book's history, and each keep, return and drop
-- answers as the book says; so a message that was left unfinished is completed after a return.
-- Assumes nothing.
use mathlib.Core.Path.{◌≡◌, refl, sym, ap, ap₂, ◌∙◌, subst}
use mathlib.Core.Bool.{Bool, true}
use mathlib.Core.List.{List, [], ◌∷◌, ◌++◌, append_assoc}
use Rattle.std.proofs.Common.{Option}
use Prim.Native.Nat.{ℕ, suc}
use native.Mathlib.Omega.{arith}
use lib.ListN.{length, drop, length-append}
use lib.Seq.{drop_at}
use borrow.Author.Tests.{eqb-true}
use Rattle.laws.specs.Pick.{pick}
use Rattle.laws.proofs.Cases.{by_test, and_left, and_right, pick_true, pick_false}
use Rattle.refusals.specs.Limits.{mask_ok}
use Rattle.refusals.specs.Outcome.{answer}
use Rattle.receiver.specs.Join.{Heard}
use Rattle.receiver.specs.New.{fresh_of, new_of}
use Rattle.gateway.specs.Run.{Call, State, step_of, left_by, run_of}
use Rattle.gateway.specs.Script.{Line, calls, answers}
use Rattle.gateway.specs.Demand.{Claim}
use Rattle.gateway.proofs.Demand.{run_append, demand_3}
use Rattle.gateway.proofs.Forget.{offers_append, left_snoc, freshly_from}
use Rattle.gateway.proofs.Handed.{answers_append}
use Rattle.channels.specs.Book.{Op, call, tune, keep, return_to, drop_name, World, world, world_step, world_after, new_ok, tuned, History, history, began, state_after, Book, book, book_step, book_after, Said, heard, number, world_answer, world_answers, book_answer, book_answers}
use Rattle.channels.specs.Return.{Resumes, ComingBack}
use Rattle.channels.proofs.Stays.{Fair, Taken, taken_after}
use Rattle.channels.proofs.Shelf.{Shelf, none_shelf}
use Rattle.channels.proofs.Steps.{keep_step, return_step, drop_step}

-- ---- the invariant

pub record Inv (w : World) (b : Book) : Type 0 where
  pub now : w.now ≡ state_after b.current
  pub fair : Fair b.current
  pub shelf : Shelf w.kept w.lent b.entries

-- an operation keeps it, and answers as the book says
pub record Next (w : World) (b : Book) (o : Op) : Type 0 where
  pub inv : Inv (world_step w o) (book_step b o)
  pub says : world_answer w o ≡ book_answer b o

taken_now : (w : World) (b : Book) → Inv w b → Taken w.now
taken_now w b v = subst Taken (sym v.now) (taken_after b.current v.fair)

-- a new receiver
record Tunes (t : State) (h : History) : Type 0 where
  pub now : t ≡ state_after h
  pub fair : Fair h

tunes_as : {s t : State} {g h : History} → s ≡ t → g ≡ h → Tunes t h → Tunes s g
tunes_as p q x = rw (p, q) x

tune_step : (t : State) (h : History) (m : ℕ) (s : List ℕ) → t ≡ state_after h → Fair h → Tunes (tuned m s t) (pick (new_ok m s) (history m s []) h)
unfolding left_by
tune_step t h m s e f =
    by_test (new_ok m s)
    (λ o. tunes_as (pick_true _ t o) (pick_true _ h o)
    (record { now = refl; fair = record { mask = and_left (mask_ok m) _ o; store = eqb-true (length s) 5000 (and_right (mask_ok m) _ o) } }))
    (λ o. tunes_as (pick_false _ t o) (pick_false _ h o) (record { now = e; fair = f }))

step_next : (w : World) (b : Book) → Inv w b → (o : Op) → Next w b o
step_next w b v (call c) =
    record {
      inv = record {
        now = ap (λ (t : State). (step_of t c).next) v.now ∙ sym (left_snoc (began b.current) b.current.calls c);
        fair = record { mask = v.fair.mask; store = v.fair.store };
        shelf = v.shelf;
      };
      says = ap (λ (t : State). heard (step_of t c).answer) v.now;
    }
step_next w b v (tune m s) =
    let t = tune_step w.now b.current m s v.now v.fair in
    record { inv = record { now = t.now; fair = t.fair; shelf = v.shelf }; says = refl }
step_next w b v (keep n) =
    let k = keep_step w.kept w.lent b.entries v.shelf n w.now.receiver w.now.store (taken_now w b v) b.current v.fair v.now in
    record { inv = record { now = v.now; fair = v.fair; shelf = k.shelf }; says = ap number k.says }
step_next w b v (return_to n) =
    let r = return_step w.kept w.lent b.entries v.shelf n w.now (taken_now w b v) b.current v.fair v.now in
    record { inv = record { now = r.now; fair = r.fair; shelf = v.shelf }; says = ap number r.says }
step_next w b v (drop_name n) =
    let d = drop_step w.kept w.lent b.entries v.shelf n in
    record { inv = record { now = v.now; fair = v.fair; shelf = d.shelf }; says = ap number d.says }

after_inv : (w : World) (b : Book) → Inv w b → (os : List Op) → Inv (world_after w os) (book_after b os)
unfolding world_after book_after
after_inv w b v [] = v
after_inv w b v (o ∷ os) = after_inv (world_step w o) (book_step b o) (step_next w b v o).inv os

after_answers : (w : World) (b : Book) → Inv w b → (os : List Op) → world_answers w os ≡ book_answers b os
unfolding world_answers book_answers
after_answers w b v [] = refl
after_answers w b v (o ∷ os) =
    let x = step_next w b v o in
    ap₂ {A = Said} {B = List Said} (λ a l. a ∷ l) x.says (after_answers (world_step w o) (book_step b o) x.inv os)

-- ---- a list cut anywhere

-- the ends are the same where the lists and the lengths of their fronts are
same_end : {A : Type 0} (a b c d : List A) → length a ≡ length b → a ++ c ≡ b ++ d → c ≡ d
same_end a b c d l e = sym (drop_at a c (length a) refl) ∙ ap (drop (length a)) e ∙ drop_at b d (length a) (sym l)

calls_append : (a b : List Line) → calls (a ++ b) ≡ calls a ++ calls b
calls_append [] b = refl
calls_append (x ∷ a) b = ap {B = List Call} (λ l. x.call ∷ l) (calls_append a b)

-- a call has an answer, and a line both
run_length : (t : State) (cs : List Call) → length (run_of t cs) ≡ length cs
unfolding run_of
run_length t [] = refl
run_length t (c ∷ cs) = ap suc (run_length (step_of t c).next cs)

lines_alike : (ls : List Line) → length (answers ls) ≡ length (calls ls)
lines_alike [] = refl
lines_alike (l ∷ ls) = ap suc (lines_alike ls)

-- the answers to the rest, where those to the whole are known
rest_answered : (t : State) (before : List Call) (first rest : List Line)
    → run_of t (before ++ calls (first ++ rest)) ≡ run_of t before ++ answers (first ++ rest)
    → run_of (left_by t (before ++ calls first)) (calls rest) ≡ answers rest
rest_answered t before first rest e =
    let past = before ++ calls first in
    let whole : past ++ calls rest ≡ before ++ calls (first ++ rest)
    = append_assoc before (calls first) (calls rest) ∙ ap (λ (l : List Call). before ++ l) (sym (calls_append first rest)) in
    let said : run_of t before ++ answers (first ++ rest) ≡ (run_of t before ++ answers first) ++ answers rest
    = ap (λ (l : List (Option Heard)). run_of t before ++ l) (answers_append first rest) ∙ sym (append_assoc (run_of t before) (answers first) (answers rest)) in
    same_end (run_of t past) (run_of t before ++ answers first) (run_of (left_by t past) (calls rest)) (answers rest)
    (omega (arith, run_length t past, length-append before (calls first), length-append (run_of t before) (answers first), run_length t before, lines_alike first))
    (sym (run_append t past (calls rest)) ∙ ap (run_of t) whole ∙ e ∙ said)

-- ---- the claim

module _ (mended : Bool) (w : World) (b : Book) (v : Inv w b) where
  abbrev h : History
  h = b.current

  claims : Claim mended h.mask (fresh_of h.mask) h.store
  unfolding new_of
  claims = demand_3 mended h.mask (fresh_of h.mask) (pick_true _ _ v.fair.mask) h.store v.fair.store

  -- whatever is answered by the state that the history leaves
  now_runs : (cs : List Call) → run_of w.now cs ≡ run_of (state_after h) cs
  now_runs cs = ap (λ (t : State). run_of t cs) v.now

  pub resumes : Resumes mended w b h
  resumes =
      record {
        now = v.now;
        joined = λ cs. ap (λ (l : List (Option Heard)). run_of (began h) h.calls ++ l) (now_runs cs) ∙ sym (run_append (began h) h.calls cs);
        says = λ o. (step_next w b v o).says;
        forgets = λ stores sizes cs few.
            now_runs cs
            ∙ freshly_from h.mask v.fair.mask h.store v.fair.store stores sizes h.calls cs (omega (arith, few, offers_append h.calls cs));
        delivers = λ before q xs ps ms first rest x e few.
            let d = claims.delivers before q xs ps ms (first ++ rest) x few in (
              now_runs (calls rest) ∙ ap (λ (l : List Call). run_of (left_by (began h) l) (calls rest)) e ∙ rest_answered (began h) before first rest d.answered,
              d,
            );
      }

-- a new receiver, with nothing kept
start : (m : ℕ) → mask_ok m ≡ true → (s lent : List ℕ) → length s ≡ 5000 → length lent ≡ 40000 → Inv (world m s lent) (book m s)
unfolding left_by
start m ok s lent size whole = record { now = refl; fair = record { mask = ok; store = size }; shelf = none_shelf lent whole }

pub coming_back : (mended : Bool) → ComingBack mended
coming_back mended m ok s lent size whole os =
    let v = start m ok s lent size whole in
    record { answered = after_answers _ _ v os; goes_on = resumes mended _ _ (after_inv _ _ v os) }

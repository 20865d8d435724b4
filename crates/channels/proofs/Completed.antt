-- What is kept under a name is there after every operation that leaves the name alone; so an unfinished message can be completed after a return.
-- Assumes nothing.
use mathlib.Core.Path.{◌≡◌, refl, sym, ap, ◌∙◌}
use mathlib.Core.Bool.{Bool, true, false}
use mathlib.Core.List.{List, [], ◌∷◌, ◌++◌, append-nil, append_assoc}
use Rattle.std.proofs.Common.{Option, Some}
use Prim.Native.Nat.{ℕ}
use lib.ListN.{length}
use borrow.Author.Tests.{not-true}
use Rattle.laws.specs.Pick.{pick}
use Rattle.laws.specs.Text.{same}
use Rattle.laws.proofs.Cases.{by_test, and_left, and_right, pick_true, pick_false}
use Rattle.laws.proofs.TextLaws.{same_refl}
use Rattle.refusals.specs.Limits.{mask_ok}
use Rattle.receiver.specs.Join.{Heard}
use Rattle.receiver.specs.New.{fresh_of}
use Rattle.kept.specs.Keep.{name_ok}
use Rattle.gateway.specs.Run.{Call, State, state, run_of}
use Rattle.gateway.proofs.Demand.{run_append}
use Rattle.channels.specs.Book.{Op, call, tune, keep, return_to, drop_name, world, world_after, History, history, state_after, Entry, Book, book, past_under, without, has_room, entered, known_or, book_step, book_after, spares, spare_all, calls_of}
use Rattle.channels.specs.Return.{Completed}
use Rattle.channels.proofs.Entries.{known_other}
use Rattle.channels.proofs.Return.{coming_back}

-- ---- the book alone

book_append : (b : Book) (os ps : List Op) → book_after b (os ++ ps) ≡ book_after (book_after b os) ps
unfolding book_after
book_append b [] ps = refl
book_append b (o ∷ os) ps = book_append (book_step b o) os ps

-- a name that is entered is known
known_entered : (n : List ℕ) (h : History) (es : List Entry) → has_room n es ≡ true → past_under n (entered n h es) ≡ Some h
unfolding past_under
known_entered n h es t =
    ap (past_under n) (pick_true (record { name = n; past = h } ∷ without n es) es t) ∙ pick_true (Some h) (past_under n (without n es)) (same_refl n)

module _ (n : List ℕ) where
  spared_by_keep : (o : List ℕ) (h : History) (es : List Entry) → same n o ≡ false → past_under n (entered o h es) ≡ past_under n es
  unfolding past_under
  spared_by_keep o h es e =
      by_test (has_room o es)
      (λ t. ap (past_under n) (pick_true (record { name = o; past = h } ∷ without o es) es t)
      ∙ pick_false (Some h) (past_under n (without o es)) e
      ∙ known_other o n e es)
      (λ t. ap (past_under n) (pick_false (record { name = o; past = h } ∷ without o es) es t))

  -- whether or not the name has 1 to 8 bytes
  by_length : (t : Bool) (es fs : List Entry) → past_under n fs ≡ past_under n es → past_under n (pick t fs es) ≡ past_under n es
  unfolding pick
  by_length true es fs e = e
  by_length false es fs e = refl

  spared : (b : Book) (o : Op) → spares n o ≡ true → past_under n (book_step b o).entries ≡ past_under n b.entries
  spared b (call c) e = refl
  spared b (tune m s) e = refl
  spared b (keep o) e =
      by_length (name_ok (length o)) b.entries (entered o b.current b.entries) (spared_by_keep o b.current b.entries (not-true (same n o) e))
  spared b (return_to o) e = refl
  spared b (drop_name o) e =
      by_length (name_ok (length o)) b.entries (without o b.entries) (known_other o n (not-true (same n o) e) b.entries)

  spared_all : (b : Book) (os : List Op) → spare_all n os ≡ true → past_under n (book_after b os).entries ≡ past_under n b.entries
  unfolding book_after spare_all
  spared_all b [] e = refl
  spared_all b (o ∷ os) e =
      spared_all (book_step b o) os (and_right (spares n o) (spare_all n os) e) ∙ spared b o (and_left (spares n o) (spare_all n os) e)

  -- a history that is kept is returned to
  pub kept_current : (b : Book) (os : List Op) → name_ok (length n) ≡ true → has_room n b.entries ≡ true → spare_all n os ≡ true
      → (book_after b (keep n ∷ (os ++ (return_to n ∷ [])))).current ≡ b.current
  unfolding book_after
  kept_current b os ok room e =
      let c = book_after (book_step b (keep n)) os in
      let q : past_under n c.entries ≡ Some b.current
      = spared_all (book_step b (keep n)) os e
      ∙ ap (past_under n) (pick_true (entered n b.current b.entries) b.entries ok)
      ∙ known_entered n b.current b.entries room in
      ap (λ (x : Book). x.current) (book_append (book_step b (keep n)) os (return_to n ∷ []))
      ∙ pick_true (known_or (past_under n c.entries) c.current) c.current ok
      ∙ ap (λ (h : Option History). known_or h c.current) q

  -- calls leave every name alone
  pub spare_calls : (cs : List Call) → spare_all n (calls_of cs) ≡ true
  unfolding spare_all calls_of
  spare_calls [] = refl
  spare_calls (c ∷ cs) = spare_calls cs

-- ---- calls alone

calls_book : (m : ℕ) (s : List ℕ) (es : List Entry) (past cs : List Call)
    → book_after (record { current = history m s past; entries = es }) (calls_of cs) ≡ record { current = history m s (past ++ cs); entries = es }
unfolding book_after calls_of
calls_book m s es past [] = ap (λ (l : List Call). record { current = history m s l; entries = es }) (sym (append-nil past))
calls_book m s es past (c ∷ cs) =
    calls_book m s es (past ++ (c ∷ [])) cs
    ∙ ap (λ (l : List Call). record { current = history m s l; entries = es }) (append_assoc past (c ∷ []) cs)

module _ (m : ℕ) (s : List ℕ) (a : List Call) (n : List ℕ) (named : name_ok (length n) ≡ true) (os : List Op) (spare : spare_all n os ≡ true) where
  -- calls a, a keep, operations that leave the name alone, and a return: the history is a
  pub back_to : (book_after (book m s) (calls_of a ++ (keep n ∷ (os ++ (return_to n ∷ []))))).current ≡ history m s a
  unfolding past_under
  back_to =
      ap (λ (b : Book). b.current) (book_append (book m s) (calls_of a) (keep n ∷ (os ++ (return_to n ∷ []))))
      ∙ ap (λ (b : Book). (book_after b (keep n ∷ (os ++ (return_to n ∷ [])))).current) (calls_book m s [] [] a)
      ∙ kept_current n (record { current = history m s a; entries = [] }) os named refl spare

pub completed : Completed
completed m ok s lent size whole a b n named os spare =
    ap (λ (t : State). run_of t b)
    ((coming_back true m ok s lent size whole (calls_of a ++ (keep n ∷ (os ++ (return_to n ∷ []))))).goes_on.now ∙ ap state_after (back_to m s a n named os spare))

-- the answers to a and to b are those of one who never left
pub never_left : (m : ℕ) → mask_ok m ≡ true → (s lent : List ℕ) → length s ≡ 5000 → length lent ≡ 40000
    → (a b : List Call) (n : List ℕ) → name_ok (length n) ≡ true → (os : List Op) → spare_all n os ≡ true
    → run_of (state (fresh_of m) s) a ++ run_of (world_after (world m s lent) (calls_of a ++ (keep n ∷ (os ++ (return_to n ∷ []))))).now b
    ≡ run_of (state (fresh_of m) s) (a ++ b)
never_left m ok s lent size whole a b n named os spare =
    ap (λ (l : List (Option Heard)). run_of (state (fresh_of m) s) a ++ l) (completed m ok s lent size whole a b n named os spare)
    ∙ sym (run_append (state (fresh_of m) s) a b)

-- A field that ends at a stop byte, by cases.
-- Assumes nothing.
use mathlib.Core.Path.{◌≡◌, refl, sym}
use mathlib.Core.List.{List, [], ◌∷◌}
use Prim.Native.Nat.{ℕ, zero, suc, ◌+◌, ◌≤◌, ◌<◌}
use native.Mathlib.Numerals.{add-one}
use native.Mathlib.Omega.{arith}
use lib.ListN.{length, get_or, take, drop}
use borrow.Author.Tests.{eq-eqb, ne_eqb}
use Rattle.laws.specs.Pick.{pick}
use Rattle.laws.proofs.Cases.{by_eq}
use Rattle.ax25_aprs.specs.Put.{span_in}
use Rattle.ax25_aprs.specs.Third.{ended, full, short, collect_of}

-- none of the first j bytes is a stop byte
abbrev pub Free : ℕ → ℕ → List ℕ → Type 0
Free stop j d = (i : ℕ) → i < j → get_or d i 0 ≡ stop → ⊥

pub free_none : (stop : ℕ) (d : List ℕ) → Free stop 0 d
free_none stop d i h = absurd (omega arith)

pub free_more : (stop j : ℕ) (d : List ℕ) → Free stop j d → (get_or d j 0 ≡ stop → ⊥) → Free stop (j + 1) d
free_more stop j d f n i h = by_eq i j (λ e. rw e n) (λ e. f i (omega arith))

free_tail : (stop j x : ℕ) (d : List ℕ) → Free stop (suc j) (x ∷ d) → Free stop j d
free_tail stop j x d f i h = f (suc i) (omega arith)

pub collect_ended : (stop k : ℕ) (d : List ℕ) (n : ℕ) → n < k → n < length d → Free stop n d → get_or d n 0 ≡ stop
    → collect_of stop k d ≡ ended (take n d) (drop (suc n) d)
unfolding collect_of pick
collect_ended stop zero d n h l f e = absurd (omega arith)
collect_ended stop (suc k) [] n h l f e = absurd (omega arith)
collect_ended stop (suc k) (x ∷ d) zero h l f e = rw (eq-eqb x stop e)
collect_ended stop (suc k) (x ∷ d) (suc n) h l f e =
    rw (ne_eqb x stop (f 0 (omega arith)), collect_ended stop k d n (omega arith) (omega arith) (free_tail stop n x d f) e)

pub collect_full : (stop k : ℕ) (d : List ℕ) → k ≤ length d → Free stop k d → collect_of stop k d ≡ full (take k d)
unfolding collect_of pick
collect_full stop zero d l f = refl
collect_full stop (suc k) [] l f = absurd (omega arith)
collect_full stop (suc k) (x ∷ d) l f = rw (ne_eqb x stop (f 0 (omega arith)), collect_full stop k d (omega arith) (free_tail stop k x d f))

pub collect_short : (stop k : ℕ) (d : List ℕ) → length d < k → Free stop (length d) d → collect_of stop k d ≡ short
unfolding collect_of pick
collect_short stop zero d l f = absurd (omega arith)
collect_short stop (suc k) [] l f = refl
collect_short stop (suc k) (x ∷ d) l f = rw (ne_eqb x stop (f 0 (omega arith)), collect_short stop k d (omega arith) (free_tail stop (length d) x d f))

-- ---- as `collect` answers it

pub span_ended : (stop k : ℕ) (d : List ℕ) (n : ℕ) → n < k → n < length d → Free stop n d → get_or d n 0 ≡ stop → span_in d n (n + 1) ≡ collect_of stop k d
unfolding span_in
span_ended stop k d n h l f e = rw (add-one n) (sym (collect_ended stop k d n h l f e))

pub span_full : (stop k : ℕ) (d : List ℕ) (n : ℕ) → n ≡ k → n ≤ length d → Free stop n d → span_in d n 0 ≡ collect_of stop k d
unfolding span_in
span_full stop k d n e l f = rw (← e) (sym (collect_full stop n d l f))

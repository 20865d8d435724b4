-- The cases of the receiver with its tallies, one law for each.
-- Assumes nothing.
use mathlib.Core.Path.{◌≡◌, refl, sym, ap, ◌∙◌}
use mathlib.Core.Bool.{Bool, true, false, ◌||◌}
use mathlib.Core.List.{List, []}
use Rattle.std.proofs.Common.{Option, Some, Ok}
use Prim.Native.Nat.{ℕ, ◌+◌, ◌≤◌, ◌<◌}
use native.Mathlib.Nat.{add-zero}
use native.Mathlib.Omega.{arith}
use lib.Bits.{bit_or, or_add_and, and_le_l, and_le_r}
use lib.ListN.{length}
use lib.Dec.{leb, eqb}
use borrow.Author.Tests.{lt-ltb, le-leb, lt-leb, leb-false, eq-eqb, ne_eqb}
use Rattle.laws.specs.Bits.{num}
use Rattle.laws.specs.Pick.{pick}
use Rattle.laws.proofs.Cases.{by_eq, or_left, or_right}
use Rattle.refusals.specs.Limits.{field_ok}
use Rattle.refusals.specs.Outcome.{number}
use Rattle.refusals.specs.declared.Refusal.{Refusal}
use Rattle.receiver.specs.Join.{code_of, refused, dropped, more, done, told_of, turned_away, joined_after, refusal_of, join_of}
use Rattle.receiver.specs.Push.{push_of}
use Rattle.receiver.specs.Tally.{largest, is_full, tallied, after, with, counted, join_tallied, push_tallied}
use Rattle.receiver.proofs.JoinLaws.{code_is, code_not}
use Rattle.receiver.specs.declared.Cause.TheVariants.{WrongLength, NoFragment, Overflow, Limit, Check}
use Rattle.receiver.specs.declared.Joined.{Joined}
use Rattle.receiver.specs.declared.Push.{Push}
use Rattle.receiver.specs.declared.Push.TheVariants.{Dropped, More, Done}
use Rattle.receiver.specs.declared.Reassembler.{Reassembler}
use Rattle.receiver.specs.declared.Tallies.{Tallies}

-- ---- which tally is full

or_above_l : (a b : ℕ) → a ≤ bit_or a b
or_above_l a b = omega (arith, or_add_and a b, and_le_r a b)

or_above_r : (a b : ℕ) → b ≤ bit_or a b
or_above_r a b = omega (arith, or_add_and a b, and_le_l a b)

or_assoc : (a b c : Bool) → ((a || b) || c) ≡ (a || (b || c))
or_assoc true b c = refl
or_assoc false b c = refl

or_none : (b : Bool) → (b || false) ≡ b
or_none true = refl
or_none false = refl

-- a number of 64 bits is the largest, or below it
top_test : (n : ℕ) → n ≤ largest → eqb n largest ≡ leb largest n
top_test n h =
    by_eq n largest
    (λ e. let l : largest ≤ n = omega arith in rw (eq-eqb n largest e, le-leb largest n l))
    (λ e. let l : n < largest = omega arith in rw (ne_eqb n largest e, lt-leb largest n l))

module _ (t : Tallies) where
  -- where 27 does not apply each tally takes one more
  pub record Room : Type 0 where
    pub offered : t.offered < largest
    pub more : t.more < largest
    pub done : t.done < largest
    pub wrong_length : t.wrong_length < largest
    pub no_fragment : t.no_fragment < largest
    pub overflow : t.overflow < largest
    pub limit : t.limit < largest
    pub check : t.check < largest

  pub room : is_full t ≡ false → Room
  unfolding is_full
  room e₁ =
      let b1 : Bool = leb largest t.offered in
      let b2 : Bool = leb largest t.more in
      let b3 : Bool = leb largest t.done in
      let b4 : Bool = leb largest t.wrong_length in
      let b5 : Bool = leb largest t.no_fragment in
      let b6 : Bool = leb largest t.overflow in
      let b7 : Bool = leb largest t.limit in
      let b8 : Bool = leb largest t.check in
      let r7 : Bool = b7 || b8 in
      let r6 : Bool = b6 || r7 in
      let r5 : Bool = b5 || r6 in
      let r4 : Bool = b4 || r5 in
      let r3 : Bool = b3 || r4 in
      let r2 : Bool = b2 || r3 in
      let e₂ : r2 ≡ false = or_right b1 r2 e₁ in
      let e₃ : r3 ≡ false = or_right b2 r3 e₂ in
      let e₄ : r4 ≡ false = or_right b3 r4 e₃ in
      let e₅ : r5 ≡ false = or_right b4 r5 e₄ in
      let e₆ : r6 ≡ false = or_right b5 r6 e₅ in
      let e₇ : r7 ≡ false = or_right b6 r7 e₆ in
      let e₈ : b8 ≡ false = or_right b7 b8 e₇ in
      record {
        offered = leb-false largest t.offered (or_left b1 r2 e₁);
        more = leb-false largest t.more (or_left b2 r3 e₂);
        done = leb-false largest t.done (or_left b3 r4 e₃);
        wrong_length = leb-false largest t.wrong_length (or_left b4 r5 e₄);
        no_fragment = leb-false largest t.no_fragment (or_left b5 r6 e₅);
        overflow = leb-false largest t.overflow (or_left b6 r7 e₆);
        limit = leb-false largest t.limit (or_left b7 b8 e₇);
        check = leb-false largest t.check e₈;
      }

  -- no tally is full where the bits of all eight together are not those of the largest number
  pub none_full :
      bit_or (bit_or (bit_or (bit_or t.offered t.more) t.done) t.wrong_length) (bit_or (bit_or (bit_or t.no_fragment t.overflow) t.limit) t.check) < largest
      → is_full t ≡ false
  unfolding is_full
  none_full h =
      let om : ℕ = bit_or t.offered t.more in
      let omd : ℕ = bit_or om t.done in
      let first : ℕ = bit_or omd t.wrong_length in
      let nv : ℕ = bit_or t.no_fragment t.overflow in
      let nvl : ℕ = bit_or nv t.limit in
      let last : ℕ = bit_or nvl t.check in
      let f : first < largest = omega (arith, or_above_l first last) in
      let l : last < largest = omega (arith, or_above_r first last) in
      let a : omd < largest = omega (arith, or_above_l omd t.wrong_length) in
      let b : om < largest = omega (arith, or_above_l om t.done) in
      let d : nvl < largest = omega (arith, or_above_l nvl t.check) in
      let e : nv < largest = omega (arith, or_above_l nv t.limit) in
      simp (
        lt-leb largest t.offered (omega (arith, or_above_l t.offered t.more)),
        lt-leb largest t.more (omega (arith, or_above_r t.offered t.more)),
        lt-leb largest t.done (omega (arith, or_above_r om t.done)),
        lt-leb largest t.wrong_length (omega (arith, or_above_r omd t.wrong_length)),
        lt-leb largest t.no_fragment (omega (arith, or_above_l t.no_fragment t.overflow)),
        lt-leb largest t.overflow (omega (arith, or_above_r t.no_fragment t.overflow)),
        lt-leb largest t.limit (omega (arith, or_above_r nv t.limit)),
        lt-leb largest t.check (omega (arith, or_above_r nvl t.check)),
      )

  -- the eight tests in three groups
  pub any_full :
      ((((leb largest t.offered || leb largest t.more) || leb largest t.done) || (leb largest t.wrong_length || leb largest t.no_fragment))
      || ((leb largest t.overflow || leb largest t.limit) || leb largest t.check))
      ≡ is_full t
  unfolding is_full
  any_full = simp or_assoc

  -- the eight tests, of numbers of 64 bits
  pub any_largest : t.offered ≤ largest → t.more ≤ largest → t.done ≤ largest → t.wrong_length ≤ largest → t.no_fragment ≤ largest
      → t.overflow ≤ largest → t.limit ≤ largest → t.check ≤ largest
      → (eqb t.offered largest || (eqb t.more largest || (eqb t.done largest || (eqb t.wrong_length largest || (eqb t.no_fragment largest
      || (eqb t.overflow largest || (eqb t.limit largest || (eqb t.check largest || false))))))))
      ≡ is_full t
  unfolding is_full
  any_largest o m d w n v l k =
      simp (top_test _ o, top_test _ m, top_test _ d, top_test _ w, top_test _ n, top_test _ v, top_test _ l, top_test _ k, or_none)

  -- ---- one more answer

  pub tallied_refused : (n : ℕ) → tallied (refused n) t ≡ t
  unfolding tallied num
  tallied_refused n = simp add-zero

  pub tallied_more : tallied more t
      ≡ record { offered = t.offered + 1; more = t.more + 1; done = t.done; wrong_length = t.wrong_length; no_fragment = t.no_fragment; overflow = t.overflow; limit = t.limit; check = t.check }
  unfolding tallied num
  tallied_more = simp add-zero

  pub tallied_done : (n : ℕ) (l : List ℕ) → tallied (done n l) t
      ≡ record { offered = t.offered + 1; more = t.more; done = t.done + 1; wrong_length = t.wrong_length; no_fragment = t.no_fragment; overflow = t.overflow; limit = t.limit; check = t.check }
  unfolding tallied num
  tallied_done n l = simp add-zero

  pub tallied_wrong_length : tallied (dropped WrongLength) t
      ≡ record { offered = t.offered + 1; more = t.more; done = t.done; wrong_length = t.wrong_length + 1; no_fragment = t.no_fragment; overflow = t.overflow; limit = t.limit; check = t.check }
  unfolding tallied num
  tallied_wrong_length = simp add-zero

  pub tallied_no_fragment : tallied (dropped NoFragment) t
      ≡ record { offered = t.offered + 1; more = t.more; done = t.done; wrong_length = t.wrong_length; no_fragment = t.no_fragment + 1; overflow = t.overflow; limit = t.limit; check = t.check }
  unfolding tallied num
  tallied_no_fragment = simp add-zero

  pub tallied_overflow : tallied (dropped Overflow) t
      ≡ record { offered = t.offered + 1; more = t.more; done = t.done; wrong_length = t.wrong_length; no_fragment = t.no_fragment; overflow = t.overflow + 1; limit = t.limit; check = t.check }
  unfolding tallied num
  tallied_overflow = simp add-zero

  pub tallied_limit : tallied (dropped Limit) t
      ≡ record { offered = t.offered + 1; more = t.more; done = t.done; wrong_length = t.wrong_length; no_fragment = t.no_fragment; overflow = t.overflow; limit = t.limit + 1; check = t.check }
  unfolding tallied num
  tallied_limit = simp add-zero

  pub tallied_check : tallied (dropped Check) t
      ≡ record { offered = t.offered + 1; more = t.more; done = t.done; wrong_length = t.wrong_length; no_fragment = t.no_fragment; overflow = t.overflow; limit = t.limit; check = t.check + 1 }
  unfolding tallied num
  tallied_check = simp add-zero

  -- the store does not matter to a tally
  pub tallied_any : (a : Push) (s : List ℕ) → tallied (told_of a s) t ≡ tallied (told_of a []) t
  unfolding tallied num
  tallied_any (Dropped c) s = refl
  tallied_any More s = refl
  tallied_any (Done n) s = refl

  pub after_counted : (p : Joined) (s : List ℕ) (u : Tallies) → u ≡ tallied (told_of p.answer []) t
      → after (record { answer = Ok p.answer; receiver = with p.state u }) s ≡ counted t (joined_after p s)
  after_counted p s u e =
      ap (λ (x : Tallies). after (record { answer = Ok p.answer; receiver = with p.state x }) s) (e ∙ sym (tallied_any p.answer s))

-- ---- the calls

module _ (r : Reassembler) (s f : List ℕ) (n : ℕ) where
  pub join_refuses : (refusal_of r.state (length s) ≡ 0 → ⊥) → join_tallied r s f n ≡ turned_away (refusal_of r.state (length s)) r s
  unfolding join_tallied pick
  join_refuses h =
      let p : 0 < refusal_of r.state (length s) = omega (arith, h) in
      rw (lt-ltb 0 (refusal_of r.state (length s)) p)

  pub push_refuses : (refusal_of r.state (length s) ≡ 0 → ⊥) → push_tallied r s f n ≡ turned_away (refusal_of r.state (length s)) r s
  unfolding push_tallied pick
  push_refuses h =
      let p : 0 < refusal_of r.state (length s) = omega (arith, h) in
      rw (lt-ltb 0 (refusal_of r.state (length s)) p)

  -- the refusal that the state has
  pub join_turned : {x : Option Refusal} {e : Refusal} → code_of x ≡ refusal_of r.state (length s) → x ≡ Some e → join_tallied r s f n ≡ turned_away (number e) r s
  join_turned code h = rw (← code_is code h) (join_refuses (code_not code h))

  pub push_turned : {x : Option Refusal} {e : Refusal} → code_of x ≡ refusal_of r.state (length s) → x ≡ Some e → push_tallied r s f n ≡ turned_away (number e) r s
  push_turned code h = rw (← code_is code h) (push_refuses (code_not code h))

  module _ (e : refusal_of r.state (length s) ≡ 0) where
    pub join_full : is_full r.tallies ≡ true → join_tallied r s f n ≡ turned_away 27 r s
    unfolding join_tallied pick
    join_full t = simp (e, t)

    pub join_counts : is_full r.tallies ≡ false → join_tallied r s f n ≡ counted r.tallies (join_of r.state s f n)
    unfolding join_tallied pick
    join_counts t = simp (e, t)

    pub push_refuses_field : field_ok n ≡ false → push_tallied r s f n ≡ turned_away 8 r s
    unfolding push_tallied pick
    push_refuses_field o = simp (e, o)

    pub push_full : field_ok n ≡ true → is_full r.tallies ≡ true → push_tallied r s f n ≡ turned_away 27 r s
    unfolding push_tallied pick
    push_full o t = simp (e, o, t)

    pub push_counts : field_ok n ≡ true → is_full r.tallies ≡ false → push_tallied r s f n ≡ counted r.tallies (push_of r.state s f n)
    unfolding push_tallied pick
    push_counts o t = simp (e, o, t)

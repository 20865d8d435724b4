-- "the calls since the last ending before it, or since the start": every list is a front that is empty or stops with an ending, and `since` of
-- it, which has no ending. Only one list is so.
-- Assumes nothing.
use mathlib.Core.Path.{◌≡◌, refl, sym, ap, ◌∙◌}
use mathlib.Core.Bool.{Bool, true, false, false≢true, ◌||◌}
use mathlib.Core.List.{List, [], ◌∷◌, ◌++◌}
use Rattle.laws.specs.Pick.{pick}
use Rattle.laws.proofs.Cases.{by_test, or_left, or_right}
use Rattle.gateway.specs.Run.{Call, ending, any_ending, since}
use Rattle.gateway.specs.Script.{settled}

-- a list and its parts: `rest` comes after the last ending, or is all where there is none
pub record Split (cs rest : List Call) : Type 0 where
  pub front : List Call
  pub parts : cs ≡ front ++ rest
  pub stops : settled front ≡ true
  pub free : any_ending rest ≡ false

module _ (c : Call) (cs : List Call) where
  since_any : any_ending cs ≡ true → since (c ∷ cs) ≡ since cs
  unfolding since pick
  since_any e = rw e

  since_first : any_ending cs ≡ false → ending c ≡ true → since (c ∷ cs) ≡ cs
  unfolding since pick
  since_first e q = simp (e, q)

  since_none : any_ending cs ≡ false → ending c ≡ false → since (c ∷ cs) ≡ c ∷ cs
  unfolding since pick
  since_none e q = simp (e, q)

  none_in : any_ending cs ≡ false → ending c ≡ false → any_ending (c ∷ cs) ≡ false
  unfolding any_ending
  none_in e q = simp (e, q)

  any_first : ending c ≡ true → any_ending (c ∷ cs) ≡ true
  unfolding any_ending
  any_first q = simp q

  any_later : any_ending cs ≡ true → any_ending (c ∷ cs) ≡ true
  unfolding any_ending
  any_later e = cases (ending c)
    where
      cases : (o : Bool) → (o || any_ending cs) ≡ true
      cases true = refl
      cases false = e

pub none_since : (cs : List Call) → any_ending cs ≡ false → since cs ≡ cs
unfolding any_ending since pick
none_since [] e = refl
none_since (c ∷ cs) e = simp (or_right (ending c) (any_ending cs) e, or_left (ending c) (any_ending cs) e)

-- ---- `since` is such a list

-- a call before a list that stops with an ending; where the list is empty there was no ending
longer : (c : Call) (cs front : List Call) → cs ≡ front ++ since cs → settled front ≡ true → any_ending (since cs) ≡ false → any_ending cs ≡ true
    → settled (c ∷ front) ≡ true
longer c cs [] w s f e = absurd (false≢true (sym f ∙ ap any_ending (sym w) ∙ e))
longer c cs (d ∷ front) w s f e = s

pub since_split : (cs : List Call) → Split cs (since cs)
since_split [] = record { front = []; parts = unfold since in refl; stops = refl; free = unfold since in (unfold any_ending in refl) }
since_split (c ∷ cs) =
    let r = since_split cs in
    by_test (any_ending cs)
    (λ e. record {
      front = c ∷ r.front;
      parts = ap {B = List Call} (λ l. c ∷ l) r.parts ∙ ap (λ (l : List Call). c ∷ r.front ++ l) (sym (since_any c cs e));
      stops = longer c cs r.front r.parts r.stops r.free e;
      free = ap any_ending (since_any c cs e) ∙ r.free;
    })
    (λ e. by_test (ending c)
    (λ q. record {
      front = c ∷ [];
      parts = ap {B = List Call} (λ l. c ∷ l) (sym (since_first c cs e q));
      stops = q;
      free = ap any_ending (since_first c cs e q) ∙ e;
    })
    (λ q. record {
      front = [];
      parts = sym (since_none c cs e q);
      stops = refl;
      free = ap any_ending (since_none c cs e q) ∙ none_in c cs e q;
    }))

-- ---- and the only one

module _ (rest : List Call) (free : any_ending rest ≡ false) where
  stops_any : (c : Call) (front : List Call) → settled (c ∷ front) ≡ true → any_ending ((c ∷ front) ++ rest) ≡ true
  stops_any c [] s = any_first c rest s
  stops_any c (d ∷ front) s = any_later c ((d ∷ front) ++ rest) (stops_any d front s)

  since_after : (c : Call) (front : List Call) → settled (c ∷ front) ≡ true → since ((c ∷ front) ++ rest) ≡ rest
  since_after c [] s = since_first c rest free s
  since_after c (d ∷ front) s = since_any c ((d ∷ front) ++ rest) (stops_any d front s) ∙ since_after d front s

  since_front : (front : List Call) → settled front ≡ true → since (front ++ rest) ≡ rest
  since_front [] s = none_since rest free
  since_front (c ∷ front) s = since_after c front s

pub since_only : (cs rest : List Call) → Split cs rest → since cs ≡ rest
since_only cs rest p = ap since p.parts ∙ since_front rest p.free p.front p.stops

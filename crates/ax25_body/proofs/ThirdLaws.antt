-- Third-party bodies by cases, for the code.
-- Assumes nothing.
use mathlib.Core.Path.{◌≡◌, refl, ap, subst}
use mathlib.Core.Bool.{Bool}
use mathlib.Core.List.{List, ◌++◌, append_assoc}
use Rattle.std.proofs.Common.{Option, None, Some}
use Prim.Native.Nat.{ℕ, ◌+◌, ◌≤◌}
use native.Mathlib.Omega.{arith}
use lib.ListN.{length, length-append}
use borrow.Author.Tests.{ne_eqb}
use Rattle.laws.specs.Pick.{pick, ◌>>=◌}
use Rattle.laws.specs.Text.{ascii}
use Rattle.bits.specs.Read.{take_bits}
use Rattle.ax25_token.specs.Token.{read_token}
use Rattle.ax25_address.specs.Types.{Text, Position, TimestampedPosition, Message}
use Rattle.ax25_aprs.specs.Body.{read_body}
use Rattle.ax25_aprs.specs.Third.{inner_type, read_third}
use Rattle.ax25_body.specs.Read.{read_inner}
use Rattle.ax25_body.specs.Pass.{Passed, Passes}

-- ---- an answer that has a call, and one that has none

module _ (o : Option (List ℕ × List Bool)) (u : List Bool) (x out : List ℕ) (to : ℕ) (e : List ℕ) where
  pub passed : (r : Option (ℕ × ℕ)) (p n : ℕ) → r ≡ Some (p, n) → Passes o u x out to e r → Passed o u x out to e p n
  unfolding Passes
  passed r p n q h = subst (λ (t : Option (ℕ × ℕ)). Passes o u x out to e t) q h

  pub passed_none : (r : Option (ℕ × ℕ)) → r ≡ None → Passes o u x out to e r → o ≡ None
  unfolding Passes
  passed_none r q h = subst (λ (t : Option (ℕ × ℕ)). Passes o u x out to e t) q h

  pub passes : (p n : ℕ) → Passed o u x out to e p n → Passes o u x out to e (Some (p, n))
  unfolding Passes
  passes p n h = h

  pub passes_none : o ≡ None → Passes o u x out to e None
  unfolding Passes
  passes_none h = h

  -- the next place is near
  pub passed_near : (p n : ℕ) → Passed o u x out to e p n → n ≤ to + (length x + 10)
  passed_near p n h = omega (arith, h.wrote.next_is, h.short, length-append x h.text)

-- ---- the type of an inner type's number

module _ (k : ℕ) where
  pub inner_other : (k ≡ 0 → ⊥) → (k ≡ 1 → ⊥) → (k ≡ 2 → ⊥) → inner_type k ≡ Text
  unfolding pick
  inner_other f g h = rw (ne_eqb k 0 f, ne_eqb k 1 g, ne_eqb k 2 h)

  pub inner_zero : k ≡ 0 → inner_type k ≡ Position
  unfolding pick
  inner_zero e = rw e

  pub inner_one : k ≡ 1 → inner_type k ≡ TimestampedPosition
  unfolding pick
  inner_one e = rw e

  pub inner_two : k ≡ 2 → inner_type k ≡ Message
  unfolding pick
  inner_two e = rw e

-- ---- reading

flat : (a s b t c v x : List ℕ) → a ++ (s ++ (b ++ (t ++ (c ++ (v ++ x))))) ≡ ((a ++ s) ++ ((b ++ t) ++ (c ++ v))) ++ x
flat a s b t c v x = simp append_assoc

module _ (mended : Bool) (l : ℕ) (b : List Bool) where
  pub inner_none : take_bits 2 b ≡ None → read_inner mended l b ≡ None
  unfolding read_inner
  inner_none e = rw e

  pub inner_some : (k : ℕ) (r : List Bool) → take_bits 2 b ≡ Some (k, r)
      → read_inner mended l b ≡ (read_body mended (inner_type k) l r >>= (λ d. Some (ascii "*:" ++ d)))
  unfolding read_inner
  inner_some k r e = rw e

  pub third_first : read_token mended l b ≡ None → read_third mended l b ≡ None
  unfolding read_third
  third_first e = rw e

  module _ (s₁ : List ℕ) (r₁ : List Bool) (e₁ : read_token mended l b ≡ Some (s₁, r₁)) where
    pub third_second : read_token mended l r₁ ≡ None → read_third mended l b ≡ None
    unfolding read_third
    third_second e = rw (e₁, e)

    module _ (s₂ : List ℕ) (r₂ : List Bool) (e₂ : read_token mended l r₁ ≡ Some (s₂, r₂)) where
      pub third_last : read_token mended l r₂ ≡ None → read_third mended l b ≡ None
      unfolding read_third
      third_last e = rw (e₁, e₂, e)

      joined : (s₃ : List ℕ) (o : Option (List ℕ))
          → (o >>= (λ d. Some (ascii "}" ++ (s₁ ++ (ascii ">" ++ (s₂ ++ (ascii ",TCPIP," ++ (s₃ ++ (ascii "*:" ++ d)))))))))
          ≡ ((o >>= (λ d. Some (ascii "*:" ++ d))) >>= (λ d. Some (((ascii "}" ++ s₁) ++ ((ascii ">" ++ s₂) ++ (ascii ",TCPIP," ++ s₃))) ++ d)))
      joined s₃ None = refl
      joined s₃ (Some d) = ap Some (flat (ascii "}") s₁ (ascii ">") s₂ (ascii ",TCPIP,") s₃ (ascii "*:" ++ d))

      inner_joined : (s₃ : List ℕ) (o : Option (ℕ × List Bool))
          → (o >>= (λ p. read_body mended (inner_type p.0) l p.1 >>= (λ d. Some (ascii "}" ++ (s₁ ++ (ascii ">" ++ (s₂ ++ (ascii ",TCPIP," ++ (s₃ ++ (ascii "*:" ++ d))))))))))
          ≡ ((o >>= (λ p. read_body mended (inner_type p.0) l p.1 >>= (λ d. Some (ascii "*:" ++ d)))) >>= (λ d. Some (((ascii "}" ++ s₁) ++ ((ascii ">" ++ s₂) ++ (ascii ",TCPIP," ++ s₃))) ++ d)))
      inner_joined s₃ None = refl
      inner_joined s₃ (Some p) = joined s₃ (read_body mended (inner_type p.0) l p.1)

      pub third_all : (s₃ : List ℕ) (r₃ : List Bool) → read_token mended l r₂ ≡ Some (s₃, r₃)
          → read_third mended l b ≡ (read_inner mended l r₃ >>= (λ d. Some (((ascii "}" ++ s₁) ++ ((ascii ">" ++ s₂) ++ (ascii ",TCPIP," ++ s₃))) ++ d)))
      unfolding read_third read_inner
      third_all s₃ r₃ e₃ = rw (e₁, e₂, e₃) (inner_joined s₃ (take_bits 2 r₃))

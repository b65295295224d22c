-- What counts after a row of events, one after the other. Assumes nothing.
use Rattle.std.proofs.Common.{◌≡◌, ℕ, true, false, cond, ◌&&◌, eqb, ltb, leb, List, [], ◌∷◌, ◌++◌, None, Option, refl, ◌∙◌, arith}
use Rattle.model.specs.Model.{Size, Event, Establishes, GoDown, Now, down, all_down, says, step, after}
use Rattle.model.specs.Rows.{then_all}
use Rattle.rib.specs.Received.{updated, stored}
use Rattle.route.specs.Route.{Route}
use Rattle.selection.specs.Intended.{Rules}
use Rattle.std.proofs.lemmas.Bool.{cond_both}
use Rattle.std.proofs.lemmas.Bool.Decides.{nat_tests as tests}

-- the earliest event first
unfoldable pub runs : Size → List Event → Now → Now
runs z [] s = s
runs z (e ∷ row) s = runs z row (step z e s)

pub after_row : (z : Size) (rules : Rules) (row es : List Event) → after z rules (then_all row es) ≡ runs z row (after z rules es)
unfolding after then_all runs
after_row z rules [] es = refl
after_row z rules (e ∷ row) es = after_row z rules row (e ∷ es)

pub runs_none : (z : Size) (s : Now) → runs z [] s ≡ s
unfolding runs
runs_none z s = refl

pub runs_one : (z : Size) (e : Event) (s : Now) → runs z (e ∷ []) s ≡ step z e s
unfolding runs
runs_one z e s = refl

pub runs_join : (z : Size) (row more : List Event) (s : Now) → runs z (row ++ more) s ≡ runs z more (runs z row s)
unfolding runs
runs_join z [] more s = refl
runs_join z (e ∷ row) more s = runs_join z row more (step z e s)

-- of all peers but i the same counts
pub record Apart (i : ℕ) (s t : Now) : Type 0 where
  pub up : (j : ℕ) → (j ≡ i → ⊥) → t.up j ≡ s.up j
  pub received : (j p : ℕ) → (j ≡ i → ⊥) → t.received j p ≡ s.received j p

pub apart_same : (i : ℕ) (s : Now) → Apart i s s
apart_same i s = record { up = λ j ne. refl; received = λ j p ne. refl }

pub apart_trans : (i : ℕ) (s t u : Now) → Apart i s t → Apart i t u → Apart i s u
apart_trans i s t u a e = record { up = λ j ne. e.up j ne ∙ a.up j ne; received = λ j p ne. e.received j p ne ∙ a.received j p ne }

module _ {A : Type 0} (i : ℕ) (x : A) where
  pub elsewhere : (j : ℕ) (y : A) → (j ≡ i → ⊥) → cond (eqb j i) x y ≡ y
  elsewhere j y ne = grind (arith, tests)

  pub right_there : (y : A) → cond (eqb i i) x y ≡ x
  right_there y = grind (arith, tests)

pub down_apart : (i : ℕ) (s : Now) → Apart i s (down i s)
down_apart i s = record { up = λ j ne. elsewhere i false j (s.up j) ne; received = λ j p ne. elsewhere i None j (s.received j p) ne }

pub says_apart : (z : Size) (i p : ℕ) (x : Option Route) (s : Now) → Apart i s (says z i p x s)
says_apart z i p x s =
    cond_both (ltb i z.peers && (ltb p z.prefixes && s.up i)) _ s (Apart i s)
    (λ _. cond_both (leb (stored z.peers z.prefixes (updated i p x s.received)) z.capacity) _ (down i s) (Apart i s) (λ _. record { up = λ j ne. refl; received = λ j q ne. unlike j q ne (s.received j q) }) (λ _. down_apart i s))
    (λ _. apart_same i s)
  where
    unlike : (j q : ℕ) → (j ≡ i → ⊥) → (y : Option Route) → cond (eqb j i && eqb q p) x y ≡ y
    unlike j q ne y = grind (arith, tests)

-- the session of peer i comes up
pub establishes_apart : (z : Size) (i : ℕ) (s : Now) → Apart i s (step z (Establishes i) s)
establishes_apart z i s = record { up = λ j ne. elsewhere i true j (s.up j) ne; received = λ j p ne. elsewhere i None j (s.received j p) ne }

-- the session of peer i alone goes down
pub goes_down : (z : Size) (i : ℕ) (s : Now) → step z (GoDown (i ∷ [])) s ≡ down i s
unfolding all_down
goes_down z i s = refl

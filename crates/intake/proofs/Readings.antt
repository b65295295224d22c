-- The laws of reading, before settings and under settings at once. Assumes nothing.
use Rattle.std.proofs.Common.{◌≡◌, ℕ, ◌≤◌, List, [], ◌∷◌, ◌++◌, length, Some, None, Option, refl, ap, arith}
use Rattle.frame.specs.Frame.{Outcome, whole, refused, more, unreadable, first, next}
use Rattle.frame.specs.Laws.{Lawful}
use Rattle.frame.specs.Settings.{Exchange}
use Rattle.frame.specs.Size.{largest}
use Rattle.frame.specs.declared.event.Refusal.{Refusal}
use Rattle.frame.proofs.Laws.{laws}
use Rattle.intake.specs.State.{Entry, in_force, event, map_outcome, reads}
use Rattle.intake.specs.Course.{and_then}

module _ {X Y : Type 0} (g : X → Y) where
  whole_from : (o : Outcome X) (y : Y) (n : ℕ) → map_outcome g o ≡ whole y n → (x : X) × (o ≡ whole x n) × (y ≡ g x)
  whole_from (whole x m) y n e = (x, cc, cc)
  whole_from (refused r m) y n e = let z : ◌≡◌ {A = ℕ} 0 1 = cc in absurd (omega arith)
  whole_from more y n e = let z : ◌≡◌ {A = ℕ} 0 1 = cc in absurd (omega arith)
  whole_from (unreadable d) y n e = let z : ◌≡◌ {A = ℕ} 0 1 = cc in absurd (omega arith)

  refused_from : (o : Outcome X) (r : Refusal) (n : ℕ) → map_outcome g o ≡ refused r n → o ≡ refused r n
  refused_from (whole x m) r n e = let z : ◌≡◌ {A = ℕ} 0 1 = cc in absurd (omega arith)
  refused_from (refused s m) r n e = cc
  refused_from more r n e = let z : ◌≡◌ {A = ℕ} 0 1 = cc in absurd (omega arith)
  refused_from (unreadable d) r n e = let z : ◌≡◌ {A = ℕ} 0 1 = cc in absurd (omega arith)

  more_from : (o : Outcome X) → map_outcome g o ≡ more → o ≡ more
  more_from (whole x m) e = let z : ◌≡◌ {A = ℕ} 0 1 = cc in absurd (omega arith)
  more_from (refused s m) e = let z : ◌≡◌ {A = ℕ} 0 1 = cc in absurd (omega arith)
  more_from more e = refl
  more_from (unreadable d) e = let z : ◌≡◌ {A = ℕ} 0 1 = cc in absurd (omega arith)

pub record Ways (s : Option Exchange) : Type 0 where
  pub none : reads s [] ≡ more
  pub settled : (xs ys : List ℕ) → (reads s xs ≡ more → ⊥) → reads s (xs ++ ys) ≡ reads s xs
  pub within : (xs : List ℕ) (e : Entry) (n : ℕ) → reads s xs ≡ whole e n → (1 ≤ n) × (n ≤ length xs)
  -- what is taken is not the end
  pub goes_on : (xs : List ℕ) (e : Entry) (n : ℕ) (es : List Entry) → reads s xs ≡ whole e n → and_then (Some e) es ≡ e ∷ es
  pub onward : (xs : List ℕ) (r : Refusal) (n : ℕ) → reads s xs ≡ refused r n → 1 ≤ n
  pub bounded : (xs : List ℕ) → largest ≤ length xs → reads s xs ≡ more → ⊥

module _ {X : Type 0} (g : X → Entry) (reading : List ℕ → Outcome X) (l : Lawful reading) where
  settled_by : (xs ys : List ℕ) → (map_outcome g (reading xs) ≡ more → ⊥) → map_outcome g (reading (xs ++ ys)) ≡ map_outcome g (reading xs)
  settled_by xs ys decided = ap (map_outcome g) (l.settled xs ys (λ e. decided (ap (map_outcome g) e)))

  within_by : (xs : List ℕ) (e : Entry) (n : ℕ) → map_outcome g (reading xs) ≡ whole e n → (1 ≤ n) × (n ≤ length xs)
  within_by xs e n q = let o = whole_from g (reading xs) e n q in l.within xs o.0 n o.1

  onward_by : (xs : List ℕ) (r : Refusal) (n : ℕ) → map_outcome g (reading xs) ≡ refused r n → 1 ≤ n
  onward_by xs r n q = l.onward xs r n (refused_from g (reading xs) r n q)

  bounded_by : (xs : List ℕ) → largest ≤ length xs → map_outcome g (reading xs) ≡ more → ⊥
  bounded_by xs h q = l.bounded xs h (more_from g (reading xs) q)

pub ways : (s : Option Exchange) → Ways s
ways None = record {
  none = refl;
  settled = settled_by in_force first laws.0;
  within = within_by in_force first laws.0;
  goes_on = λ xs e n es q. let o = whole_from in_force (first xs) e n q in rw o.2;
  onward = onward_by in_force first laws.0;
  bounded = bounded_by in_force first laws.0;
}
ways (Some x) = record {
  none = refl;
  settled = settled_by event (next x) (laws.1 x);
  within = within_by event (next x) (laws.1 x);
  goes_on = λ xs e n es q. let o = whole_from event (next x xs) e n q in rw o.2;
  onward = onward_by event (next x) (laws.1 x);
  bounded = bounded_by event (next x) (laws.1 x);
}

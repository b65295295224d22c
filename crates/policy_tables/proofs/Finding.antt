-- Finding a policy, and its clauses with their lists. Assumes nothing.
use Rattle.std.proofs.Common.{◌≡◌, ℕ, zero, suc, ◌+◌, ◌≤◌, true, List, [], ◌∷◌, map, get_or, Some, None, Option, unwrap_or, sym, refl, ap, ◌∙◌, arith}
use Rattle.std.proofs.lemmas.Grind.{common_steps}
use Rattle.policy.specs.Meant.{action_of, clause_of, list_at, part_of, parts_of, prefixes_of, test_of}
use Rattle.policy.specs.Policy.{Part as MeantPart}
use Rattle.policy.specs.declared.Clause.{Clause}
use Rattle.policy.specs.declared.Part.{Part}
use Rattle.policy.specs.declared.PrefixList.{PrefixList}
use Rattle.policy.specs.declared.Test.{Test}
use Rattle.policy.specs.declared.Test.TheVariants.{Any, PrefixIn, PrefixWithin, Passes, HasCommunity, LongerThan}
use Rattle.policy.specs.Policy as meant
use Rattle.policy_clauses.specs.Meant.{written_of}
use Rattle.policy_clauses.specs.Reading.{Written}
use Rattle.prefix.specs.Prefix.{Prefix}
use Rattle.policy_tables.proofs.Filling.{at_place, both, leb_is}
use Rattle.policy_tables.specs.declared.Span.{Span}
use Rattle.policy_tables.specs.Slots.{all_fit, fits}
use Rattle.policy_tables.specs.Texts.{clause_meant, clauses_meant, part_meant, test_meant}

-- a span is within the pool
pub within : (n : ℕ) (spans : List (Option Span)) (i : ℕ) (s : Span) → all_fit n spans ≡ true → get_or spans i None ≡ Some s → s.start + s.count ≤ n
within n [] i s h e = let z : ◌≡◌ {A = ℕ} 0 1 = cc in absurd (omega arith)
within n (x ∷ xs) zero s h e = let p = both (fits n x) (all_fit n xs) h in leb_is _ _ (sym (ap (fits n) e) ∙ p.0)
within n (x ∷ xs) (suc i) s h e = let p = both (fits n x) (all_fit n xs) h in within n xs i s p.1 e

list_at_lem : (ls : List PrefixList) (i : ℕ) → list_at ls i ≡ get_or (map prefixes_of ls) i []
list_at_lem [] i = refl
list_at_lem (l ∷ ls) zero = refl
list_at_lem (l ∷ ls) (suc i) = list_at_lem ls i

test : (ls : List PrefixList) (t : Test) → test_of ls t ≡ test_meant (map prefixes_of ls) t
test ls Any = refl
test ls (PrefixIn i) = ap meant.PrefixIn (list_at_lem ls i)
test ls (PrefixWithin i) = ap meant.PrefixWithin (list_at_lem ls i)
test ls (Passes n) = refl
test ls (HasCommunity n) = refl
test ls (LongerThan n) = refl

part : (ls : List PrefixList) (p : Part) → part_of ls p ≡ part_meant (map prefixes_of ls) p
part ls p = λ i. record { negated = p.negated; test = test ls p.test i }

parts : (ls : List PrefixList) (ps : List Part) → map (part_of ls) ps ≡ map (part_meant (map prefixes_of ls)) ps
parts ls [] = refl
parts ls (p ∷ ps) = λ i. part ls p i ∷ parts ls ps i

clause : (ls : List PrefixList) (c : Clause) → clause_of ls c ≡ clause_meant (map prefixes_of ls) (written_of c)
clause ls c = λ i. record { condition = parts ls (parts_of c.condition) i; action = action_of c.action }

-- clauses with the code's lists are clauses with what these stand for
pub clauses : (ls : List PrefixList) (cs : List Clause) → map (clause_of ls) cs ≡ map (clause_meant (map prefixes_of ls)) (map written_of cs)
clauses ls [] = refl
clauses ls (c ∷ cs) = λ i. clause ls c i ∷ clauses ls cs i

pub meant_clauses : (ls : List (List Prefix)) (o : Option (List Written)) → clauses_meant ls o ≡ map (clause_meant ls) (unwrap_or o [])
meant_clauses ls None = refl
meant_clauses ls (Some cs) = refl

pub ruleset placing = (within, at_place, common_steps)

pub ruleset meaning_of = (clauses, meant_clauses, common_steps)

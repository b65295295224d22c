-- One step of going through clauses, and tests of what rows stand for. Assumes nothing.
use Rattle.std.proofs.Common.{◌≡◌, ℕ, ◌+◌, ◌<◌, ◌≤◌, List, ◌∷◌, length, get_or, map, drop, sym, refl, ap, ◌∙◌}
use Rattle.std.proofs.lemmas.List.{drop_all, drop_more}
use Rattle.policy.specs.declared.Clause as stored_clause
use Rattle.policy.specs.declared.PrefixList.{PrefixList}
use Rattle.policy.specs.Meant.{clause_of}
use Rattle.policy.specs.Policy.{GoesOn, and_then, clause_step, through}
use Rattle.route.specs.Route.{Route}
use Rattle.std.specs.List.{list_any}
use Rattle.std.proofs.Common.{Bool, ◌||◌, []}

pub through_more : (ls : List PrefixList) (cs : List stored_clause.Clause) (i : ℕ) (c : stored_clause.Clause) (r : Route) → i < length cs → c ≡ get_or cs i c → through (map (clause_of ls) (drop i cs)) r ≡ and_then (clause_step (clause_of ls c) r) (λ q. through (map (clause_of ls) (drop (i + 1) cs)) q)
unfolding through
through_more ls cs i c r h e =
    ap (λ l. through (map (clause_of ls) l) r) (drop_more cs i c h) ∙ ap (λ x. and_then (clause_step (clause_of ls x) r) (λ q. through (map (clause_of ls) (drop (i + 1) cs)) q)) (sym e)

pub through_end : (ls : List PrefixList) (cs : List stored_clause.Clause) (i : ℕ) (r : Route) → length cs ≤ i → through (map (clause_of ls) (drop i cs)) r ≡ GoesOn r
unfolding through
through_end ls cs i r h = ap (λ l. through (map (clause_of ls) l) r) (drop_all i cs h)

pub any_of_map : {X Y : Type 0} (p : Y → Bool) (h : X → Y) (xs : List X) → list_any p (map h xs) ≡ list_any (λ x. p (h x)) xs
any_of_map p h [] = refl
any_of_map p h (x ∷ xs) = ap (λ b. p (h x) || b) (any_of_map p h xs)

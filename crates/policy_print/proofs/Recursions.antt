-- The steps of the recursions. Assumes nothing.
use Rattle.std.proofs.Common.{◌≡◌, ℕ, ◌+◌, ◌<◌, List, [], ◌∷◌, ◌++◌, length, get_or, drop, codes, None, refl, ap, add-one}
use Rattle.std.proofs.lemmas.Grind.{common_steps}
use Rattle.std.proofs.lemmas.List.{drop_more}
use Rattle.policy.specs.declared.Part.{Part}
use Rattle.policy_tables.specs.Texts.{Content, place_of}
use Rattle.policy_tables.specs.declared.Direction.{Direction}
use Rattle.prefix.specs.Prefix.{Prefix}
use Rattle.policy_print.specs.Printed.{list_text, lists_text, part_text, parts_text, policies_text, policy_text, prefix_text, prefixes_text}

pub prefixes_none : (before : List ℕ) → prefixes_text before [] ≡ []
unfolding prefixes_text
prefixes_none before = refl

pub prefixes_more : (before : List ℕ) (p : Prefix) (ps : List Prefix) → prefixes_text before (p ∷ ps) ≡ before ++ (prefix_text p ++ prefixes_text (codes ", ") ps)
unfolding prefixes_text
prefixes_more before p ps = refl

pub lists_none : (i : ℕ) → lists_text i [] ≡ []
unfolding lists_text
lists_none i = refl

pub lists_more : (i : ℕ) (l : List Prefix) (ls : List (List Prefix)) → lists_text i (l ∷ ls) ≡ list_text i l ++ lists_text (i + 1) ls
unfolding lists_text
lists_more i l ls = refl

pub parts_none : (before : List ℕ) → parts_text before [] ≡ []
unfolding parts_text
parts_none before = refl

pub parts_more : (before : List ℕ) (p : Part) (ps : List Part) → parts_text before (p ∷ ps) ≡ before ++ (part_text p ++ parts_text (codes " and ") ps)
unfolding parts_text
parts_more before p ps = refl

pub policies_none : (direction : Direction) (c : Content) → policies_text direction 0 c ≡ []
unfolding policies_text
policies_none direction c = refl

pub policies_more : (direction : Direction) (n : ℕ) (c : Content) → policies_text direction (n + 1) c ≡ policies_text direction n c ++ policy_text direction n (get_or c.policies (place_of direction n) None)
unfolding policies_text
policies_more direction n c = ap (λ k. policies_text direction k c) (add-one n)

-- what is left of a row, one step on
pub read_at : {X : Type 0} (xs : List X) (i : ℕ) (d : X) → i < length xs → (get_or xs i d ≡ get_or xs i d) × (drop i xs ≡ get_or xs i d ∷ drop (i + 1) xs)
read_at xs i d h = (refl, drop_more xs i d h)

pub ruleset putting = (read_at, prefixes_more, prefixes_none, parts_more, parts_none, lists_more, lists_none, policies_more, policies_none, common_steps)

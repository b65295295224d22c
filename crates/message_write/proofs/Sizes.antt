-- The bytes of prefixes and attributes, and how many there are. Assumes nothing.
use Rattle.std.proofs.Common.{◌≡◌, ℕ, ◌+◌, ◌*◌, ◌/◌, ◌<◌, ◌≤◌, true, List, [], ◌∷◌, ◌++◌, length, take, refl, ap, ◌∙◌, arith, length-append}
use Rattle.message_write.proofs.Puts.{numbers_long}
use Rattle.message_write.specs.Written.{number_bytes, numbers_bytes, prefix_bytes, path_bytes, communities_bytes, attributes_bytes}
use Rattle.prefix.specs.Prefix.{Prefix, is_prefix}
use Rattle.route.specs.Route.{Route}
use Rattle.std.proofs.lemmas.List.{length-take-le}
use Rattle.std.proofs.lemmas.Bool.{cond-true, cond-false, eq-eqb, ne_eqb}
use Rattle.std.proofs.lemmas.Bool.Decides.{nat_tests}
use Rattle.wire.specs.Bytes.{bytes32}

pub short : (p : Prefix) → is_prefix p.address p.length ≡ true → p.length ≤ 24
short p h = grind (arith, nat_tests)

pub size : (p : Prefix) → is_prefix p.address p.length ≡ true → length (prefix_bytes p) ≡ 1 + (p.length + 7) / 8
unfolding prefix_bytes
size p h =
    let few = short p h in
    let fits : (p.length + 7) / 8 ≤ 4 = omega arith in
    omega (arith, length-take-le ((p.length + 7) / 8) (bytes32 p.address) fits)

-- the bytes of a prefix
pub record PrefixSteps : Type 0 where
  pub prefix : (p : Prefix) → prefix_bytes p ≡ (p.length ∷ []) ++ take ((p.length + 7) / 8) (bytes32 p.address)
  pub long : (p : Prefix) → length (prefix_bytes p) ≡ 1 + length (take ((p.length + 7) / 8) (bytes32 p.address))
  pub size : (p : Prefix) → is_prefix p.address p.length ≡ true → length (prefix_bytes p) ≡ 1 + (p.length + 7) / 8
  pub short : (p : Prefix) → is_prefix p.address p.length ≡ true → p.length ≤ 24

pub prefix_steps : PrefixSteps
unfolding prefix_bytes
prefix_steps = record { prefix = λ p. refl; long = λ p. omega arith; size = size; short = short }

-- the bytes of attributes
pub record AttributeSteps : Type 0 where
  pub path : (asns : List ℕ) → path_bytes asns ≡ (64 ∷ 2 ∷ (2 + 4 * length asns) ∷ 2 ∷ length asns ∷ []) ++ numbers_bytes asns
  pub no_communities : (cs : List ℕ) → length cs ≡ 0 → communities_bytes cs ≡ []
  pub communities : (cs : List ℕ) → 0 < length cs → communities_bytes cs ≡ (192 ∷ 8 ∷ (4 * length cs) ∷ []) ++ numbers_bytes cs

pub attribute_steps : AttributeSteps
unfolding path_bytes communities_bytes
attribute_steps = record {
  path = λ asns. refl;
  no_communities = λ cs h. cond-true _ _ _ (eq-eqb (length cs) 0 h);
  communities = λ cs h. cond-false _ _ _ (ne_eqb (length cs) 0 (λ e. omega arith));
}

pub path_size : (asns : List ℕ) → length (path_bytes asns) ≡ 5 + 4 * length asns
unfolding path_bytes
path_size asns = omega (arith, numbers_long asns)

pub communities_size : (cs : List ℕ) → 0 < length cs → length (communities_bytes cs) ≡ 3 + 4 * length cs
communities_size cs h = ap length (attribute_steps.communities cs h) ∙ omega (arith, numbers_long cs)

pub attributes_size : (r : Route) (hop : ℕ) → length (attributes_bytes r hop) ≡ 23 + 4 * length r.path + length (communities_bytes r.communities)
unfolding attributes_bytes
attributes_size r hop = omega (arith, path_size r.path, length-append (path_bytes r.path) (number_bytes 64 3 hop ++ (number_bytes 128 4 r.med ++ communities_bytes r.communities)))

-- how long the attributes are
pub record SizeSteps : Type 0 where
  pub path : (asns : List ℕ) → length (path_bytes asns) ≡ 5 + 4 * length asns
  pub no_communities : (cs : List ℕ) → length cs ≡ 0 → length (communities_bytes cs) ≡ 0
  pub communities : (cs : List ℕ) → 0 < length cs → length (communities_bytes cs) ≡ 3 + 4 * length cs
  pub attributes : (r : Route) (hop : ℕ) → length (attributes_bytes r hop) ≡ 23 + 4 * length r.path + length (communities_bytes r.communities)

pub size_steps : SizeSteps
size_steps = record {
  path = path_size;
  no_communities = λ cs h. ap length (attribute_steps.no_communities cs h);
  communities = communities_size;
  attributes = attributes_size;
}

pub no_communities_size : (cs : List ℕ) → length cs ≡ 0 → length (communities_bytes cs) ≡ 0
no_communities_size cs h = size_steps.no_communities cs h

pub ruleset prefix_lengths = (size, short)

pub ruleset attribute_lengths = (path_size, no_communities_size, communities_size, attributes_size)

pub attributes_parts : (r : Route) (hop : ℕ) → attributes_bytes r hop ≡ (64 ∷ 1 ∷ 1 ∷ 0 ∷ []) ++ (path_bytes r.path ++ (number_bytes 64 3 hop ++ (number_bytes 128 4 r.med ++ communities_bytes r.communities)))
unfolding attributes_bytes
attributes_parts r hop = refl

-- What an UPDATE says, and what can be wrong with it. Assumes nothing.
use Rattle.std.specs.Prelude.{ℕ, Bool, false, cond, not, ◌&&◌, ◌||◌, List, [], ◌∷◌, map, length, ◌==◌, nat_lt}
use Rattle.attributes.specs.AsPath.{Reading, got, fault, segment_size, path_in, is_path}
use Rattle.attributes.specs.Layout.{attribute_size, type_of, value_of, has_form}
use Rattle.attributes.specs.Meaning.{Peer, no_fault}
use Rattle.route.specs.Numbers.{is_in, sorted}
use Rattle.update.specs.Sections.{sections_end, withdrawn_in, attributes_in, announced_in}
use Rattle.wire.specs.Bytes.{numbers, u32_of}
use Rattle.wire.specs.Nlri.{prefix_size, has_no_prefix}
use Rattle.wire.specs.Pieces.{pieces, overruns, some}

abbrev pub attributes_of : List ℕ → List (List ℕ)
attributes_of m = pieces attribute_size (attributes_in m)

abbrev pub types_of : List (List ℕ) → List ℕ
types_of attributes = map type_of attributes

abbrev pub announces : List ℕ → Bool
announces m = nat_lt 0 (length (announced_in m))

-- fault 4: parts that run over the message, prefixes or attributes that run over their part
abbrev pub runs_over : List ℕ → Bool
runs_over m = nat_lt (length m) (sections_end m) || (overruns prefix_size (withdrawn_in m) || (overruns attribute_size (attributes_in m) || overruns prefix_size (announced_in m)))

-- some number stands twice
unfoldable pub repeats : List ℕ → Bool
repeats [] = false
repeats (t ∷ ts) = is_in t ts || repeats ts

-- wrong flags, a wrong length, or a path with a segment that runs over it
abbrev pub is_malformed : List ℕ → Bool
is_malformed a = not (has_form a) || (type_of a == 2 && overruns segment_size (value_of a))

-- fault 5: an attribute that is malformed, or stands twice
abbrev pub has_malformed : List (List ℕ) → Bool
has_malformed attributes = repeats (types_of attributes) || some is_malformed attributes

-- what is no path of the peer's, or more than 8 communities
abbrev pub is_invalid : Peer → List ℕ → Bool
is_invalid peer a = (type_of a == 2 && not (is_path peer.asn (value_of a))) || (type_of a == 8 && nat_lt 8 (length (numbers (value_of a))))

-- fault 6: such an attribute, or among the prefixes what is none
abbrev pub has_invalid : Peer → List ℕ → Bool
has_invalid peer m = (has_no_prefix (withdrawn_in m) || has_no_prefix (announced_in m)) || some (is_invalid peer) (attributes_of m)

-- fault 7: a next hop that is not the peer's address
abbrev pub is_foreign : Peer → List ℕ → Bool
is_foreign peer a = type_of a == 3 && not (u32_of (value_of a) == peer.address)

-- fault 8: prefixes are announced, and there is no path or no next hop
abbrev pub lacks_attribute : List ℕ → Bool
lacks_attribute m = announces m && not (is_in 2 (types_of (attributes_of m)) && is_in 3 (types_of (attributes_of m)))

-- the lowest of the faults 5 to 8 that the message has
unfoldable pub update_fault : Peer → List ℕ → ℕ
update_fault peer m = cond (has_malformed (attributes_of m)) 5 (cond (has_invalid peer m) 6 (cond (some (is_foreign peer) (attributes_of m)) 7 (cond (lacks_attribute m) 8 no_fault)))

-- the value of the first attribute of a type; one that is not there has no bytes
unfoldable pub value_at : ℕ → List (List ℕ) → List ℕ
value_at t [] = []
value_at t (a ∷ rest) = cond (type_of a == t) (value_of a) (value_at t rest)

-- what the announced prefixes have in common
pub record Attributes : Type 0 where
  pub path : List ℕ
  pub med : ℕ
  pub communities : List ℕ

-- a MED that is not there is 0; communities are sorted, each once
abbrev pub attributes_said : List (List ℕ) → Attributes
attributes_said attributes = record { path = path_in (value_at 2 attributes); med = u32_of (value_at 4 attributes); communities = sorted (numbers (value_at 8 attributes)) }

-- what is said of the prefixes of an UPDATE. Faulty: there is no route for any, and the number of the fault
pub data Content : Type 0 where
  Announces : Attributes → Content
  Withdraws : Content
  Faulty : ℕ → Content

unfoldable pub content_of : Peer → List ℕ → Content
content_of peer m = cond (nat_lt (update_fault peer m) no_fault) (Faulty (update_fault peer m)) (cond (announces m) (Announces (attributes_said (attributes_of m))) Withdraws)

unfoldable pub read_update : Peer → List ℕ → Reading Content
read_update peer m = cond (runs_over m) (fault 4) (got (content_of peer m))

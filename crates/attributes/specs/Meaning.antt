-- What the attributes of an UPDATE say. Assumes nothing.
use Rattle.std.specs.Prelude.{ℕ, cond, List, length, ◌==◌, nat_le, nat_lt}
use Rattle.attributes.specs.AsPath.{Reading, got, fault, read_path}
use Rattle.attributes.specs.Layout.{type_of, value_of, kind_of, has_form}
use Rattle.attributes.specs.declared.Kind.{Kind}
use Rattle.attributes.specs.declared.Kind.TheVariants as a_kind
use Rattle.route.specs.Numbers.{sorted}
use Rattle.wire.specs.Bytes.{numbers, u32_of}

-- who is at the other end of a session
pub record Peer : Type 0 where
  pub asn : ℕ
  pub address : ℕ

-- what is used of an attribute
pub data Value : Type 0 where
  Path : List ℕ → Value
  NextHop : Value
  Med : ℕ → Value
  Communities : List ℕ → Value
  Unused : Value

abbrev pub as_path : Reading (List ℕ) → Reading Value
as_path (got p) = got (Path p)
as_path (fault k) = fault k

-- the value of an attribute of the right form. A next hop is the peer's address, else fault 7; more than 8 communities are fault 6, others are sorted, each once
abbrev pub read_value : Peer → Kind → List ℕ → Reading Value
read_value peer a_kind.Origin value = got Unused
read_value peer a_kind.AsPath value = as_path (read_path peer.asn value)
read_value peer a_kind.NextHop value = cond (u32_of value == peer.address) (got NextHop) (fault 7)
read_value peer a_kind.Med value = got (Med (u32_of value))
read_value peer a_kind.LocalPref value = got Unused
read_value peer a_kind.Communities value = cond (nat_le (length (numbers value)) 8) (got (Communities (sorted (numbers value)))) (fault 6)
read_value peer a_kind.Other value = got Unused

-- an attribute by itself; wrong flags and a wrong length are fault 5
unfoldable pub read_attribute : Peer → List ℕ → Reading Value
read_attribute peer attribute = cond (has_form attribute) (read_value peer (kind_of (type_of attribute)) (value_of attribute)) (fault 5)

-- a number above those of all faults of a message
abbrev pub no_fault : ℕ
no_fault = 255

abbrev pub lower : ℕ → ℕ → ℕ
lower a b = cond (nat_lt b a) b a

-- Reading attributes one by one. Assumes nothing.
use Rattle.std.specs.Prelude.{ℕ, Bool, true, false, cond, ◌||◌, List, [], Some, None, Option, ◌==◌, nat_lt, slice_index_or}
use Rattle.attributes.specs.AsPath.{Reading, got, fault}
use Rattle.attributes.specs.Layout.{attribute_size, type_of}
use Rattle.attributes.specs.Meaning.{Peer, Value, Path, NextHop, Med, Communities, Unused, read_attribute, lower, no_fault}
use Rattle.std.specs.List.{fold}
use Rattle.update.specs.Update.{Content, Announces, Withdraws, Faulty}
use Rattle.wire.specs.Pieces.{pieces, overruns}
use Rattle.wire.specs.declared.nlri.Check.{Check}
use Rattle.wire.specs.declared.nlri.Check.TheVariants.{Overrun, SomeInvalid, Valid}

-- the types that are noted in a row with a place for each
unfoldable pub types_in : List Bool → ℕ → Bool
types_in row = λ t. slice_index_or row t false

unfoldable pub no_types : ℕ → Bool
no_types = λ t. false

-- one more type
unfoldable pub with_type : ℕ → (ℕ → Bool) → ℕ → Bool
with_type t types = λ u. (t == u) || types u

-- what the attributes so far say: their types, the lowest of their faults, and their values
pub record Found : Type 0 where
  pub types : ℕ → Bool
  pub fault : ℕ
  pub path : Option (List ℕ)
  pub next_hop : Bool
  pub med : ℕ
  pub communities : List ℕ

abbrev pub noted : ℕ → Found → Found
noted t f = record { types = with_type t f.types; fault = f.fault; path = f.path; next_hop = f.next_hop; med = f.med; communities = f.communities }

abbrev pub take_value : Value → Found → Found
take_value (Path p) f = record { types = f.types; fault = f.fault; path = Some p; next_hop = f.next_hop; med = f.med; communities = f.communities }
take_value NextHop f = record { types = f.types; fault = f.fault; path = f.path; next_hop = true; med = f.med; communities = f.communities }
take_value (Med n) f = record { types = f.types; fault = f.fault; path = f.path; next_hop = f.next_hop; med = n; communities = f.communities }
take_value (Communities c) f = record { types = f.types; fault = f.fault; path = f.path; next_hop = f.next_hop; med = f.med; communities = c }
take_value Unused f = f

abbrev pub take_reading : Reading Value → Found → Found
take_reading (got v) f = take_value v f
take_reading (fault k) f = record { types = f.types; fault = lower f.fault k; path = f.path; next_hop = f.next_hop; med = f.med; communities = f.communities }

-- an attribute whose type was there before is fault 5
abbrev pub read_once : Bool → Peer → List ℕ → Reading Value
read_once again peer a = cond again (fault 5) (read_attribute peer a)

-- with one more attribute
unfoldable pub add : Peer → Found → List ℕ → Found
add peer f a = take_reading (read_once (f.types (type_of a)) peer a) (noted (type_of a) f)

unfoldable pub add_all : Peer → Found → List (List ℕ) → Found
add_all peer f attributes = fold (add peer) f attributes

abbrev pub nothing_found : Found
nothing_found = record { types = no_types; fault = no_fault; path = None; next_hop = false; med = 0; communities = [] }

-- the attributes of a row; one that runs over it is fault 4
unfoldable pub find_all : Peer → Found → List ℕ → Reading Found
find_all peer f bs = cond (overruns attribute_size bs) (fault 4) (got (add_all peer f (pieces attribute_size bs)))

-- whether some of the prefixes is none; nothing where they run over
abbrev pub both_checked : Check → Check → Option Bool
both_checked Overrun Overrun = None
both_checked Overrun SomeInvalid = None
both_checked Overrun Valid = None
both_checked SomeInvalid Overrun = None
both_checked SomeInvalid SomeInvalid = Some true
both_checked SomeInvalid Valid = Some true
both_checked Valid Overrun = None
both_checked Valid SomeInvalid = Some true
both_checked Valid Valid = Some false

abbrev pub announced : Found → Option (List ℕ) → Content
announced f None = Faulty 8
announced f (Some p) = cond f.next_hop (Announces (record { path = p; med = f.med; communities = f.communities })) (Faulty 8)

-- what is said of the prefixes, from what was found among the attributes; 6 where something is no prefix
abbrev pub judged : ℕ → Found → Bool → Content
judged k f announces = cond (nat_lt k no_fault) (Faulty k) (cond announces (announced f f.path) Withdraws)

abbrev pub content_from : Found → Bool → Bool → Content
content_from f invalid announces = judged (cond invalid (lower f.fault 6) f.fault) f announces

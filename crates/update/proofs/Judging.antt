-- What is found among attributes read one by one is what the message says. Assumes nothing.
use Rattle.std.proofs.Common.{◌≡◌, ℕ, ◌<◌, ◌≤◌, Bool, true, false, cond, not, ◌&&◌, ◌||◌, eqb, ltb, leb, List, [], ◌∷◌, length, get_or, Some, None, Option, Ok, Err, Result, ok_or, sym, refl, ap, ◌∙◌, arith}
use Rattle.attributes.specs.AsPath.{Reading, got, fault, segment_size, path_in, is_path, read_path}
use Rattle.attributes.specs.Layout.{attribute_size, type_of, value_of, kind_of, has_flags, has_length, has_form}
use Rattle.attributes.specs.Meaning.{NextHop as a_hop_value, Communities as a-row-value, Med as a-med, Unused as unused, Path as a-way}
use Rattle.attributes.specs.Meaning.{Peer, Value, as_path, read_value, read_attribute, lower, no_fault}
use Rattle.attributes.specs.declared.Kind.{Kind}
use Rattle.attributes.specs.declared.Kind.TheVariants.{Origin, AsPath, NextHop, Med, LocalPref, Communities, Other}
use Rattle.fault.specs.Fault.{code}
use Rattle.fault.specs.declared.Fault.{Fault}
use Rattle.fault.specs.declared.Fault.TheVariants as a_fault
use Rattle.route.specs.Numbers.{is_in, sorted}
use Rattle.std.proofs.lemmas.Bool.{eqb-true}
use Rattle.std.proofs.lemmas.Bool.Decides.{nat_tests}
use Rattle.update.specs.Finding.{Found, no_types, with_type, noted, take_reading, add, add_all, find_all, nothing_found, both_checked, announced, judged, content_from}
use Rattle.update.specs.Sections.{sections_end, withdrawn_in, attributes_in, announced_in}
use Rattle.update.specs.Update.{Content, Announces, Withdraws, Faulty, attributes_of, types_of, announces, repeats, is_malformed, has_malformed, is_invalid, is_foreign, update_fault, value_at, content_of, read_update}
use Rattle.wire.specs.Bytes.{numbers, u32_of}
use Rattle.wire.specs.Nlri.{prefix_size, has_no_prefix, checked, checked_after}
use Rattle.wire.specs.Pieces.{overruns, some}
use Rattle.wire.specs.declared.nlri.Check.TheVariants.{Overrun, SomeInvalid, Valid}

-- the lowest of the faults 5, 6 and 7 that are there
abbrev least : Bool → Bool → Bool → ℕ
least p q r = cond p 5 (cond q 6 (cond r 7 no_fault))

abbrev fault_of : Reading Value → ℕ
fault_of (got v) = no_fault
fault_of (fault k) = k

abbrev is_as_path : Kind → Bool
is_as_path Origin = false
is_as_path AsPath = true
is_as_path NextHop = false
is_as_path Med = false
is_as_path LocalPref = false
is_as_path Communities = false
is_as_path Other = false

abbrev is_next_hop : Kind → Bool
is_next_hop Origin = false
is_next_hop AsPath = false
is_next_hop NextHop = true
is_next_hop Med = false
is_next_hop LocalPref = false
is_next_hop Communities = false
is_next_hop Other = false

abbrev is_med : Kind → Bool
is_med Origin = false
is_med AsPath = false
is_med NextHop = false
is_med Med = true
is_med LocalPref = false
is_med Communities = false
is_med Other = false

abbrev is_communities : Kind → Bool
is_communities Origin = false
is_communities AsPath = false
is_communities NextHop = false
is_communities Med = false
is_communities LocalPref = false
is_communities Communities = true
is_communities Other = false

-- a test of the kind of a type is a test of the number
test_at : (P : Kind → Bool) (t : ℕ) → P (kind_of t) ≡ cond (eqb t 1) (P Origin) (cond (eqb t 2) (P AsPath) (cond (eqb t 3) (P NextHop) (cond (eqb t 4) (P Med) (cond (eqb t 5) (P LocalPref) (cond (eqb t 8) (P Communities) (P Other))))))
test_at P t =
    let one : (b : Bool) (x y : Kind) → P (cond b x y) ≡ cond b (P x) (P y) = λ b x y. elim b as (λ v. P (cond v x y) ≡ cond v (P x) (P y)) [ true ↦ refl | false ↦ refl ] in
    one (eqb t 1) _ _ ∙ ap (cond (eqb t 1) (P Origin)) (one (eqb t 2) _ _ ∙ ap (cond (eqb t 2) (P AsPath)) (one (eqb t 3) _ _ ∙ ap (cond (eqb t 3) (P NextHop)) (one (eqb t 4) _ _ ∙ ap (cond (eqb t 4) (P Med)) (one (eqb t 5) _ _ ∙ ap (cond (eqb t 5) (P LocalPref)) (one (eqb t 8) _ _)))))

path_type : (t : ℕ) → is_as_path (kind_of t) ≡ eqb t 2
path_type t = test_at is_as_path t ∙ grind (arith, nat_tests)

hop_type : (t : ℕ) → is_next_hop (kind_of t) ≡ eqb t 3
hop_type t = test_at is_next_hop t ∙ grind (arith, nat_tests)

med_type : (t : ℕ) → is_med (kind_of t) ≡ eqb t 4
med_type t = test_at is_med t ∙ grind (arith, nat_tests)

communities_type : (t : ℕ) → is_communities (kind_of t) ≡ eqb t 8
communities_type t = test_at is_communities t ∙ grind (arith, nat_tests)

-- an attribute's own fault, at each kind
abbrev own_fault : Peer → Kind → ℕ → List ℕ → Type 0
own_fault peer k flags v = fault_of (cond (has_flags k flags && has_length k (length v)) (read_value peer k v) (fault 5)) ≡ least (not (has_flags k flags && has_length k (length v)) || (is_as_path k && overruns segment_size v)) ((is_as_path k && not (is_path peer.asn v)) || (is_communities k && ltb 8 (length (numbers v)))) (is_next_hop k && not (eqb (u32_of v) peer.address))

plain : (b : Bool) (v : Value) → fault_of (cond b (got v) (fault 5)) ≡ least (not b || false) (false || false) false
plain true v = refl
plain false v = refl

a_path : (b over path : Bool) (p : List ℕ) (r : Reading (List ℕ)) → r ≡ cond over (fault 5) (cond path (got p) (fault 6)) → fault_of (cond (b && true) (as_path r) (fault 5)) ≡ least (not (b && true) || (true && over)) ((true && not path) || false) false
a_path false over path p r e = refl
a_path true true path p r e = ap (λ x. fault_of (as_path x)) e
a_path true false true p r e = ap (λ x. fault_of (as_path x)) e
a_path true false false p r e = ap (λ x. fault_of (as_path x)) e

a_hop : (b here : Bool) (v : Value) → fault_of (cond b (cond here (got v) (fault 7)) (fault 5)) ≡ least (not b || false) (false || false) (true && not here)
a_hop false here v = refl
a_hop true true v = refl
a_hop true false v = refl

a_row : (b : Bool) (n : ℕ) (v : Value) → fault_of (cond b (cond (leb n 8) (got v) (fault 6)) (fault 5)) ≡ least (not b || false) (false || (true && ltb 8 n)) false
a_row true n v = grind (arith, nat_tests)
a_row false n v = refl

own_fault_lem : (peer : Peer) (k : Kind) (flags : ℕ) (v : List ℕ) → own_fault peer k flags v
unfolding read_path
own_fault_lem peer Origin flags v = plain (has_flags Origin flags && has_length Origin (length v)) unused
own_fault_lem peer AsPath flags v = a_path (has_flags AsPath flags) (overruns segment_size v) (is_path peer.asn v) (path_in v) (read_path peer.asn v) refl
own_fault_lem peer NextHop flags v = a_hop (has_flags NextHop flags && has_length NextHop (length v)) (eqb (u32_of v) peer.address) a_hop_value
own_fault_lem peer Med flags v = plain (has_flags Med flags && has_length Med (length v)) (a-med (u32_of v))
own_fault_lem peer LocalPref flags v = plain (has_flags LocalPref flags && has_length LocalPref (length v)) unused
own_fault_lem peer Communities flags v = a_row (has_flags Communities flags && has_length Communities (length v)) (length (numbers v)) (a-row-value (sorted (numbers v)))
own_fault_lem peer Other flags v = refl

pub attribute_fault : (peer : Peer) (a : List ℕ) → fault_of (read_attribute peer a) ≡ least (is_malformed a) (is_invalid peer a) (is_foreign peer a)
unfolding read_attribute
attribute_fault peer a =
    let p = path_type (type_of a) in
    let h = hop_type (type_of a) in
    let c = communities_type (type_of a) in
    let own = own_fault_lem peer (kind_of (type_of a)) (get_or a 0 0) (value_of a) in
    own ∙ ap (λ b. least (not (has_form a) || (b && overruns segment_size (value_of a))) ((b && not (is_path peer.asn (value_of a))) || (is_communities (kind_of (type_of a)) && ltb 8 (length (numbers (value_of a))))) (is_next_hop (kind_of (type_of a)) && not (eqb (u32_of (value_of a)) peer.address))) p
    ∙ ap (λ b. least (is_malformed a) ((eqb (type_of a) 2 && not (is_path peer.asn (value_of a))) || (b && ltb 8 (length (numbers (value_of a))))) (is_next_hop (kind_of (type_of a)) && not (eqb (u32_of (value_of a)) peer.address))) c
    ∙ ap (λ b. least (is_malformed a) (is_invalid peer a) (b && not (eqb (u32_of (value_of a)) peer.address))) h

-- two lowest faults joined
least_joined : (p q r s t u : Bool) → lower (least p q r) (least s t u) ≡ least (p || s) (q || t) (r || u)
least_joined p q r s t u = grind (arith, nat_tests)

lower_assoc : (a b c : ℕ) → lower (lower a b) c ≡ lower a (lower b c)
lower_assoc a b c = grind (arith, nat_tests)

least_small : (p q r : Bool) → least p q r ≤ no_fault
least_small p q r = grind (arith, nat_tests)

lower_none : (n : ℕ) → n ≤ no_fault → lower n no_fault ≡ n
lower_none n h = grind (arith, nat_tests)

lower_small : (n m : ℕ) → n ≤ no_fault → lower n m ≤ no_fault
lower_small n m h = grind (arith, nat_tests)

lower_first : (n : ℕ) → n ≤ no_fault → lower no_fault n ≡ n
lower_first n h = grind (arith, nat_tests)

or_exchange : (s m r n : Bool) → ((s || m) || (r || n)) ≡ ((s || r) || (m || n))
or_exchange true m r n = refl
or_exchange false true true n = refl
or_exchange false true false n = refl
or_exchange false false true n = refl
or_exchange false false false n = refl

-- some type stands twice among these, or is one of the types before
unfoldable repeats_after : (ℕ → Bool) → List ℕ → Bool
repeats_after types [] = false
repeats_after types (t ∷ ts) = types t || repeats_after (with_type t types) ts

-- what one more attribute does to the fault and the types
add_fault : (peer : Peer) (f : Found) (a : List ℕ) → f.fault ≤ no_fault → (add peer f a).fault ≡ lower f.fault (least (f.types (type_of a) || is_malformed a) (is_invalid peer a) (is_foreign peer a))
unfolding add
add_fault peer f a h = taken (read_attribute peer a) (f.types (type_of a)) (attribute_fault peer a)
  where
    taken : (r : Reading Value) (again : Bool) → fault_of r ≡ least (is_malformed a) (is_invalid peer a) (is_foreign peer a) → (take_reading (cond again (fault 5) r) (noted (type_of a) f)).fault ≡ lower f.fault (least (again || is_malformed a) (is_invalid peer a) (is_foreign peer a))
    taken r true e = refl
    taken (got (a-way p)) false e = sym (lower_none f.fault h) ∙ ap (lower f.fault) e
    taken (got a_hop_value) false e = sym (lower_none f.fault h) ∙ ap (lower f.fault) e
    taken (got (a-med n)) false e = sym (lower_none f.fault h) ∙ ap (lower f.fault) e
    taken (got (a-row-value c)) false e = sym (lower_none f.fault h) ∙ ap (lower f.fault) e
    taken (got unused) false e = sym (lower_none f.fault h) ∙ ap (lower f.fault) e
    taken (fault k) false e = ap (lower f.fault) e

add_types : (peer : Peer) (f : Found) (a : List ℕ) → (add peer f a).types ≡ with_type (type_of a) f.types
unfolding add
add_types peer f a = taken (read_attribute peer a) (f.types (type_of a))
  where
    taken : (r : Reading Value) (again : Bool) → (take_reading (cond again (fault 5) r) (noted (type_of a) f)).types ≡ with_type (type_of a) f.types
    taken r true = refl
    taken (got (a-way p)) false = refl
    taken (got a_hop_value) false = refl
    taken (got (a-med n)) false = refl
    taken (got (a-row-value c)) false = refl
    taken (got unused) false = refl
    taken (fault k) false = refl

-- the fault after all attributes
all_fault : (peer : Peer) (f : Found) (rest : List (List ℕ)) → f.fault ≤ no_fault → (add_all peer f rest).fault ≡ lower f.fault (least (repeats_after f.types (types_of rest) || some is_malformed rest) (some (is_invalid peer) rest) (some (is_foreign peer) rest))
unfolding add_all repeats_after some
all_fault peer f [] h = sym (lower_none f.fault h)
all_fault peer f (a ∷ rest) h =
    let one = add_fault peer f a h in
    let low : (add peer f a).fault ≤ no_fault = omega (arith, one, lower_small f.fault (least (f.types (type_of a) || is_malformed a) (is_invalid peer a) (is_foreign peer a)) h) in
    all_fault peer (add peer f a) rest low
    ∙ ap (λ n. lower n (least (repeats_after (add peer f a).types (types_of rest) || some is_malformed rest) (some (is_invalid peer) rest) (some (is_foreign peer) rest))) one
    ∙ ap (λ ts. lower (lower f.fault (least (f.types (type_of a) || is_malformed a) (is_invalid peer a) (is_foreign peer a))) (least (repeats_after ts (types_of rest) || some is_malformed rest) (some (is_invalid peer) rest) (some (is_foreign peer) rest))) (add_types peer f a)
    ∙ lower_assoc f.fault _ _
    ∙ ap (lower f.fault) (least_joined (f.types (type_of a) || is_malformed a) (is_invalid peer a) (is_foreign peer a) (repeats_after (with_type (type_of a) f.types) (types_of rest) || some is_malformed rest) (some (is_invalid peer) rest) (some (is_foreign peer) rest) ∙ ap (λ b. least b (is_invalid peer a || some (is_invalid peer) rest) (is_foreign peer a || some (is_foreign peer) rest)) (or_exchange (f.types (type_of a)) (is_malformed a) (repeats_after (with_type (type_of a) f.types) (types_of rest)) (some is_malformed rest)))

-- a type that was there before stands among these
unfoldable some_of : (ℕ → Bool) → List ℕ → Bool
some_of types [] = false
some_of types (t ∷ ts) = types t || some_of types ts

some_with : (t : ℕ) (types : ℕ → Bool) (ts : List ℕ) → some_of (with_type t types) ts ≡ (is_in t ts || some_of types ts)
unfolding some_of with_type
some_with t types [] = refl
some_with t types (u ∷ ts) =
    let more = some_with t types ts in
    let swap : eqb t u ≡ eqb u t = grind (arith, nat_tests) in
    grind (arith, nat_tests)

repeats_after_lem : (types : ℕ → Bool) (ts : List ℕ) → repeats_after types ts ≡ (some_of types ts || repeats ts)
unfolding repeats_after some_of repeats
repeats_after_lem types [] = refl
repeats_after_lem types (t ∷ ts) =
    let more = repeats_after_lem (with_type t types) ts in
    let one = some_with t types ts in
    grind (arith, nat_tests)

some_none : (ts : List ℕ) → some_of no_types ts ≡ false
unfolding some_of no_types
some_none [] = refl
some_none (t ∷ ts) = some_none ts

repeats_from_none : (ts : List ℕ) → repeats_after no_types ts ≡ repeats ts
repeats_from_none ts = let e = some_none ts in let r = repeats_after_lem no_types ts in grind (arith, nat_tests)

-- from nothing, the fault is the lowest that is there
pub found_fault : (peer : Peer) (rest : List (List ℕ)) → (add_all peer nothing_found rest).fault ≡ least (repeats (types_of rest) || some is_malformed rest) (some (is_invalid peer) rest) (some (is_foreign peer) rest)
found_fault peer rest =
    all_fault peer nothing_found rest (omega arith)
    ∙ lower_first (least (repeats_after no_types (types_of rest) || some is_malformed rest) (some (is_invalid peer) rest) (some (is_foreign peer) rest)) (least_small (repeats_after no_types (types_of rest) || some is_malformed rest) (some (is_invalid peer) rest) (some (is_foreign peer) rest))
    ∙ ap (λ b. least (b || some is_malformed rest) (some (is_invalid peer) rest) (some (is_foreign peer) rest)) (repeats_from_none (types_of rest))

-- a type that was there before does not come again where none does
not_again : (t : ℕ) (types : ℕ → Bool) (ts : List ℕ) → repeats_after (with_type t types) ts ≡ false → is_in t ts ≡ false
not_again t types ts e = let r = repeats_after_lem (with_type t types) ts in let o = some_with t types ts in grind (arith, nat_tests)

-- what an attribute without a fault adds, at each kind
abbrev with_value : Kind → List ℕ → Found → Found
with_value k v f = record { types = f.types; fault = f.fault; path = cond (is_as_path k) (Some (path_in v)) f.path; next_hop = is_next_hop k || f.next_hop; med = cond (is_med k) (u32_of v) f.med; communities = cond (is_communities k) (sorted (numbers v)) f.communities }

effect : (peer : Peer) (k : Kind) (v : List ℕ) (f : Found) → (is_as_path k ≡ true → overruns segment_size v ≡ false) → (is_as_path k ≡ true → is_path peer.asn v ≡ true) → (is_next_hop k ≡ true → eqb (u32_of v) peer.address ≡ true) → (is_communities k ≡ true → leb (length (numbers v)) 8 ≡ true) → take_reading (read_value peer k v) f ≡ with_value k v f
unfolding read_path
effect peer Origin v f o p h c = refl
effect peer AsPath v f o p h c = ap (λ b. take_reading (as_path (cond b (fault 5) (cond (is_path peer.asn v) (got (path_in v)) (fault 6)))) f) (o refl) ∙ ap (λ b. take_reading (as_path (cond b (got (path_in v)) (fault 6))) f) (p refl)
effect peer NextHop v f o p h c = ap (λ b. take_reading (cond b (got a_hop_value) (fault 7)) f) (h refl)
effect peer Med v f o p h c = refl
effect peer LocalPref v f o p h c = refl
effect peer Communities v f o p h c = ap (λ b. take_reading (cond b (got (a-row-value (sorted (numbers v)))) (fault 6)) f) (c refl)
effect peer Other v f o p h c = refl

or_first : (x y : Bool) → (x || y) ≡ false → x ≡ false
or_first false y e = refl
or_first true y e = e

or_second : (x y : Bool) → (x || y) ≡ false → y ≡ false
or_second false y e = e
or_second true false e = refl
or_second true true e = e

or_not_first : (x y : Bool) → (not x || y) ≡ false → x ≡ true
or_not_first true y e = refl
or_not_first false y e = sym e

and_second : (x y : Bool) → x ≡ true → (x && y) ≡ false → y ≡ false
and_second true y e f = f
and_second false false e f = refl
and_second false true e f = sym e

not_second : (x y : Bool) → x ≡ true → (x && not y) ≡ false → y ≡ true
not_second x true e f = refl
not_second true false e f = sym f
not_second false false e f = e

few : (x : Bool) (n : ℕ) → x ≡ true → (x && ltb 8 n) ≡ false → leb n 8 ≡ true
few x n e f = grind (arith, nat_tests)

-- what one more attribute adds that has no fault and did not come before
add_good : (peer : Peer) (f : Found) (a : List ℕ) → f.types (type_of a) ≡ false → is_malformed a ≡ false → is_invalid peer a ≡ false → is_foreign peer a ≡ false → add peer f a ≡ with_value (kind_of (type_of a)) (value_of a) (noted (type_of a) f)
unfolding add read_attribute
add_good peer f a s m i h =
    let p = path_type (type_of a) in
    let n = hop_type (type_of a) in
    let c = communities_type (type_of a) in
    let form : has_form a ≡ true = or_not_first (has_form a) _ m in
    ap (λ b. take_reading (cond b (fault 5) (cond (has_form a) (read_value peer (kind_of (type_of a)) (value_of a)) (fault 5))) (noted (type_of a) f)) s
    ∙ ap (λ b. take_reading (cond b (read_value peer (kind_of (type_of a)) (value_of a)) (fault 5)) (noted (type_of a) f)) form
    ∙ effect peer (kind_of (type_of a)) (value_of a) (noted (type_of a) f)
    (λ e. and_second (eqb (type_of a) 2) (overruns segment_size (value_of a)) (sym p ∙ e) (or_second (not (has_form a)) _ m))
    (λ e. not_second (eqb (type_of a) 2) (is_path peer.asn (value_of a)) (sym p ∙ e) (or_first _ _ i))
    (λ e. not_second (eqb (type_of a) 3) (eqb (u32_of (value_of a)) peer.address) (sym n ∙ e) h)
    (λ e. few (eqb (type_of a) 8) (length (numbers (value_of a))) (sym c ∙ e) (or_second _ _ i))

add_repeats : (peer : Peer) (f : Found) (a : List ℕ) (ts : List ℕ) → repeats_after (with_type (type_of a) f.types) ts ≡ false → repeats_after (add peer f a).types ts ≡ false
add_repeats peer f a ts e = ap (λ s. repeats_after s ts) (add_types peer f a) ∙ e

-- where one of two has the value, and not the later one if the first does
pick : {X : Type 0} (w : List ℕ → X) (x i : Bool) (a b : List ℕ) (g : X) → (x ≡ true → i ≡ false) → cond i (w b) (cond x (w a) g) ≡ cond (x || i) (w (cond x a b)) g
pick w true true a b g h = absurd (let z : ◌≡◌ {A = ℕ} 0 1 = let e = h refl in cc in omega arith)
pick w true false a b g h = refl
pick w false true a b g h = refl
pick w false false a b g h = refl

-- the attributes that were read have no fault, and none comes twice
record Good (peer : Peer) (types : ℕ → Bool) (rest : List (List ℕ)) : Type 0 where
  once : repeats_after types (types_of rest) ≡ false
  formed : some is_malformed rest ≡ false
  valid : some (is_invalid peer) rest ≡ false
  near : some (is_foreign peer) rest ≡ false

module _ (peer : Peer) {X : Type 0} (n : ℕ) (G : Found → X) (w : List ℕ → X) (step : (f : Found) (a : List ℕ) → f.types (type_of a) ≡ false → is_malformed a ≡ false → is_invalid peer a ≡ false → is_foreign peer a ≡ false → G (add peer f a) ≡ cond (eqb (type_of a) n) (w (value_of a)) (G f)) where
  -- a value that attributes of a type bring is that of the one there is
  all_values : (f : Found) (rest : List (List ℕ)) → Good peer f.types rest → G (add_all peer f rest) ≡ cond (is_in n (types_of rest)) (w (value_at n rest)) (G f)
  unfolding add_all repeats_after some value_at
  all_values f [] good = refl
  all_values f (a ∷ rest) good =
      let later = or_second (f.types (type_of a)) (repeats_after (with_type (type_of a) f.types) (types_of rest)) good.once in
      let once = not_again (type_of a) f.types (types_of rest) later in
      all_values (add peer f a) rest (record {
        once = add_repeats peer f a (types_of rest) later;
        formed = or_second (is_malformed a) (some is_malformed rest) good.formed;
        valid = or_second (is_invalid peer a) (some (is_invalid peer) rest) good.valid;
        near = or_second (is_foreign peer a) (some (is_foreign peer) rest) good.near;
      })
      ∙ ap (cond (is_in n (types_of rest)) (w (value_at n rest))) (step f a (or_first (f.types (type_of a)) (repeats_after (with_type (type_of a) f.types) (types_of rest)) good.once) (or_first (is_malformed a) (some is_malformed rest) good.formed) (or_first (is_invalid peer a) (some (is_invalid peer) rest) good.valid) (or_first (is_foreign peer a) (some (is_foreign peer) rest) good.near))
      ∙ pick w (eqb (type_of a) n) (is_in n (types_of rest)) (value_of a) (value_at n rest) (G f) (λ e. ap (λ t. is_in t (types_of rest)) (sym (eqb-true (type_of a) n e)) ∙ once)

or_cond : (x y : Bool) → (x || y) ≡ cond x true y
or_cond true y = refl
or_cond false y = refl

or_default : {X : Type 0} (b : Bool) (x y : X) → (b ≡ false → x ≡ y) → cond b x y ≡ x
or_default true x y h = refl
or_default false x y h = sym (h refl)

-- an attribute that is not there has no bytes
absent : (n : ℕ) (rest : List (List ℕ)) → is_in n (types_of rest) ≡ false → value_at n rest ≡ []
unfolding value_at
absent n [] e = refl
absent n (a ∷ rest) e =
    let more = absent n rest in
    grind (arith, nat_tests)

module _ (peer : Peer) (rest : List (List ℕ)) (good : Good peer no_types rest) where
  found_path : (add_all peer nothing_found rest).path ≡ cond (is_in 2 (types_of rest)) (Some (path_in (value_at 2 rest))) None
  found_path = all_values peer 2 (λ f. f.path) (λ v. Some (path_in v)) (λ f a s m i h. ap (λ g. g.path) (add_good peer f a s m i h) ∙ ap (λ b. cond b (Some (path_in (value_of a))) f.path) (path_type (type_of a))) nothing_found rest good

  found_hop : (add_all peer nothing_found rest).next_hop ≡ cond (is_in 3 (types_of rest)) true false
  found_hop = all_values peer 3 (λ f. f.next_hop) (λ v. true) (λ f a s m i h. ap (λ g. g.next_hop) (add_good peer f a s m i h) ∙ or_cond (is_next_hop (kind_of (type_of a))) f.next_hop ∙ ap (λ b. cond b true f.next_hop) (hop_type (type_of a))) nothing_found rest good

  found_med : (add_all peer nothing_found rest).med ≡ u32_of (value_at 4 rest)
  found_med =
      all_values peer 4 (λ f. f.med) u32_of (λ f a s m i h. ap (λ g. g.med) (add_good peer f a s m i h) ∙ ap (λ b. cond b (u32_of (value_of a)) f.med) (med_type (type_of a))) nothing_found rest good
      ∙ or_default (is_in 4 (types_of rest)) (u32_of (value_at 4 rest)) 0 (λ e. ap u32_of (absent 4 rest e))

  found_communities : (add_all peer nothing_found rest).communities ≡ sorted (numbers (value_at 8 rest))
  unfolding numbers sorted
  found_communities =
      all_values peer 8 (λ f. f.communities) (λ v. sorted (numbers v)) (λ f a s m i h. ap (λ g. g.communities) (add_good peer f a s m i h) ∙ ap (λ b. cond b (sorted (numbers (value_of a))) f.communities) (communities_type (type_of a))) nothing_found rest good
      ∙ or_default (is_in 8 (types_of rest)) (sorted (numbers (value_at 8 rest))) [] (λ e. ap (λ v. sorted (numbers v)) (absent 8 rest e))

-- what was found says what the message says
module _ (f : Found) (p c : List ℕ) (med : ℕ) where
  judge : (h5 i h7 inv ann in2 in3 : Bool) → f.fault ≡ least h5 i h7 → (h5 ≡ false → i ≡ false → h7 ≡ false → (f.path ≡ cond in2 (Some p) None) × (f.next_hop ≡ cond in3 true false) × (f.med ≡ med) × (f.communities ≡ c)) → (k : ℕ) → k ≡ cond h5 5 (cond (inv || i) 6 (cond h7 7 (cond (ann && not (in2 && in3)) 8 no_fault))) → cond (ltb k no_fault) (Faulty k) (cond ann (Announces (record { path = p; med = med; communities = c })) Withdraws) ≡ content_from f inv ann
  judge h5 i h7 inv ann in2 in3 e v k u =
      ap (λ n. cond (ltb n no_fault) (Faulty n) (cond ann (Announces (record { path = p; med = med; communities = c })) Withdraws)) u
      ∙ body h5 i h7 inv ann in2 in3 v
      ∙ ap (λ n. judged (cond inv (lower n 6) n) f ann) (sym e)
    where
      said : (in2 in3 : Bool) → (f.path ≡ cond in2 (Some p) None) × (f.next_hop ≡ cond in3 true false) × (f.med ≡ med) × (f.communities ≡ c) → cond (ltb (cond (not (in2 && in3)) 8 no_fault) no_fault) (Faulty (cond (not (in2 && in3)) 8 no_fault)) (Announces (record { path = p; med = med; communities = c })) ≡ announced f f.path
      said true true v = let x = v.0 in let y = v.1 in let z = v.2 in let w = v.3 in sym (ap (announced f) x ∙ ap (λ b. cond b (Announces (record { path = p; med = f.med; communities = f.communities })) (Faulty 8)) y ∙ ap (λ n. Announces (record { path = p; med = n; communities = f.communities })) z ∙ ap (λ d. Announces (record { path = p; med = med; communities = d })) w)
      said true false v = let x = v.0 in let y = v.1 in sym (ap (announced f) x ∙ ap (λ b. cond b (Announces (record { path = p; med = f.med; communities = f.communities })) (Faulty 8)) y)
      said false in3 v = let x = v.0 in sym (ap (announced f) x)

      body : (h5 i h7 inv ann in2 in3 : Bool) → (h5 ≡ false → i ≡ false → h7 ≡ false → (f.path ≡ cond in2 (Some p) None) × (f.next_hop ≡ cond in3 true false) × (f.med ≡ med) × (f.communities ≡ c)) → cond (ltb (cond h5 5 (cond (inv || i) 6 (cond h7 7 (cond (ann && not (in2 && in3)) 8 no_fault)))) no_fault) (Faulty (cond h5 5 (cond (inv || i) 6 (cond h7 7 (cond (ann && not (in2 && in3)) 8 no_fault))))) (cond ann (Announces (record { path = p; med = med; communities = c })) Withdraws) ≡ judged (cond inv (lower (least h5 i h7) 6) (least h5 i h7)) f ann
      body true i h7 true ann in2 in3 v = refl
      body true i h7 false ann in2 in3 v = refl
      body false true h7 true ann in2 in3 v = refl
      body false true h7 false ann in2 in3 v = refl
      body false false true true ann in2 in3 v = refl
      body false false true false ann in2 in3 v = refl
      body false false false true ann in2 in3 v = refl
      body false false false false false in2 in3 v = refl
      body false false false false true in2 in3 v = said in2 in3 (v refl refl refl)

pub content_found : (peer : Peer) (m : List ℕ) → content_of peer m ≡ content_from (add_all peer nothing_found (attributes_of m)) (has_no_prefix (withdrawn_in m) || has_no_prefix (announced_in m)) (announces m)
unfolding content_of update_fault
content_found peer m =
    let as_read = attributes_of m in
    judge (add_all peer nothing_found as_read) (path_in (value_at 2 as_read)) (sorted (numbers (value_at 8 as_read))) (u32_of (value_at 4 as_read))
    (has_malformed as_read) (some (is_invalid peer) as_read) (some (is_foreign peer) as_read) (has_no_prefix (withdrawn_in m) || has_no_prefix (announced_in m)) (announces m) (is_in 2 (types_of as_read)) (is_in 3 (types_of as_read))
    (found_fault peer as_read)
    (λ h i n. let good : Good peer no_types as_read = record { once = repeats_from_none (types_of as_read) ∙ or_first (repeats (types_of as_read)) (some is_malformed as_read) h; formed = or_second (repeats (types_of as_read)) (some is_malformed as_read) h; valid = i; near = n } in
    (found_path peer as_read good, found_hop peer as_read good, found_med peer as_read good, found_communities peer as_read good))
    (update_fault peer m) refl

-- what checking both rows of prefixes tells
both : (o n o' n' invalid : Bool) → both_checked (cond o Overrun (cond n SomeInvalid Valid)) (cond o' Overrun (cond n' SomeInvalid Valid)) ≡ Some invalid → (o ≡ false) × (o' ≡ false) × ((n || n') ≡ invalid)
both true n true n' invalid e = absurd (let z : ◌≡◌ {A = ℕ} 0 1 = cc in omega arith)
both true n false true invalid e = absurd (let z : ◌≡◌ {A = ℕ} 0 1 = cc in omega arith)
both true n false false invalid e = absurd (let z : ◌≡◌ {A = ℕ} 0 1 = cc in omega arith)
both false true true n' invalid e = absurd (let z : ◌≡◌ {A = ℕ} 0 1 = cc in omega arith)
both false false true n' invalid e = absurd (let z : ◌≡◌ {A = ℕ} 0 1 = cc in omega arith)
both false true false true invalid e = (refl, refl, cc)
both false true false false invalid e = (refl, refl, cc)
both false false false true invalid e = (refl, refl, cc)
both false false false false invalid e = (refl, refl, cc)

neither : (o n o' n' : Bool) → both_checked (cond o Overrun (cond n SomeInvalid Valid)) (cond o' Overrun (cond n' SomeInvalid Valid)) ≡ None → (o || o') ≡ true
neither true n o' n' e = refl
neither false n true n' e = refl
neither false true false true e = absurd (let z : ◌≡◌ {A = ℕ} 0 1 = cc in omega arith)
neither false true false false e = absurd (let z : ◌≡◌ {A = ℕ} 0 1 = cc in omega arith)
neither false false false true e = absurd (let z : ◌≡◌ {A = ℕ} 0 1 = cc in omega arith)
neither false false false false e = absurd (let z : ◌≡◌ {A = ℕ} 0 1 = cc in omega arith)

found_parts : {X : Type 0} (o : Bool) (x y : X) → cond o (fault 4) (got x) ≡ got y → (o ≡ false) × (x ≡ y)
found_parts true x y e = absurd (let z : ◌≡◌ {A = ℕ} 0 1 = cc in omega arith)
found_parts false x y e = (refl, cc)

failed_parts : {X : Type 0} (o : Bool) (x : X) (k : ℕ) → cond o (fault 4) (got x) ≡ fault k → (o ≡ true) × (k ≡ 4)
failed_parts true x k e = (refl, cc)
failed_parts false x k e = absurd (let z : ◌≡◌ {A = ℕ} 0 1 = cc in omega arith)

over_some : (s w a n : Bool) (c : Content) → (w || n) ≡ true → cond (s || (w || (a || n))) (fault 4) (got c) ≡ fault 4
over_some s w a n c e = grind (arith, nat_tests)

over_attribute : (s w a n : Bool) (c : Content) → a ≡ true → cond (s || (w || (a || n))) (fault 4) (got c) ≡ fault 4
over_attribute s w a n c e = grind (arith, nat_tests)

fits_all : (s w a n : Bool) (c : Content) → s ≡ false → w ≡ false → a ≡ false → n ≡ false → cond (s || (w || (a || n))) (fault 4) (got c) ≡ got c
fits_all s w a n c d e f g = grind (arith, nat_tests)

module _ (peer : Peer) (m : List ℕ) where
  pub short : length m < sections_end m → read_update peer m ≡ fault 4
  unfolding read_update
  short h = grind (arith, nat_tests)

  over : sections_end m ≤ length m → both_checked (checked (withdrawn_in m)) (checked (announced_in m)) ≡ None → read_update peer m ≡ fault 4
  unfolding read_update checked_after
  over h e =
      let o = neither (overruns prefix_size (withdrawn_in m)) (has_no_prefix (withdrawn_in m)) (overruns prefix_size (announced_in m)) (has_no_prefix (announced_in m)) e in
      over_some (ltb (length m) (sections_end m)) (overruns prefix_size (withdrawn_in m)) (overruns attribute_size (attributes_in m)) (overruns prefix_size (announced_in m)) (content_of peer m) o

  failed : (k : ℕ) → sections_end m ≤ length m → find_all peer nothing_found (attributes_in m) ≡ fault k → read_update peer m ≡ fault k
  unfolding read_update find_all
  failed k h e =
      let p = failed_parts (overruns attribute_size (attributes_in m)) (add_all peer nothing_found (attributes_of m)) k e in
      over_attribute (ltb (length m) (sections_end m)) (overruns prefix_size (withdrawn_in m)) (overruns attribute_size (attributes_in m)) (overruns prefix_size (announced_in m)) (content_of peer m) p.0 ∙ ap fault (sym p.1)

  read : (invalid : Bool) (f : Found) → sections_end m ≤ length m → both_checked (checked (withdrawn_in m)) (checked (announced_in m)) ≡ Some invalid → find_all peer nothing_found (attributes_in m) ≡ got f → read_update peer m ≡ got (content_from f invalid (ltb 0 (length (announced_in m))))
  unfolding read_update find_all checked_after
  read invalid f h b e =
      let p = found_parts (overruns attribute_size (attributes_in m)) (add_all peer nothing_found (attributes_of m)) f e in
      let q = both (overruns prefix_size (withdrawn_in m)) (has_no_prefix (withdrawn_in m)) (overruns prefix_size (announced_in m)) (has_no_prefix (announced_in m)) invalid b in
      let s : ltb (length m) (sections_end m) ≡ false = grind (arith, nat_tests) in
      fits_all (ltb (length m) (sections_end m)) (overruns prefix_size (withdrawn_in m)) (overruns attribute_size (attributes_in m)) (overruns prefix_size (announced_in m)) (content_of peer m) s q.0 p.0 q.1
      ∙ ap got (content_found peer m ∙ ap (λ g. content_from g (has_no_prefix (withdrawn_in m) || has_no_prefix (announced_in m)) (announces m)) p.1 ∙ ap (λ i. content_from f i (announces m)) q.2)

-- an overrun is the only fault of the parts by themselves
overrun : (o : Option Bool) (e : Fault) → Err e ≡ ok_or o a_fault.Overrun → (o ≡ None) × (e ≡ a_fault.Overrun)
overrun None e h = (refl, cc)
overrun (Some b) e h = let z : ◌≡◌ {A = ℕ} 0 1 = cc in absurd (omega arith)

valid : (o : Option Bool) (invalid : Bool) → ◌≡◌ {A = Result Bool Fault} (Ok invalid) (ok_or o a_fault.Overrun) → o ≡ Some invalid
valid None invalid h = let z : ◌≡◌ {A = ℕ} 0 1 = cc in absurd (omega arith)
valid (Some b) invalid h = cc

pub over_parted : (peer : Peer) (m withdrawn announced : List ℕ) (e : Fault) → sections_end m ≤ length m → withdrawn ≡ withdrawn_in m → announced ≡ announced_in m → Err e ≡ ok_or (both_checked (checked withdrawn) (checked announced)) a_fault.Overrun → fault (code e) ≡ read_update peer m
over_parted peer m withdrawn named e h w n r =
    let o = overrun (both_checked (checked withdrawn) (checked named)) e r in
    let parts : both_checked (checked (withdrawn_in m)) (checked (announced_in m)) ≡ None = ap (λ l. both_checked (checked l) (checked (announced_in m))) (sym w) ∙ ap (λ l. both_checked (checked withdrawn) (checked l)) (sym n) ∙ o.0 in
    ap (λ f. fault (code f)) o.1 ∙ sym (over peer m h parts)

-- a row has bytes where it is not empty
not_empty : (bs : List ℕ) → not (eqb (length bs) 0) ≡ ltb 0 (length bs)
not_empty bs = grind (arith, nat_tests)

pub failed_parted : (peer : Peer) (m attributes : List ℕ) (k : ℕ) → sections_end m ≤ length m → attributes ≡ attributes_in m → fault k ≡ find_all peer nothing_found attributes → fault k ≡ read_update peer m
failed_parted peer m attributes k h a e = sym (failed peer m k h (sym (e ∙ ap (find_all peer nothing_found) a)))

pub read_parted : (peer : Peer) (m withdrawn attributes announced : List ℕ) (invalid empty : Bool) (f : Found) (content : Content) → sections_end m ≤ length m → withdrawn ≡ withdrawn_in m → attributes ≡ attributes_in m → announced ≡ announced_in m → Ok invalid ≡ ok_or (both_checked (checked withdrawn) (checked announced)) a_fault.Overrun → got f ≡ find_all peer nothing_found attributes → empty ≡ eqb (length announced) 0 → content ≡ content_from f invalid (not empty) → got content ≡ read_update peer m
read_parted peer m withdrawn attributes named invalid empty f content h w a n b e z c =
    let some-there : not empty ≡ ltb 0 (length (announced_in m)) = ap not z ∙ not_empty named ∙ ap (λ l. ltb 0 (length l)) n in
    ap got (c ∙ ap (content_from f invalid) some-there)
    ∙ sym (read peer m invalid f h (sym (ap (λ l. both_checked (checked l) (checked named)) w ∙ ap (λ l. both_checked (checked (withdrawn_in m)) (checked l)) n) ∙ valid (both_checked (checked withdrawn) (checked named)) invalid b) (sym (e ∙ ap (find_all peer nothing_found) a)))
